use Rattle.std.proofs.Common.{◌≡◌, ◌+◌, ◌≤◌, drop, length}
use Rattle.tp_event_rules.specs.Lines.{put_all_waiting}
use Rattle.tp_replan.specs.Meanings.{CanAllWait, waits_in}
use Rattle.tp_replan.specs.Open.{most_waiting}
use Rattle.tp_replan.proofs.fate_effects.wait_all.Given as goal

abbrev pub invariant-loop-at : goal.invariant-loop-at
invariant-loop-at l = record {
  jobs : l.lines.jobs ≡ l.fn.lines.jobs;
  kept : l.lines.kept ≡ l.fn.lines.kept;
  room : length l.lines.waiting + length (waits_in (drop l.at l.schedule.plans) (drop l.at l.fates)) ≤ most_waiting;
  can_wait : CanAllWait l.lines.waiting (waits_in (drop l.at l.schedule.plans) (drop l.at l.fates));
  waiting : put_all_waiting l.lines.waiting (waits_in (drop l.at l.schedule.plans) (drop l.at l.fates)) ≡ put_all_waiting l.fn.lines.waiting (waits_in l.schedule.plans l.fates);
}
