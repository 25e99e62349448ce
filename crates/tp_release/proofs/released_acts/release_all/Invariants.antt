use Rattle.std.proofs.Common.{◌≡◌, ◌++◌, map, take, drop, length}
use Rattle.tp_event_rules.specs.Moments.{release_until}
use Rattle.tp_release.proofs.released_acts.release_all.Given as goal

abbrev pub invariant-loop-at : goal.invariant-loop-at
invariant-loop-at l = record {
  plans : l.schedule.plans ≡ map (release_until l.last) (take l.at l.fn.schedule.plans) ++ drop l.at l.fn.schedule.plans;
  len : length l.schedule.plans ≡ length l.fn.schedule.plans;
  spare : l.schedule.spare ≡ l.fn.schedule.spare;
}
