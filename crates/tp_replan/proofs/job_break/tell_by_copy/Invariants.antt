use Rattle.std.proofs.Common.{◌≡◌, ◌≤◌, ◌+◌, ◌++◌, drop, length}
use Rattle.tp_schedule.specs.declared.parts.Plan.{Plan}
use Rattle.tp_event_rules.specs.Fates.{Fate as Befalls}
use Rattle.tp_replan.specs.Meanings.{AreFates, told_by_copy}
use Rattle.tp_replan.proofs.job_break.tell_by_copy.Given as goal

abbrev pub invariant-loop-turn : goal.invariant-loop-turn
invariant-loop-turn l = record {
  turn : l.next + l.at ≡ l._turn;
  next : l.next ≤ length l.copies;
  at : l.at ≤ length l.state.schedule.plans;
  told : (rule : Plan → Befalls) → AreFates rule l.state.schedule.plans l.fates
      → l.notes.items ++ told_by_copy l.state.lines.jobs l.state.moment rule (drop l.next l.copies) (drop l.at l.state.schedule.plans)
      ≡ l.fn.notes.items ++ told_by_copy l.state.lines.jobs l.state.moment rule l.copies l.state.schedule.plans;
}
