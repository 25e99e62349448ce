use Rattle.std.proofs.Common.{◌≡◌, ◌++◌, flat_map, take}
use Rattle.tp_schedule.specs.declared.parts.Plan.{Plan}
use Rattle.tp_event_rules.specs.Fates.{Fate as Befalls, told_of}
use Rattle.tp_replan.specs.Meanings.{AreFates}
use Rattle.tp_replan.proofs.fate_records.tell_fates.Given as goal

abbrev pub invariant-loop-at : goal.invariant-loop-at
invariant-loop-at l = (rule : Plan → Befalls) → AreFates rule l.state.schedule.plans l.fates
    → l.notes.items ≡ l.fn.notes.items
    ++ flat_map (λ p. told_of l.state.lines.jobs l.state.moment p (rule p)) (take l.at l.state.schedule.plans)
