use Rattle.std.proofs.Common.{◌≡◌, ◌||◌, filter, map, take}
use Rattle.tp_schedule.specs.declared.parts.Plan.{Plan}
use Rattle.tp_event_rules.specs.Fates.{Fate as Befalls, is_loss}
use Rattle.tp_event_rules.specs.Lines.{is_lost}
use Rattle.tp_event_rules.specs.LiveStates.{seen}
use Rattle.tp_replan.specs.Meanings.{AreFates}
use Rattle.tp_replan.proofs.lost_copies.lost_by.Given as goal

abbrev pub invariant-loop-at : goal.invariant-loop-at
invariant-loop-at l = (rule : Plan → Befalls) → AreFates rule l.state.schedule.plans l.fates
    → l.copies.items ≡ map (λ p. p.sheet)
    (filter (λ p. is_lost (seen l.state) p || is_loss (rule p)) (take l.at l.state.schedule.plans))
