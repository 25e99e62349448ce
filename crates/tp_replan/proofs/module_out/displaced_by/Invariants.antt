use Rattle.std.proofs.Common.{◌≡◌, flat_map, map, take}
use Rattle.tp_schedule.specs.declared.parts.Plan.{Plan}
use Rattle.tp_event_rules.specs.Fates.{Fate as Befalls}
use Rattle.tp_event_rules.specs.Outages.{displaced_by}
use Rattle.tp_replan.specs.Meanings.{meant}
use Rattle.tp_replan.proofs.module_out.displaced_by.Given as goal

abbrev pub invariant-loop-at : goal.invariant-loop-at
invariant-loop-at l = (rule : Plan → Befalls) → map meant l.fates ≡ map rule l.schedule.plans → l.copies.items ≡ flat_map (λ p. displaced_by p (rule p)) (take l.at l.schedule.plans)
