-- A refused event changes nothing.
use Rattle.std.proofs.Common.{◌≡◌, [], ◌∷◌, subst}
use Rattle.std.specs.Option.{MatchOption}
use Rattle.tp_machine.specs.declared.machine.Machine.{Machine}
use Rattle.tp_schedule.specs.declared.records.Record.TheVariants.{Refused}
use Rattle.tp_event_rules.specs.Laws.{RefusedChangesNothing}
use Rattle.tp_event_rules.specs.Planners.{PlannerSteps}
use Rattle.tp_event_rules.specs.Turns.{Accepts}

pub turn-refused : {P : Type 0} (steps : PlannerSteps P) (machine : Machine) → RefusedChangesNothing steps machine
turn-refused steps machine event s p records s' p' cause e turn =
    subst (λ o. MatchOption o (Accepts steps machine event s p records s' p') (λ cause. (records ≡ Refused cause ∷ []) × (s' ≡ s) × (p' ≡ p))) e turn
