-- Every lawful log keeps the headline.
use Rattle.std.proofs.Common.{ℕ, Bool, List}
use Rattle.tp_machine.specs.declared.machine.Machine.{Machine}
use Rattle.tp_script.specs.declared.event.Event.{Event}
use Rattle.tp_schedule.specs.PlannerAnswers.{Deed}
use Rattle.tp_schedule.specs.declared.parts.Ask.{Ask}
use Rattle.tp_schedule.specs.declared.parts.Plan.{Plan}
use Rattle.tp_event_rules.specs.Planners.{IsRight, PlannerSteps}
use Rattle.tp_event_rules.specs.Logs.{Entry, TreeClaims, right_answers, IsLawful}
use Rattle.tp_event_rules.specs.Deliveries.{KeepsHeadline}
use Rattle.tp_outage_laws.proofs.OutagesKeep.{order-goes}
use Rattle.tp_headline.specs.Headline.{TurnsKeepOrder}
use Rattle.tp_headline.proofs.Headline.{turn-gives, lawful-lines}
use Rattle.tp_headline.proofs.OutageTurns.{outages-lead}

pub lawful-headline : {T : Type 0} (claims : TreeClaims T) (spent : Machine → List Plan → Ask → ℕ → Type 0) (machine : Machine) (shown : Bool) (events : List Event) (log : List (Entry T))
    (lawful : IsLawful claims shown spent machine events log) → KeepsHeadline machine log lawful.last
lawful-headline claims spent machine shown =
    lawful-lines claims shown spent machine
    (outages-lead (right_answers claims shown spent machine) machine (λ trees. spent) (λ trees plans deed plans' trees' does. does.0)
    (order-goes (right_answers claims shown spent machine) machine (λ trees. spent) (λ trees plans deed plans' trees' does. does.0)))

-- the order of a whole state is kept through each turn
pub order-turn : {P : Type 0} (steps : PlannerSteps P) (machine : Machine) (spent : P → Machine → List Plan → Ask → ℕ → Type 0)
    (right : (p : P) (plans : List Plan) (deed : Deed) (plans' : List Plan) (p' : P) → steps.does p plans deed plans' p' → IsRight (spent p) machine plans deed plans') → TurnsKeepOrder steps machine
order-turn steps machine spent right event totals s p records s' p' turn keeps =
    (turn-gives steps machine spent right (outages-lead steps machine spent right (order-goes steps machine spent right)) event totals s p records s' p' turn keeps).order
