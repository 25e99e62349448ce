-- An outage leads on, where it keeps the order of lines: the rest of what is to be known of it is that it is quiet.
use Rattle.std.proofs.Common.{ℕ, List}
use Rattle.tp_machine.specs.declared.machine.Machine.{Machine}
use Rattle.tp_schedule.specs.PlannerAnswers.{Deed}
use Rattle.tp_schedule.specs.declared.parts.Ask.{Ask}
use Rattle.tp_schedule.specs.declared.parts.Plan.{Plan}
use Rattle.tp_event_rules.specs.Planners.{PlannerSteps, IsRight}
use Rattle.tp_outage_laws.specs.Laws.{OutagesKeep}
use Rattle.tp_outage_laws.proofs.Starts.{begins-mid}
use Rattle.tp_outage_laws.proofs.OutagesKeep.{through}
use Rattle.tp_outage_laws.specs.Through.{KeepsOrder}
use Rattle.tp_headline.proofs.Headline.{OutagesLead}
use Rattle.tp_headline.proofs.QuietLoops.{quiet-out}

module _ {P : Type 0} (steps : PlannerSteps P) (machine : Machine) (spent : P → Machine → List Plan → Ask → ℕ → Type 0)
    (right : (p : P) (plans : List Plan) (deed : Deed) (plans' : List Plan) (p' : P) → steps.does p plans deed plans' p' → IsRight (spent p) machine plans deed plans') where
  pub outages-lead : ((totals : List ℕ) → OutagesKeep steps machine (KeepsOrder machine totals)) → OutagesLead steps machine
  outages-lead keep totals s m jam p records s' p' out keeps =
      (keep totals s m jam p records s' p' out keeps, quiet-out steps machine spent right s m jam p records s' p' out (begins-mid machine s (through machine totals s keeps)))
