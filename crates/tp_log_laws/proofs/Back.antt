-- An accepted turn on a whole state is one on its live part.
use Rattle.std.proofs.Common.{ℕ, true, List, refl, subst}
use Rattle.tp_bounds.specs.declared.tree.BoundTree.{BoundTree}
use Rattle.tp_machine.specs.declared.machine.Machine.{Machine}
use Rattle.tp_schedule.specs.declared.parts.Ask.{Ask}
use Rattle.tp_schedule.specs.declared.parts.Plan.{Plan}
use Rattle.tp_schedule.specs.declared.records.Record.{Record}
use Rattle.tp_script.specs.declared.event.Event.{Event}
use Rattle.tp_script.specs.declared.event.Event.TheVariants.{Bad, Job as NewJob, Clock, Jam, Off, On, Refill}
use Rattle.tp_event_rules.specs.StateInvariants.{live_part}
use Rattle.tp_event_rules.specs.Laws.{IsNoClock}
use Rattle.tp_event_rules.specs.Logs.{right_answers, spent_on_trust}
use Rattle.tp_event_rules.specs.Planners.{PlannerSteps}
use Rattle.tp_event_rules.specs.States.{SessionState}
use Rattle.tp_event_turn.specs.Events.{LiveTurn}
use Rattle.tp_event_turn.specs.WholeTurns.{AnswersBack, DoesRight}
use Rattle.tp_event_turn.proofs.WholeEvents.{whole-clock_holds, whole-turns_hold}
use Rattle.tp_run_laws.specs.Wholes.{IsWhole}
use Rattle.tp_log_laws.specs.AcceptedEntries.{AcceptedTurn, AcceptedTurnsComeBack, bound_claims}
use Rattle.tp_log_laws.proofs.TreesOn.{takes-back}

module _ (machine : Machine) where
  abbrev steps : PlannerSteps (List BoundTree)
  steps = right_answers bound_claims true spent_on_trust machine

  abbrev trust : List BoundTree → Machine → List Plan → Ask → ℕ → Type 0
  trust trees = spent_on_trust

  alone : AnswersBack steps machine trust
  alone = record {
    passes_back = λ p plans ask bound can said. tt;
    again = λ p p' plans whole ask reply can does w. (w.answer, takes-back machine plans ask can reply whole p p' w does.1);
    settles = λ p p' plans whole now legal floors does w. (w.settles, does.1);
  }

  does-right : DoesRight steps machine trust
  does-right = record {
    right = λ p p' plans whole ask reply does. does.0;
    settles_right = λ p p' plans whole now does. does.0;
  }

  module _ (whole s whole' : SessionState) (trees rest : List BoundTree) (records : List Record) (w : IsWhole machine whole s) where
    quiet : (event : Event) → IsNoClock event → AcceptedTurn machine event whole trees records whole' rest → AcceptedTurn machine event s trees records (live_part machine whole') rest
    quiet event still turn =
        subst (λ x. AcceptedTurn machine event x trees records (live_part machine whole') rest) w.live
        (whole-turns_hold steps machine trust does-right event whole trees records whole' rest alone w.through still turn)

    by-event : (event : Event) → AcceptedTurn machine event whole trees records whole' rest → LiveTurn steps machine event s trees records (live_part machine whole') rest
    by-event Bad turn = quiet Bad refl turn
    by-event (NewJob name tray media groups) turn = quiet (NewJob name tray media groups) refl turn
    by-event (Clock to) turn =
        subst (λ x. LiveTurn steps machine (Clock to) x trees records (live_part machine whole') rest) w.live
        (whole-clock_holds steps machine trust does-right to whole trees records whole' rest alone w.through.plans w.through.lines turn)
    by-event (Jam name) turn = quiet (Jam name) refl turn
    by-event (Off name) turn = quiet (Off name) refl turn
    by-event (On name) turn = quiet (On name) refl turn
    by-event (Refill name count) turn = quiet (Refill name count) refl turn

pub turns-come_back : (machine : Machine) → AcceptedTurnsComeBack machine
turns-come_back machine event whole s whole' trees records rest w turn = by-event machine whole s whole' trees rest records w event turn
