-- A turn on a live state over answers that take their trees is one of right answers on every whole state behind it.
use Rattle.std.proofs.Common.{◌≡◌, ℕ, true, List, refl, sym, subst, ◌∙◌, IsTrue}
use Rattle.tp_bounds.specs.declared.tree.BoundTree.{BoundTree}
use Rattle.tp_machine.specs.declared.machine.Machine.{Machine}
use Rattle.tp_schedule.specs.PlannerAnswers.{IsAnswer, PlannerRules}
use Rattle.tp_schedule.specs.PlannerAnswers.Deed.{replied, settled}
use Rattle.tp_schedule.specs.declared.parts.Ask.{Ask}
use Rattle.tp_schedule.specs.declared.parts.Plan.{Plan}
use Rattle.tp_schedule.specs.declared.parts.Reply.{Reply}
use Rattle.tp_schedule.specs.declared.parts.Reply.TheVariants.{Planned, Never, Spent}
use Rattle.tp_schedule.specs.declared.records.Record.{Record}
use Rattle.tp_script.specs.declared.event.Event.{Event}
use Rattle.tp_script.specs.declared.event.Event.TheVariants.{Bad, Job as NewJob, Clock, Jam, Off, On, Refill}
use Rattle.tp_event_rules.specs.Laws.{IsNoClock, IsNoOutage, is_outage}
use Rattle.tp_event_rules.specs.Logs.{TakesTrees, right_answers, spent_on_trust}
use Rattle.tp_event_rules.specs.Planners.{PlannerSteps, right_steps}
use Rattle.tp_event_rules.specs.States.{SessionState}
use Rattle.tp_event_rules.specs.Turns.{Turn}
use Rattle.tp_event_turn.specs.Events.{LiveTurn}
use Rattle.tp_event_turn.specs.LiveTurns.{Follows, PassesTurnOn, SettlesRightly}
use Rattle.tp_event_turn.proofs.LiveEvents.{clock-passes_on, outages-pass_on, turns-pass_on}
use Rattle.tp_run_laws.proofs.ThroughTurns.{through-turn}
use Rattle.tp_run_laws.specs.Wholes.{IsWhole}
use Rattle.tp_log_laws.specs.AcceptedEntries.{HasAcceptedTurn, TakesItsTrees, TurnsAccepted, bound_claims}
use Rattle.tp_log_laws.proofs.TreesOn.{takes-on}

-- an answer that means what it says is right with its budget on trust
trusted : (spent : Machine → List Plan → Ask → ℕ → Type 0) (machine : Machine) (plans : List Plan) (ask : Ask) (reply : Reply) (plans' : List Plan) → IsAnswer spent machine plans ask reply plans' → IsAnswer spent_on_trust machine plans ask reply plans'
trusted spent machine plans ask Planned plans' is = is
trusted spent machine plans ask Never plans' is = is
trusted spent machine plans ask (Spent bound) plans' is = (is.0, tt)

module _ {P : Type 0} (rules : PlannerRules P) (machine : Machine) (trees : P → List BoundTree) (takes : TakesItsTrees rules machine trees) where
  abbrev live_steps : PlannerSteps P
  live_steps = right_steps rules machine

  abbrev whole_steps : PlannerSteps (List BoundTree)
  whole_steps = right_answers bound_claims true spent_on_trust machine

  abbrev Together : P → List BoundTree → Type 0
  Together p q = trees p ≡ q

  follows : Follows live_steps whole_steps machine Together (λ p. spent_on_trust) (λ p. spent_on_trust)
  follows = record {
    passes_on = λ p plans ask bound can said. tt;
    right = λ p p' plans live ask reply can does. trusted (rules.spent p) machine _ ask reply live does.0;
    asked = λ p p' q' plans live ask reply can does same w. (
      trees p,
      (w.answer, subst (λ q. TakesTrees bound_claims machine true (trees p) plans (replied ask reply) w.whole q) same (takes-on machine plans ask can reply live (trees p) (trees p') w (takes p p' _ live (replied ask reply) does.1))),
      refl,
    );
    settles = λ p p' q' plans live now legal floors does same w. (
      trees p,
      (w.settles, sym same ∙ takes p p' _ live (settled now) does.1),
      refl,
    );
  }

  rightly : SettlesRightly live_steps machine
  rightly p p' plans live now legal floors does = does.0

  module _ (whole s s' : SessionState) (records : List Record) (p p' : P) (w : IsWhole machine whole s) where
    -- what passes on leaves a whole state
    behind : (event : Event) → PassesTurnOn live_steps whole_steps machine Together event whole p records s' (trees p') → HasAcceptedTurn machine event whole (trees p) records s' (trees p')
    behind event (whole', ((q, turn, same), live)) =
        let accepted = subst (λ ts. Turn whole_steps machine event whole ts records whole' (trees p')) (sym same) turn in (
          whole',
          accepted,
          record {
            through = through-turn whole_steps machine (λ q. spent_on_trust) (λ q plans deed plans' q' does. does.0) event whole (trees p) records whole' (trees p') tt accepted w.through;
            live = live;
          },
        )

    quiet : (event : Event) → IsNoOutage event → IsNoClock event → Turn live_steps machine event s p records s' p' → HasAcceptedTurn machine event whole (trees p) records s' (trees p')
    quiet event calm still turn =
        behind event (turns-pass_on live_steps whole_steps machine Together (λ p. spent_on_trust) (λ p. spent_on_trust) event whole p records s' p' (trees p') follows refl w.through.plans w.through.lines calm still
        (subst (λ x. Turn live_steps machine event x p records s' p') (sym w.live) turn))

    outage : (event : Event) → IsTrue (is_outage event) → Turn live_steps machine event s p records s' p' → HasAcceptedTurn machine event whole (trees p) records s' (trees p')
    outage event is turn =
        behind event (outages-pass_on live_steps whole_steps machine Together (λ p. spent_on_trust) (λ p. spent_on_trust) event whole p records s' p' (trees p') follows rightly refl w.through is
        (subst (λ x. Turn live_steps machine event x p records s' p') (sym w.live) turn))

    by-event : (event : Event) → LiveTurn live_steps machine event s p records s' p' → HasAcceptedTurn machine event whole (trees p) records s' (trees p')
    by-event Bad turn = quiet Bad refl refl turn
    by-event (NewJob name tray media groups) turn = quiet (NewJob name tray media groups) refl refl turn
    by-event (Clock to) turn =
        behind (Clock to) (clock-passes_on live_steps whole_steps machine Together (λ p. spent_on_trust) (λ p. spent_on_trust) to whole p records s' p' (trees p') follows refl w.through.plans w.through.lines
        (subst (λ x. LiveTurn live_steps machine (Clock to) x p records s' p') (sym w.live) turn))
    by-event (Jam name) turn = outage (Jam name) refl turn
    by-event (Off name) turn = outage (Off name) refl turn
    by-event (On name) turn = quiet (On name) refl refl turn
    by-event (Refill name count) turn = quiet (Refill name count) refl refl turn

pub turns-accepted : {P : Type 0} (rules : PlannerRules P) (machine : Machine) → TurnsAccepted rules machine
turns-accepted rules machine trees takes event whole s s' records p p' w turn = by-event rules machine trees takes whole s s' records p p' w event turn
