-- A planner that looks at schedules through its deeds alone follows itself.
use Rattle.std.proofs.Common.{◌≡◌, ℕ, refl, sym, subst}
use Rattle.tp_machine.specs.declared.machine.Machine.{Machine}
use Rattle.tp_schedule.specs.PlannerAnswers.Deed.{replied, settled}
use Rattle.tp_event_rules.specs.AskPhase.{Asks}
use Rattle.tp_event_rules.specs.Planners.{PlannerSteps}
use Rattle.tp_event_rules.specs.Turns.{Turn}
use Rattle.tp_script.specs.declared.event.Event.TheVariants.{Clock}
use Rattle.tp_event_turn.specs.LiveAnswers.{spent_of}
use Rattle.tp_event_turn.specs.LiveTurns.{AnswersAlone, Follows, LiveAsksHold, LiveClockHolds, LiveOutagesHold, LiveTurnsHold, SettlesRightly}
use Rattle.tp_event_turn.proofs.LiveAnswered.{live-budgets_hold}
use Rattle.tp_event_turn.proofs.LiveAsks.{asks-pass_on}
use Rattle.tp_event_turn.proofs.LiveEvents.{clock-passes_on, outages-pass_on, turns-pass_on}

module _ {P : Type 0} (steps : PlannerSteps P) (machine : Machine) where
  itself : (nodes : P → ℕ) → AnswersAlone steps machine nodes → Follows steps steps machine (λ p q. p ≡ q) (λ p. spent_of (nodes p)) (λ p. spent_of (nodes p))
  itself nodes alone = record {
    passes_on = λ p. live-budgets_hold (nodes p) machine;
    right = alone.right;
    asked = λ p p' q' plans live ask reply can does same w. (p, subst (steps.does p plans (replied ask reply) w.whole) same (alone.again p p' plans live ask reply can does w), refl);
    settles = λ p p' q' plans live now legal floors does same w. (p, subst (steps.does p plans (settled now) w.whole) same (alone.settles p p' plans live now legal floors does w), refl);
  }

  pub live-asks_hold : LiveAsksHold steps machine
  live-asks_hold nodes s p records last p' alone legal floors lines asks =
      let on = asks-pass_on steps steps machine (λ p q. p ≡ q) (λ p. spent_of (nodes p)) (λ p. spent_of (nodes p)) s p records last p' p' (itself nodes alone) refl legal floors lines asks in
      (on.0, subst (λ q. Asks steps machine s q records on.0 p') (sym on.1.0.2) on.1.0.1, on.1.1)

  pub live-turns_hold : LiveTurnsHold steps machine
  live-turns_hold nodes event s p records last p' alone can lines calm still turn =
      let on = turns-pass_on steps steps machine (λ p q. p ≡ q) (λ p. spent_of (nodes p)) (λ p. spent_of (nodes p)) event s p records last p' p' (itself nodes alone) refl can lines calm still turn in
      (on.0, subst (λ q. Turn steps machine event s q records on.0 p') (sym on.1.0.2) on.1.0.1, on.1.1)

  pub live-outages_hold : SettlesRightly steps machine → LiveOutagesHold steps machine
  live-outages_hold rightly nodes event s p records last p' alone through is turn =
      let on = outages-pass_on steps steps machine (λ p q. p ≡ q) (λ p. spent_of (nodes p)) (λ p. spent_of (nodes p)) event s p records last p' p' (itself nodes alone) rightly refl through is turn in
      (on.0, subst (λ q. Turn steps machine event s q records on.0 p') (sym on.1.0.2) on.1.0.1, on.1.1)

  pub live-clock_holds : LiveClockHolds steps machine
  live-clock_holds nodes to s p records last p' alone can lines turn =
      let on = clock-passes_on steps steps machine (λ p q. p ≡ q) (λ p. spent_of (nodes p)) (λ p. spent_of (nodes p)) to s p records last p' p' (itself nodes alone) refl can lines turn in
      (on.0, subst (λ q. Turn steps machine (Clock to) s q records on.0 p') (sym on.1.0.2) on.1.0.1, on.1.1)
