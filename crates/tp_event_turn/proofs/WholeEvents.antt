-- A turn on the whole state is one on its live part.
use Rattle.std.proofs.Common.{◌≡◌, ℕ, Bool, true, false, List, [], ◌∷◌, ◌++◌, length, Option, Some, None, refl, sym, ap, ◌∙◌, subst}
use Rattle.std.specs.Option.{MatchOption}
use Rattle.tp_machine.specs.declared.machine.Machine.{Machine}
use Rattle.tp_schedule.specs.declared.parts.Ask.{Ask}
use Rattle.tp_schedule.specs.declared.parts.Plan.{Plan}
use Rattle.tp_schedule.specs.declared.records.Cause.{Cause}
use Rattle.tp_schedule.specs.declared.records.Record.{Record}
use Rattle.tp_schedule.specs.declared.records.Record.TheVariants.{Refused}
use Rattle.tp_schedule.specs.PlannerAnswers.Deed.{replied, settled}
use Rattle.tp_script.specs.declared.event.Event.{Event}
use Rattle.tp_script.specs.declared.event.Event.TheVariants.{Bad, Job as NewJob, Clock, Jam, Off, On, Refill}
use Rattle.tp_event_rules.proofs.ComesBack.{lines-on}
use Rattle.tp_event_rules.proofs.FirstCopies.{accepted-job}
use Rattle.tp_event_rules.proofs.MovedClock.{lines-clock}
use Rattle.tp_event_rules.proofs.NewJob.{lines-job}
use Rattle.tp_event_rules.proofs.PlanOnFacts.{CanPlanOn-clock}
use Rattle.tp_event_rules.proofs.PlannableTurns.{accepted-clock}
use Rattle.tp_event_rules.specs.AskPhase.{Asks}
use Rattle.tp_event_rules.specs.Clock.{clock_move}
use Rattle.tp_event_rules.specs.StateInvariants.{KeepsLines, live_part}
use Rattle.tp_event_rules.specs.Laws.{IsNoClock, IsPlannable}
use Rattle.tp_event_rules.specs.Planners.{GoesOut, PlannerSteps}
use Rattle.tp_event_rules.specs.Refusals.{clock_refusal, refusal}
use Rattle.tp_event_rules.specs.States.{SessionState}
use Rattle.tp_event_rules.specs.Turns.{Accepts, Begins, Turn}
use Rattle.tp_event_turn.specs.Events.{ClockTurn, MovesClock}
use Rattle.tp_event_turn.specs.LiveAnswers.{live_at}
use Rattle.tp_event_turn.proofs.OutLines.{OutagesKeepLines, lines-out}
use Rattle.tp_event_turn.specs.WholeTurns.{AnswersBack, ClockPassesBack, DoesRight, FollowsBack, TurnsPassBack, WholeClockHolds, WholeTurnsHold}
use Rattle.tp_event_turn.proofs.LiveClock.{clock-leaves, clock-tells}
use Rattle.tp_event_turn.proofs.LiveEvents.{refusal-same}
use Rattle.tp_event_turn.proofs.WholeLoops.{asks-pass_back, outs-pass_back}
use Rattle.tp_stock.specs.Stock.{more_at}
use Rattle.tp_event_rules.proofs.Refilled.{lines-refilled}
use Rattle.tp_event_turn.proofs.RefillFacts.{live-refill}

module _ {P Q : Type 0} (on_live : PlannerSteps P) (on_whole : PlannerSteps Q) (machine : Machine) (together : P → Q → Type 0)
    (live_spent whole_spent : Q → Machine → List Plan → Ask → ℕ → Type 0) (follows : FollowsBack on_live on_whole machine together live_spent whole_spent) (s : SessionState) (can : IsPlannable machine s) (lines : KeepsLines s) where
  -- before the phase of asks
  record BegunBack (event : Event) (q : Q) (first : List Record) (between : SessionState) (mid : Q) : Type 0 where
    plannable : IsPlannable machine between
    lined : KeepsLines between
    back : (p' : P) → together p' mid → (p : P) × Begins on_live machine event (live_part machine s) p first (live_part machine between) p' × together p q

  out-back : (event : Event) (m : ℕ) (jam : Bool) (q : Q) (first : List Record) (between : SessionState) (mid : Q) → OutagesKeepLines machine s → GoesOut on_whole machine s m jam q first between mid
      → ((p p' : P) → GoesOut on_live machine (live_part machine s) m jam p first (live_part machine between) p' → Begins on_live machine event (live_part machine s) p first (live_part machine between) p')
      → BegunBack event q first between mid
  out-back event m jam q first between mid keeps out begins =
      let off = outs-pass_back on_live on_whole machine together live_spent whole_spent s m jam q first between mid follows can lines out in
      record {
        plannable = off.plannable;
        lined = keeps m jam first between off.right;
        back = λ p' goes. let before = off.back p' goes in (before.0, begins before.0 p' before.1, before.2);
      }

  begun-back : (event : Event) (q : Q) (first : List Record) (between : SessionState) (mid : Q) → OutagesKeepLines machine s → IsNoClock event → refusal machine s event ≡ None
      → Begins on_whole machine event s q first between mid → BegunBack event q first between mid
  begun-back Bad q first between mid keeps still accepted begins = absurd begins
  begun-back (NewJob name tray media groups) q first between mid keeps still accepted (told, is, same) = record {
    plannable = subst (IsPlannable machine) (sym is) can;
    lined = subst KeepsLines (sym is) (lines-job machine name tray media groups s (accepted-job machine s.jobs (length s.waiting) name tray media groups accepted) lines);
    back = λ p' goes. (p', (told, ap (live_part machine) is, refl), subst (together p') same goes);
  }
  begun-back (Clock to) q first between mid keeps still accepted begins = absurd (cc)
  begun-back (Jam name) q first between mid keeps still accepted (m, known, out) = out-back (Jam name) m true q first between mid keeps out (λ p p' live. (m, known, live))
  begun-back (Off name) q first between mid keeps still accepted (m, known, out) = out-back (Off name) m false q first between mid keeps out (λ p p' live. (m, known, live))
  begun-back (On name) q first between mid keeps still accepted (m, known, told, is, same) = record {
    plannable = subst (IsPlannable machine) (sym is) can;
    lined = subst KeepsLines (sym is) (lines-on machine m s lines);
    back = λ p' goes. (p', (m, known, told, ap (live_part machine) is, refl), subst (together p') same goes);
  }
  begun-back (Refill name count) q first between mid keeps still accepted (f, known, told, is, same) = record {
    plannable = subst (IsPlannable machine) (sym is) can;
    lined = subst KeepsLines (sym is) (lines-refilled (more_at f.loc.0 count s.refills) s lines);
    back = λ p' goes. (p', (f, known, told, ap (live_part machine) is ∙ live-refill machine f count s, refl), subst (together p') same goes);
  }

  turn-back : (event : Event) (q : Q) (records : List Record) (s' : SessionState) (q' : Q) (p' : P) → together p' q' → OutagesKeepLines machine s → IsNoClock event
      → Turn on_whole machine event s q records s' q' → (p : P) × Turn on_live machine event (live_part machine s) p records (live_part machine s') p' × together p q
  turn-back event q records s' q' p' goes keeps still turn = go (refusal machine s event) refl turn where
    go : (o : Option Cause) → refusal machine s event ≡ o
        → MatchOption o (Accepts on_whole machine event s q records s' q') (λ cause. (records ≡ Refused cause ∷ []) × (s' ≡ s) × (q' ≡ q))
        → (p : P) × Turn on_live machine event (live_part machine s) p records (live_part machine s') p' × together p q
    go None e accepts =
        let begun = begun-back event q accepts.first accepts.between accepts.mid keeps still e accepts.begins in
        let then' = asks-pass_back on_live on_whole machine together live_spent whole_spent accepts.between accepts.mid accepts.rest s' q' p' follows goes begun.plannable.legal begun.plannable.floors begun.lined accepts.asks in
        let before = begun.back then'.0 then'.2 in (
          before.0,
          subst (λ o. MatchOption o (Accepts on_live machine event (live_part machine s) before.0 records (live_part machine s') p') (λ c. (records ≡ Refused c ∷ []) × (live_part machine s' ≡ live_part machine s) × (p' ≡ before.0)))
              (sym (refusal-same on_live on_whole machine together event s ∙ e))
              (record { first = accepts.first; between = live_part machine accepts.between; mid = then'.0; begins = before.1; rest = accepts.rest; asks = then'.1; told = accepts.told }),
          before.2,
        )
    go (Some cause) e (told, is, same) = (
      p',
      subst (λ o. MatchOption o (Accepts on_live machine event (live_part machine s) p' records (live_part machine s') p') (λ c. (records ≡ Refused c ∷ []) × (live_part machine s' ≡ live_part machine s) × (p' ≡ p')))
          (sym (refusal-same on_live on_whole machine together event s ∙ e)) (told, ap (live_part machine) is, refl),
      subst (together p') same goes,
    )

  clock-back : (to : ℕ) (q : Q) (records : List Record) (s' : SessionState) (q' : Q) (p' : P) → together p' q'
      → Turn on_whole machine (Clock to) s q records s' q' → (p : P) × ClockTurn on_live machine to (live_part machine s) p records (live_part machine s') p' × together p q
  clock-back to q records s' q' p' goes turn = go (clock_refusal s.now to) refl turn where
    go : (o : Option Cause) → clock_refusal s.now to ≡ o
        → MatchOption o (Accepts on_whole machine (Clock to) s q records s' q') (λ cause. (records ≡ Refused cause ∷ []) × (s' ≡ s) × (q' ≡ q))
        → (p : P) × ClockTurn on_live machine to (live_part machine s) p records (live_part machine s') p' × together p q
    go None e accepts =
        let range = accepted-clock s.now to e in
        let moved : accepts.between ≡ (clock_move machine to s).state = accepts.begins.1 in
        let plannable = CanPlanOn-clock machine s.now to s.plans range.0 range.1 can in
        let then' = asks-pass_back on_live on_whole machine together live_spent whole_spent (clock_move machine to s).state accepts.mid accepts.rest s' q' p' follows goes plannable.legal plannable.floors (lines-clock machine to s lines)
        (subst (λ st. Asks on_whole machine st accepts.mid accepts.rest s' q') moved accepts.asks) in (
          then'.0,
          subst (λ o. MatchOption o (MovesClock on_live machine to (live_part machine s) then'.0 records (live_part machine s') p') (λ c. (records ≡ Refused c ∷ []) × (live_part machine s' ≡ live_part machine s) × (p' ≡ then'.0)))
              (sym e)
              (record {
                rest = accepts.rest;
                asks = subst (λ st. Asks on_live machine st then'.0 accepts.rest (live_part machine s') p') (sym (clock-leaves machine to s range.0)) then'.1;
                told = accepts.told ∙ ap (λ first. first ++ accepts.rest) (accepts.begins.0 ∙ sym (clock-tells machine to s can.floors));
              }),
          subst (together then'.0) accepts.begins.2 then'.2,
        )
    go (Some cause) e (told, is, same) = (
      p',
      subst (λ o. MatchOption o (MovesClock on_live machine to (live_part machine s) p' records (live_part machine s') p') (λ c. (records ≡ Refused c ∷ []) × (live_part machine s' ≡ live_part machine s) × (p' ≡ p')))
          (sym e) (told, ap (live_part machine) is, refl),
      subst (together p') same goes,
    )

module _ {P Q : Type 0} (on_live : PlannerSteps P) (on_whole : PlannerSteps Q) (machine : Machine) (together : P → Q → Type 0) where
  pub turns-pass_back : TurnsPassBack on_live on_whole machine together
  turns-pass_back live_spent whole_spent event s q records s' q' p' follows goes through still turn =
      turn-back on_live on_whole machine together live_spent whole_spent follows s through.plans through.lines event q records s' q' p' goes (lines-out machine s through) still turn

  pub clock-passes_back : ClockPassesBack on_live on_whole machine together
  clock-passes_back live_spent whole_spent to s q records s' q' p' follows goes can lines turn =
      clock-back on_live on_whole machine together live_spent whole_spent follows s can lines to q records s' q' p' goes turn

-- a planner that looks at schedules through its deeds alone follows itself
module _ {P : Type 0} (steps : PlannerSteps P) (machine : Machine) where
  itself : (spent : P → Machine → List Plan → Ask → ℕ → Type 0) → AnswersBack steps machine spent → DoesRight steps machine spent → FollowsBack steps steps machine (λ p q. p ≡ q) spent spent
  itself spent alone does-right = record {
    passes_back = alone.passes_back;
    right = λ q q' plans whole ask reply can does. does-right.right q q' plans whole ask reply does;
    settles_right = λ q q' plans whole now legal floors does. does-right.settles_right q q' plans whole now does;
    asked = λ q q' p' plans whole ask reply can does same w.
        (q, subst (steps.does q (live_at machine ask.now plans) (replied ask reply) (live_at machine ask.now whole)) (sym same) (alone.again q q' plans whole ask reply can does w), refl);
    settles = λ q q' p' plans whole now legal floors does same w.
        (q, subst (steps.does q (live_at machine now plans) (settled now) (live_at machine now whole)) (sym same) (alone.settles q q' plans whole now legal floors does w), refl);
  }

  pub whole-turns_hold : (spent : P → Machine → List Plan → Ask → ℕ → Type 0) → DoesRight steps machine spent → WholeTurnsHold steps machine spent
  whole-turns_hold spent does-right event s p records s' p' alone through still turn =
      let back = turns-pass_back steps steps machine (λ p q. p ≡ q) spent spent event s p records s' p' p' (itself spent alone does-right) refl through still turn in
      subst (λ q. Turn steps machine event (live_part machine s) q records (live_part machine s') p') back.2 back.1

  pub whole-clock_holds : (spent : P → Machine → List Plan → Ask → ℕ → Type 0) → DoesRight steps machine spent → WholeClockHolds steps machine spent
  whole-clock_holds spent does-right to s p records s' p' alone can lines turn =
      let back = clock-passes_back steps steps machine (λ p q. p ≡ q) spent spent to s p records s' p' p' (itself spent alone does-right) refl can lines turn in
      subst (λ q. ClockTurn steps machine to (live_part machine s) q records (live_part machine s') p') back.2 back.1
