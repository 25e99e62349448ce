-- A turn on the live part is one on the whole state.
use Rattle.std.proofs.Common.{◌≡◌, ℕ, Bool, true, false, List, [], ◌∷◌, ◌++◌, length, Option, Some, None, refl, sym, ap, ◌∙◌, subst}
use Rattle.std.specs.Option.{MatchOption}
use Rattle.tp_machine.specs.declared.machine.Machine.{Machine}
use Rattle.tp_schedule.specs.declared.records.Cause.{Cause}
use Rattle.tp_schedule.specs.declared.records.Record.{Record}
use Rattle.tp_schedule.specs.declared.records.Record.TheVariants.{Refused}
use Rattle.tp_script.specs.declared.event.Event.{Event}
use Rattle.tp_script.specs.declared.event.Event.TheVariants.{Bad, Job as NewJob, Clock, Jam, Off, On, Refill}
use Rattle.tp_event_rules.proofs.ComesBack.{lines-on}
use Rattle.tp_event_rules.proofs.FirstCopies.{accepted-job}
use Rattle.tp_event_rules.proofs.MovedClock.{lines-clock}
use Rattle.tp_event_rules.proofs.NewJob.{lines-job}
use Rattle.tp_event_rules.proofs.PlanOnFacts.{CanPlanOn-clock}
use Rattle.tp_event_rules.proofs.PlannableTurns.{accepted-clock}
use Rattle.tp_event_rules.specs.AskPhase.{Asks}
use Rattle.tp_event_rules.specs.Clock.{clock_move}
use Rattle.tp_event_rules.specs.StateInvariants.{KeepsLines, live_part}
use Rattle.tp_event_rules.specs.Laws.{IsNoClock, IsNoOutage, IsPlannable, is_outage}
use Rattle.tp_event_rules.specs.Planners.{GoesOut, PlannerSteps}
use Rattle.tp_event_rules.specs.Refusals.{clock_refusal, refusal}
use Rattle.tp_event_rules.specs.States.{SessionState}
use Rattle.tp_event_rules.specs.Turns.{Accepts, Begins, with_job, with_on, with_refill}
use Rattle.tp_event_turn.specs.Events.{MovesClock}
use Rattle.tp_event_turn.proofs.OutLines.{OutagesKeepLines, lines-out}
use Rattle.tp_event_turn.specs.LiveTurns.{Follows, PassesTurnOn, ClockPassesOn, OutageTurnsPassOn, SettlesRightly, TurnsPassOn}
use Rattle.tp_schedule.specs.declared.parts.Ask.{Ask}
use Rattle.tp_schedule.specs.declared.parts.Plan.{Plan}
use Rattle.tp_event_turn.proofs.LiveAsks.{asks-pass_on}
use Rattle.tp_event_turn.proofs.PartedLoops.{outs-pass_on}
use Rattle.tp_event_turn.proofs.LiveClock.{clock-leaves, clock-tells}
use Rattle.tp_stock.specs.Stock.{more_at}
use Rattle.tp_event_rules.proofs.Refilled.{lines-refilled}
use Rattle.tp_event_turn.proofs.RefillFacts.{live-refill, same-refusal}

module _ {P Q : Type 0} (steps : PlannerSteps P) (on_whole : PlannerSteps Q) (machine : Machine) (together : P → Q → Type 0) where
  -- before the phase of asks: the event begins so on the whole state as well, to a state with this live part
  record BeginsOn (event : Event) (s : SessionState) (p : P) (records : List Record) (mid : SessionState) (p' : P) : Type 0 where
    whole : SessionState
    begins : (q : Q) → Begins on_whole machine event s q records whole q
    same : p' ≡ p
    live : live_part machine whole ≡ mid
    plannable : IsPlannable machine whole
    lines : KeepsLines whole

  begins-on : (event : Event) (s : SessionState) (p : P) (records : List Record) (mid : SessionState) (p' : P) → IsNoOutage event → IsNoClock event
      → refusal machine s event ≡ None → IsPlannable machine s → KeepsLines s → Begins steps machine event (live_part machine s) p records mid p' → BeginsOn event s p records mid p'
  begins-on Bad s p records mid p' calm still accepted can lines begins = absurd begins
  begins-on (NewJob name tray media groups) s p records mid p' calm still accepted can lines (told, is, same) = record {
    whole = with_job machine name tray media groups s;
    begins = λ q. (told, refl, refl);
    same = same;
    live = sym is;
    plannable = can;
    lines = lines-job machine name tray media groups s (accepted-job machine s.jobs (length s.waiting) name tray media groups accepted) lines;
  }
  begins-on (Clock to) s p records mid p' calm still accepted can lines begins = absurd (cc)
  begins-on (Jam name) s p records mid p' calm still accepted can lines begins = absurd (cc)
  begins-on (Off name) s p records mid p' calm still accepted can lines begins = absurd (cc)
  begins-on (On name) s p records mid p' calm still accepted can lines (m, known, told, is, same) = record {
    whole = with_on m s;
    begins = λ q. (m, known, told, refl, refl);
    same = same;
    live = sym is;
    plannable = can;
    lines = lines-on machine m s lines;
  }
  begins-on (Refill name count) s p records mid p' calm still accepted can lines (f, known, told, is, same) = record {
    whole = with_refill f count s;
    begins = λ q. (f, known, told, refl, refl);
    same = same;
    live = live-refill machine f count s ∙ sym is;
    plannable = can;
    lines = lines-refilled (more_at f.loc.0 count s.refills) s lines;
  }

  pub refusal-same : (event : Event) (s : SessionState) → refusal machine (live_part machine s) event ≡ refusal machine s event
  refusal-same Bad s = refl
  refusal-same (NewJob name tray media groups) s = refl
  refusal-same (Clock to) s = refl
  refusal-same (Jam name) s = refl
  refusal-same (Off name) s = refl
  refusal-same (On name) s = refl
  refusal-same (Refill name count) s = same-refusal machine s name count

  module _ (live_spent whole_spent : P → Machine → List Plan → Ask → ℕ → Type 0) (follows : Follows steps on_whole machine together live_spent whole_spent)
      (event : Event) (s : SessionState) (p : P) (records : List Record) (last : SessionState) (p' : P) (q' : Q) (goes : together p' q') where
    -- the event is refused, or accepted
    refused-on : (cause : Cause) → refusal machine s event ≡ Some cause → (records ≡ Refused cause ∷ []) × (last ≡ live_part machine s) × (p' ≡ p)
        → PassesTurnOn steps on_whole machine together event s p records last q'
    refused-on cause e (told, is, same) = (
      s,
      (
        (
          q',
          subst (λ o. MatchOption o (Accepts on_whole machine event s q' records s q') (λ c. (records ≡ Refused c ∷ []) × (s ≡ s) × (q' ≡ q'))) (sym e) (told, refl, refl),
          subst (λ r. together r q') same goes,
        ),
        sym is,
      ),
    )

    accepted-on : refusal machine s event ≡ None → (first : List Record) (mid : SessionState) (m : P) → BeginsOn event s p first mid m
        → (rest : List Record) → Asks steps machine mid m rest last p' → records ≡ first ++ rest → PassesTurnOn steps on_whole machine together event s p records last q'
    accepted-on e first mid m begun rest asks told =
        let on = asks-pass_on steps on_whole machine together live_spent whole_spent begun.whole m rest last p' q' follows goes begun.plannable.legal begun.plannable.floors begun.lines
        (subst (λ n. Asks steps machine n m rest last p') (sym begun.live) asks) in
        let q : Q = on.1.0.0 in (
          on.0,
          (
            (
              q,
              subst (λ o. MatchOption o (Accepts on_whole machine event s q records on.0 q') (λ c. (records ≡ Refused c ∷ []) × (on.0 ≡ s) × (q' ≡ q))) (sym e)
                  (record { first = first; between = begun.whole; mid = q; begins = begun.begins q; rest = rest; asks = on.1.0.1; told = told }),
              subst (λ r. together r q) begun.same on.1.0.2,
            ),
            on.1.1,
          ),
        )

  pub turns-pass_on : TurnsPassOn steps on_whole machine together
  turns-pass_on live_spent whole_spent event s p records last p' q' follows goes can lines calm still turn = go (refusal machine (live_part machine s) event) (sym (refusal-same event s)) turn where
    go : (o : Option Cause) → refusal machine s event ≡ o
        → MatchOption o (Accepts steps machine event (live_part machine s) p records last p') (λ cause. (records ≡ Refused cause ∷ []) × (last ≡ live_part machine s) × (p' ≡ p))
        → PassesTurnOn steps on_whole machine together event s p records last q'
    go None e accepts =
        accepted-on live_spent whole_spent follows event s p records last p' q' goes e accepts.first accepts.between accepts.mid
        (begins-on event s p accepts.first accepts.between accepts.mid calm still e can lines accepts.begins) accepts.rest accepts.asks accepts.told
    go (Some cause) e refused = refused-on live_spent whole_spent follows event s p records last p' q' goes cause e refused

  pub clock-passes_on : ClockPassesOn steps on_whole machine together
  clock-passes_on live_spent whole_spent to s p records last p' q' follows goes can lines turn = go (clock_refusal s.now to) refl turn where
    go : (o : Option Cause) → clock_refusal s.now to ≡ o
        → MatchOption o (MovesClock steps machine to (live_part machine s) p records last p') (λ cause. (records ≡ Refused cause ∷ []) × (last ≡ live_part machine s) × (p' ≡ p))
        → PassesTurnOn steps on_whole machine together (Clock to) s p records last q'
    go None e moves =
        let range = accepted-clock s.now to e in
        accepted-on live_spent whole_spent follows (Clock to) s p records last p' q' goes e (clock_move machine to s).records (live_part machine (clock_move machine to (live_part machine s)).state) p
        (record {
          whole = (clock_move machine to s).state;
          begins = λ q. (refl, refl, refl);
          same = refl;
          live = sym (clock-leaves machine to s range.0);
          plannable = CanPlanOn-clock machine s.now to s.plans range.0 range.1 can;
          lines = lines-clock machine to s lines;
        }) moves.rest moves.asks (moves.told ∙ ap (λ first. first ++ moves.rest) (clock-tells machine to s can.floors))
    go (Some cause) e refused = refused-on live_spent whole_spent follows (Clock to) s p records last p' q' goes cause e refused

  -- a module goes out, and then the phase of asks
  module _ (live_spent whole_spent : P → Machine → List Plan → Ask → ℕ → Type 0) (follows : Follows steps on_whole machine together live_spent whole_spent) (rightly : SettlesRightly steps machine)
      (event : Event) (s : SessionState) (can : IsPlannable machine s) (lines : KeepsLines s) (keeps : OutagesKeepLines machine s)
      (p : P) (records : List Record) (last : SessionState) (p' : P) (q' : Q) (goes : together p' q') where
    out-on : refusal machine s event ≡ None → (m : ℕ) (jam : Bool) (first : List Record) (between : SessionState) (mid : P) → GoesOut steps machine (live_part machine s) m jam p first between mid
        → ((whole : SessionState) (q r : Q) → GoesOut on_whole machine s m jam q first whole r → Begins on_whole machine event s q first whole r)
        → (rest : List Record) → Asks steps machine between mid rest last p' → records ≡ first ++ rest → PassesTurnOn steps on_whole machine together event s p records last q'
    out-on e m jam first between mid out begins rest asks told =
        let on = outs-pass_on steps on_whole machine together live_spent whole_spent s m jam p first between mid follows rightly can lines out in
        let then' = asks-pass_on steps on_whole machine together live_spent whole_spent on.whole mid rest last p' q' follows goes on.plannable.legal on.plannable.floors (keeps m jam first on.whole on.right)
        (subst (λ n. Asks steps machine n mid rest last p') (sym on.live) asks) in
        let before = on.back then'.1.0.0 then'.1.0.2 in (
          then'.0,
          (
            (
              before.0,
              subst (λ o. MatchOption o (Accepts on_whole machine event s before.0 records then'.0 q') (λ c. (records ≡ Refused c ∷ []) × (then'.0 ≡ s) × (q' ≡ before.0))) (sym e)
                  (record { first = first; between = on.whole; mid = then'.1.0.0; begins = begins on.whole before.0 then'.1.0.0 before.1; rest = rest; asks = then'.1.0.1; told = told }),
              before.2,
            ),
            then'.1.1,
          ),
        )

  begun-out : (live_spent whole_spent : P → Machine → List Plan → Ask → ℕ → Type 0) (follows : Follows steps on_whole machine together live_spent whole_spent) (rightly : SettlesRightly steps machine)
      (event : Event) (s : SessionState) (can : IsPlannable machine s) (lines : KeepsLines s) (keeps : OutagesKeepLines machine s)
      (p : P) (records : List Record) (last : SessionState) (p' : P) (q' : Q) (goes : together p' q') → is_outage event ≡ true → refusal machine s event ≡ None
      → (first : List Record) (between : SessionState) (mid : P) → Begins steps machine event (live_part machine s) p first between mid
      → (rest : List Record) → Asks steps machine between mid rest last p' → records ≡ first ++ rest → PassesTurnOn steps on_whole machine together event s p records last q'
  begun-out live_spent whole_spent follows rightly Bad s can lines keeps p records last p' q' goes is e first between mid begins rest asks told = absurd (cc)
  begun-out live_spent whole_spent follows rightly (NewJob name tray media groups) s can lines keeps p records last p' q' goes is e first between mid begins rest asks told = absurd (cc)
  begun-out live_spent whole_spent follows rightly (Clock to) s can lines keeps p records last p' q' goes is e first between mid begins rest asks told = absurd (cc)
  begun-out live_spent whole_spent follows rightly (Jam name) s can lines keeps p records last p' q' goes is e first between mid (m, known, out) rest asks told =
      out-on live_spent whole_spent follows rightly (Jam name) s can lines keeps p records last p' q' goes e m true first between mid out (λ whole q r on. (m, known, on)) rest asks told
  begun-out live_spent whole_spent follows rightly (Off name) s can lines keeps p records last p' q' goes is e first between mid (m, known, out) rest asks told =
      out-on live_spent whole_spent follows rightly (Off name) s can lines keeps p records last p' q' goes e m false first between mid out (λ whole q r on. (m, known, on)) rest asks told
  begun-out live_spent whole_spent follows rightly (On name) s can lines keeps p records last p' q' goes is e first between mid begins rest asks told = absurd (cc)
  begun-out live_spent whole_spent follows rightly (Refill name count) s can lines keeps p records last p' q' goes is e first between mid begins rest asks told = absurd (cc)

  pub outages-pass_on : OutageTurnsPassOn steps on_whole machine together
  outages-pass_on live_spent whole_spent event s p records last p' q' follows rightly goes through is turn = go (refusal machine (live_part machine s) event) (sym (refusal-same event s)) turn where
    go : (o : Option Cause) → refusal machine s event ≡ o
        → MatchOption o (Accepts steps machine event (live_part machine s) p records last p') (λ cause. (records ≡ Refused cause ∷ []) × (last ≡ live_part machine s) × (p' ≡ p))
        → PassesTurnOn steps on_whole machine together event s p records last q'
    go None e accepts =
        begun-out live_spent whole_spent follows rightly event s through.plans through.lines (lines-out machine s through) p records last p' q' goes is e accepts.first accepts.between accepts.mid accepts.begins accepts.rest accepts.asks accepts.told
    go (Some cause) e refused = refused-on live_spent whole_spent follows event s p records last p' q' goes cause e refused
