-- What a live state keeps besides is kept through the turn of any event.
use Rattle.std.proofs.Common.{◌≡◌, ℕ, ◌+◌, ◌≤◌, true, false, not, List, [], ◌∷◌, length, refl, sym, subst, inl, inr, All, Option, Some, None}
use Rattle.std.specs.Option.{MatchOption}
use Rattle.std.proofs.lemmas.List.Elements.{All-contains, All-nil, Contains-append_cases}
use Rattle.tp_machine.specs.declared.machine.Machine.{Machine}
use Rattle.tp_script.specs.Form.{GroupForm}
use Rattle.tp_script.specs.declared.event.Event.{Event}
use Rattle.tp_script.specs.declared.event.Event.TheVariants.{Bad, Job as NewJob, Clock, Jam, Off, On, Refill}
use Rattle.tp_jobs.specs.WaitingCopies.{first_copies, sheets_of}
use Rattle.tp_schedule.proofs.Membership.{All-from_contains, Contains-filter_from, Contains-map_from}
use Rattle.tp_schedule.specs.LivePlans.{is_live}
use Rattle.tp_schedule.specs.PlannerAnswers.{Deed}
use Rattle.tp_schedule.specs.Plans.{IsTimedPlan}
use Rattle.tp_schedule.specs.declared.parts.Ask.{Ask}
use Rattle.tp_schedule.specs.declared.parts.Plan.{Plan}
use Rattle.tp_schedule.specs.declared.records.Cause.{Cause}
use Rattle.tp_schedule.specs.declared.records.Record.{Record}
use Rattle.tp_schedule.specs.declared.records.Record.TheVariants.{Refused}
use Rattle.std.specs.Prelude.{filter}
use Rattle.tp_event_rules.specs.AskPhase.{Asks}
use Rattle.tp_event_rules.specs.Clock.{clock_move}
use Rattle.tp_event_rules.specs.StateInvariants.{live_part}
use Rattle.tp_event_rules.specs.Moments.{release_until}
use Rattle.tp_event_rules.specs.Planners.{IsRight, PlannerSteps}
use Rattle.tp_event_rules.specs.Ready.{KeepsLive}
use Rattle.tp_event_rules.specs.Refusals.{clock_refusal, refusal}
use Rattle.tp_event_rules.specs.States.{SessionState, empty_state}
use Rattle.tp_event_rules.specs.Turns.{Accepts, Begins, Turn, with_job}
use Rattle.tp_event_rules.proofs.PlannableTurns.{accepted-clock}
use Rattle.tp_event_rules.proofs.StockKept.{few-plans}
use Rattle.tp_event_turn.specs.Events.{LiveTurn, MovesClock}
use Rattle.tp_session.specs.Kept.{KeepsPlan, KeepsSound, KeepsWaiting}
use Rattle.tp_session.specs.Laws.{KeepsSoundInTurns}
use Rattle.tp_session.proofs.FateKeeps.{StaysSound}
use Rattle.tp_session.proofs.LoopKeeps.{stays-asks, stays-goes}
use Rattle.tp_session.proofs.ModulesOut.{named-module, none-modules, on-modules}
use Rattle.tp_session.proofs.NewCopies.{new-copies}
use Rattle.tp_session.proofs.PlanKeeps.{StaysPlan, stays-released, stays-timed}
use Rattle.tp_session.proofs.StockKeeps.{refills-empty, refills-forgotten, refills-refilled}

-- in the empty state
pub sound-empty : (machine : Machine) → KeepsSound machine empty_state
sound-empty machine = record { outs = none-modules machine; plans = All-nil (KeepsPlan machine 0); waiting = All-nil (KeepsWaiting machine); stock = refills-empty machine }

-- into the midst of a turn, and out of it
stays-before : (machine : Machine) (copies : ℕ) (s : SessionState) → KeepsLive machine copies s → KeepsSound machine s → StaysSound machine s
stays-before machine copies s live k = record {
  outs = k.outs;
  plans = λ p in'. stays-timed machine s.now p (All-contains (IsTimedPlan machine) s.plans p live.plans.legal.timed in') (All-contains (KeepsPlan machine s.now) s.plans p k.plans in');
  waiting = λ w in'. All-contains (KeepsWaiting machine) s.waiting w k.waiting in';
  stock = k.stock;
}

sound-after : (machine : Machine) (s : SessionState) → StaysSound machine s → KeepsSound machine s
sound-after machine s k = record {
  outs = k.outs;
  plans = All-from_contains (KeepsPlan machine s.now) s.plans (λ p in'. (k.plans p in').kept);
  waiting = All-from_contains (KeepsWaiting machine) s.waiting k.waiting;
  stock = k.stock;
}

module _ (machine : Machine) where
  -- the clock moves, and what has ended is forgotten
  stays-clock : (to : ℕ) (s : SessionState) → s.now ≤ to → StaysSound machine s → StaysSound machine (clock_move machine to s).state
  stays-clock to s later k = record {
    outs = k.outs;
    plans = λ q in'.
        (let from = Contains-map_from (release_until (to + machine.lead)) s.plans q in' in
        subst (StaysPlan machine to) (sym from.2) (stays-released machine s.now to from.0 later (k.plans from.0 from.1)));
    waiting = k.waiting;
    stock = k.stock;
  }

  stays-live : (s : SessionState) → StaysSound machine s → StaysSound machine (live_part machine s)
  stays-live s k = record {
    outs = k.outs;
    plans = λ q in'. k.plans q (Contains-filter_from (is_live machine s.now) s.plans q in').0;
    waiting = k.waiting;
    stock = refills-forgotten machine s.refills (filter (λ p. not (is_live machine s.now p)) s.plans) k.stock;
  }

  stays-job : (name tray media : List ℕ) (groups : List GroupForm) (s : SessionState) → All (KeepsWaiting machine) (first_copies (length s.jobs) 1 (sheets_of media groups)) → StaysSound machine s
      → StaysSound machine (with_job machine name tray media groups s)
  stays-job name tray media groups s new k = record {
    outs = k.outs;
    plans = k.plans;
    waiting = λ w in'. elim (Contains-append_cases s.waiting (first_copies (length s.jobs) 1 (sheets_of media groups)) w in') [
      | inl old ↦ k.waiting w old
      | inr first ↦ All-contains (KeepsWaiting machine) (first_copies (length s.jobs) 1 (sheets_of media groups)) w new first
    ];
    stock = k.stock;
  }

module _ {P : Type 0} (steps : PlannerSteps P) (machine : Machine) (spent : P → Machine → List Plan → Ask → ℕ → Type 0)
    (right : (p : P) (plans : List Plan) (deed : Deed) (plans' : List Plan) (p' : P) → steps.does p plans deed plans' p' → IsRight (spent p) machine plans deed plans') where
  asks-keep : (s : SessionState) (p : P) (records : List Record) (s' : SessionState) (p' : P) → Asks steps machine s p records s' p' → StaysSound machine s → StaysSound machine s'
  asks-keep s p records s' p' asks k = stays-asks steps machine spent right s.waiting [] s p records s' p' (All-from_contains (KeepsWaiting machine) s.waiting k.waiting) asks k

  -- the part of an event before the phase of asks
  begins-keep : (copies : ℕ) (event : Event) (s : SessionState) (p : P) (records : List Record) (s' : SessionState) (p' : P) → refusal machine s event ≡ None → KeepsLive machine copies s
      → Begins steps machine event s p records s' p' → StaysSound machine s → StaysSound machine s'
  begins-keep copies Bad s p records s' p' accepted live begins k = absurd begins
  begins-keep copies (NewJob name tray media groups) s p records s' p' accepted live begins k =
      subst (StaysSound machine) (sym begins.1) (stays-job machine name tray media groups s (new-copies machine s.jobs (length s.waiting) name tray media groups accepted) k)
  begins-keep copies (Clock to) s p records s' p' accepted live begins k =
      subst (StaysSound machine) (sym begins.1) (stays-clock machine to s (accepted-clock s.now to accepted).0 k)
  begins-keep copies (Jam name) s p records s' p' accepted live (m, known, out) k = stays-goes steps machine spent right s m true p records s' p' (named-module machine name m known) out k
  begins-keep copies (Off name) s p records s' p' accepted live (m, known, out) k = stays-goes steps machine spent right s m false p records s' p' (named-module machine name m known) out k
  begins-keep copies (On name) s p records s' p' accepted live (m, known, told, is, same) k =
      subst (StaysSound machine) (sym is) (record { outs = on-modules machine s.outs m k.outs; plans = k.plans; waiting = k.waiting; stock = k.stock })
  begins-keep copies (Refill name count) s p records s' p' accepted live (f, known, told, is, same) k =
      subst (StaysSound machine) (sym is) (record { outs = k.outs; plans = k.plans; waiting = k.waiting; stock = refills-refilled machine s.refills s.plans (few-plans machine copies s live) k.stock name count f accepted known })

  turn-keeps : (copies : ℕ) (event : Event) (s : SessionState) (p : P) (records : List Record) (s' : SessionState) (p' : P)
      → KeepsLive machine copies s → Turn steps machine event s p records s' p' → KeepsSound machine s → KeepsSound machine s'
  turn-keeps copies event s p records s' p' live turn k = go (refusal machine s event) refl turn where
    go : (o : Option Cause) → refusal machine s event ≡ o
        → MatchOption o (Accepts steps machine event s p records s' p') (λ cause. (records ≡ Refused cause ∷ []) × (s' ≡ s) × (p' ≡ p)) → KeepsSound machine s'
    go None e accepts =
        sound-after machine s' (asks-keep accepts.between accepts.mid accepts.rest s' p' accepts.asks
        (begins-keep copies event s p accepts.first accepts.between accepts.mid e live accepts.begins (stays-before machine copies s live k)))
    go (Some cause) e (told, is, same) = subst (KeepsSound machine) (sym is) k

  clock-keeps : (copies to : ℕ) (s : SessionState) (p : P) (records : List Record) (s' : SessionState) (p' : P)
      → KeepsLive machine copies s → LiveTurn steps machine (Clock to) s p records s' p' → KeepsSound machine s → KeepsSound machine s'
  clock-keeps copies to s p records s' p' live turn k = go (clock_refusal s.now to) refl turn where
    go : (o : Option Cause) → clock_refusal s.now to ≡ o → MatchOption o (MovesClock steps machine to s p records s' p') (λ cause. (records ≡ Refused cause ∷ []) × (s' ≡ s) × (p' ≡ p)) → KeepsSound machine s'
    go None e moves =
        sound-after machine s' (asks-keep (live_part machine (clock_move machine to s).state) p moves.rest s' p' moves.asks
        (stays-live machine (clock_move machine to s).state (stays-clock machine to s (accepted-clock s.now to e).0 (stays-before machine copies s live k))))
    go (Some cause) e (told, is, same) = subst (KeepsSound machine) (sym is) k

  pub turns-keep : KeepsSoundInTurns steps machine
  turns-keep copies (Clock to) s p records s' p' live turn k = clock-keeps copies to s p records s' p' live turn k
  turns-keep copies Bad s p records s' p' live turn k = turn-keeps copies Bad s p records s' p' live turn k
  turns-keep copies (NewJob name tray media groups) s p records s' p' live turn k = turn-keeps copies (NewJob name tray media groups) s p records s' p' live turn k
  turns-keep copies (Jam name) s p records s' p' live turn k = turn-keeps copies (Jam name) s p records s' p' live turn k
  turns-keep copies (Off name) s p records s' p' live turn k = turn-keeps copies (Off name) s p records s' p' live turn k
  turns-keep copies (On name) s p records s' p' live turn k = turn-keeps copies (On name) s p records s' p' live turn k
  turns-keep copies (Refill name count) s p records s' p' live turn k = turn-keeps copies (Refill name count) s p records s' p' live turn k
