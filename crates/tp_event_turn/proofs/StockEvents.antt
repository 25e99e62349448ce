-- What is kept of the stock of a live state is kept through the turn of any event.
use Rattle.std.proofs.Common.{◌≡◌, ℕ, ◌+◌, List, [], ◌∷◌, true, false, refl, sym, ap, subst, arith, Option, Some, None}
use Rattle.std.specs.Option.{MatchOption}
use Rattle.tp_machine.specs.declared.machine.Machine.{Machine}
use Rattle.tp_script.specs.declared.event.Event.{Event}
use Rattle.tp_script.specs.declared.event.Event.TheVariants.{Bad, Job as NewJob, Clock, Jam, Off, On, Refill}
use Rattle.tp_schedule.specs.PlannerAnswers.{Deed}
use Rattle.tp_schedule.specs.declared.parts.Ask.{Ask}
use Rattle.tp_schedule.specs.declared.parts.Plan.{Plan}
use Rattle.tp_schedule.specs.declared.records.Cause.{Cause}
use Rattle.tp_schedule.specs.declared.records.Record.{Record}
use Rattle.tp_schedule.specs.declared.records.Record.TheVariants.{Refused}
use Rattle.tp_stock.specs.Stock.{AreWithin, IsStockedWithin}
use Rattle.tp_event_rules.specs.AskPhase.{Asks}
use Rattle.tp_event_rules.specs.Clock.{clock_move}
use Rattle.tp_event_rules.specs.StateInvariants.{live_part}
use Rattle.tp_event_rules.specs.Laws.{IsStocked}
use Rattle.tp_event_rules.specs.Planners.{IsRight, PlannerSteps}
use Rattle.tp_event_rules.specs.Ready.{KeepsLive, KeepsStock}
use Rattle.tp_event_rules.specs.Refusals.{clock_refusal, refusal}
use Rattle.tp_event_rules.specs.States.{SessionState}
use Rattle.tp_event_rules.specs.Turns.{Accepts, Begins, Turn}
use Rattle.tp_event_rules.proofs.StockKept.{few-plans, stock-moved, stock-more, stock-refill}
use Rattle.tp_event_rules.proofs.StockTurns.{refills-asks, refills-goes, stocked-asks, stocked-begins}
use Rattle.tp_event_turn.specs.Events.{KeepsStockInTurns, LiveTurn, MovesClock}

-- where the refills are as they were
same-refills : (machine : Machine) (events : ℕ) (s s' : SessionState) → s'.refills ≡ s.refills → IsStocked machine s' → KeepsStock machine events s → KeepsStock machine events s'
same-refills machine events s s' same drawn keeps = record {
  drawn = drawn;
  most = subst (IsStockedWithin machine) (sym same) keeps.most;
  within = subst (AreWithin events) (sym same) keeps.within;
}

module _ {P : Type 0} (steps : PlannerSteps P) (machine : Machine) (spent : P → Machine → List Plan → Ask → ℕ → Type 0)
    (right : (p : P) (plans : List Plan) (deed : Deed) (plans' : List Plan) (p' : P) → steps.does p plans deed plans' p' → IsRight (spent p) machine plans deed plans') where
  stock-asks : (events : ℕ) (s : SessionState) (p : P) (records : List Record) (s' : SessionState) (p' : P) → Asks steps machine s p records s' p' → KeepsStock machine events s → KeepsStock machine events s'
  stock-asks events s p records s' p' asks keeps =
      same-refills machine events s s' (refills-asks steps machine s.waiting [] s p records s' p' asks) (stocked-asks steps machine spent right s.waiting [] s p records s' p' asks keeps.drawn) keeps

  -- the part of an event before the phase of asks
  stock-begins : (copies events : ℕ) (event : Event) (s : SessionState) (p : P) (records : List Record) (s' : SessionState) (p' : P) → refusal machine s event ≡ None → KeepsLive machine copies s
      → Begins steps machine event s p records s' p' → KeepsStock machine events s → KeepsStock machine (events + 1) s'
  stock-begins copies events (Refill name count) s p records s' p' accepted live (f, known, told, is, same) keeps =
      subst (KeepsStock machine (events + 1)) (sym is) (stock-refill machine events s (few-plans machine copies s live) keeps name count f accepted known)
  stock-begins copies events Bad s p records s' p' accepted live begins keeps = absurd begins
  stock-begins copies events (NewJob name tray media groups) s p records s' p' accepted live begins keeps =
      stock-more machine events (events + 1) s' (omega arith) (same-refills machine events s s' (ap (λ (t : SessionState). t.refills) begins.1) (stocked-begins steps machine spent right (NewJob name tray media groups) s p records s' p' begins keeps.drawn) keeps)
  stock-begins copies events (Clock to) s p records s' p' accepted live begins keeps =
      stock-more machine events (events + 1) s' (omega arith) (same-refills machine events s s' (ap (λ (t : SessionState). t.refills) begins.1) (stocked-begins steps machine spent right (Clock to) s p records s' p' begins keeps.drawn) keeps)
  stock-begins copies events (Jam name) s p records s' p' accepted live begins keeps =
      stock-more machine events (events + 1) s' (omega arith) (same-refills machine events s s' (refills-goes steps machine s begins.0 true p records s' p' begins.2) (stocked-begins steps machine spent right (Jam name) s p records s' p' begins keeps.drawn) keeps)
  stock-begins copies events (Off name) s p records s' p' accepted live begins keeps =
      stock-more machine events (events + 1) s' (omega arith) (same-refills machine events s s' (refills-goes steps machine s begins.0 false p records s' p' begins.2) (stocked-begins steps machine spent right (Off name) s p records s' p' begins keeps.drawn) keeps)
  stock-begins copies events (On name) s p records s' p' accepted live begins keeps =
      stock-more machine events (events + 1) s' (omega arith) (same-refills machine events s s' (ap (λ (t : SessionState). t.refills) begins.3) (stocked-begins steps machine spent right (On name) s p records s' p' begins keeps.drawn) keeps)

  stock-turn : (copies events : ℕ) (event : Event) (s : SessionState) (p : P) (records : List Record) (s' : SessionState) (p' : P)
      → KeepsLive machine copies s → Turn steps machine event s p records s' p' → KeepsStock machine events s → KeepsStock machine (events + 1) s'
  stock-turn copies events event s p records s' p' live turn keeps = go (refusal machine s event) refl turn where
    go : (o : Option Cause) → refusal machine s event ≡ o
        → MatchOption o (Accepts steps machine event s p records s' p') (λ cause. (records ≡ Refused cause ∷ []) × (s' ≡ s) × (p' ≡ p)) → KeepsStock machine (events + 1) s'
    go None e accepts =
        stock-asks (events + 1) accepts.between accepts.mid accepts.rest s' p' accepts.asks
        (stock-begins copies events event s p accepts.first accepts.between accepts.mid e live accepts.begins keeps)
    go (Some cause) e (told, is, same) = subst (KeepsStock machine (events + 1)) (sym is) (stock-more machine events (events + 1) s (omega arith) keeps)

  stock-clock : (copies events to : ℕ) (s : SessionState) (p : P) (records : List Record) (s' : SessionState) (p' : P)
      → KeepsLive machine copies s → LiveTurn steps machine (Clock to) s p records s' p' → KeepsStock machine events s → KeepsStock machine (events + 1) s'
  stock-clock copies events to s p records s' p' live turn keeps = go (clock_refusal s.now to) turn where
    go : (o : Option Cause) → MatchOption o (MovesClock steps machine to s p records s' p') (λ cause. (records ≡ Refused cause ∷ []) × (s' ≡ s) × (p' ≡ p)) → KeepsStock machine (events + 1) s'
    go None moves =
        stock-asks (events + 1) (live_part machine (clock_move machine to s).state) p moves.rest s' p' moves.asks
        (stock-moved machine events s (few-plans machine copies s live) keeps to)
    go (Some cause) (told, is, same) = subst (KeepsStock machine (events + 1)) (sym is) (stock-more machine events (events + 1) s (omega arith) keeps)

  pub stock-turns : KeepsStockInTurns steps machine
  stock-turns copies events (Clock to) s p records s' p' live turn keeps = stock-clock copies events to s p records s' p' live turn keeps
  stock-turns copies events Bad s p records s' p' live turn keeps = stock-turn copies events Bad s p records s' p' live turn keeps
  stock-turns copies events (NewJob name tray media groups) s p records s' p' live turn keeps = stock-turn copies events (NewJob name tray media groups) s p records s' p' live turn keeps
  stock-turns copies events (Jam name) s p records s' p' live turn keeps = stock-turn copies events (Jam name) s p records s' p' live turn keeps
  stock-turns copies events (Off name) s p records s' p' live turn keeps = stock-turn copies events (Off name) s p records s' p' live turn keeps
  stock-turns copies events (On name) s p records s' p' live turn keeps = stock-turn copies events (On name) s p records s' p' live turn keeps
  stock-turns copies events (Refill name count) s p records s' p' live turn keeps = stock-turn copies events (Refill name count) s p records s' p' live turn keeps
