-- The turns of modules that go out and come back.
use Rattle.std.proofs.Common.{◌≡◌, ℕ, Bool, true, inr, List, ◌∷◌, [], ◌++◌, Some, None, refl, sym, ap, ◌∙◌, subst, append_assoc}
use Rattle.std.specs.Option.{MatchOption}
use Rattle.tp_machine.specs.declared.machine.Machine.{Machine}
use Rattle.tp_schedule.specs.declared.records.Record.{Record}
use Rattle.tp_schedule.specs.declared.records.Record.TheVariants.{Refused}
use Rattle.tp_script.specs.declared.event.Event.{Event}
use Rattle.tp_script.specs.declared.event.Event.TheVariants.{Bad, Job as NewJob, Clock, Jam, Off, On, Refill}
use Rattle.tp_event_rules.specs.Laws.{is_outage}
use Rattle.tp_event_rules.specs.Planners.{GoesOut, PlannerSteps}
use Rattle.tp_event_rules.specs.States.{SessionState}
use Rattle.tp_event_rules.specs.Turns.{Accepts, Begins, Turn, with_on}
use Rattle.tp_event_rules.specs.Refusals.{refusal}
use Rattle.tp_event_turn.specs.ModuleChecks.{comes_back, is_jam, module_named, module_refusal}
use Rattle.tp_event_turn.specs.Events.{NotesEvent}
use Rattle.tp_event_turn.specs.Phases.{NotesAsks}
use Rattle.tp_event_turn.specs.Stops.{NotesEventStop, NotesStop, StopsTurn}
use Rattle.tp_event_turn.proofs.EventFacts.{accepted-event, stopped-event}

module _ {P : Type 0} (steps : PlannerSteps P) (machine : Machine) (s : SessionState) (p : P) (notes notes' : List Record) where
  -- a module comes back
  pub back-event : (event : Event) → comes_back event ≡ true → module_refusal machine s.outs event ≡ None → (m : ℕ) → module_named machine event ≡ Some m
      → (s' : SessionState) (p' : P) → NotesAsks steps machine (with_on m s) p notes s' p' notes' → NotesEvent steps machine event s p notes s' p' notes'
  back-event Bad is accepted m named s' p' asks = absurd (cc)
  back-event (NewJob name tray media groups) is accepted m named s' p' asks = absurd (cc)
  back-event (Clock to) is accepted m named s' p' asks = absurd (cc)
  back-event (Jam name) is accepted m named s' p' asks = absurd (cc)
  back-event (Off name) is accepted m named s' p' asks = absurd (cc)
  back-event (On name) is accepted m named s' p' asks = accepted-event steps machine (On name) s p notes notes' accepted (with_on m s) s' p' (m, named, refl, refl, refl) asks
  back-event (Refill name count) is accepted m named s' p' asks = absurd (cc)

  pub back-stop : (event : Event) → comes_back event ≡ true → module_refusal machine s.outs event ≡ None → (m : ℕ) → module_named machine event ≡ Some m
      → (p' : P) → NotesStop steps machine (with_on m s) p notes p' notes' → NotesEventStop steps machine event s p notes p' notes'
  back-stop Bad is accepted m named p' stops = absurd (cc)
  back-stop (NewJob name tray media groups) is accepted m named p' stops = absurd (cc)
  back-stop (Clock to) is accepted m named p' stops = absurd (cc)
  back-stop (Jam name) is accepted m named p' stops = absurd (cc)
  back-stop (Off name) is accepted m named p' stops = absurd (cc)
  back-stop (On name) is accepted m named p' stops = stopped-event steps machine (On name) s p notes notes' accepted (with_on m s) p' (m, named, refl, refl, refl) stops
  back-stop (Refill name count) is accepted m named p' stops = absurd (cc)

  -- the part of an accepted event was done, and told, and the phase of asks followed; or the planner stopped in it
  begun-event : (event : Event) → refusal machine s event ≡ None → (first told : List Record) (between : SessionState) (mid : P) → Begins steps machine event s p first between mid → told ≡ notes ++ first
      → (s' : SessionState) (p' : P) → NotesAsks steps machine between mid told s' p' notes' → (records : List Record) × (notes' ≡ notes ++ records) × Turn steps machine event s p records s' p'
  begun-event event accepted first told between mid begins told-is s' p' (rest, noted, asks) = (
    first ++ rest,
    noted ∙ ap (λ l. l ++ rest) told-is ∙ append_assoc notes first rest,
    subst (λ o. MatchOption o (Accepts steps machine event s p (first ++ rest) s' p') (λ c. (first ++ rest ≡ Refused c ∷ []) × (s' ≡ s) × (p' ≡ p))) (sym accepted)
        (record { first = first; between = between; mid = mid; begins = begins; rest = rest; asks = asks; told = refl }),
  )

  begun-stop : (event : Event) → refusal machine s event ≡ None → (first told : List Record) (between : SessionState) (mid : P) → Begins steps machine event s p first between mid → told ≡ notes ++ first
      → (p' : P) → NotesStop steps machine between mid told p' notes' → (records : List Record) × (notes' ≡ notes ++ records) × StopsTurn steps machine event s p records p'
  begun-stop event accepted first told between mid begins told-is p' (rest, noted, stops) = (
    first ++ rest,
    noted ∙ ap (λ l. l ++ rest) told-is ∙ append_assoc notes first rest,
    (accepted, inr (record { first = first; between = between; mid = mid; begins = begins; rest = rest; stops = stops; told = refl })),
  )

  -- a module goes out
  module _ (m : ℕ) (jam : Bool) where
    pub out-event : (event : Event) → is_outage event ≡ true → jam ≡ is_jam event → module_refusal machine s.outs event ≡ None → module_named machine event ≡ Some m
        → (first told : List Record) (between : SessionState) (mid : P) → told ≡ notes ++ first → GoesOut steps machine s m jam p first between mid
        → (s' : SessionState) (p' : P) → NotesAsks steps machine between mid told s' p' notes' → NotesEvent steps machine event s p notes s' p' notes'
    out-event Bad is jammed accepted named first told between mid told-is out s' p' asks = absurd (cc)
    out-event (NewJob name tray media groups) is jammed accepted named first told between mid told-is out s' p' asks = absurd (cc)
    out-event (Clock to) is jammed accepted named first told between mid told-is out s' p' asks = absurd (cc)
    out-event (Jam name) is jammed accepted named first told between mid told-is out s' p' asks =
        begun-event (Jam name) accepted first told between mid (m, named, subst (λ b. GoesOut steps machine s m b p first between mid) jammed out) told-is s' p' asks
    out-event (Off name) is jammed accepted named first told between mid told-is out s' p' asks =
        begun-event (Off name) accepted first told between mid (m, named, subst (λ b. GoesOut steps machine s m b p first between mid) jammed out) told-is s' p' asks
    out-event (On name) is jammed accepted named first told between mid told-is out s' p' asks = absurd (cc)
    out-event (Refill name count) is jammed accepted named first told between mid told-is out s' p' asks = absurd (cc)

    -- and the planner stopped in the phase of asks behind it
    pub out-stop : (event : Event) → is_outage event ≡ true → jam ≡ is_jam event → module_refusal machine s.outs event ≡ None → module_named machine event ≡ Some m
        → (first told : List Record) (between : SessionState) (mid : P) → told ≡ notes ++ first → GoesOut steps machine s m jam p first between mid
        → (p' : P) → NotesStop steps machine between mid told p' notes' → NotesEventStop steps machine event s p notes p' notes'
    out-stop Bad is jammed accepted named first told between mid told-is out p' stops = absurd (cc)
    out-stop (NewJob name tray media groups) is jammed accepted named first told between mid told-is out p' stops = absurd (cc)
    out-stop (Clock to) is jammed accepted named first told between mid told-is out p' stops = absurd (cc)
    out-stop (Jam name) is jammed accepted named first told between mid told-is out p' stops =
        begun-stop (Jam name) accepted first told between mid (m, named, subst (λ b. GoesOut steps machine s m b p first between mid) jammed out) told-is p' stops
    out-stop (Off name) is jammed accepted named first told between mid told-is out p' stops =
        begun-stop (Off name) accepted first told between mid (m, named, subst (λ b. GoesOut steps machine s m b p first between mid) jammed out) told-is p' stops
    out-stop (On name) is jammed accepted named first told between mid told-is out p' stops = absurd (cc)
    out-stop (Refill name count) is jammed accepted named first told between mid told-is out p' stops = absurd (cc)
