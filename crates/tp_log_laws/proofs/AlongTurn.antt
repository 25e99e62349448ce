-- A turn over the planner that is given its answers goes as the turn of right answers does whose records and trees it is given.
use Rattle.std.proofs.Common.{◌≡◌, ◌⊎◌, inl, inr, ℕ, ◌+◌, Bool, true, false, List, [], ◌∷◌, ◌++◌, refl, sym, ap, subst, ◌∙◌, Option, Some, None}
use Rattle.std.specs.Option.{MatchOption}
use Rattle.std.proofs.lemmas.Option.{same_Some}
use Rattle.tp_bounds.specs.declared.tree.BoundTree.{BoundTree}
use Rattle.tp_machine.specs.declared.machine.Machine.{Machine}
use Rattle.tp_machine.specs.declared.parts.Feeder.{Feeder}
use Rattle.tp_schedule.specs.PlannerAnswers.{Deed}
use Rattle.tp_schedule.specs.declared.parts.Plan.{Plan}
use Rattle.tp_schedule.specs.declared.records.Cause.{Cause}
use Rattle.tp_schedule.specs.declared.records.Record.{Record}
use Rattle.tp_schedule.specs.declared.records.Record.TheVariants.{Refused}
use Rattle.tp_script.specs.declared.event.Event.{Event}
use Rattle.tp_script.specs.declared.event.Event.TheVariants.{Bad, Job as NewJob, Clock, Jam, Off, On, Refill}
use Rattle.tp_stock.specs.Stock.{more_at}
use Rattle.tp_log_planner.specs.ToldAnswers.{ToldValue, ahead, behind_asides}
use Rattle.tp_event_rules.specs.AskPhase.{Asks}
use Rattle.tp_event_rules.specs.Clock.{clock_move, clock_records}
use Rattle.tp_event_rules.specs.StateInvariants.{live_part}
use Rattle.tp_event_rules.specs.Laws.{IsNoClock}
use Rattle.tp_event_rules.specs.Logs.{spent_on_trust}
use Rattle.tp_event_rules.specs.Planners.{GoesOut, IsRight, StopsGoingOut}
use Rattle.tp_event_rules.specs.Ready.{CanTakeEvents}
use Rattle.tp_event_rules.specs.Refusals.{clock_refusal, refusal}
use Rattle.tp_event_rules.specs.States.{SessionState}
use Rattle.tp_event_rules.specs.Turns.{Accepts, Begins, Turn, with_on, with_refill}
use Rattle.tp_event_rules.proofs.Refilled.{lines-refilled}
use Rattle.tp_event_turn.specs.Events.{LiveTurn, MovesClock}
use Rattle.tp_event_turn.specs.Stops.{StopsAfter, StopsAsks, StopsBeginning, StopsClock, StopsTurn}
use Rattle.tp_event_turn.proofs.KeptEvents.{events-job, events-moved, events-on}
use Rattle.tp_outage_laws.proofs.OutagesKeep.{any-sheets, through-goes}
use Rattle.tp_outage_laws.proofs.Starts.{starts}
use Rattle.tp_outage_laws.specs.Through.{KeepsThrough}
use Rattle.tp_run_laws.specs.Runs.{items_with}
use Rattle.tp_log_laws.specs.EntryTurns.{IsThrough, LawfulTurnsAccepted, NeverStops, TurnsTell, told_steps}
use Rattle.tp_log_laws.proofs.AlongAsks.{Goes, GoesOn, IsAhead, all-known, asks-along, asks-over, lawful_steps}
use Rattle.tp_log_laws.proofs.AlongLoop.{AreLeft, out-along}
use Rattle.tp_log_laws.proofs.Asides.{other-clock}
use Rattle.tp_log_laws.proofs.Back.{turns-come_back}
use Rattle.tp_log_laws.proofs.Names.{live-through, through-named, waiting-known}
use Rattle.tp_log_laws.proofs.Places.{IsOver, none-of_plan, skip}

right : (machine : Machine) (p : List BoundTree) (ps : List Plan) (deed : Deed) (ps' : List Plan) (p' : List BoundTree) → (lawful_steps machine).does p ps deed ps' p' → IsRight spent_on_trust machine ps deed ps'
right machine p ps deed ps' p' does = does.0

module _ (machine : Machine) where
  -- the phase of asks
  asks-of : (s : SessionState) → KeepsThrough machine s → (q : List BoundTree) (records : List Record) (s' : SessionState) (q' : List BoundTree) → Asks (lawful_steps machine) machine s q records s' q'
      → (p : ToldValue) → AreLeft p records q → Goes machine s.waiting [] s p records s' × GoesOn machine s.waiting [] s p
  asks-of s k q records s' q' asks p (b, at) = asks-along machine s.waiting [] s q records s' q' asks (through-named machine s k) (all-known s s.waiting (waiting-known s k.lines)) p b at

  -- the part before it
  module _ (copies : ℕ) (s : SessionState) (can : CanTakeEvents machine copies s) where
    through : KeepsThrough machine s
    through = live-through machine copies s can.kept

    out-through : (m : ℕ) (jam : Bool) (q : List BoundTree) (records : List Record) (s' : SessionState) (q' : List BoundTree) → GoesOut (lawful_steps machine) machine s m jam q records s' q' → KeepsThrough machine s'
    out-through m jam q records s' q' out = through-goes (lawful_steps machine) machine (λ p. spent_on_trust) (right machine) s m jam q records s' q' out through

    refilled : (f : Feeder) (count : ℕ) → KeepsThrough machine (with_refill f count s)
    refilled f count = record {
      jobs = through.jobs;
      plans = through.plans;
      lines = lines-refilled (more_at f.loc.0 count s.refills) s through.lines;
      broken = record { waiting = through.broken.waiting; plans = through.broken.plans };
      older = through.older;
      purges = through.purges;
    }

    begun-through : (event : Event) → IsNoClock event → refusal machine s event ≡ None → (q : List BoundTree) (records : List Record) (s' : SessionState) (q' : List BoundTree) → Begins (lawful_steps machine) machine event s q records s' q' → KeepsThrough machine s'
    begun-through Bad still accepted q records s' q' begins = absurd begins
    begun-through (NewJob name tray media groups) still accepted q records s' q' (told, is, same) =
        subst (KeepsThrough machine) (sym is) (live-through machine _ _ (events-job machine name tray media groups s accepted copies can).kept)
    begun-through (Clock to) still accepted q records s' q' begins = absurd (cc)
    begun-through (Jam name) still accepted q records s' q' (m, known, out) = out-through m true q records s' q' out
    begun-through (Off name) still accepted q records s' q' (m, known, out) = out-through m false q records s' q' out
    begun-through (On name) still accepted q records s' q' (m, known, told, is, same) = subst (KeepsThrough machine) (sym is) (live-through machine _ _ (events-on machine m s copies can).kept)
    begun-through (Refill name count) still accepted q records s' q' (f, known, told, is, same) = subst (KeepsThrough machine) (sym is) (refilled f count)

    module _ (rest : List Record) (over : IsOver rest) (q : List BoundTree) (p : ToldValue) where
      abbrev GoesSo : Event → List Record → SessionState → List BoundTree → Type 0
      GoesSo event records s' q' = (records2 : List Record) (s2 : SessionState) (p2 : ToldValue) → Begins (told_steps machine) machine event s p records2 s2 p2 → (records2 ≡ records) × (s2 ≡ s') × AreLeft p2 rest q'

      abbrev NeverHalts : Event → Type 0
      NeverHalts event = (records2 : List Record) (p2 : ToldValue) → StopsBeginning (told_steps machine) machine event s p records2 p2 → ⊥

      -- nothing was reported, and no tree was taken
      left-so : (records : List Record) (q' : List BoundTree) (p2 : ToldValue) → records ≡ [] → q' ≡ q → p2 ≡ p → IsAhead p false (records ++ rest) q → AreLeft p2 rest q'
      left-so records q' p2 none same same2 at =
          (false, ap (λ x. behind_asides (ahead x)) same2 ∙ at ∙ ap (λ rs. behind_asides (items_with false (rs ++ rest) q)) none ∙ ap (λ ts. behind_asides (items_with false rest ts)) (sym same))

      out-so : (m : ℕ) (jam : Bool) (records : List Record) (s' : SessionState) (q' : List BoundTree) → GoesOut (lawful_steps machine) machine s m jam q records s' q' → IsAhead p false (records ++ rest) q
          → ((m2 : ℕ) → m2 ≡ m → (records2 : List Record) (s2 : SessionState) (p2 : ToldValue) → GoesOut (told_steps machine) machine s m2 jam p records2 s2 p2 → (records2 ≡ records) × (s2 ≡ s') × AreLeft p2 rest q')
          × ((m2 : ℕ) → m2 ≡ m → (records2 : List Record) (p2 : ToldValue) → StopsGoingOut (told_steps machine) machine s m2 jam p records2 p2 → ⊥)
      out-so m jam records s' q' out at =
          let both = out-along machine s through.jobs.names rest over s m jam q records s' q' out (starts machine s through (λ job number. true) (λ job. true) (any-sheets s)) p at in (
            λ m2 same records2 s2 p2 out2. both.0 records2 s2 p2 (subst (λ n. GoesOut (told_steps machine) machine s n jam p records2 s2 p2) same out2),
            λ m2 same records2 p2 out2. both.1 records2 p2 (subst (λ n. StopsGoingOut (told_steps machine) machine s n jam p records2 p2) same out2),
          )

      begins-along : (event : Event) → IsNoClock event → (records : List Record) (s' : SessionState) (q' : List BoundTree) → Begins (lawful_steps machine) machine event s q records s' q' → IsAhead p false (records ++ rest) q
          → GoesSo event records s' q' × NeverHalts event
      begins-along Bad still records s' q' begins at = absurd begins
      begins-along (NewJob name tray media groups) still records s' q' (told, is, same) at = (
        λ records2 s2 p2 (told2, is2, same2). (told2 ∙ sym told, is2 ∙ sym is, left-so records q' p2 told same same2 at),
        λ records2 p2 none. none,
      )
      begins-along (Clock to) still records s' q' begins at = absurd (cc)
      begins-along (Jam name) still records s' q' (m, known, out) at =
          let both = out-so m true records s' q' out at in (
            λ records2 s2 p2 (m2, known2, out2). both.0 m2 (same_Some m2 m (sym known2 ∙ known)) records2 s2 p2 out2,
            λ records2 p2 (m2, known2, out2). both.1 m2 (same_Some m2 m (sym known2 ∙ known)) records2 p2 out2,
          )
      begins-along (Off name) still records s' q' (m, known, out) at =
          let both = out-so m false records s' q' out at in (
            λ records2 s2 p2 (m2, known2, out2). both.0 m2 (same_Some m2 m (sym known2 ∙ known)) records2 s2 p2 out2,
            λ records2 p2 (m2, known2, out2). both.1 m2 (same_Some m2 m (sym known2 ∙ known)) records2 p2 out2,
          )
      begins-along (On name) still records s' q' (m, known, told, is, same) at = (
        λ records2 s2 p2 (m2, known2, told2, is2, same2). (told2 ∙ sym told, is2 ∙ ap (λ n. with_on n s) (same_Some m2 m (sym known2 ∙ known)) ∙ sym is, left-so records q' p2 told same same2 at),
        λ records2 p2 none. none,
      )
      begins-along (Refill name count) still records s' q' (f, known, told, is, same) at = (
        λ records2 s2 p2 (f2, known2, told2, is2, same2). (told2 ∙ sym told, is2 ∙ ap (λ g. with_refill g count s) (same_Some f2 f (sym known2 ∙ known)) ∙ sym is, left-so records q' p2 told same same2 at),
        λ records2 p2 none. none,
      )

    -- ---- a turn, but for a move of the clock
    module _ (event : Event) (still : IsNoClock event) (q : List BoundTree) (records : List Record) (s' : SessionState) (q' : List BoundTree) (p : ToldValue) (at : ahead p ≡ items_with false records q) where
      abbrev Tells : Option Cause → Type 0
      Tells o =
          (notes : List Record) (last : SessionState) (p' : ToldValue) → MatchOption o (Accepts (told_steps machine) machine event s p notes last p') (λ cause. (notes ≡ Refused cause ∷ []) × (last ≡ s) × (p' ≡ p))
          → (notes ≡ records) × (last ≡ s') × IsThrough p'

      abbrev Halts : Option Cause → Type 0
      Halts o = (notes : List Record) (p' : ToldValue) → (o ≡ None) × (StopsBeginning (told_steps machine) machine event s p notes p' ⊎ StopsAfter (told_steps machine) machine event s p notes p') → ⊥

      by-cause : (o : Option Cause) → refusal machine s event ≡ o → MatchOption o (Accepts (lawful_steps machine) machine event s q records s' q') (λ cause. (records ≡ Refused cause ∷ []) × (s' ≡ s) × (q' ≡ q)) → Tells o × Halts o
      by-cause (Some cause) e (told, is, same) = (
        λ notes last p' (told2, is2, same2). (told2 ∙ sym told, is2 ∙ sym is, ap (λ x. behind_asides (ahead x)) same2 ∙ ap behind_asides at ∙ ap (λ rs. behind_asides (items_with false rs q)) told),
        λ notes p' (none, stops). (let no : Some cause ≡ None = none in cc),
      )
      by-cause None accepted a =
          let over = asks-over machine a.between.waiting [] a.between a.mid a.rest s' q' a.asks in
          let at' : IsAhead p false (a.first ++ a.rest) q = ap behind_asides at ∙ ap (λ rs. behind_asides (items_with false rs q)) a.told in
          let both = begins-along a.rest over q p event still a.first a.between a.mid a.begins at' in
          let asks = asks-of a.between (begun-through event still accepted q a.first a.between a.mid a.begins) a.mid a.rest s' q' a.asks in (
            λ notes last p' b. (
                let one = both.0 b.first b.between b.mid b.begins in
                let asks2 = subst (λ x. Asks (told_steps machine) machine x b.mid b.rest last p') one.1 b.asks in
                let end = (asks b.mid one.2).0 b.rest last p' asks2 in
                (b.told ∙ ap (λ rs. rs ++ b.rest) one.0 ∙ ap (λ rs. a.first ++ rs) end.0 ∙ sym a.told, end.1, end.2)),
            λ notes p' (none, stops). elim stops [
              | inl begins ↦ both.1 notes p' begins
              | inr b ↦ (let one = both.0 b.first b.between b.mid b.begins in
                  let stops2 = subst (λ x. StopsAsks (told_steps machine) machine x b.mid b.rest p') one.1 b.stops in
                  (asks b.mid one.2).1 b.rest p' stops2)
            ],
          )

      turn-along : Turn (lawful_steps machine) machine event s q records s' q'
          → ((notes : List Record) (last : SessionState) (p' : ToldValue) → Turn (told_steps machine) machine event s p notes last p' → (notes ≡ records) × (last ≡ s') × IsThrough p')
          × ((notes : List Record) (p' : ToldValue) → StopsTurn (told_steps machine) machine event s p notes p' → ⊥)
      turn-along turn = by-cause (refusal machine s event) refl turn

    -- ---- a move of the clock
    module _ (to : ℕ) (q : List BoundTree) (records : List Record) (s' : SessionState) (q' : List BoundTree) (p : ToldValue) (at : ahead p ≡ items_with false records q) where
      abbrev MovesSo : Option Cause → Type 0
      MovesSo o =
          (notes : List Record) (last : SessionState) (p' : ToldValue) → MatchOption o (MovesClock (told_steps machine) machine to s p notes last p') (λ cause. (notes ≡ Refused cause ∷ []) × (last ≡ s) × (p' ≡ p))
          → (notes ≡ records) × (last ≡ s') × IsThrough p'

      by-move : (o : Option Cause) → clock_refusal s.now to ≡ o → MatchOption o (MovesClock (lawful_steps machine) machine to s q records s' q') (λ cause. (records ≡ Refused cause ∷ []) × (s' ≡ s) × (q' ≡ q))
          → MovesSo o × ((notes : List Record) (p' : ToldValue) → StopsClock (told_steps machine) machine to s p notes p' → ⊥)
      by-move (Some cause) e (told, is, same) = (
        λ notes last p' (told2, is2, same2). (told2 ∙ sym told, is2 ∙ sym is, ap (λ x. behind_asides (ahead x)) same2 ∙ ap behind_asides at ∙ ap (λ rs. behind_asides (items_with false rs q)) told),
        λ notes p' stops. (let no : Some cause ≡ None = sym e ∙ stops.accepted in cc),
      )
      by-move None accepted a =
          let between = live_part machine (clock_move machine to s).state in
          let others = other-clock machine s to in
          let at' : IsAhead p false a.rest q =
          ap behind_asides at ∙ ap (λ rs. behind_asides (items_with false rs q)) a.told ∙ skip false (clock_records machine s to) a.rest q others
          ∙ ap (λ b. behind_asides (items_with b a.rest q)) (none-of_plan (clock_records machine s to) others) in
          let kept = live-through machine (copies + 1) between (events-moved machine to s accepted copies can).kept in
          let asks = asks-of between kept q a.rest s' q' a.asks p (false, at') in (
            λ notes last p' b. (let end = asks.0 b.rest last p' b.asks in (b.told ∙ ap (λ rs. (clock_move machine to s).records ++ rs) end.0 ∙ sym a.told, end.1, end.2)),
            λ notes p' stops. asks.1 stops.rest p' stops.stops,
          )

    by-event : (event : Event) (q : List BoundTree) (records : List Record) (s' : SessionState) (q' : List BoundTree) (p : ToldValue) → ahead p ≡ items_with false records q → LiveTurn (lawful_steps machine) machine event s q records s' q'
        → TurnsTell machine event s p records s' × NeverStops machine event s p
    by-event Bad q records s' q' p at turn = turn-along Bad refl q records s' q' p at turn
    by-event (NewJob name tray media groups) q records s' q' p at turn = turn-along (NewJob name tray media groups) refl q records s' q' p at turn
    by-event (Clock to) q records s' q' p at turn = by-move to q records s' q' p at (clock_refusal s.now to) refl turn
    by-event (Jam name) q records s' q' p at turn = turn-along (Jam name) refl q records s' q' p at turn
    by-event (Off name) q records s' q' p at turn = turn-along (Off name) refl q records s' q' p at turn
    by-event (On name) q records s' q' p at turn = turn-along (On name) refl q records s' q' p at turn
    by-event (Refill name count) q records s' q' p at turn = turn-along (Refill name count) refl q records s' q' p at turn

pub turns-follow : (machine : Machine) → LawfulTurnsAccepted machine
turns-follow machine copies e whole s whole' p can w turn at =
    by-event machine copies s can e.event e.trees e.records (live_part machine whole') [] p at (turns-come_back machine e.event whole s whole' e.trees e.records [] w turn)
