-- A turn of one planner is a turn of another, where each deed is.
use Rattle.std.proofs.Common.{◌≡◌, ℕ, Bool, true, false, List, [], ◌∷◌, ◌++◌, Option, Some, None, refl, sym, ap, subst, ◌∙◌, All, append-nil}
use Rattle.std.specs.Bool.{MatchBool}
use Rattle.std.specs.Option.{MatchOption}
use Rattle.std.proofs.lemmas.List.Elements.{All-nil}
use Rattle.tp_bounds.specs.Trees.{IsPrintable}
use Rattle.tp_bounds.specs.declared.tree.BoundTree.{BoundTree}
use Rattle.tp_machine.specs.declared.machine.Machine.{Machine}
use Rattle.tp_jobs.specs.Backlogs.{tray_of}
use Rattle.tp_jobs.specs.declared.parts.WaitingCopy.{WaitingCopy}
use Rattle.tp_schedule.specs.PlannerAnswers.{Deed, PlannerRules}
use Rattle.tp_schedule.specs.PlannerAnswers.Deed.{replied, settled}
use Rattle.tp_schedule.specs.declared.parts.Reply.TheVariants.{Planned, Never, Spent}
use Rattle.tp_event_rules.specs.Logs.{TakesTrees, right_answers}
use Rattle.tp_schedule.specs.declared.parts.Plan.{Plan}
use Rattle.tp_schedule.specs.declared.records.Cause.{Cause}
use Rattle.tp_schedule.specs.declared.records.Record.{Record}
use Rattle.tp_schedule.specs.declared.records.Record.TheVariants.{Refused}
use Rattle.tp_script.specs.declared.event.Event.{Event}
use Rattle.tp_script.specs.declared.event.Event.TheVariants.{Bad, Job as NewJob, Clock, Jam, Off, On, Refill}
use Rattle.tp_event_rules.specs.AnswerRecords.{Answer}
use Rattle.tp_event_rules.specs.AskPhase.{AsksInTurn, ask_waiting, is_full, is_passed_over}
use Rattle.tp_event_rules.specs.Clock.{clock_move}
use Rattle.tp_event_rules.specs.StateInvariants.{live_part}
use Rattle.tp_event_rules.specs.Loops.{after_one}
use Rattle.tp_event_rules.specs.Planners.{AnswersInTurn, GoesOut, IsRight, PlannerSteps, RunsLoop, right_steps}
use Rattle.tp_event_rules.specs.Refusals.{clock_refusal, refusal}
use Rattle.tp_event_rules.specs.States.{SessionState}
use Rattle.tp_event_rules.specs.Turns.{Accepts, Begins, Turn}
use Rattle.tp_event_rules.proofs.AskSteps.{AsksFirst, TellsFull}
use Rattle.tp_event_turn.specs.Events.{ClockTurn, LiveTurn, MovesClock}
use Rattle.tp_run_laws.specs.CarriedTurns.{DeedsCarry, RightTurns, TreesHaveLines}
use Rattle.tp_run_laws.specs.Runs.{spent_by, tree_claims}
use Rattle.tp_run_laws.proofs.TreeLines.{lines-taken, of-turn}

module _ {P Q : Type 0} (one : PlannerSteps P) (other : PlannerSteps Q) (Fit : P → Type 0) (Together : P → Q → Type 0) (machine : Machine) (carry : DeedsCarry one other Fit Together) where
  abbrev Goes : P → P → (Q → Q → Type 0) → Type 0
  Goes p p' Leads = Fit p' × ((q' : Q) → Together p' q' → (q : Q) × Leads q q' × Together p q)

  -- nothing was done
  stays : (p p' : P) (Leads : Q → Q → Type 0) → Fit p → p' ≡ p → ((q : Q) → Leads q q) → Goes p p' Leads
  stays p p' Leads fit is same = (subst Fit (sym is) fit, λ q' good. (q', same q', subst (λ x. Together x q') is good))

  first_copy : (w : WaitingCopy) (waiting : List WaitingCopy) (passed : List ℕ) (s : SessionState) (p : P) (records : List Record) (s' : SessionState) (p' : P) → Fit p
      → ((passed : List ℕ) (s : SessionState) (p : P) (records : List Record) → Fit p → AsksInTurn one machine waiting passed s p records s' p' → Goes p p' (λ q q'. AsksInTurn other machine waiting passed s q records s' q'))
      → (b c : Bool) → MatchBool b (AsksInTurn one machine waiting passed s p records s' p')
      (MatchBool c (TellsFull one machine w waiting passed s p records s' p') (AsksFirst one machine w waiting passed s p records s' p'))
      → Goes p p' (λ q q'. MatchBool b (AsksInTurn other machine waiting passed s q records s' q')
      (MatchBool c (TellsFull other machine w waiting passed s q records s' q') (AsksFirst other machine w waiting passed s q records s' q')))
  first_copy w waiting passed s p records s' p' fit ih true c h = ih passed s p records fit h
  first_copy w waiting passed s p records s' p' fit ih false true (rest, told, h) =
      let (fit', back) = ih ((tray_of s.jobs w.sheet).0 ∷ passed) s p rest fit h in
      (fit', λ q' good. (let (q, k, fine) = back q' good in (q, (rest, told, k), fine)))
  first_copy w waiting passed s p records s' p' fit ih false false (reply, (plans, (mid, (rest, does, told, h)))) =
      let (fit-mid, step) = carry p mid s.plans plans (replied (ask_waiting machine s w) reply) refl fit does in
      let (fit', back) = ih _ _ mid rest fit-mid h in
      (fit', λ q' good. (let (q-mid, k, fine) = back q' good in let (q, d, good) = step q-mid fine in (q, (reply, (plans, (q-mid, (rest, d, told, k)))), good)))

  asks : (waiting : List WaitingCopy) (passed : List ℕ) (s : SessionState) (p : P) (records : List Record) (s' : SessionState) (p' : P) → Fit p
      → AsksInTurn one machine waiting passed s p records s' p' → Goes p p' (λ q q'. AsksInTurn other machine waiting passed s q records s' q')
  asks [] passed s p records s' p' fit (told, same, is) = stays p p' (λ q q'. (records ≡ []) × (s' ≡ s) × (q' ≡ q)) fit is (λ q. (told, same, refl))
  asks (w ∷ waiting) passed s p records s' p' fit h =
      first_copy w waiting passed s p records s' p' fit (λ passed s p records fit h. asks waiting passed s p records s' p' fit h) (is_passed_over s passed w) (is_full machine s) h

  answers : (s : SessionState) (as' : List Answer) (p p' : P) → Fit p → AnswersInTurn one machine s as' p p' → Goes p p' (λ q q'. AnswersInTurn other machine s as' q q')
  answers s [] p p' fit is = stays p p' (λ q q'. q' ≡ q) fit is (λ q. refl)
  answers s (a ∷ more) p p' fit (ask, due, (mid, does, h)) =
      let (fit-mid, step) = carry p mid s.plans a.plans (replied ask a.reply) (of-turn machine s ask a.reply due) fit does in
      let (fit', back) = answers (after_one machine s a).state more mid p' fit-mid h in
      (fit', λ q' good. (let (q-mid, k, fine) = back q' good in let (q, d, good) = step q-mid fine in (q, (ask, due, (q-mid, d, k)), good)))

  loop : (s : SessionState) (p : P) (records : List Record) (s' : SessionState) (p' : P) → Fit p → RunsLoop one machine s p records s' p' → Goes p p' (λ q q'. RunsLoop other machine s q records s' q')
  loop s p records s' p' fit h =
      let (fit-mid, first) = answers s h.answers p h.mid fit h.in_turn in
      let (fit', last) = carry h.mid p' _ h.plans (settled s.now) tt fit-mid h.settles in (
        fit',
        λ q' good. (let (q-mid, d, fine) = last q' good in let (q, k, good) = first q-mid fine in
            (q, record { answers = h.answers; mid = q-mid; in_turn = k; none_loose = h.none_loose; plans = h.plans; settles = d; told = h.told; state = h.state }, good)),
      )

  goes_out : (s : SessionState) (m : ℕ) (jam : Bool) (p : P) (records : List Record) (s' : SessionState) (p' : P) → Fit p → GoesOut one machine s m jam p records s' p'
      → Goes p p' (λ q q'. GoesOut other machine s m jam q records s' q')
  goes_out s m jam p records s' p' fit h =
      let (fit', back) = loop _ p h.rest s' p' fit h.loop in
      (fit', λ q' good. (let (q, k, fine) = back q' good in (q, record { rest = h.rest; told = h.told; loop = k }, fine)))

  begins : (event : Event) (s : SessionState) (p : P) (records : List Record) (s' : SessionState) (p' : P) → Fit p → Begins one machine event s p records s' p'
      → Goes p p' (λ q q'. Begins other machine event s q records s' q')
  begins Bad s p records s' p' fit h = absurd h
  begins (NewJob name tray media groups) s p records s' p' fit (told, same, is) = stays p p' (λ q q'. Begins other machine (NewJob name tray media groups) s q records s' q') fit is (λ q. (told, same, refl))
  begins (Clock to) s p records s' p' fit (told, same, is) = stays p p' (λ q q'. Begins other machine (Clock to) s q records s' q') fit is (λ q. (told, same, refl))
  begins (Jam name) s p records s' p' fit (m, found, h) =
      let (fit', back) = goes_out s m true p records s' p' fit h in (fit', λ q' good. (let (q, k, fine) = back q' good in (q, (m, found, k), fine)))
  begins (Off name) s p records s' p' fit (m, found, h) =
      let (fit', back) = goes_out s m false p records s' p' fit h in (fit', λ q' good. (let (q, k, fine) = back q' good in (q, (m, found, k), fine)))
  begins (On name) s p records s' p' fit (m, found, told, same, is) = stays p p' (λ q q'. Begins other machine (On name) s q records s' q') fit is (λ q. (m, found, told, same, refl))
  begins (Refill name count) s p records s' p' fit (f, found, told, same, is) = stays p p' (λ q q'. Begins other machine (Refill name count) s q records s' q') fit is (λ q. (f, found, told, same, refl))

  accepts : (event : Event) (s : SessionState) (p : P) (records : List Record) (s' : SessionState) (p' : P) → Fit p → Accepts one machine event s p records s' p'
      → Goes p p' (λ q q'. Accepts other machine event s q records s' q')
  accepts event s p records s' p' fit h =
      let (fit-mid, first) = begins event s p h.first h.between h.mid fit h.begins in
      let (fit', last) = asks h.between.waiting [] h.between h.mid h.rest s' p' fit-mid h.asks in (
        fit',
        λ q' good. (let (q-mid, k, fine) = last q' good in let (q, b, good) = first q-mid fine in
            (q, record { first = h.first; between = h.between; mid = q-mid; begins = b; rest = h.rest; asks = k; told = h.told }, good)),
      )

  pub turn : (event : Event) (s s' : SessionState) (records : List Record) (p p' : P) → Fit p → Turn one machine event s p records s' p' → Goes p p' (λ q q'. Turn other machine event s q records s' q')
  turn event s s' records p p' fit h = go (refusal machine s event) h
    where
      go : (o : Option Cause) → MatchOption o (Accepts one machine event s p records s' p') (λ cause. (records ≡ Refused cause ∷ []) × (s' ≡ s) × (p' ≡ p))
          → Goes p p' (λ q q'. MatchOption o (Accepts other machine event s q records s' q') (λ cause. (records ≡ Refused cause ∷ []) × (s' ≡ s) × (q' ≡ q)))
      go None h = accepts event s p records s' p' fit h
      go (Some cause) (told, same, is) = stays p p' (λ q q'. (records ≡ Refused cause ∷ []) × (s' ≡ s) × (q' ≡ q)) fit is (λ q. (told, same, refl))

  -- the phase of asks after a move of the clock
  moved : (to : ℕ) (s s' : SessionState) (records : List Record) (p p' : P) → Fit p → ClockTurn one machine to s p records s' p' → Goes p p' (λ q q'. ClockTurn other machine to s q records s' q')
  moved to s s' records p p' fit h = go (clock_refusal s.now to) h
    where
      go : (o : Option Cause) → MatchOption o (MovesClock one machine to s p records s' p') (λ cause. (records ≡ Refused cause ∷ []) × (s' ≡ s) × (p' ≡ p))
          → Goes p p' (λ q q'. MatchOption o (MovesClock other machine to s q records s' q') (λ cause. (records ≡ Refused cause ∷ []) × (s' ≡ s) × (q' ≡ q)))
      go None h =
          let between = live_part machine (clock_move machine to s).state in
          let (fit', back) = asks between.waiting [] between p h.rest s' p' fit h.asks in
          (fit', λ q' good. (let (q, k, fine) = back q' good in (q, record { rest = h.rest; asks = k; told = h.told }, fine)))
      go (Some cause) (told, same, is) = stays p p' (λ q q'. (records ≡ Refused cause ∷ []) × (s' ≡ s) × (q' ≡ q)) fit is (λ q. (told, same, refl))

  pub live-turn : (event : Event) (s s' : SessionState) (records : List Record) (p p' : P) → Fit p → LiveTurn one machine event s p records s' p' → Goes p p' (λ q q'. LiveTurn other machine event s q records s' q')
  live-turn Bad s s' records p p' fit h = turn Bad s s' records p p' fit h
  live-turn (NewJob name tray media groups) s s' records p p' fit h = turn (NewJob name tray media groups) s s' records p p' fit h
  live-turn (Clock to) s s' records p p' fit h = moved to s s' records p p' fit h
  live-turn (Jam name) s s' records p p' fit h = turn (Jam name) s s' records p p' fit h
  live-turn (Off name) s s' records p p' fit h = turn (Off name) s s' records p p' fit h
  live-turn (On name) s s' records p p' fit h = turn (On name) s s' records p p' fit h
  live-turn (Refill name count) s s' records p p' fit h = turn (Refill name count) s s' records p p' fit h

module _ {P : Type 0} (rules : PlannerRules P) (machine : Machine) where
  -- a planner that answers rightly, with its own number of nodes and its own trees, gives right answers
  pub right_turns : RightTurns rules machine
  right_turns nodes bounds trees keeps shows event s s' records p p' empty h =
      let (same, back) = turn (right_steps rules machine) (right_answers tree_claims (bounds p) (spent_by (nodes p)) machine) (λ x. (nodes x ≡ nodes p) × (bounds x ≡ bounds p))
      (λ x q. trees p' ≡ trees x ++ q) machine carry event s s' records p p' (refl, refl) h in
      let (q, told, all) = back [] (sym (append-nil (trees p'))) in
      let is : q ≡ trees p' = sym (all ∙ ap (λ ts. ts ++ q) empty) in
      (subst (λ q. Turn (right_answers tree_claims (bounds p) (spent_by (nodes p)) machine) machine event s q records s' []) is told, same.0)
    where
      right : (x : P) (plans plans' : List Plan) (deed : Deed) → nodes x ≡ nodes p → IsRight (rules.spent x) machine plans deed plans' → IsRight (spent_by (nodes p)) machine plans deed plans'
      right x plans plans' (replied ask Planned) e k = k
      right x plans plans' (replied ask Never) e k = k
      right x plans plans' (replied ask (Spent bound)) e k = (k.0, subst (λ n. spent_by n machine plans ask bound) e (keeps.counted x plans ask bound k.1))
      right x plans plans' (settled now) e k = k

      carry : DeedsCarry (right_steps rules machine) (right_answers tree_claims (bounds p) (spent_by (nodes p)) machine) (λ x. (nodes x ≡ nodes p) × (bounds x ≡ bounds p)) (λ x q. trees p' ≡ trees x ++ q)
      carry x x' plans plans' deed of_turn (e, b) (r, step) = (
        (keeps.same x x' plans plans' deed step ∙ e, shows.same x x' plans plans' deed step ∙ b),
        λ q' all. (let (now, takes, grows) = shows.shown x x' plans plans' deed step q' in
            (now, (right x plans plans' deed e r, subst (λ c. TakesTrees tree_claims machine c now plans deed plans' q') b takes), all ∙ grows)),
      )

  -- each tree of a turn is a bound tree of its ask, so that it has lines
  pub trees-have_lines : TreesHaveLines rules machine
  trees-have_lines bounds trees shows event s s' records p p' empty h =
      let (same, back) = live-turn (right_steps rules machine) anyone (λ x. Unit {0}) (λ x q. (trees p' ≡ trees x ++ q) × All IsPrintable q) machine carry event s s' records p p' tt h in
      let (q, told, (all, lines)) = back [] (sym (append-nil (trees p')), All-nil IsPrintable) in
      subst (All IsPrintable) (sym (all ∙ ap (λ ts. ts ++ q) empty)) lines
    where
      anyone : PlannerSteps (List BoundTree)
      anyone = record { does = λ trees plans deed plans' trees'. Unit {0}; stops = λ trees plans what trees'. ⊥ }

      carry : DeedsCarry (right_steps rules machine) anyone (λ x. Unit {0}) (λ x q. (trees p' ≡ trees x ++ q) × All IsPrintable q)
      carry x x' plans plans' deed of_turn fit (r, step) = (
        tt,
        λ q' good. (let (now, takes, grows) = shows.shown x x' plans plans' deed step q' in
            (now, tt, (good.0 ∙ grows, lines-taken machine (bounds x) now q' plans plans' deed of_turn takes good.1))),
      )
