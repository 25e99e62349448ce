-- A turn over the planner that is given an event's items, and takes them all: they stand as those of its records and trees.
use Rattle.std.proofs.Common.{◌≡◌, ℕ, Bool, true, false, List, [], ◌∷◌, ◌++◌, refl, sym, ap, subst, ◌∙◌, drop, zero, suc, Option, Some, None, append_assoc}
use Rattle.std.specs.Bool.{MatchBool}
use Rattle.std.specs.Prelude.{IsFalse}
use Rattle.std.proofs.lemmas.List.Elements.{All-tail}
use Rattle.tp_log.specs.Logs.{is_echo}
use Rattle.tp_log.specs.declared.item.Item.{Item}
use Rattle.std.specs.Option.{MatchOption}
use Rattle.tp_bounds.specs.declared.tree.BoundTree.{BoundTree}
use Rattle.tp_log_check.specs.Gathered.{ArePlain}
use Rattle.tp_jobs.specs.Backlogs.{tray_of}
use Rattle.tp_jobs.specs.declared.parts.WaitingCopy.{WaitingCopy}
use Rattle.tp_log_laws.specs.EntryTurns.{told_steps}
use Rattle.tp_log_laws.proofs.AlongAsks.{IsAhead, over-full, parted-by}
use Rattle.tp_log_laws.proofs.Asides.{other-after, other-clock, other-outage}
use Rattle.tp_log_laws.proofs.Names.{live-through}
use Rattle.tp_log_laws.proofs.OneAnswer.{AnswersFirst, Ends, InMidst, here-after, mids-after, parted, stays-behind, told_from, whole-told}
use Rattle.tp_log_laws.proofs.Places.{IsOver, all-moves, is_plan_reply, none-of_plan, of_plan, over-none, reply-over, skip}
use Rattle.tp_log_laws.proofs.Still.{StaysSettled}
use Rattle.tp_machine.specs.declared.machine.Machine.{Machine}
use Rattle.tp_outage_laws.proofs.OutageFalls.{falls-outage}
use Rattle.tp_outage_laws.proofs.OutagesKeep.{any-sheets, any_outset}
use Rattle.tp_outage_laws.proofs.Starts.{starts}
use Rattle.tp_outage_laws.specs.Through.{KeepsThrough}
use Rattle.tp_run_laws.specs.Proved.{records_in}
use Rattle.tp_run_laws.specs.Runs.{items_with}
use Rattle.tp_schedule.specs.PlannerAnswers.Deed.{replied, settled}
use Rattle.tp_schedule.specs.declared.parts.Plan.{Plan}
use Rattle.tp_schedule.specs.declared.parts.Reply.{Reply}
use Rattle.tp_schedule.specs.declared.records.Cause.{Cause}
use Rattle.tp_schedule.specs.declared.records.Record.{Record}
use Rattle.tp_schedule.specs.declared.records.Record.TheVariants.{FullUp, Refused}
use Rattle.tp_script.specs.declared.event.Event.{Event}
use Rattle.tp_script.specs.declared.event.Event.TheVariants.{Bad, Job as NewJob, Clock, Jam, Off, On, Refill}
use Rattle.tp_log_planner.specs.ToldAnswers.{TakesOn, ToldValue, ahead, behind_asides}
use Rattle.tp_event_rules.specs.AnswerRecords.{Answer, moves, told_of_reply}
use Rattle.tp_event_rules.specs.AskPhase.{AsksInTurn, ask_waiting, is_full, is_passed_over, passed_after, state_after_reply}
use Rattle.tp_event_rules.specs.Clock.{clock_move, clock_records}
use Rattle.tp_event_rules.specs.StateInvariants.{live_part}
use Rattle.tp_event_rules.specs.Labels.{label}
use Rattle.tp_event_rules.specs.Logs.{spent_on_trust}
use Rattle.tp_event_rules.specs.Laws.{IsNoClock}
use Rattle.tp_event_rules.specs.Loops.{after_answers, after_one, after_reply}
use Rattle.tp_event_rules.specs.Outages.{outage}
use Rattle.tp_event_rules.specs.Planners.{AnswersInTurn, GoesOut, IsRight}
use Rattle.tp_event_rules.specs.Ready.{CanTakeEvents}
use Rattle.tp_event_rules.specs.Refusals.{clock_refusal, refusal}
use Rattle.tp_event_rules.specs.States.{SessionState}
use Rattle.tp_event_rules.specs.Turns.{Accepts, Begins, Turn}
use Rattle.tp_event_rules.proofs.AskSteps.{AsksFirst, TellsFull}
use Rattle.tp_event_turn.specs.Events.{LiveTurn, MovesClock}
use Rattle.tp_log_check.specs.EventEntry.{trees_in}
use Rattle.tp_log_check.specs.Lawful.{AreInPlaces}
use Rattle.tp_log_check.proofs.InPlace.{AreOf, answer-in_place, behind_others, moves-in_place, none-left, others-skip, same-items, same-rest}
use Rattle.tp_log_check.proofs.Judged.{records-with}
use Rattle.tp_log_check.proofs.TakenTrees.{takes-answer}

-- nothing is left but records that tell no answer
pub record IsEnd (p : ToldValue) : Type 0 where
  pub trees : trees_in (ahead p) ≡ []
  pub plain : ArePlain (ahead p)

module _ (machine : Machine) where
  -- where the items to come are of the records, they are theirs in their places
  abbrev Places : ToldValue → List Record → Type 0
  Places p records = AreOf p records → (b : Bool) → IsAhead p b records (trees_in (ahead p))

  answers-first : AnswersFirst (told_steps machine) machine
  answers-first = record {
    right = λ p plans deed plans' p' does. does.0;
    over = λ p p' plans ask reply plans' does records. reply-over machine plans ask plans' records reply (trees_in (ahead p)) (trees_in (ahead p')) (takes-answer machine plans ask (ahead p) (ahead p') plans' reply does.1.told);
  }

  -- the end: no record is left
  at-end : (p : ToldValue) (records : List Record) → IsEnd p → behind_others records ≡ [] → ((b : Bool) (trees : List BoundTree) → behind_asides (items_with b records trees) ≡ []) → Places p records
  at-end p records end none bare of b = none-left (ahead p) end.plain end.trees (of ∙ none) ∙ sym (bare b (trees_in (ahead p)))

  -- ---- the phase of asks
  record Asked (p : ToldValue) (records : List Record) : Type 0 where
    over : IsOver records
    places : Places p records

  abbrev Asks : List WaitingCopy → List ℕ → SessionState → ToldValue → List Record → SessionState → ToldValue → Type 0
  Asks waiting passed s p records s' p' = AsksInTurn (told_steps machine) machine waiting passed s p records s' p'

  asks-places : (waiting : List WaitingCopy) (passed : List ℕ) (s : SessionState) (p : ToldValue) (records : List Record) (s' : SessionState) (p' : ToldValue) → Asks waiting passed s p records s' p' → IsEnd p' → Asked p records
  asks-places [] passed s p records s' p' (told, is, same) end =
      subst (Asked p) (sym told) (record { over = over-none; places = at-end p [] (subst IsEnd same end) refl (λ b trees. refl) })
  asks-places (w ∷ waiting) passed s p records s' p' asks end =
      go (is_passed_over s passed w) (is_full machine s) asks (λ next. asks-places waiting passed s p records s' p' next end)
      (λ rest next. asks-places waiting ((tray_of s.jobs w.sheet).0 ∷ passed) s p rest s' p' next end)
      (λ reply plans mid rest next. asks-places waiting (passed_after reply (tray_of s.jobs w.sheet).0 passed) (state_after_reply s w reply plans) mid rest s' p' next end) where
        full : (rest : List Record) → Asked p rest → Asked p (FullUp (label s.jobs w.sheet) ∷ rest)
        full rest h = record { over = over-full s w rest h.over; places = λ of b. h.places of false }

        first : (reply : Reply) (plans : List Plan) (mid : ToldValue) (rest : List Record) → (told_steps machine).does p s.plans (replied (ask_waiting machine s w) reply) plans mid → Asked mid rest
            → Asked p (told_of_reply machine s.plans (ask_waiting machine s w) reply plans ++ rest)
        first reply plans mid rest does h =
            let ask = ask_waiting machine s w in
            record {
              over = answers-first.over p mid s.plans ask reply plans does rest;
              places = λ of b. (
                  let left = same-rest machine s.plans ask plans p mid rest reply does.1.told of in
                  answer-in_place machine s.plans ask plans p mid rest reply does.1.told (parted-by reply rest h.over) does.0 of (h.places (ap behind_others left) (is_plan_reply reply)) b);
            }

        go : (c d : Bool) → MatchBool c (Asks waiting passed s p records s' p') (MatchBool d (TellsFull (told_steps machine) machine w waiting passed s p records s' p') (AsksFirst (told_steps machine) machine w waiting passed s p records s' p'))
            → (Asks waiting passed s p records s' p' → Asked p records) → ((rest : List Record) → Asks waiting ((tray_of s.jobs w.sheet).0 ∷ passed) s p rest s' p' → Asked p rest)
            → ((reply : Reply) (plans : List Plan) (mid : ToldValue) (rest : List Record) → Asks waiting (passed_after reply (tray_of s.jobs w.sheet).0 passed) (state_after_reply s w reply plans) mid rest s' p' → Asked mid rest)
            → Asked p records
        go true d next over whole answered = over next
        go false true (rest, told, next) over whole answered = subst (Asked p) (sym told) (full rest (whole rest next))
        go false false (reply, (plans, (mid, (rest, does, told, next)))) over whole answered = subst (Asked p) (sym told) (first reply plans mid rest does (answered reply plans mid rest next))

  -- ---- the loop and the settling
  module _ (start : SessionState) (rest : List Record) (over : IsOver rest) (p' : ToldValue) (on : Places p' rest) (now : ℕ) (plans : List Plan) where
    abbrev from : SessionState → List Answer → List Record
    from s answers = told_from (told_steps machine) machine answers-first start rest over p' now plans s answers

    loop-places : (answers : List Answer) (s : SessionState) (p mid : ToldValue) → AnswersInTurn (told_steps machine) machine s answers p mid → Ends (told_steps machine) machine answers-first start rest over p' now plans s answers mid → now ≡ s.now
        → InMidst (told_steps machine) machine answers-first start rest over p' now plans s → (b : Bool) → (b ≡ true → StaysSettled machine s) → AreOf p (from s answers) → IsAhead p b (from s answers) (trees_in (ahead p))
    loop-places [] s p mid in_turn ends here mids b stays of =
        let takes : TakesOn p machine s.plans (settled now) plans p' = subst (λ x. TakesOn x machine s.plans (settled now) plans p') in_turn ends.1.1 in
        let right : IsRight spent_on_trust machine s.plans (settled s.now) plans = subst (λ n. IsRight spent_on_trust machine s.plans (settled n) plans) here ends.1.0 in
        moves-in_place p p' rest on (moves s.plans plans) (all-moves s.plans plans) takes.told.told of b (λ e. stays e plans right)
    loop-places (a ∷ answers) s p mid (ask, e, (next, does, in_turn)) ends here mids b stays of =
        let u = (after_one machine s a).state in
        let asides = (after_reply machine ask a.reply a.plans s).records in
        let others = other-after machine ask a.reply a.plans s in
        let whole = whole-told (told_steps machine) machine answers-first start rest over p' now plans s ask a answers e in
        let of' : AreOf p (told_of_reply machine s.plans ask a.reply a.plans ++ (asides ++ from u answers)) = subst (AreOf p) whole of in
        let left = same-rest machine s.plans ask a.plans p next (asides ++ from u answers) a.reply does.1.told of' in
        let later = loop-places answers u next mid in_turn ends (here-after (told_steps machine) machine answers-first start rest over p' now plans s here mids a p next ask e does)
        (mids-after (told_steps machine) machine answers-first start rest over p' now plans s here mids a p next ask e does) (of_plan (is_plan_reply a.reply) asides)
        (stays-behind (told_steps machine) machine answers-first start rest over p' now plans s here mids a p next ask e does (is_plan_reply a.reply) refl) (ap behind_others left ∙ others-skip asides (from u answers) others) in
        let at : IsAhead next (is_plan_reply a.reply) (asides ++ from u answers) (trees_in (ahead next)) = later ∙ sym (skip (is_plan_reply a.reply) asides (from u answers) (trees_in (ahead next)) others) in
        let bare = parted (told_steps machine) machine answers-first start rest over p' now plans s here mids a p next ask e does answers mid in_turn ends in
        subst (λ rs. IsAhead p b rs (trees_in (ahead p))) (sym whole) (answer-in_place machine s.plans ask a.plans p next (asides ++ from u answers) a.reply does.1.told bare does.0 of' at b)

  -- ---- a module goes out
  out-places : (s : SessionState) → KeepsThrough machine s → (m : ℕ) (jam : Bool) (p : ToldValue) (records : List Record) (s' : SessionState) (p' : ToldValue) → GoesOut (told_steps machine) machine s m jam p records s' p'
      → (rest : List Record) → IsOver rest → Places p' rest → AreOf p (records ++ rest) → IsAhead p false (records ++ rest) (trees_in (ahead p))
  out-places s k m jam p records s' p' out rest over on of =
      let o = outage machine m jam s in
      let runs = out.loop in
      let others = other-outage machine m jam s in
      let t = (after_answers machine runs.answers o.state).state in
      let told : records ++ rest ≡ o.records ++ (out.rest ++ rest) = ap (λ rs. rs ++ rest) out.told ∙ append_assoc o.records out.rest rest in
      let loop : out.rest ++ rest ≡ (after_answers machine runs.answers o.state).records ++ (moves t.plans runs.plans ++ rest) =
      ap (λ rs. rs ++ rest) runs.told ∙ append_assoc (after_answers machine runs.answers o.state).records (moves t.plans runs.plans) rest in
      let mids = falls-outage machine (any_outset s) m jam s (starts machine s k (λ job number. true) (λ job. true) (any-sheets s)) in
      let of' : AreOf p (out.rest ++ rest) = of ∙ ap behind_others told ∙ others-skip o.records (out.rest ++ rest) others in
      let at = loop-places s rest over p' on o.state.now runs.plans runs.answers o.state p runs.mid runs.in_turn (runs.none_loose, runs.settles) refl mids false (λ e. absurd (cc)) (subst (AreOf p) loop of') in
      let at' : IsAhead p false (out.rest ++ rest) (trees_in (ahead p)) = subst (λ rs. IsAhead p false rs (trees_in (ahead p))) (sym loop) at in
      at' ∙ ap (λ b. behind_asides (items_with b (out.rest ++ rest) (trees_in (ahead p)))) (sym (none-of_plan o.records others)) ∙ sym (skip false o.records (out.rest ++ rest) (trees_in (ahead p)) others)
      ∙ ap (λ rs. behind_asides (items_with false rs (trees_in (ahead p)))) (sym told)

  -- ---- a turn
  module _ (s : SessionState) (k : KeepsThrough machine s) where
    -- nothing is reported before the asks
    quiet : (p : ToldValue) (records : List Record) (p' : ToldValue) (rest : List Record) → records ≡ [] → p' ≡ p → Places p' rest → AreOf p (records ++ rest) → IsAhead p false (records ++ rest) (trees_in (ahead p))
    quiet p records p' rest none same on of =
        let on' : Places p rest = subst (λ x. Places x rest) same on in
        let of' : AreOf p rest = of ∙ ap (λ rs. behind_others (rs ++ rest)) none in
        subst (λ rs. IsAhead p false (rs ++ rest) (trees_in (ahead p))) (sym none) (on' of' false)

    begins-places : (event : Event) → IsNoClock event → (p : ToldValue) (records : List Record) (s' : SessionState) (p' : ToldValue) → Begins (told_steps machine) machine event s p records s' p'
        → (rest : List Record) → IsOver rest → Places p' rest → AreOf p (records ++ rest) → IsAhead p false (records ++ rest) (trees_in (ahead p))
    begins-places Bad still p records s' p' begins rest over on of = absurd begins
    begins-places (NewJob name tray media groups) still p records s' p' (told, is, same) rest over on of = quiet p records p' rest told same on of
    begins-places (Clock to) still p records s' p' begins rest over on of = absurd (cc)
    begins-places (Jam name) still p records s' p' (m, known, out) rest over on of = out-places s k m true p records s' p' out rest over on of
    begins-places (Off name) still p records s' p' (m, known, out) rest over on of = out-places s k m false p records s' p' out rest over on of
    begins-places (On name) still p records s' p' (m, known, told, is, same) rest over on of = quiet p records p' rest told same on of
    begins-places (Refill name count) still p records s' p' (f, known, told, is, same) rest over on of = quiet p records p' rest told same on of

    refused : (p : ToldValue) (records : List Record) (p' : ToldValue) (cause : Cause) → records ≡ Refused cause ∷ [] → p' ≡ p → IsEnd p' → AreOf p records → IsAhead p false records (trees_in (ahead p))
    refused p records p' cause told same end of =
        subst (λ rs. AreOf p rs → IsAhead p false rs (trees_in (ahead p))) (sym told) (λ of'. at-end p (Refused cause ∷ []) (subst IsEnd same end) refl (λ b trees. refl) of' false) of

    turn-places : (event : Event) → IsNoClock event → (p : ToldValue) (records : List Record) (s' : SessionState) (p' : ToldValue) → Turn (told_steps machine) machine event s p records s' p' → IsEnd p' → AreOf p records
        → IsAhead p false records (trees_in (ahead p))
    turn-places event still p records s' p' turn end of = go (refusal machine s event) turn where
      go : (o : Option Cause) → MatchOption o (Accepts (told_steps machine) machine event s p records s' p') (λ cause. (records ≡ Refused cause ∷ []) × (s' ≡ s) × (p' ≡ p)) → IsAhead p false records (trees_in (ahead p))
      go (Some cause) (told, is, same) = refused p records p' cause told same end of
      go None a =
          let asked = asks-places a.between.waiting [] a.between a.mid a.rest s' p' a.asks end in
          let at = begins-places event still p a.first a.between a.mid a.begins a.rest asked.over asked.places (of ∙ ap behind_others a.told) in
          subst (λ rs. IsAhead p false rs (trees_in (ahead p))) (sym a.told) at

    clock-places : (to : ℕ) (p : ToldValue) (records : List Record) (s' : SessionState) (p' : ToldValue) → LiveTurn (told_steps machine) machine (Clock to) s p records s' p' → IsEnd p' → AreOf p records → IsAhead p false records (trees_in (ahead p))
    clock-places to p records s' p' turn end of = go (clock_refusal s.now to) turn where
      go : (o : Option Cause) → MatchOption o (MovesClock (told_steps machine) machine to s p records s' p') (λ cause. (records ≡ Refused cause ∷ []) × (s' ≡ s) × (p' ≡ p)) → IsAhead p false records (trees_in (ahead p))
      go (Some cause) (told, is, same) = refused p records p' cause told same end of
      go None a =
          let between = live_part machine (clock_move machine to s).state in
          let others = other-clock machine s to in
          let asked = asks-places between.waiting [] between p a.rest s' p' a.asks end in
          let at = asked.places (of ∙ ap behind_others a.told ∙ others-skip (clock_records machine s to) a.rest others) false in
          at ∙ ap (λ b. behind_asides (items_with b a.rest (trees_in (ahead p)))) (sym (none-of_plan (clock_records machine s to) others)) ∙ sym (skip false (clock_records machine s to) a.rest (trees_in (ahead p)) others)
          ∙ ap (λ rs. behind_asides (items_with false rs (trees_in (ahead p)))) (sym a.told)

    live-places : (event : Event) (p : ToldValue) (records : List Record) (s' : SessionState) (p' : ToldValue) → LiveTurn (told_steps machine) machine event s p records s' p' → IsEnd p' → AreOf p records → IsAhead p false records (trees_in (ahead p))
    live-places Bad p records s' p' turn end of = turn-places Bad refl p records s' p' turn end of
    live-places (NewJob name tray media groups) p records s' p' turn end of = turn-places (NewJob name tray media groups) refl p records s' p' turn end of
    live-places (Clock to) p records s' p' turn end of = clock-places to p records s' p' turn end of
    live-places (Jam name) p records s' p' turn end of = turn-places (Jam name) refl p records s' p' turn end of
    live-places (Off name) p records s' p' turn end of = turn-places (Off name) refl p records s' p' turn end of
    live-places (On name) p records s' p' turn end of = turn-places (On name) refl p records s' p' turn end of
    live-places (Refill name count) p records s' p' turn end of = turn-places (Refill name count) refl p records s' p' turn end of

-- the items are those of the records and of the trees among them
pub items-in_place : (machine : Machine) (copies : ℕ) (s : SessionState) → CanTakeEvents machine copies s → (event : Event) (p : ToldValue) (records : List Record) (s' : SessionState) (p' : ToldValue)
    → LiveTurn (told_steps machine) machine event s p records s' p' → IsEnd p' → records ≡ records_in (ahead p) → ahead p ≡ items_with false records (trees_in (ahead p))
items-in_place machine copies s can event p records s' p' turn end told =
    let at = live-places machine s (live-through machine copies s can.kept) event p records s' p' turn end (ap behind_others (sym told)) in
    same-items (ahead p) (items_with false records (trees_in (ahead p))) at (sym told ∙ sym (records-with false records (trees_in (ahead p))))

plain-drop : (n : ℕ) (items : List Item) → ArePlain items → ArePlain (drop n items)
plain-drop zero items plain = plain
plain-drop (suc n) [] plain = plain
plain-drop (suc n) (item ∷ items) plain = plain-drop n items (All-tail (λ item. IsFalse (is_echo item)) item items plain)

-- so it is where the turn tells their records and leaves no tree
pub judged-places : (machine : Machine) (copies : ℕ) (s : SessionState) → CanTakeEvents machine copies s → (event : Event) (p : ToldValue) → p.at ≡ 0 → (records : List Record) (s' : SessionState) (p' : ToldValue)
    → LiveTurn (told_steps machine) machine event s p records s' p' → records ≡ records_in p.items → trees_in (ahead p') ≡ [] → p'.items ≡ p.items → ArePlain p.items → AreInPlaces p.items
judged-places machine copies s can event p at records s' p' turn told trees same plain =
    let all : ahead p ≡ p.items = ap (λ n. drop n p.items) at in
    let end : IsEnd p' = record { trees = trees; plain = plain-drop p'.at p'.items (subst ArePlain (sym same) plain) } in
    let placed = items-in_place machine copies s can event p records s' p' turn end (told ∙ ap records_in (sym all)) in
    sym all ∙ placed ∙ (λ k. items_with false (told k) (trees_in (all k)))
