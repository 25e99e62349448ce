-- An outage, its loop and its settling over the planner that is given its answers go as those of right answers do.
use Rattle.std.proofs.Common.{◌≡◌, ◌≢◌, ℕ, Bool, true, false, List, [], ◌∷◌, ◌++◌, refl, sym, ap, subst, ◌∙◌, AllPairs, Option, Some, None, append_assoc}
use Rattle.std.proofs.lemmas.Option.{same_Some}
use Rattle.tp_bounds.specs.declared.tree.BoundTree.{BoundTree}
use Rattle.tp_machine.specs.declared.machine.Machine.{Machine}
use Rattle.tp_schedule.specs.PlannerAnswers.Deed.{replied, settled}
use Rattle.tp_schedule.specs.PlannerAnswers.Due.{asking, settling}
use Rattle.tp_schedule.specs.Plans.{AreNamed}
use Rattle.tp_schedule.specs.declared.parts.Ask.{Ask}
use Rattle.tp_schedule.specs.declared.parts.Plan.{Plan}
use Rattle.tp_schedule.specs.declared.records.Record.{Record}
use Rattle.tp_log_planner.specs.Stops.{StopsAt}
use Rattle.tp_log_planner.specs.ToldAnswers.{TakesOn, TellsSettled, ToldValue, ahead, behind_asides}
use Rattle.tp_event_rules.specs.AnswerRecords.{Answer, moves, told_of_reply}
use Rattle.tp_event_rules.specs.Loops.{after_answers, after_one, after_reply, due, due_by, next_ask}
use Rattle.tp_event_rules.specs.Outages.{outage}
use Rattle.tp_event_rules.specs.Planners.{AnswersInTurn, GoesOut, IsRight, RunsLoop, StopsGoingOut, StopsInLoop}
use Rattle.tp_event_rules.specs.States.{SessionState}
use Rattle.tp_outage_laws.proofs.Falls.{Falls, none_breaks}
use Rattle.tp_outage_laws.proofs.OutageFalls.{falls-outage}
use Rattle.tp_outage_laws.proofs.OutagesKeep.{any_outset}
use Rattle.tp_run_laws.specs.Runs.{items_with}
use Rattle.tp_event_rules.specs.Logs.{spent_on_trust}
use Rattle.tp_log_laws.specs.EntryTurns.{told_steps}
use Rattle.tp_log_laws.proofs.AlongAsks.{IsAhead, lawful_steps, no-stop, same-answer}
use Rattle.tp_log_laws.proofs.Asides.{other-after, other-outage}
use Rattle.tp_log_laws.proofs.Names.{falls-named}
use Rattle.tp_log_laws.proofs.OneAnswer.{AnswersFirst, Ends, here-after, mids-after, parted, stays-behind, told_from, whole-told}
use Rattle.tp_log_laws.proofs.Places.{IsOver, IsParted, all-moves, is_plan_reply, moves-first, none-of_plan, of_plan, reply-over, skip, TellsMovesFirst}
use Rattle.tp_log_laws.proofs.Still.{StaysSettled}

-- the items to come are those of the records, behind a plan or not
abbrev pub AreLeft : ToldValue → List Record → List BoundTree → Type 0
AreLeft p records trees = (b : Bool) × IsAhead p b records trees

same-end : (machine : Machine) (s : SessionState) (o : Option Ask) (ask : Ask) → next_ask machine s ≡ o → o ≡ None → next_ask machine s ≡ Some ask → ⊥
same-end machine s o ask e none some = let no : Some ask ≡ None = sym some ∙ e ∙ none in cc

pub lawful-first : (machine : Machine) → AnswersFirst (lawful_steps machine) machine
lawful-first machine = record {
  right = λ p plans deed plans' p' does. does.0;
  over = λ p p' plans ask reply plans' does records. reply-over machine plans ask plans' records reply p p' does.1;
}

module _ (machine : Machine) (start : SessionState) (names : AllPairs (λ i j. i.name ≢ j.name) start.jobs) (rest : List Record) (over : IsOver rest) (q' : List BoundTree) (now : ℕ) (plans : List Plan) where
  abbrev InMidst : SessionState → Type 0
  InMidst s = Falls machine (any_outset start) none_breaks s []

  abbrev told_here : SessionState → List Answer → List Record
  told_here s answers = told_from (lawful_steps machine) machine (lawful-first machine) start rest over q' now plans s answers

  abbrev EndsHere : SessionState → List Answer → List BoundTree → Type 0
  EndsHere s answers mid = Ends (lawful_steps machine) machine (lawful-first machine) start rest over q' now plans s answers mid

  -- over the told planner the loop has the same answers and the same settling
  abbrev Goes : SessionState → List Answer → ToldValue → Type 0
  Goes s answers p =
      (answers2 : List Answer) (mid2 p2 : ToldValue) (plans2 : List Plan) → AnswersInTurn (told_steps machine) machine s answers2 p mid2 → next_ask machine (after_answers machine answers2 s).state ≡ None
      → (told_steps machine).does mid2 (after_answers machine answers2 s).state.plans (settled now) plans2 p2 → (answers2 ≡ answers) × (plans2 ≡ plans) × AreLeft p2 rest q'

  abbrev GoesOn : SessionState → ToldValue → Type 0
  GoesOn s p =
      (answers2 : List Answer) (mid2 p2 : ToldValue) → AnswersInTurn (told_steps machine) machine s answers2 p mid2
      → (told_steps machine).stops mid2 (after_answers machine answers2 s).state.plans (due machine (after_answers machine answers2 s).state) p2 → ⊥

  -- ---- the settling
  module _ (s : SessionState) (here : now ≡ s.now) (mids : InMidst s) (mid : List BoundTree) (ends : EndsHere s [] mid) (p : ToldValue) (b : Bool) (stays : b ≡ true → StaysSettled machine s) (at : IsAhead p b (told_here s []) mid) where
    named : AreNamed s.plans
    named = falls-named machine start s names mids

    still : b ≡ true → moves s.plans plans ≡ []
    still e = stays e plans (subst (λ n. IsRight spent_on_trust machine s.plans (settled n) plans) here ends.1.0)

    first : TellsMovesFirst (ahead p) (moves s.plans plans) b rest mid
    first = moves-first (ahead p) b (moves s.plans plans) rest mid (all-moves s.plans plans) still over at

    tells : TellsSettled machine s.plans now (ahead p) plans first.rest
    tells = record { told = first.told; over = first.over; settles = ends.1.0 }

    settles-so : (plans2 : List Plan) (p2 : ToldValue) → TakesOn p machine s.plans (settled now) plans2 p2 → (plans2 ≡ plans) × AreLeft p2 rest q'
    settles-so plans2 p2 takes =
        let one = takes.only named plans first.rest tells in
        (sym one.0, (b, ap behind_asides (sym one.1) ∙ first.left ∙ ap (λ ts. behind_asides (items_with b rest ts)) (sym ends.1.1)))

    due-is : (o : Option Ask) → o ≡ None → due_by s.now o ≡ settling now
    due-is o e = ap (due_by s.now) e ∙ ap (λ n. settling n) (sym here)

    goes-settled : Goes s [] p
    goes-settled [] mid2 p2 plans2 in_turn none does =
        let one = settles-so plans2 p2 (subst (λ x. TakesOn x machine s.plans (settled now) plans2 p2) in_turn does.1) in
        (refl, one.0, one.1)
    goes-settled (a ∷ answers) mid2 p2 plans2 (ask, e, next) none does = absurd (same-end machine s None ask ends.0 refl e)

    halts-settled : GoesOn s p
    halts-settled [] mid2 p2 in_turn stops =
        let here2 : StopsAt p machine s.plans (due machine s) p2 = subst (λ x. StopsAt x machine s.plans (due machine s) p2) in_turn stops in
        let at2 : StopsAt p machine s.plans (settling now) p2 = subst (λ d. StopsAt p machine s.plans d p2) (due-is (next_ask machine s) ends.0) here2 in
        at2.denied named (plans, (first.rest, tells))
    halts-settled (a ∷ answers) mid2 p2 (ask, e, next) stops = same-end machine s None ask ends.0 refl e

  -- ---- one answer
  module _ (s : SessionState) (here : now ≡ s.now) (mids : InMidst s) (a : Answer) (answers : List Answer) (q next mid : List BoundTree) (ask : Ask) (e : next_ask machine s ≡ Some ask)
      (does : (lawful_steps machine).does q s.plans (replied ask a.reply) a.plans next) where
    abbrev after : SessionState
    after = (after_one machine s a).state

    abbrev behind_reply : List Record
    behind_reply = (after_reply machine ask a.reply a.plans s).records ++ told_here after answers

    whole : told_here s (a ∷ answers) ≡ told_of_reply machine s.plans ask a.reply a.plans ++ behind_reply
    whole = whole-told (lawful_steps machine) machine (lawful-first machine) start rest over q' now plans s ask a answers e

    module _ (in_turn : AnswersInTurn (lawful_steps machine) machine after answers next mid) (ends : EndsHere after answers mid) where
      nothing-behind : IsParted a.reply behind_reply
      nothing-behind = parted (lawful_steps machine) machine (lawful-first machine) start rest over q' now plans s here mids a q next ask e does answers mid in_turn ends

      settled-behind : (c : Bool) → is_plan_reply a.reply ≡ c → of_plan c (after_reply machine ask a.reply a.plans s).records ≡ true → StaysSettled machine after
      settled-behind = stays-behind (lawful_steps machine) machine (lawful-first machine) start rest over q' now plans s here mids a q next ask e does

      module _ (p : ToldValue) (b : Bool) (at : IsAhead p b (told_here s (a ∷ answers)) q)
          (on : (p : ToldValue) (b : Bool) → (b ≡ true → StaysSettled machine after) → IsAhead p b (told_here after answers) next → Goes after answers p × GoesOn after p) where
        at-reply : IsAhead p b (told_of_reply machine s.plans ask a.reply a.plans ++ behind_reply) q
        at-reply = subst (λ rs. IsAhead p b rs q) whole at

        named-here : AreNamed s.plans
        named-here = falls-named machine start s names mids

        -- behind the answer
        behind : (p2 : ToldValue) → ahead p2 ≡ items_with (is_plan_reply a.reply) behind_reply next → Goes after answers p2 × GoesOn after p2
        behind p2 left =
            on p2 (of_plan (is_plan_reply a.reply) (after_reply machine ask a.reply a.plans s).records) (settled-behind (is_plan_reply a.reply) refl)
            (ap behind_asides left ∙ skip (is_plan_reply a.reply) (after_reply machine ask a.reply a.plans s).records (told_here after answers) next (other-after machine ask a.reply a.plans s))

        record SameFirst (a2 : Answer) (m2 : ToldValue) : Type 0 where
          same : a2 ≡ a
          left : ahead m2 ≡ items_with (is_plan_reply a.reply) behind_reply next

        same-first : (a2 : Answer) (m2 : ToldValue) (ask2 : Ask) → next_ask machine s ≡ Some ask2 → (told_steps machine).does p s.plans (replied ask2 a2.reply) a2.plans m2 → SameFirst a2 m2
        same-first a2 m2 ask2 e2 does2 =
            let ask-is : ask2 ≡ ask = same_Some ask2 ask (sym e2 ∙ e) in
            let takes = subst (λ x. TakesOn p machine s.plans (replied x a2.reply) a2.plans m2) ask-is does2.1 in
            let one = same-answer machine s.plans ask a.reply a.plans behind_reply q next p b named-here does nothing-behind at-reply a2.reply a2.plans m2 takes in
            record { same = λ k. record { reply = one.0 k; plans = one.1 k }; left = one.2 }

        goes-one : Goes s (a ∷ answers) p
        goes-one [] mid2 p2 plans2 in2 none2 does2 = absurd (same-end machine s None ask none2 refl e)
        goes-one (a2 ∷ answers2) mid2 p2 plans2 (ask2, e2, (m2, does1, in2)) none2 does2 =
            let f = same-first a2 m2 ask2 e2 does1 in
            let in3 = subst (λ x. AnswersInTurn (told_steps machine) machine (after_one machine s x).state answers2 m2 mid2) f.same in2 in
            let none3 = subst (λ x. next_ask machine (after_answers machine answers2 (after_one machine s x).state).state ≡ None) f.same none2 in
            let does3 = subst (λ x. (told_steps machine).does mid2 (after_answers machine answers2 (after_one machine s x).state).state.plans (settled now) plans2 p2) f.same does2 in
            let end = (behind m2 f.left).0 answers2 mid2 p2 plans2 in3 none3 does3 in
            (λ k. f.same k ∷ end.0 k, end.1, end.2)

        halts-one : GoesOn s p
        halts-one [] mid2 p2 in2 stops =
            let here2 : StopsAt p machine s.plans (due machine s) p2 = subst (λ x. StopsAt x machine s.plans (due machine s) p2) in2 stops in
            let at2 : StopsAt p machine s.plans (asking ask) p2 = subst (λ d. StopsAt p machine s.plans d p2) (ap (due_by s.now) e) here2 in
            no-stop machine s.plans ask a.reply a.plans behind_reply q next p b named-here does nothing-behind at-reply p2 at2
        halts-one (a2 ∷ answers2) mid2 p2 (ask2, e2, (m2, does1, in2)) stops =
            let f = same-first a2 m2 ask2 e2 does1 in
            let in3 = subst (λ x. AnswersInTurn (told_steps machine) machine (after_one machine s x).state answers2 m2 mid2) f.same in2 in
            let stops3 = subst (λ x. (told_steps machine).stops mid2 (after_answers machine answers2 (after_one machine s x).state).state.plans (due machine (after_answers machine answers2 (after_one machine s x).state).state) p2) f.same stops in
            (behind m2 f.left).1 answers2 mid2 p2 in3 stops3

  -- ---- all answers
  pub loop-along : (answers : List Answer) (s : SessionState) (q mid : List BoundTree) → AnswersInTurn (lawful_steps machine) machine s answers q mid → EndsHere s answers mid → now ≡ s.now → InMidst s
      → (p : ToldValue) (b : Bool) → (b ≡ true → StaysSettled machine s) → IsAhead p b (told_here s answers) q → Goes s answers p × GoesOn s p
  loop-along [] s q mid in_turn ends here mids p b stays at =
      let at' = subst (λ ts. IsAhead p b (told_here s []) ts) (sym in_turn) at in (
        goes-settled s here mids mid ends p b stays at',
        halts-settled s here mids mid ends p b stays at',
      )
  loop-along (a ∷ answers) s q mid (ask, e, (next, does, in_turn)) ends here mids p b stays at =
      let on = λ (p2 : ToldValue) (b2 : Bool) (stays2 : b2 ≡ true → StaysSettled machine (after_one machine s a).state) (at2 : IsAhead p2 b2 (told_here (after_one machine s a).state answers) next).
      loop-along answers (after_one machine s a).state next mid in_turn ends (here-after (lawful_steps machine) machine (lawful-first machine) start rest over q' now plans s here mids a q next ask e does)
      (mids-after (lawful_steps machine) machine (lawful-first machine) start rest over q' now plans s here mids a q next ask e does) p2 b2 stays2 at2 in (
        goes-one s here mids a answers q next mid ask e does in_turn ends p b at on,
        halts-one s here mids a answers q next mid ask e does in_turn ends p b at on,
      )

-- ---- a module goes out
module _ (machine : Machine) (start : SessionState) (names : AllPairs (λ i j. i.name ≢ j.name) start.jobs) (rest : List Record) (over : IsOver rest) where
  abbrev RunsAlike : SessionState → ToldValue → List Record → SessionState → List BoundTree → Type 0
  RunsAlike s p records s' q' = (records2 : List Record) (s2 : SessionState) (p2 : ToldValue) → RunsLoop (told_steps machine) machine s p records2 s2 p2 → (records2 ≡ records) × (s2 ≡ s') × AreLeft p2 rest q'

  abbrev NeverStopsIn : SessionState → ToldValue → Type 0
  NeverStopsIn s p = (records2 : List Record) (p2 : ToldValue) → StopsInLoop (told_steps machine) machine s p records2 p2 → ⊥

  runs-along : (s : SessionState) (q : List BoundTree) (records : List Record) (s' : SessionState) (q' : List BoundTree) → RunsLoop (lawful_steps machine) machine s q records s' q' → Falls machine (any_outset start) none_breaks s []
      → (p : ToldValue) → IsAhead p false (records ++ rest) q → RunsAlike s p records s' q' × NeverStopsIn s p
  runs-along s q records s' q' runs mids p at =
      let t = (after_answers machine runs.answers s).state in
      let told : records ++ rest ≡ (after_answers machine runs.answers s).records ++ (moves t.plans runs.plans ++ rest) =
      ap (λ rs. rs ++ rest) runs.told ∙ append_assoc (after_answers machine runs.answers s).records (moves t.plans runs.plans) rest in
      let both = loop-along machine start names rest over q' s.now runs.plans runs.answers s q runs.mid runs.in_turn (runs.none_loose, runs.settles) refl mids p false (λ e. absurd (cc)) (subst (λ rs. IsAhead p false rs q) told at) in (
        λ records2 s2 p2 runs2. (
            let one = both.0 runs2.answers runs2.mid p2 runs2.plans runs2.in_turn runs2.none_loose runs2.settles in (
              runs2.told ∙ (λ k. (after_answers machine (one.0 k) s).records ++ moves (after_answers machine (one.0 k) s).state.plans (one.1 k)) ∙ sym runs.told,
              runs2.state ∙ (λ k. record (after_answers machine (one.0 k) s).state { plans = one.1 k }) ∙ sym runs.state,
              one.2,
            )),
        λ records2 p2 stops. both.1 stops.answers stops.mid p2 stops.in_turn stops.stops,
      )

  pub out-along : (s : SessionState) (m : ℕ) (jam : Bool) (q : List BoundTree) (records : List Record) (s' : SessionState) (q' : List BoundTree) → GoesOut (lawful_steps machine) machine s m jam q records s' q'
      → Falls machine (any_outset start) none_breaks s [] → (p : ToldValue) → IsAhead p false (records ++ rest) q
      → ((records2 : List Record) (s2 : SessionState) (p2 : ToldValue) → GoesOut (told_steps machine) machine s m jam p records2 s2 p2 → (records2 ≡ records) × (s2 ≡ s') × AreLeft p2 rest q')
      × ((records2 : List Record) (p2 : ToldValue) → StopsGoingOut (told_steps machine) machine s m jam p records2 p2 → ⊥)
  out-along s m jam q records s' q' out mids p at =
      let o = outage machine m jam s in
      let others = other-outage machine m jam s in
      let told : records ++ rest ≡ o.records ++ (out.rest ++ rest) = ap (λ rs. rs ++ rest) out.told ∙ append_assoc o.records out.rest rest in
      let at' : IsAhead p false (out.rest ++ rest) q =
      subst (λ rs. IsAhead p false rs q) told at ∙ skip false o.records (out.rest ++ rest) q others ∙ ap (λ b. behind_asides (items_with b (out.rest ++ rest) q)) (none-of_plan o.records others) in
      let both = runs-along o.state q out.rest s' q' out.loop (falls-outage machine (any_outset start) m jam s mids) p at' in (
        λ records2 s2 p2 out2. (let one = both.0 out2.rest s2 p2 out2.loop in (out2.told ∙ ap (λ rs. o.records ++ rs) one.0 ∙ sym out.told, one.1, one.2)),
        λ records2 p2 out2. both.1 out2.rest p2 out2.loop,
      )
