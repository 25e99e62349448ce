-- The loop and the settling on the live part are those on the whole state.
use Rattle.tp_event_turn.proofs.PartedChanges.{change-part}
use Rattle.std.proofs.Common.{◌≡◌, ℕ, ◌+◌, ◌<◌, ◌≤◌, Bool, true, false, not, List, [], ◌∷◌, ◌++◌, length, filter, refl, sym, ap, ◌∙◌, arith, Contains, subst, Some, None}
use Rattle.std.proofs.lemmas.Bool.{not_from_false}
use Rattle.tp_machine.specs.ModuleUse.{action_at}
use Rattle.tp_machine.specs.declared.machine.Machine.{Machine}
use Rattle.tp_choices.proofs.PlansLeft.{plan_of-staying}
use Rattle.tp_choices.proofs.Unmoved.{ordered_pair}
use Rattle.tp_choices.specs.LiveParts.{less}
use Rattle.tp_schedule.specs.Answers.{KeepsFloors, acts_in, unmoved}
use Rattle.tp_schedule.specs.Legality.{EndsBefore}
use Rattle.tp_schedule.specs.LivePlans.{is_live}
use Rattle.tp_schedule.specs.PlannerAnswers.{CanPlanOn, IsAnswer, last_tick, none_exempt}
use Rattle.tp_schedule.specs.PlannerAnswers.Deed.{replied, settled}
use Rattle.tp_schedule.specs.Plans.{change_plan, end_of_plan, goes_to, is_before, is_delivered_to, is_front, is_same_copy, plan_of}
use Rattle.tp_schedule.specs.declared.parts.Ask.{Ask}
use Rattle.tp_schedule.specs.declared.parts.Goal.{Goal}
use Rattle.tp_schedule.specs.declared.parts.Goal.TheVariants.{Tray, Purge as ToPurge}
use Rattle.tp_schedule.specs.declared.parts.Plan.{Plan}
use Rattle.tp_schedule.specs.declared.parts.Reply.{Reply}
use Rattle.tp_schedule.specs.declared.parts.Reply.TheVariants.{Planned, Never, Spent}
use Rattle.tp_schedule.specs.declared.parts.SheetId.{SheetId}
use Rattle.tp_schedule.specs.declared.records.Record.{Record}
use Rattle.tp_schedule.specs.declared.records.Record.TheVariants.{Purge, Stuck}
use Rattle.tp_schedule.proofs.CopyFacts.{before-other, plan_of-itself, same_copy-is}
use Rattle.tp_schedule.proofs.Membership.{Contains-filter, Contains-filter_from, Contains-map, Contains-map_from}
use Rattle.tp_choices.proofs.PastFacts.{past_points}
use Rattle.tp_event_rules.proofs.SameMoment.{now-answers}
use Rattle.tp_event_rules.proofs.TestFacts.{list_any-map_same}
use Rattle.tp_event_rules.specs.AnswerRecords.{Answer, moves, told_of_reply}
use Rattle.tp_event_rules.specs.FallBacks.{Displaced, fall_back}
use Rattle.tp_event_rules.specs.Fates.{to_purge}
use Rattle.tp_event_rules.specs.StateInvariants.{KeepsLines, is_planned_among, live_part}
use Rattle.tp_event_rules.specs.Labels.{label, last_of, module_name}
use Rattle.tp_event_rules.specs.Laws.{IsPlannable}
use Rattle.tp_event_rules.specs.Lines.{is_lost}
use Rattle.tp_event_rules.specs.Logs.{spent_on_trust}
use Rattle.tp_event_rules.specs.Loops.{after_answer, after_answers, after_asked, after_one, after_reply, ask_in_flight, module_in, next_ask, not_planned, stuck_module, told_releases}
use Rattle.tp_event_rules.specs.Outages.{outage}
use Rattle.tp_event_rules.specs.Planners.{AnswersInTurn, GoesOut, PlannerSteps, RunsLoop}
use Rattle.tp_event_rules.specs.States.{Outcome, SessionState, told_before}
use Rattle.tp_event_turn.specs.LiveAnswers.{IsAnswerOnWhole, live_at, past_at}
use Rattle.tp_event_turn.specs.LiveTurns.{Follows, OutsPassOn, PassesOutOn, SettlesRightly, right_deeds}
use Rattle.tp_event_turn.proofs.LiveAnswered.{answers-pass_on}
use Rattle.tp_event_turn.proofs.LivePast.{gone-is, gone_at}
use Rattle.tp_event_turn.proofs.LiveSettled.{live-settles_hold}
use Rattle.tp_event_turn.proofs.PartedAnswers.{given_up, parted-given_up, parted-planned, plan-same, state-planned}
use Rattle.tp_event_turn.proofs.PartedAsks.{IsLoose, can-live, due-of, less-is, live-part_is, lost-by_part, next-same, stays, past-is}
use Rattle.tp_event_turn.proofs.PartedFalls.{Alike, Like, alike-fall_back, alike-next}
use Rattle.tp_event_turn.proofs.PartedLists.{gone_from, part}
use Rattle.tp_event_turn.proofs.PartedOutages.{alike-outage}
use Rattle.tp_event_turn.proofs.PartedStates.{IsParted, among-there, planned-there}
use Rattle.tp_stock.specs.Stock.{less_taken}

-- what is right is right on trust
pub on-trust : (spent : Machine → List Plan → Ask → ℕ → Type 0) (machine : Machine) (plans : List Plan) (ask : Ask) (reply : Reply) (plans' : List Plan) → IsAnswer spent machine plans ask reply plans' → IsAnswer spent_on_trust machine plans ask reply plans'
on-trust spent machine plans ask Planned plans' answer = answer
on-trust spent machine plans ask Never plans' answer = answer
on-trust spent machine plans ask (Spent bound) plans' answer = (answer.0, tt)

module _ (machine : Machine) (g : SheetId → Bool) (first : List Plan) where
  like-told : (r r' : List Record) (o q : Outcome) → r ≡ r' → Like machine g first o q → Like machine g first (told_before r o) (told_before r' q)
  like-told r r' o q same like = record { records = λ i. same i ++ like.records i; state = like.state; parted = like.parted }

  -- one answer
  module _ (s : SessionState) (parted : IsParted machine g first s) (p : Plan) (loose : IsLoose machine g first s parted p) where
    abbrev pub the_ask : Ask
    the_ask = ask_in_flight machine s p

    stuck-same : stuck_module machine (part machine g first s) the_ask ≡ stuck_module machine s the_ask
    stuck-same = ap (λ o. module_in (action_at machine (last_of (acts_in o)).0)) (plan_of-staying (λ c. not (g c)) p.sheet s.plans (not_from_false (g p.sheet) (stays machine g first s parted p loose)))

    like-not_planned : (goal : Goal) → Like machine g first (not_planned machine the_ask goal (part machine g first s)) (not_planned machine the_ask goal s)
    like-not_planned (Tray t) =
        let plans = sym (change-part p.sheet to_purge (λ q. refl) g (stays machine g first s parted p loose) s.plans) in
        let state : record (part machine g first s) { plans = change_plan p.sheet to_purge (less g s.plans) } ≡ part machine g first (given_up machine g first s parted p loose) = λ i. record s { plans = plans i; lost = filter (λ c. not (g c)) s.lost; refills = less_taken machine (gone_from g first) s.refills } in
        let d : Displaced = record { sheet = p.sheet; want = p.want; again = true } in
        like-told (Purge (label s.jobs p.sheet) ∷ []) (Purge (label s.jobs p.sheet) ∷ []) (fall_back (record (part machine g first s) { plans = change_plan p.sheet to_purge (less g s.plans) }) d) (fall_back (given_up machine g first s parted p loose) d) refl
        (subst (λ st. Like machine g first (fall_back st d) (fall_back (given_up machine g first s parted p loose) d)) (sym state)
        (alike-fall_back machine g first (given_up machine g first s parted p loose) d (parted-given_up machine g first s parted p loose)))
    like-not_planned ToPurge =
        subst (λ m. Like machine g first (told_before (Stuck (label s.jobs p.sheet) (module_name machine m) ∷ []) (outage machine m.0 true (part machine g first s))) (not_planned machine the_ask ToPurge s)) (sym stuck-same)
        (like-told (Stuck (label s.jobs p.sheet) (module_name machine (stuck_module machine s the_ask)) ∷ []) (Stuck (label s.jobs p.sheet) (module_name machine (stuck_module machine s the_ask)) ∷ []) (outage machine (stuck_module machine s the_ask).0 true (part machine g first s)) (outage machine (stuck_module machine s the_ask).0 true s) refl (alike-outage machine g first (stuck_module machine s the_ask).0 true s parted))

    module _ (live_spent whole_spent : Machine → List Plan → Ask → ℕ → Type 0) where
      like-reply : (reply : Reply) (live : List Plan) → IsAnswer live_spent machine (live_at machine s.now s.plans) the_ask reply live → (on : IsAnswerOnWhole whole_spent machine s.plans the_ask reply live)
          → Like machine g first (after_reply machine the_ask reply live (part machine g first s)) (after_reply machine the_ask reply on.whole s)
      like-reply Planned live answer on = record {
        records = ap (told_releases machine s.jobs (s.now + machine.lead)) (plan-same machine g first s parted p loose live_spent whole_spent live answer on);
        state = state-planned machine g first s parted p loose live_spent whole_spent live answer on;
        parted = parted-planned machine g first s parted p loose live_spent whole_spent live answer on;
      }
      like-reply Never live answer on = like-not_planned p.goal
      like-reply (Spent bound) live answer on = like-not_planned p.goal

      pub like-answer : (reply : Reply) (live : List Plan) → IsAnswer live_spent machine (live_at machine s.now s.plans) the_ask reply live → (on : IsAnswerOnWhole whole_spent machine s.plans the_ask reply live)
          → Like machine g first (after_answer machine (part machine g first s) the_ask (record { reply = reply; plans = live })) (after_answer machine s the_ask (record { reply = reply; plans = on.whole }))
      like-answer reply live answer on =
          like-told (told_of_reply machine (less g s.plans) the_ask reply live) (told_of_reply machine s.plans the_ask reply on.whole) (after_reply machine the_ask reply live (part machine g first s)) (after_reply machine the_ask reply on.whole s)
          (ap (λ ps. told_of_reply machine ps the_ask reply live) (sym (less-is machine g first s parted)) ∙ on.told) (like-reply reply live answer on)

module _ {P Q : Type 0} (on_live : PlannerSteps P) (on_whole : PlannerSteps Q) (machine : Machine) (together : P → Q → Type 0)
    (live_spent whole_spent : P → Machine → List Plan → Ask → ℕ → Type 0) (follows : Follows on_live on_whole machine together live_spent whole_spent)
    (settles_rightly : SettlesRightly on_live machine) (g : SheetId → Bool) (first : List Plan) where
  -- the answers on the whole state
  record AnsweredOn (s : SessionState) (answers : List Answer) (p p' : P) : Type 0 where
    answers' : List Answer
    alike : Alike machine g first (after_answers machine answers (part machine g first s)) (after_answers machine answers' s)
    right : AnswersInTurn (right_deeds machine) machine s answers' tt tt
    back : (q' : Q) → together p' q' → (q : Q) × AnswersInTurn on_whole machine s answers' q q' × together p q

  answers-on : (answers : List Answer) (s : SessionState) (p p' : P) → IsParted machine g first s → AnswersInTurn on_live machine (part machine g first s) answers p p' → AnsweredOn s answers p p'
  answers-on [] s p p' parted same = record {
    answers' = [];
    alike = record { records = refl; state = refl; parted = parted };
    right = refl;
    back = λ q' goes. (q', refl, subst (λ r. together r q') same goes);
  }
  answers-on (a ∷ answers) s p p' parted (ask, e, (mid, does, rest)) =
      let due = due-of machine g first s parted ask (sym (next-same machine g first s parted) ∙ e) in
      subst (λ k. next_ask machine (part machine g first s) ≡ Some k → on_live.does p (less g s.plans) (replied k a.reply) a.plans mid → AnsweredOn s (a ∷ answers) p p') due.2 (one due.0 due.1 (λ next q kept in_turn. answers-on answers next q p' kept in_turn)) e does where
        one : (w : Plan) (loose : IsLoose machine g first s parted w) → ((next : SessionState) (q : P) → IsParted machine g first next → AnswersInTurn on_live machine (part machine g first next) answers q p' → AnsweredOn next answers q p')
            → next_ask machine (part machine g first s) ≡ Some (ask_in_flight machine s w)
            → on_live.does p (less g s.plans) (replied (ask_in_flight machine s w) a.reply) a.plans mid → AnsweredOn s (a ∷ answers) p p'
        one w loose others e1 does =
            let the = ask_in_flight machine s w in
            let e2 : next_ask machine s ≡ Some the = sym (next-same machine g first s parted) ∙ e1 in
            let can = can-live machine g first s parted w loose in
            let does' = subst (λ ps. on_live.does p ps (replied the a.reply) a.plans mid) (sym (less-is machine g first s parted)) does in
            let answer = follows.right p mid s.plans a.plans the a.reply can does' in
            let on = answers-pass_on (live_spent p) (whole_spent p) machine s.plans the a.reply a.plans (follows.passes_on p) can answer in
            let a' : Answer = record { reply = a.reply; plans = on.whole } in
            let step = like-answer machine g first s parted w loose (live_spent p) (whole_spent p) a.reply a.plans answer on in
            let like : Like machine g first (after_one machine (part machine g first s) a) (after_one machine s a') =
            subst (λ o. Like machine g first (after_asked machine (part machine g first s) o a) (after_one machine s a')) (sym e1)
            (subst (λ o. Like machine g first (after_answer machine (part machine g first s) the a) (after_asked machine s o a')) (sym e2) step) in
            let later = others (after_one machine s a').state mid like.parted (subst (λ st. AnswersInTurn on_live machine st answers mid p') like.state rest) in
            record {
              answers' = a' ∷ later.answers';
              alike = alike-next machine g first (after_one machine (part machine g first s) a) (after_one machine s a') (after_answers machine answers) (after_answers machine later.answers') like later.alike;
              right = (the, e2, (tt, on-trust (whole_spent p) machine s.plans the a.reply on.whole on.answer, later.right));
              back = λ q' goes.
                  let more = later.back q' goes in
                  let here = follows.asked p mid more.0 s.plans a.plans the a.reply can does' more.2 on in
                  (here.0, (the, e2, (more.0, here.1, more.1)), here.2);
            }

  -- the loop and the settling
  record LoopOn (s : SessionState) (p : P) (records : List Record) (last : SessionState) (p' : P) : Type 0 where
    whole : SessionState
    live : live_part machine whole ≡ last
    plannable : IsPlannable machine whole
    right : RunsLoop (right_deeds machine) machine s tt records whole tt
    back : (q' : Q) → together p' q' → (q : Q) × RunsLoop on_whole machine s q records whole q' × together p q

  loop-on : (s : SessionState) (p : P) (records : List Record) (last : SessionState) (p' : P) → IsParted machine g first s → RunsLoop on_live machine (part machine g first s) p records last p' → LoopOn s p records last p'
  loop-on s p records last p' parted runs =
      let answered = answers-on runs.answers s p runs.mid parted runs.in_turn in
      finish answered.answers' answered.alike answered.right answered.back where
        finish : (answers' : List Answer) → Alike machine g first (after_answers machine runs.answers (part machine g first s)) (after_answers machine answers' s)
            → AnswersInTurn (right_deeds machine) machine s answers' tt tt
            → ((q' : Q) → together runs.mid q' → (q : Q) × AnswersInTurn on_whole machine s answers' q q' × together p q) → LoopOn s p records last p'
        finish answers' alike right back =
            let after = (after_answers machine answers' s).state in
            let kept = alike.parted in
            let now : after.now ≡ s.now = now-answers machine answers' s in
            let plans : (after_answers machine runs.answers (part machine g first s)).state.plans ≡ less g after.plans = ap (λ (st : SessionState). st.plans) alike.state in
            let lives : live_at machine s.now after.plans ≡ less g after.plans = ap (λ n. live_at machine n after.plans) (sym now) ∙ less-is machine g first after kept in
            let does = subst (λ ps. on_live.does runs.mid ps (settled s.now) runs.plans p') (plans ∙ sym lives) runs.settles in
            let floors = subst (λ n. KeepsFloors machine n none_exempt after.plans) now kept.can.floors in
            let settles = settles_rightly runs.mid p' after.plans runs.plans s.now kept.can.legal floors does in
            let w = live-settles_hold machine s.now after.plans runs.plans kept.can.legal floors settles in
            let whole : SessionState = record after { plans = w.whole } in
            let none : next_ask machine after ≡ None = sym (next-same machine g first after kept) ∙ ap (next_ask machine) (sym alike.state) ∙ runs.none_loose in
            let told : records ≡ (after_answers machine answers' s).records ++ moves after.plans w.whole =
            runs.told ∙ (λ i. alike.records i ++ moves ((plans ∙ sym lives) i) runs.plans) ∙ ap (λ l. (after_answers machine answers' s).records ++ l) w.told in
            let part-plans : live_at machine after.now w.whole ≡ runs.plans = ap (λ n. live_at machine n w.whole) now ∙ w.live_part in
            let same : (c : SheetId) → is_planned_among runs.plans c ≡ is_planned_among (less g after.plans) c =
            λ c. sym (list_any-map_same (λ q. is_same_copy q.sheet c) unmoved (λ q. refl) runs.plans) ∙ ap (λ ps. is_planned_among ps c) settles.retimed.same
            ∙ list_any-map_same (λ q. is_same_copy q.sheet c) unmoved (λ q. refl) (live_at machine s.now after.plans) ∙ ap (λ ps. is_planned_among ps c) lives in
            let gone : past_at machine after.now w.whole ≡ gone_from g first = ap (λ n. past_at machine n w.whole) now ∙ w.past_part ∙ ap (λ n. past_at machine n after.plans) (sym now) ∙ past-is machine g first after kept in
            let lost = ap (λ ps. filter (is_planned_among ps) after.lost) part-plans ∙ lost-by_part machine g first after kept runs.plans same in
            let live : live_part machine whole ≡ record (part machine g first after) { plans = runs.plans } = λ i. record after { plans = part-plans i; lost = lost i; refills = less_taken machine (gone i) after.refills } in
            record {
              whole = whole;
              live = live ∙ ap (λ (st : SessionState). record st { plans = runs.plans }) (sym alike.state) ∙ sym runs.state;
              plannable = subst (λ n. CanPlanOn machine n w.whole) (sym now)
                  (record {
                    now_at_most = subst (λ n. n ≤ last_tick) now kept.can.now_at_most;
                    legal = w.settles.retimed.legal;
                    floors = w.settles.retimed.floors;
                    horizon = w.settles.retimed.horizon;
                  });
              right = record { answers = answers'; mid = tt; in_turn = right; none_loose = none; plans = w.whole; settles = w.settles; told = told; state = refl };
              back = λ q' goes.
                  let here = follows.settles runs.mid p' q' after.plans runs.plans s.now kept.can.legal floors does goes w in
                  let before = back here.0 here.2 in
                  (before.0, record { answers = answers'; mid = here.0; in_turn = before.1; none_loose = none; plans = w.whole; settles = here.1; told = told; state = refl }, before.2);
            }

not-yes : (b : Bool) → not b ≡ true → b ≡ false
not-yes true e = absurd (cc)
not-yes false e = refl

-- a state that keeps its lines
pub parted-first : (machine : Machine) (s : SessionState) → IsPlannable machine s → KeepsLines s → IsParted machine (gone_at machine s.now s.plans) s.plans s
parted-first machine s can lines = record {
  can = can;
  each = gone-is machine s.now s.plans can.legal.in_order;
  lost = λ c in'.
      let of = Contains-map_from (λ (p : Plan). p.sheet) (filter (λ p. is_front p.kind) s.plans) c (subst (λ cs. Contains cs c) (sym lines.fronts) in') in
      subst (λ d. is_planned_among s.plans d ≡ true) (sym of.2) (planned-there s.plans of.0 (Contains-filter_from (λ p. is_front p.kind) s.plans of.0 of.1).0);
  fronts = λ p in' front copy. absurd (let lost = front-lost p in' front in cc);
  last = λ p in' copy high. go p in' copy high (is_front p.kind) refl;
  past = λ p in' gone. in';
  gone = refl;
} where
  front-lost : (p : Plan) → Contains s.plans p → is_front p.kind ≡ true → is_lost s p ≡ true
  front-lost p in' front =
      among-there s.lost p.sheet (subst (λ cs. Contains cs p.sheet) lines.fronts (Contains-map (λ (q : Plan). q.sheet) (filter (λ q. is_front q.kind) s.plans) p (Contains-filter (λ q. is_front q.kind) s.plans p in' front)))

  earlier : (p q : Plan) → Contains s.plans p → Contains s.plans q → (tray : ℕ) → is_delivered_to p tray ≡ true → is_delivered_to q tray ≡ true → end_of_plan q < end_of_plan p → is_before q.sheet p.sheet ≡ true
  earlier p q in-p in-q tray to-p to-q less = pick (is_before p.sheet q.sheet) refl (is_same_copy q.sheet p.sheet) refl where
    pick : (b : Bool) → is_before p.sheet q.sheet ≡ b → (c : Bool) → is_same_copy q.sheet p.sheet ≡ c → is_before q.sheet p.sheet ≡ true
    pick true e c f = absurd (let rises : end_of_plan p < end_of_plan q = ordered_pair EndsBefore s.plans p q can.legal.in_order can.legal.rise in-p in-q e tray to-p to-q in omega arith)
    pick false e true f = absurd (
        let one = plan_of-itself s.plans q can.legal.in_order in-q in
        let other = plan_of-itself s.plans p can.legal.in_order in-p in
        let at : plan_of q.sheet s.plans ≡ plan_of p.sheet s.plans = ap (λ c. plan_of c s.plans) (same_copy-is q.sheet p.sheet f) in
        let is : q ≡ p = cc in
        let same : end_of_plan q ≡ end_of_plan p = ap end_of_plan is in omega arith)
    pick false e false f = before-other p.sheet q.sheet e f

  go : (p : Plan) → Contains s.plans p → is_lost s p ≡ false → s.now < end_of_plan p → (b : Bool) → is_front p.kind ≡ b
      → (q : Plan) → Contains s.plans q → gone_at machine s.now s.plans q.sheet ≡ true → (tray : ℕ) → goes_to p.goal tray ≡ true → is_delivered_to q tray ≡ true → is_before q.sheet p.sheet ≡ true
  go p in' copy high true e = absurd (let lost = front-lost p in' e in cc)
  go p in' copy high false e = λ q in-q gone tray to delivered.
      let past = not-yes (is_live machine s.now q) (sym (gone-is machine s.now s.plans can.legal.in_order q in-q) ∙ gone) in
      let low = past_points machine s.now q past (length q.acts) in
      earlier p q in' in-q tray (rw (e, to) refl) delivered (omega arith)

module _ {P Q : Type 0} (on_live : PlannerSteps P) (on_whole : PlannerSteps Q) (machine : Machine) (together : P → Q → Type 0) where
  pub outs-pass_on : OutsPassOn on_live on_whole machine together
  outs-pass_on live_spent whole_spent s m jam p records last p' follows rightly can lines out =
      let g = gone_at machine s.now s.plans in
      let parted = parted-first machine s can lines in
      go (subst (λ st. GoesOut on_live machine st m jam p records last p') (live-part_is machine g s.plans s parted) out) (alike-outage machine g s.plans m jam s parted) where
        go : GoesOut on_live machine (part machine (gone_at machine s.now s.plans) s.plans s) m jam p records last p'
            → Alike machine (gone_at machine s.now s.plans) s.plans (outage machine m jam (part machine (gone_at machine s.now s.plans) s.plans s)) (outage machine m jam s) → PassesOutOn on_live on_whole machine together s m jam p records last p'
        go out like =
            let told : records ≡ (outage machine m jam s).records ++ out.rest = out.told ∙ ap (λ l. l ++ out.rest) like.records in
            let on = loop-on on_live on_whole machine together live_spent whole_spent follows rightly (gone_at machine s.now s.plans) s.plans (outage machine m jam s).state p out.rest last p' like.parted
            (subst (λ st. RunsLoop on_live machine st p out.rest last p') like.state out.loop) in
            record {
              whole = on.whole;
              live = on.live;
              plannable = on.plannable;
              right = record { rest = out.rest; told = told; loop = on.right };
              back = λ q' goes. let before = on.back q' goes in (before.0, record { rest = out.rest; told = told; loop = before.1 }, before.2);
            }
