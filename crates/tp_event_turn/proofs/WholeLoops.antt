-- The loop, the settling and the phase of asks on the whole state are those on its live part.
use Rattle.std.proofs.Common.{◌≡◌, ℕ, ◌≤◌, Bool, true, false, List, [], ◌∷◌, ◌++◌, filter, refl, sym, ap, ◌∙◌, subst, Some, None}
use Rattle.std.specs.Bool.{MatchBool}
use Rattle.tp_machine.specs.declared.machine.Machine.{Machine}
use Rattle.tp_choices.specs.LiveParts.{less}
use Rattle.tp_jobs.specs.Backlogs.{tray_of}
use Rattle.tp_jobs.specs.declared.parts.WaitingCopy.{WaitingCopy}
use Rattle.tp_schedule.specs.Answers.{KeepsFloors, unmoved}
use Rattle.tp_schedule.specs.PlannerAnswers.{CanPlanOn, IsAnswer, last_tick, none_exempt}
use Rattle.tp_schedule.specs.PlannerAnswers.Deed.{replied, settled}
use Rattle.tp_schedule.specs.Plans.{is_same_copy}
use Rattle.tp_schedule.specs.declared.parts.Ask.{Ask}
use Rattle.tp_schedule.specs.declared.parts.Plan.{Plan}
use Rattle.tp_schedule.specs.declared.parts.Reply.{Reply}
use Rattle.tp_schedule.specs.declared.parts.SheetId.{SheetId}
use Rattle.tp_schedule.specs.declared.records.Record.{Record}
use Rattle.tp_event_rules.proofs.AskSteps.{AsksFirst, TellsFull}
use Rattle.tp_event_rules.proofs.SameMoment.{now-answers}
use Rattle.tp_event_rules.proofs.TestFacts.{list_any-map_same}
use Rattle.tp_event_rules.specs.AnswerRecords.{Answer, moves}
use Rattle.tp_event_rules.specs.AskPhase.{AsksInTurn, ask_waiting, is_full, is_passed_over, passed_after, state_after_reply}
use Rattle.tp_event_rules.specs.StateInvariants.{is_planned_among, live_part, live_plans}
use Rattle.tp_event_rules.specs.Laws.{IsPlannable}
use Rattle.tp_event_rules.specs.Loops.{after_answer, after_answers, after_asked, after_one, ask_in_flight, next_ask}
use Rattle.tp_event_rules.specs.Outages.{outage}
use Rattle.tp_event_rules.specs.Planners.{AnswersInTurn, GoesOut, PlannerSteps, RunsLoop}
use Rattle.tp_event_rules.specs.States.{SessionState}
use Rattle.tp_event_turn.specs.LiveAnswers.{IsAnswerOnLive, IsAnswerOnWhole, live_at, past_at}
use Rattle.tp_event_turn.specs.LiveTurns.{right_deeds}
use Rattle.tp_event_turn.specs.WholeTurns.{AsksPassBack, FollowsBack, OutsPassBack}
use Rattle.tp_event_turn.proofs.LiveAsks.{full-same, live-after, whole-after}
use Rattle.tp_event_turn.proofs.LivePast.{gone_at}
use Rattle.tp_event_turn.proofs.LiveStates.{IsWhole, can-ask-live, same-ask, whole-all, whole-rest}
use Rattle.tp_event_turn.proofs.PartedAsks.{IsLoose, can-live, due-of, less-is, live-part_is, lost-by_part, next-same, past-is}
use Rattle.tp_event_turn.proofs.PartedLists.{gone_from, part}
use Rattle.tp_event_turn.proofs.PartedLoops.{like-answer, on-trust, parted-first}
use Rattle.tp_event_turn.proofs.PartedFalls.{Alike, Like, alike-next}
use Rattle.tp_event_turn.proofs.PartedOutages.{alike-outage}
use Rattle.tp_event_turn.proofs.PartedStates.{IsParted}
use Rattle.tp_event_turn.proofs.WholeAnswered.{answers-pass_back, whole-settles_hold}
use Rattle.tp_stock.specs.Stock.{less_taken}

-- the answer on the live part, seen from the whole
abbrev as-on_whole : (live_spent whole_spent : Machine → List Plan → Ask → ℕ → Type 0) (machine : Machine) (plans : List Plan) (ask : Ask) (reply : Reply) (whole : List Plan)
    → IsAnswer whole_spent machine plans ask reply whole → IsAnswerOnLive live_spent machine plans ask reply whole → IsAnswerOnWhole whole_spent machine plans ask reply (live_at machine ask.now whole)
as-on_whole live_spent whole_spent machine plans ask reply whole answer back = record { whole = whole; answer = answer; live_part = refl; past_part = back.past_part; told = back.told }

module _ {P Q : Type 0} (on_live : PlannerSteps P) (on_whole : PlannerSteps Q) (machine : Machine) (together : P → Q → Type 0)
    (live_spent whole_spent : Q → Machine → List Plan → Ask → ℕ → Type 0) (follows : FollowsBack on_live on_whole machine together live_spent whole_spent) where
  module _ (g : SheetId → Bool) (first : List Plan) where
    -- the answers on the live part
    record AnsweredOff (s : SessionState) (answers : List Answer) (q q' : Q) : Type 0 where
      answers' : List Answer
      alike : Alike machine g first (after_answers machine answers' (part machine g first s)) (after_answers machine answers s)
      right : AnswersInTurn (right_deeds machine) machine s answers tt tt
      back : (p' : P) → together p' q' → (p : P) × AnswersInTurn on_live machine (part machine g first s) answers' p p' × together p q

    answers-off : (answers : List Answer) (s : SessionState) (q q' : Q) → IsParted machine g first s → AnswersInTurn on_whole machine s answers q q' → AnsweredOff s answers q q'
    answers-off [] s q q' parted same = record {
      answers' = [];
      alike = record { records = refl; state = refl; parted = parted };
      right = refl;
      back = λ p' goes. (p', refl, subst (λ r. together p' r) same goes);
    }
    answers-off (a ∷ answers) s q q' parted (ask, e, (mid, does, rest)) =
        let due = due-of machine g first s parted ask e in
        subst (λ k. next_ask machine s ≡ Some k → on_whole.does q s.plans (replied k a.reply) a.plans mid → AnsweredOff s (a ∷ answers) q q') due.2
        (one due.0 due.1 (λ next r kept in_turn. answers-off answers next r q' kept in_turn)) e does where
          one : (w : Plan) (loose : IsLoose machine g first s parted w) → ((next : SessionState) (r : Q) → IsParted machine g first next → AnswersInTurn on_whole machine next answers r q' → AnsweredOff next answers r q')
              → next_ask machine s ≡ Some (ask_in_flight machine s w) → on_whole.does q s.plans (replied (ask_in_flight machine s w) a.reply) a.plans mid → AnsweredOff s (a ∷ answers) q q'
          one w loose others e2 does =
              let the = ask_in_flight machine s w in
              let e1 : next_ask machine (part machine g first s) ≡ Some the = next-same machine g first s parted ∙ e2 in
              let can = can-live machine g first s parted w loose in
              let right = follows.right q mid s.plans a.plans the a.reply can does in
              let off = answers-pass_back (live_spent q) (whole_spent q) machine s.plans the a.reply a.plans (follows.passes_back q) can right in
              let on = as-on_whole (live_spent q) (whole_spent q) machine s.plans the a.reply a.plans right off in
              let a' : Answer = record { reply = a.reply; plans = live_at machine s.now a.plans } in
              let step = like-answer machine g first s parted w loose (live_spent q) (whole_spent q) a.reply (live_at machine s.now a.plans) off.answer on in
              let like : Like machine g first (after_one machine (part machine g first s) a') (after_one machine s a) =
              subst (λ o. Like machine g first (after_asked machine (part machine g first s) o a') (after_one machine s a)) (sym e1)
              (subst (λ o. Like machine g first (after_answer machine (part machine g first s) the a') (after_asked machine s o a)) (sym e2) step) in
              let later = others (after_one machine s a).state mid like.parted rest in
              record {
                answers' = a' ∷ later.answers';
                alike = alike-next machine g first (after_one machine (part machine g first s) a') (after_one machine s a) (after_answers machine later.answers') (after_answers machine answers) like later.alike;
                right = (the, e2, (tt, on-trust (whole_spent q) machine s.plans the a.reply a.plans right, later.right));
                back = λ p' goes.
                    let more = later.back p' goes in
                    let here = follows.asked q mid more.0 s.plans a.plans the a.reply can does more.2 off in
                    let live = subst (λ ps. on_live.does here.0 ps (replied the a.reply) (live_at machine s.now a.plans) more.0) (less-is machine g first s parted) here.1 in
                    (here.0, (the, e1, (more.0, live, subst (λ st. AnswersInTurn on_live machine st later.answers' more.0 p') (sym like.state) more.1)), here.2);
              }

    record LoopOff (s : SessionState) (q : Q) (records : List Record) (s' : SessionState) (q' : Q) : Type 0 where
      plannable : IsPlannable machine s'
      right : RunsLoop (right_deeds machine) machine s tt records s' tt
      back : (p' : P) → together p' q' → (p : P) × RunsLoop on_live machine (part machine g first s) p records (live_part machine s') p' × together p q

    loop-off : (s : SessionState) (q : Q) (records : List Record) (s' : SessionState) (q' : Q) → IsParted machine g first s → RunsLoop on_whole machine s q records s' q' → LoopOff s q records s' q'
    loop-off s q records s' q' parted runs =
        let answered = answers-off runs.answers s q runs.mid parted runs.in_turn in finish answered.answers' answered.alike answered.right answered.back where
          finish : (answers' : List Answer) → Alike machine g first (after_answers machine answers' (part machine g first s)) (after_answers machine runs.answers s)
              → AnswersInTurn (right_deeds machine) machine s runs.answers tt tt
              → ((p1 : P) → together p1 runs.mid → (p : P) × AnswersInTurn on_live machine (part machine g first s) answers' p p1 × together p q)
              → LoopOff s q records s' q'
          finish answers' alike trusted back =
              let after = (after_answers machine runs.answers s).state in
              let kept = alike.parted in
              let now : after.now ≡ s.now = now-answers machine runs.answers s in
              let plans : (after_answers machine answers' (part machine g first s)).state.plans ≡ less g after.plans = ap (λ (st : SessionState). st.plans) alike.state in
              let lives : live_at machine s.now after.plans ≡ less g after.plans = ap (λ n. live_at machine n after.plans) (sym now) ∙ less-is machine g first after kept in
              let floors = subst (λ n. KeepsFloors machine n none_exempt after.plans) now kept.can.floors in
              let right = follows.settles_right runs.mid q' after.plans runs.plans s.now kept.can.legal floors runs.settles in
              let off = whole-settles_hold machine s.now after.plans runs.plans kept.can.legal floors right in
              let live : List Plan = live_at machine s.now runs.plans in
              let none : next_ask machine (after_answers machine answers' (part machine g first s)).state ≡ None = ap (next_ask machine) alike.state ∙ next-same machine g first after kept ∙ runs.none_loose in
              let told : records ≡ (after_answers machine answers' (part machine g first s)).records ++ moves (after_answers machine answers' (part machine g first s)).state.plans live =
              runs.told ∙ ap (λ l. (after_answers machine runs.answers s).records ++ l) (sym off.told)
              ∙ sym (λ i. alike.records i ++ moves ((plans ∙ sym lives) i) live) in
              let part-plans : live_at machine after.now runs.plans ≡ live = ap (λ n. live_at machine n runs.plans) now in
              let same : (c : SheetId) → is_planned_among live c ≡ is_planned_among (less g after.plans) c =
              λ c. sym (list_any-map_same (λ q. is_same_copy q.sheet c) unmoved (λ q. refl) live) ∙ ap (λ ps. is_planned_among ps c) off.settles.retimed.same
              ∙ list_any-map_same (λ q. is_same_copy q.sheet c) unmoved (λ q. refl) (live_at machine s.now after.plans) ∙ ap (λ ps. is_planned_among ps c) lives in
              let gone : past_at machine after.now runs.plans ≡ gone_from g first = ap (λ n. past_at machine n runs.plans) now ∙ off.past_part ∙ ap (λ n. past_at machine n after.plans) (sym now) ∙ past-is machine g first after kept in
              let lost = ap (λ ps. filter (is_planned_among ps) after.lost) part-plans ∙ lost-by_part machine g first after kept live same in
              let ends : live_part machine (record after { plans = runs.plans }) ≡ record (part machine g first after) { plans = live } = λ i. record after { plans = part-plans i; lost = lost i; refills = less_taken machine (gone i) after.refills } in
              record {
                plannable = subst (IsPlannable machine) (sym runs.state) (subst (λ n. CanPlanOn machine n runs.plans) (sym now)
                    (record {
                      now_at_most = subst (λ n. n ≤ last_tick) now kept.can.now_at_most;
                      legal = right.retimed.legal;
                      floors = right.retimed.floors;
                      horizon = right.retimed.horizon;
                    }));
                right = record { answers = runs.answers; mid = tt; in_turn = trusted; none_loose = runs.none_loose; plans = runs.plans; settles = right; told = runs.told; state = runs.state };
                back = λ p' goes.
                    let here = follows.settles runs.mid q' p' after.plans runs.plans s.now kept.can.legal floors runs.settles goes off in
                    let before = back here.0 here.2 in (
                      before.0,
                      record {
                        answers = answers';
                        mid = here.0;
                        in_turn = before.1;
                        none_loose = none;
                        plans = live;
                        settles = subst (λ ps. on_live.does here.0 ps (settled s.now) live p') (lives ∙ sym plans) here.1;
                        told = told;
                        state = ap (live_part machine) runs.state ∙ ends ∙ ap (λ (st : SessionState). record st { plans = live }) (sym alike.state);
                      },
                      before.2,
                    );
              }

  -- the phase of asks
  module _ (q' : Q) (p' : P) (last-together : together p' q') where
    abbrev OnLive : List WaitingCopy → List ℕ → SessionState → Q → List Record → SessionState → Type 0
    OnLive ws passed s q records s' = (p : P) × AsksInTurn on_live machine ws passed (live_part machine s) p records (live_part machine s') p' × together p q

    asks-off : (ws : List WaitingCopy) (passed : List ℕ) (s : SessionState) (q : Q) (records : List Record) (s' : SessionState)
        → IsWhole machine s ws → AsksInTurn on_whole machine ws passed s q records s' q' → OnLive ws passed s q records s'
    asks-off [] passed s q records s' whole (told, is, same) = (p', (told, ap (live_part machine) is, refl), subst (λ r. together p' r) same last-together)
    asks-off (w ∷ ws) passed s q records s' whole asks =
        go (is_passed_over s passed w) (is_full machine s) (is_full machine (live_part machine s)) (full-same machine s) asks
        (asks-off ws passed s q records s' (whole-rest machine s w ws whole))
        (λ rest. asks-off ws ((tray_of s.jobs w.sheet).0 ∷ passed) s q rest s' (whole-rest machine s w ws whole))
        (λ reply plans mid rest. asks-off ws (passed_after reply (tray_of s.jobs w.sheet).0 passed) (state_after_reply s w reply plans) mid rest s') where
          go : (b c d : Bool) → d ≡ c
              → MatchBool b (AsksInTurn on_whole machine ws passed s q records s' q')
              (MatchBool c (TellsFull on_whole machine w ws passed s q records s' q') (AsksFirst on_whole machine w ws passed s q records s' q'))
              → (AsksInTurn on_whole machine ws passed s q records s' q' → OnLive ws passed s q records s')
              → ((rest : List Record) → AsksInTurn on_whole machine ws ((tray_of s.jobs w.sheet).0 ∷ passed) s q rest s' q' → OnLive ws ((tray_of s.jobs w.sheet).0 ∷ passed) s q rest s')
              → ((reply : Reply) (plans : List Plan) (mid : Q) (rest : List Record) → IsWhole machine (state_after_reply s w reply plans) ws
              → AsksInTurn on_whole machine ws (passed_after reply (tray_of s.jobs w.sheet).0 passed) (state_after_reply s w reply plans) mid rest s' q'
              → OnLive ws (passed_after reply (tray_of s.jobs w.sheet).0 passed) (state_after_reply s w reply plans) mid rest s')
              → (p : P) × MatchBool b (AsksInTurn on_live machine ws passed (live_part machine s) p records (live_part machine s') p')
              (MatchBool d (TellsFull on_live machine w ws passed (live_part machine s) p records (live_part machine s') p') (AsksFirst on_live machine w ws passed (live_part machine s) p records (live_part machine s') p')) × together p q
          go true c d e next over full answered = over next
          go false true true e (rest, told, next) over full answered = let on = full rest next in (on.0, (rest, told, on.1), on.2)
          go false true false e first over full answered = absurd (cc)
          go false false true e first over full answered = absurd (cc)
          go false false false e (reply, (plans, (mid, (rest, does, told, next)))) over full answered =
              let the = ask_waiting machine s w in
              let can = can-ask-live machine s w ws whole in
              let right = follows.right q mid s.plans plans the reply can does in
              let off = answers-pass_back (live_spent q) (whole_spent q) machine s.plans the reply plans (follows.passes_back q) can right in
              let on = as-on_whole (live_spent q) (whole_spent q) machine s.plans the reply plans right off in
              let after = answered reply plans mid rest (whole-after (whole_spent q) (live_spent q) machine s w ws whole reply (live_at machine s.now plans) on) next in
              let here = follows.asked q mid after.0 s.plans plans the reply can does after.2 off in
              let same = live-after (whole_spent q) (live_spent q) machine s w ws whole reply (live_at machine s.now plans) on off.answer in (
                here.0,
                (
                  reply,
                  (
                    live_at machine s.now plans,
                    (
                      after.0,
                      (
                        rest,
                        subst (λ ask. on_live.does here.0 (live_plans machine s) (replied ask reply) (live_at machine s.now plans) after.0) (sym (same-ask machine s w)) here.1,
                        told ∙ ap (λ (l : List Record). l ++ rest) (sym off.told),
                        subst (λ r. AsksInTurn on_live machine ws (passed_after reply (tray_of s.jobs w.sheet).0 passed) r after.0 rest (live_part machine s') p') (sym same) after.1,
                      ),
                    ),
                  ),
                ),
                here.2,
              )

module _ {P Q : Type 0} (on_live : PlannerSteps P) (on_whole : PlannerSteps Q) (machine : Machine) (together : P → Q → Type 0) where
  pub asks-pass_back : AsksPassBack on_live on_whole machine together
  asks-pass_back live_spent whole_spent s q records s' q' p' follows goes legal floors lines asks =
      asks-off on_live on_whole machine together live_spent whole_spent follows q' p' goes s.waiting [] s q records s' (whole-all machine s lines legal floors) asks

  pub outs-pass_back : OutsPassBack on_live on_whole machine together
  outs-pass_back live_spent whole_spent s m jam q records s' q' follows can lines out =
      let g = gone_at machine s.now s.plans in
      let parted = parted-first machine s can lines in
      let like = alike-outage machine g s.plans m jam s parted in
      let off = loop-off on_live on_whole machine together live_spent whole_spent follows g s.plans (outage machine m jam s).state q out.rest s' q' like.parted out.loop in
      record {
        plannable = off.plannable;
        right = record { rest = out.rest; told = out.told; loop = off.right };
        back = λ p' goes.
            let before = off.back p' goes in (
              before.0,
              subst (λ st. GoesOut on_live machine st m jam before.0 records (live_part machine s') p') (sym (live-part_is machine g s.plans s parted))
                  (record {
                    rest = out.rest;
                    told = out.told ∙ sym (ap (λ l. l ++ out.rest) like.records);
                    loop = subst (λ st. RunsLoop on_live machine st before.0 out.rest (live_part machine s') p') (sym like.state) before.1;
                  }),
              before.2,
            );
      }
