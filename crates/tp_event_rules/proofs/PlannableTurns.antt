-- Where each answer is right, every turn leaves a state that can be planned on: legal, with floors and horizon kept.
use Rattle.std.proofs.Common.{◌≡◌, ℕ, ◌+◌, ◌<◌, ◌≤◌, inl, inr, Bool, true, false, cond, ◌&&◌, List, [], ◌∷◌, length, refl, sym, ◌∙◌, ap, arith, AllPairs, Contains, subst, nat_lt, Option, Some, None, option_map, find}
use Rattle.std.specs.Bool.{MatchBool}
use Rattle.std.specs.Option.{MatchOption}
use Rattle.std.proofs.lemmas.Bool.{and_parts}
use Rattle.std.proofs.lemmas.Bool.Decides.{nat_tests}
use Rattle.std.proofs.lemmas.List.Elements.{All-contains}
use Rattle.tp_machine.specs.declared.machine.Machine.{Machine}
use Rattle.tp_script.specs.declared.event.Event.{Event}
use Rattle.tp_script.specs.declared.event.Event.TheVariants.{Bad, Job as NewJob, Clock, Jam, Off, On, Refill}
use Rattle.tp_jobs.specs.declared.parts.WaitingCopy.{WaitingCopy}
use Rattle.tp_schedule.specs.Answers.{IsAlternative, KeepsHorizon}
use Rattle.tp_schedule.specs.PlannerAnswers.{CanPlanOn, Deed, IsAnswer, last_tick}
use Rattle.tp_schedule.specs.PlannerAnswers.Deed.{replied, settled}
use Rattle.tp_schedule.specs.Plans.{IsTimedPlan, IsEarlier, is_front, is_same_copy, change_plan, point}
use Rattle.tp_schedule.specs.declared.parts.Ask.{Ask}
use Rattle.tp_schedule.specs.declared.parts.Goal.{Goal}
use Rattle.tp_schedule.specs.declared.parts.Goal.TheVariants.{Tray, Purge}
use Rattle.tp_schedule.specs.declared.parts.Plan.{Plan}
use Rattle.tp_schedule.specs.declared.parts.Reply.{Reply}
use Rattle.tp_schedule.specs.declared.parts.Reply.TheVariants.{Planned, Never, Spent}
use Rattle.tp_schedule.specs.declared.records.Cause.{Cause}
use Rattle.tp_schedule.specs.declared.records.Cause.TheVariants.{Back, End}
use Rattle.tp_schedule.specs.declared.records.Record.{Record}
use Rattle.tp_schedule.specs.declared.records.Record.TheVariants.{Refused}
use Rattle.tp_schedule.proofs.CopyFacts.{plan_of-itself, same_copy-is}
use Rattle.tp_jobs.specs.Backlogs.{tray_of}
use Rattle.tp_event_rules.specs.States.{SessionState}
use Rattle.tp_event_rules.specs.AnswerRecords.{Answer}
use Rattle.tp_event_rules.specs.AskPhase.{AsksInTurn, ask_waiting, is_full, is_passed_over, passed_after, state_after_reply}
use Rattle.tp_event_rules.specs.Fates.{to_purge}
use Rattle.tp_event_rules.specs.Loops.{ask_in_flight, is_loose, next_ask, planned, not_planned, after_reply, after_asked, after_one, after_answers}
use Rattle.tp_event_rules.specs.Moments.{release_until}
use Rattle.tp_event_rules.specs.Outages.{outage}
use Rattle.tp_event_rules.specs.Planners.{PlannerSteps, IsRight, AnswersInTurn, RunsLoop}
use Rattle.tp_event_rules.specs.Refusals.{refusal, clock_refusal, first_of_causes}
use Rattle.tp_event_rules.specs.Turns.{Begins, Accepts}
use Rattle.tp_event_rules.proofs.AskSteps.{AsksFirst, TellsFull}
use Rattle.tp_event_rules.proofs.LeftPlans.{IsLegal-left, KeepsHorizon-left}
use Rattle.tp_event_rules.proofs.PlanOnFacts.{CanPlanOn-left, CanPlanOn-clock, Contains-change_plan, IsLeft-to_purge}
use Rattle.tp_event_rules.specs.Laws.{IsAny, IsPlannable, TurnsKeep}
use Rattle.tp_event_rules.proofs.LessOutages.{fall_backs_keep_planning, outages_keep_planning}
use Rattle.tp_event_rules.proofs.SameMoment.{now-answers}
use Rattle.tp_event_rules.proofs.ReleasedPlans.{AreLeft-change_plan, IsLeft-release, released-below}
use Rattle.tp_event_rules.proofs.ListFacts.{find-Some}

-- the ask that is due is for a front, at this moment
pub record IsAskOf (machine : Machine) (s : SessionState) (ask : Ask) : Type 0 where
  pub p : Plan
  pub there : Contains s.plans p
  pub loose : is_loose s p ≡ true
  pub is : ask_in_flight machine s p ≡ ask

pub asked : (machine : Machine) (s : SessionState) (ask : Ask) → next_ask machine s ≡ Some ask → IsAskOf machine s ask
asked machine s ask e = go (find (is_loose s) s.plans) refl e where
  go : (o : Option Plan) → find (is_loose s) s.plans ≡ o → option_map (ask_in_flight machine s) o ≡ Some ask → IsAskOf machine s ask
  go None f e = absurd (cc)
  go (Some p) f e = let at = find-Some (is_loose s) s.plans p f in record { p = p; there = at.0; loose = at.1; is = cc }

-- each plan of the asked copy is a front
asked-front : (machine : Machine) (s : SessionState) (ask : Ask) → next_ask machine s ≡ Some ask → AllPairs IsEarlier s.plans
    → (q : Plan) → Contains s.plans q → is_same_copy q.sheet ask.sheet ≡ true → is_front q.kind ≡ true
asked-front machine s ask e in_order q in' same =
    let of = asked machine s ask e in
    let sheets : q.sheet ≡ of.p.sheet = same_copy-is q.sheet ask.sheet same ∙ ap (λ (a : Ask). a.sheet) (sym of.is) in
    let mine = plan_of-itself s.plans q in_order in' in
    let its = plan_of-itself s.plans of.p in_order of.there in
    let one : q ≡ of.p = cc in
    subst (λ z. is_front z.kind ≡ true) (sym one) (and_parts (is_front of.p.kind) _ of.loose).0

and-first : (a b : Bool) → a ≡ false → (a && b) ≡ false
and-first true b e = absurd (cc)
and-first false b e = refl

and-second : (a b : Bool) → b ≡ false → (a && b) ≡ false
and-second true b e = e
and-second false b e = refl

-- the copy is planned, and its actions that start early enough are released
plannable-planned : (machine : Machine) (s : SessionState) (ask : Ask) (plans : List Plan) → ask.now ≡ s.now → IsPlannable machine s → IsAlternative machine s.plans ask plans → IsPlannable machine (planned machine ask plans s).state
plannable-planned machine s ask plans same can a =
    let left = AreLeft-change_plan machine ask.sheet (release_until (s.now + machine.lead)) plans (λ p in' e. IsLeft-release machine (s.now + machine.lead) p) in
    record {
      now_at_most = can.now_at_most;
      legal = IsLegal-left machine plans (change_plan ask.sheet (release_until (s.now + machine.lead)) plans) left a.legal;
      floors = λ r in' not_exempt i released within. elim (Contains-change_plan ask.sheet (release_until (s.now + machine.lead)) plans r a.legal.in_order in') [
        | inl other ↦
            let above : ask.now + machine.lead < point r i = a.floors r other.0 (and-first (is_same_copy r.sheet ask.sheet) _ other.1) i released within in
            omega arith
        | inr mine ↦
            let timed = All-contains (IsTimedPlan machine) plans mine.0 a.legal.timed mine.1 in
            subst (λ (q : Plan). q.released ≤ i → i < length q.acts → s.now + machine.lead < point q i) (sym mine.3)
            (λ r w. released-below machine (s.now + machine.lead) mine.0 i timed r w) released within
      ];
      horizon = subst (λ n. KeepsHorizon machine n (change_plan ask.sheet (release_until (s.now + machine.lead)) plans)) same
          (KeepsHorizon-left machine ask.now plans (change_plan ask.sheet (release_until (s.now + machine.lead)) plans) left a.horizon);
    }

-- the copy gives its tray up, or gets stuck
plannable-not_planned : (machine : Machine) (s : SessionState) (ask : Ask) (goal : Goal) → next_ask machine s ≡ Some ask → IsPlannable machine s → IsPlannable machine (not_planned machine ask goal s).state
plannable-not_planned machine s ask (Tray t) e can =
    fall_backs_keep_planning machine (record s { plans = change_plan ask.sheet to_purge s.plans }) (record { sheet = ask.sheet; want = ask.want; again = true })
    (CanPlanOn-left machine s.now s.plans (change_plan ask.sheet to_purge s.plans)
    (AreLeft-change_plan machine ask.sheet to_purge s.plans (λ q in' same. IsLeft-to_purge machine q (asked-front machine s ask e can.legal.in_order q in' same))) can)
plannable-not_planned machine s ask Purge e can = outages_keep_planning machine _ true s can

asked-now : (machine : Machine) (s : SessionState) (ask : Ask) → next_ask machine s ≡ Some ask → ask.now ≡ s.now
asked-now machine s ask e = ap (λ (a : Ask). a.now) (sym (asked machine s ask e).is)

-- an accepted move of the clock goes on, and not too far
pub accepted-clock : (now to : ℕ) → clock_refusal now to ≡ None → (now ≤ to) × (to ≤ last_tick)
accepted-clock now to e = go (nat_lt to now) refl (nat_lt last_tick to) refl e where
  go : (b : Bool) → nat_lt to now ≡ b → (c : Bool) → nat_lt last_tick to ≡ c
      → first_of_causes (cond b (Some (Back now)) None ∷ cond c (Some End) None ∷ []) ≡ None → (now ≤ to) × (to ≤ last_tick)
  go true f c g e = absurd (cc)
  go false f true g e = absurd (cc)
  go false f false g e = (grind (arith, nat_tests), grind (arith, nat_tests))

module _ {P : Type 0} (steps : PlannerSteps P) (machine : Machine) (spent : P → Machine → List Plan → Ask → ℕ → Type 0)
    (right : (p : P) (plans : List Plan) (deed : Deed) (plans' : List Plan) (p' : P) → steps.does p plans deed plans' p' → IsRight (spent p) machine plans deed plans') where
  -- the loop
  plannable-reply : (p : P) (s : SessionState) (ask : Ask) (reply : Reply) (plans : List Plan) → next_ask machine s ≡ Some ask → IsAnswer (spent p) machine s.plans ask reply plans
      → IsPlannable machine s → IsPlannable machine (after_reply machine ask reply plans s).state
  plannable-reply p s ask Planned plans e answer can = plannable-planned machine s ask plans (asked-now machine s ask e) can answer.0.alternative
  plannable-reply p s ask Never plans e answer can = plannable-not_planned machine s ask ask.goal e can
  plannable-reply p s ask (Spent bound) plans e answer can = plannable-not_planned machine s ask ask.goal e can

  pub plannable-answers : (s : SessionState) (answers : List Answer) (p p' : P) → AnswersInTurn steps machine s answers p p' → IsPlannable machine s → IsPlannable machine (after_answers machine answers s).state
  plannable-answers s [] p p' in_turn can = can
  plannable-answers s (a ∷ answers) p p' (ask, e, (mid, does, rest)) can =
      plannable-answers (after_one machine s a).state answers mid p' rest
      (subst (λ o. IsPlannable machine (after_asked machine s o a).state) (sym e)
      (plannable-reply p s ask a.reply a.plans e (right p s.plans (replied ask a.reply) a.plans mid does) can))

  plannable-loop : (s : SessionState) (p : P) (records : List Record) (s' : SessionState) (p' : P) → RunsLoop steps machine s p records s' p' → IsPlannable machine s → IsPlannable machine s'
  plannable-loop s p records s' p' runs can =
      let before = plannable-answers s runs.answers p runs.mid runs.in_turn can in
      let settled = right runs.mid (after_answers machine runs.answers s).state.plans (settled s.now) runs.plans p' runs.settles in
      let at = now-answers machine runs.answers s in
      subst (IsPlannable machine) (sym runs.state)
      (subst (λ n. CanPlanOn machine n runs.plans) (sym at)
      (record { now_at_most = can.now_at_most; legal = settled.retimed.legal; floors = settled.retimed.floors; horizon = settled.retimed.horizon }))

  -- the phase of asks
  plannable-asked : (p : P) (s : SessionState) (w : WaitingCopy) (reply : Reply) (plans : List Plan) → IsAnswer (spent p) machine s.plans (ask_waiting machine s w) reply plans
      → IsPlannable machine s → IsPlannable machine (state_after_reply s w reply plans)
  plannable-asked p s w Planned plans answer can =
      let a = answer.0.alternative in
      record {
        now_at_most = can.now_at_most;
        legal = a.legal;
        floors = λ r in' not_exempt i released within. a.floors r in' (and-second (is_same_copy r.sheet w.sheet) _ refl) i released within;
        horizon = a.horizon;
      }
  plannable-asked p s w Never plans answer can = can
  plannable-asked p s w (Spent bound) plans answer can = can

  pub plannable-asks : (waiting : List WaitingCopy) (passed : List ℕ) (s : SessionState) (p : P) (records : List Record) (s' : SessionState) (p' : P)
      → AsksInTurn steps machine waiting passed s p records s' p' → IsPlannable machine s → IsPlannable machine s'
  plannable-asks [] passed s p records s' p' (told, is, same) can = subst (IsPlannable machine) (sym is) can
  plannable-asks (w ∷ waiting) passed s p records s' p' asks can =
      go (is_passed_over s passed w) (is_full machine s) asks (plannable-asks waiting passed s p records s' p')
      (λ rest next. plannable-asks waiting ((tray_of s.jobs w.sheet).0 ∷ passed) s p rest s' p' next can)
      (λ reply plans mid rest next able. plannable-asks waiting (passed_after reply (tray_of s.jobs w.sheet).0 passed) (state_after_reply s w reply plans) mid rest s' p' next able) where
        go : (b c : Bool) → MatchBool b (AsksInTurn steps machine waiting passed s p records s' p')
            (MatchBool c (TellsFull steps machine w waiting passed s p records s' p') (AsksFirst steps machine w waiting passed s p records s' p'))
            → (AsksInTurn steps machine waiting passed s p records s' p' → IsPlannable machine s → IsPlannable machine s')
            → ((rest : List Record) → AsksInTurn steps machine waiting ((tray_of s.jobs w.sheet).0 ∷ passed) s p rest s' p' → IsPlannable machine s')
            → ((reply : Reply) (plans : List Plan) (mid : P) (rest : List Record)
            → AsksInTurn steps machine waiting (passed_after reply (tray_of s.jobs w.sheet).0 passed) (state_after_reply s w reply plans) mid rest s' p'
            → IsPlannable machine (state_after_reply s w reply plans) → IsPlannable machine s')
            → IsPlannable machine s'
        go true c next passing full answered = passing next can
        go false true (rest, told, next) passing full answered = full rest next
        go false false (reply, (plans, (mid, (rest, does, told, next)))) passing full answered =
            answered reply plans mid rest next (plannable-asked p s w reply plans (right p s.plans (replied (ask_waiting machine s w) reply) plans mid does) can)

  -- the part of an event before the phase of asks
  plannable-begins : (event : Event) (s : SessionState) (p : P) (records : List Record) (s' : SessionState) (p' : P) → refusal machine s event ≡ None
      → Begins steps machine event s p records s' p' → IsPlannable machine s → IsPlannable machine s'
  plannable-begins Bad s p records s' p' accepted begins can = absurd begins
  plannable-begins (NewJob name tray media groups) s p records s' p' accepted begins can = subst (IsPlannable machine) (sym begins.1) can
  plannable-begins (Clock to) s p records s' p' accepted begins can =
      subst (IsPlannable machine) (sym begins.1) (CanPlanOn-clock machine s.now to s.plans (accepted-clock s.now to accepted).0 (accepted-clock s.now to accepted).1 can)
  plannable-begins (Jam name) s p records s' p' accepted (m, known, out) can = plannable-loop (outage machine m true s).state p out.rest s' p' out.loop (outages_keep_planning machine m true s can)
  plannable-begins (Off name) s p records s' p' accepted (m, known, out) can = plannable-loop (outage machine m false s).state p out.rest s' p' out.loop (outages_keep_planning machine m false s can)
  plannable-begins (On name) s p records s' p' accepted (m, known, told, is, same) can = subst (IsPlannable machine) (sym is) can
  plannable-begins (Refill name count) s p records s' p' accepted (f, known, told, is, same) can = subst (IsPlannable machine) (sym is) can

  -- a whole turn
  pub plannable-turn : TurnsKeep steps machine IsAny (IsPlannable machine)
  plannable-turn event s p records s' p' any turn can = go (refusal machine s event) refl turn where
    go : (o : Option Cause) → refusal machine s event ≡ o
        → MatchOption o (Accepts steps machine event s p records s' p') (λ cause. (records ≡ Refused cause ∷ []) × (s' ≡ s) × (p' ≡ p)) → IsPlannable machine s'
    go None e accepts =
        plannable-asks accepts.between.waiting [] accepts.between accepts.mid accepts.rest s' p' accepts.asks
        (plannable-begins event s p accepts.first accepts.between accepts.mid e accepts.begins can)
    go (Some cause) e (told, is, same) = subst (IsPlannable machine) (sym is) can
