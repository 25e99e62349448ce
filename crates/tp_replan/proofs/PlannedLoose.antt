-- A loose copy is planned: the loop can go on.
use Rattle.std.proofs.Common.{◌≡◌, ℕ, zero, suc, ◌+◌, ◌-◌, ◌<◌, ◌≤◌, Bool, true, false, cond, not, ◌&&◌, ◌||◌, List, [], ◌∷◌, ◌++◌, length, Some, IsTrue, All, AllPairs, Contains, refl, sym, ap, ◌∙◌, arith, subst, count_by, inl, inr}
use Rattle.std.specs.List.{list_any}
use Rattle.std.proofs.lemmas.List.{length-append}
use Rattle.std.proofs.lemmas.List.Elements.{All-contains, All-head, All-tail, All-weaker}
use Rattle.std.proofs.lemmas.List.Sums.{length-filter}
use Rattle.tp_machine.specs.declared.parts.ActId.{ActId}
use Rattle.tp_machine.specs.declared.machine.Machine.{Machine}
use Rattle.tp_schedule.specs.Answers.{IsAlternative, acts_in, kept_acts}
use Rattle.tp_schedule.specs.LivePlans.{is_live, live_count}
use Rattle.tp_schedule.specs.PlannerAnswers.{IsAnswer, IsKnownGoal}
use Rattle.tp_schedule.specs.Plans.{IsEarlier, IsTimedPlan, change_plan, end_of_plan, goes_to, is_before, is_delivered_to, is_front, is_same_copy, plan_of, point, without}
use Rattle.tp_schedule.specs.declared.parts.Ask.{Ask}
use Rattle.tp_schedule.specs.declared.parts.Plan.{Plan}
use Rattle.tp_schedule.specs.declared.parts.SheetId.{SheetId}
use Rattle.tp_schedule.proofs.CopyFacts.{before-not_same', plan_of-itself, same_copy-is, same_copy-refl}
use Rattle.tp_schedule.proofs.Membership.{All-from_contains, Contains-filter_from}
use Rattle.tp_schedule.proofs.Pairs.{AllPairs-head, AllPairs-tail}
use Rattle.tp_event_rules.proofs.ListFacts.{find-Some}
use Rattle.tp_event_rules.specs.AnswerRecords.{Answer}
use Rattle.tp_event_rules.specs.Laws.{IsPlannable}
use Rattle.tp_event_rules.specs.Lines.{is_lost}
use Rattle.tp_event_rules.specs.Loops.{after_one, ask_in_flight, is_loose, next_ask, planned}
use Rattle.tp_event_rules.specs.Moments.{is_to_tray, release_until}
use Rattle.tp_event_rules.specs.Planners.{IsRight, PlannerSteps}
use Rattle.tp_event_rules.specs.Seen.{HasNextCopy, HasStarted}
use Rattle.tp_event_rules.specs.States.{SessionState}
use Rattle.tp_event_rules.proofs.AnsweredPlans.{IsUnmoved, mine-is, other-from, unmoved-sheet}
use Rattle.tp_event_rules.proofs.AskedPlans.{count-unmoved, live-before, low-stays}
use Rattle.tp_event_rules.proofs.LeftPlans.{live_count-left}
use Rattle.tp_event_rules.proofs.PlanOnFacts.{Contains-change_plan}
use Rattle.tp_event_rules.proofs.PlannableTurns.{plannable-answers}
use Rattle.tp_event_rules.proofs.ReleasedPlans.{AreLeft-change_plan, IsLeft-release}
use Rattle.tp_replan.specs.LooseLoop.{CanLoop, IsUnderWay, is_loose_in}
use Rattle.tp_replan.specs.Meanings.{IsKnown}
use Rattle.tp_replan.specs.Open.{CanFall, Group, is_in}
use Rattle.tp_replan.proofs.GivenUp.{count-change}
use Rattle.tp_replan.proofs.LoopAsks.{ends-live, one-of-them}
use Rattle.tp_replan.proofs.OpenFacts.{and-first, count-cons, is_open_of}
use Rattle.tp_replan.proofs.PlannedOthers.{ends-yet, other-fixed, retimed, same-length}
use Rattle.tp_replan.proofs.StillOnWay.{IsStateOnWay}

-- after one right answer the schedule can be planned on
abbrev one_answer : (P : Type 0) → (P → Machine → List Plan → Ask → ℕ → Type 0) → Machine → PlannerSteps P
one_answer P spent machine = record {
  does = λ p plans deed plans' p'. IsRight (spent p) machine plans deed plans';
  stops = λ p plans what p'. Unit {0};
}

pub plannable-one : {P : Type 0} (planner : P) (spent : P → Machine → List Plan → Ask → ℕ → Type 0) (machine : Machine) (s : SessionState) (ask : Ask) (a : Answer) → next_ask machine s ≡ Some ask
    → IsAnswer (spent planner) machine s.plans ask a.reply a.plans → IsPlannable machine s → IsPlannable machine (after_one machine s a).state
plannable-one {P} planner spent machine s ask a e answer can =
    plannable-answers (one_answer P spent machine) machine spent (λ p plans deed plans' p' does. does) s (a ∷ []) planner planner
    (ask, e, (planner, answer, refl)) can

module _ (machine : Machine) (s : SessionState) (p : Plan) (can : CanLoop machine s) (in' : Contains s.plans p) (loose : is_loose s p ≡ true)
    (plans' : List Plan) (a : IsAlternative machine s.plans (ask_in_flight machine s p) plans') where
  abbrev ask : Ask
  ask = ask_in_flight machine s p

  on : IsStateOnWay machine s
  on = can.on_way

  way : IsUnderWay s.now p
  way = All-contains (λ (p : Plan). is_loose s p ≡ true → IsUnderWay s.now p) s.plans p on.way in' loose

  front : is_front p.kind ≡ true
  front = and-first (is_front p.kind) (not (is_lost s p)) loose

  timed : IsTimedPlan machine p
  timed = All-contains (IsTimedPlan machine) s.plans p on.plan_on.legal.timed in'

  own-at : plan_of p.sheet s.plans ≡ Some p
  own-at = plan_of-itself s.plans p on.plan_on.legal.in_order in'

  fixed-front : (front : Bool) (rest : Bool) → front ≡ true → (front || rest) ≡ true
  fixed-front true rest e = refl
  fixed-front false rest e = absurd cc

  -- the asked copy's plan goes on from its front
  abbrev mine : Plan
  mine = a.plan

  mine-timed : IsTimedPlan machine mine
  mine-timed = All-contains (IsTimedPlan machine) plans' mine a.legal.timed mine-there where
    mine-there : Contains plans' mine
    mine-there = (find-Some (λ q. is_same_copy q.sheet p.sheet) plans' mine a.planned).0

  mine-longer : length p.acts ≤ length mine.acts
  mine-longer =
      let acts : length mine.acts ≡ length (kept_acts p.sheet s.plans ++ a.answers.route) = ap (λ (l : List ActId). length l) a.answers.acts in
      let kept : length (kept_acts p.sheet s.plans) ≡ length p.acts = ap (λ o. length (acts_in o)) own-at in
      let both = length-append (kept_acts p.sheet s.plans) a.answers.route in
      omega arith

  mine-fixed : (i : ℕ) → i ≤ length p.acts → point mine i ≡ point p i
  mine-fixed i within = a.fixed p mine in' a.planned i (fixed-front (is_front p.kind) _ front) within

  climb : (q : Plan) → IsTimedPlan machine q → (k n : ℕ) → k + n ≤ length q.acts → point q k ≤ point q (k + n)
  climb q timed k zero within = let none : k + 0 ≡ k = omega arith in let same = ap (point q) none in omega arith
  climb q timed k (suc n) within =
      let rest = climb q timed k n (omega arith) in
      let up : point q (k + n) < point q ((k + n) + 1) = timed.rise (k + n) (omega arith) in
      let same : point q ((k + n) + 1) ≡ point q (k + suc n) = ap (point q) (omega arith) in
      omega arith

  mine-late : s.now < end_of_plan mine
  mine-late =
      let longer = mine-longer in
      let end : s.now < end_of_plan p = way.runs in
      let fixed = mine-fixed (length p.acts) (omega arith) in
      let up = climb mine mine-timed (length p.acts) (length mine.acts - length p.acts) (omega arith) in
      let same : point mine (length p.acts + (length mine.acts - length p.acts)) ≡ end_of_plan mine = ap (point mine) (omega arith) in
      omega arith

  mine-whole : is_front mine.kind ≡ false
  mine-whole = ap is_front a.answers.whole

  -- the state after the answer
  abbrev release : Plan → Plan
  release = release_until (s.now + machine.lead)

  abbrev after : List Plan
  after = change_plan p.sheet release plans'

  cases : (Q : Plan → Type 0) (r : Plan) → Contains after r
      → ((q o : Plan) → Contains plans' q → Contains s.plans o → IsUnmoved q o → is_same_copy q.sheet p.sheet ≡ false → Q q) → Q (release mine) → Q r
  cases Q r in'' other own = elim (Contains-change_plan p.sheet release plans' r a.legal.in_order in'') [
    | inl others ↦ let from = other-from machine s.plans ask plans' a r others.0 others.1 in other r from.0 others.0 from.1 from.2 others.1
    | inr its ↦ subst Q (sym its.3) (subst (λ q. Q (release q)) (sym (mine-is machine s.plans ask plans' a its.0 its.1 its.2)) own)
  ]

  from : (r : Plan) → Contains after r → (o : Plan) × Contains s.plans o × (r.name ≡ o.name) × (r.sheet ≡ o.sheet)
  from r in'' = cases (λ r. (o : Plan) × Contains s.plans o × (r.name ≡ o.name) × (r.sheet ≡ o.sheet)) r in''
      (λ q o here there u other. (o, there, ap (λ (x : Plan). x.name) u.is, unmoved-sheet q o u)) (p, in', a.answers.name, a.answers.sheet)

  -- counts
  without-others : (c : SheetId) (plans : List Plan) → All (λ p. is_same_copy p.sheet c ≡ false) plans → without c plans ≡ plans
  without-others c [] all = refl
  without-others c (p ∷ plans) all =
      rw (All-head (λ p. is_same_copy p.sheet c ≡ false) p plans all) (ap (λ l. p ∷ l) (without-others c plans (All-tail (λ p. is_same_copy p.sheet c ≡ false) p plans all)))

  own-and-others : (test : Plan → Bool) (c : SheetId) (plans : List Plan) (q : Plan) → AllPairs IsEarlier plans → plan_of c plans ≡ Some q → count_by test plans ≤ cond (test q) 1 0 + count_by test (without c plans)
  own-and-others test c [] q in_order at = absurd cc
  own-and-others test c (r ∷ plans) q in_order at = go (is_same_copy r.sheet c) refl at (own-and-others test c plans q (AllPairs-tail IsEarlier r plans in_order)) where
    later : is_same_copy r.sheet c ≡ true → without c plans ≡ plans
    later e = without-others c plans (All-weaker (IsEarlier r) (λ q. is_same_copy q.sheet c ≡ false)
        (λ q before. subst (λ d. is_same_copy q.sheet d ≡ false) (same_copy-is r.sheet c e) (before-not_same' r.sheet q.sheet before)) plans (AllPairs-head IsEarlier r plans in_order))

    go : (b : Bool) → is_same_copy r.sheet c ≡ b → cond b (Some r) (plan_of c plans) ≡ Some q → (plan_of c plans ≡ Some q → count_by test plans ≤ cond (test q) 1 0 + count_by test (without c plans))
        → count_by test (r ∷ plans) ≤ cond (test q) 1 0 + count_by test (cond (not b) (r ∷ without c plans) (without c plans))
    go true e at rest =
        let is : r ≡ q = cc in
        let one = count-cons test r plans in
        let tests = ap (λ (x : Plan). cond {A = ℕ} (test x) 1 0) is in
        let same = ap (λ (l : List Plan). count_by test l) (later e) in
        omega arith
    go false e at rest =
        let one = count-cons test r plans in
        let other = count-cons test r (without c plans) in
        let few = rest at in
        omega arith

  pub counted : (test : Plan → Bool) → ((q o : Plan) → Contains plans' q → Contains s.plans o → IsUnmoved q o → test q ≡ true → test o ≡ true) → test (release mine) ≡ test mine
      → count_by test after + cond (test p) 1 0 ≤ count_by test s.plans + cond (test mine) 1 0
  counted test stays same =
      let released = count-change p.sheet release test 0 plans' mine a.planned (let e = ap (λ b. cond {A = ℕ} b 1 0) same in omega arith) in
      let own = own-and-others test p.sheet plans' mine a.legal.in_order a.planned in
      let others = count-unmoved test (without p.sheet plans') (without p.sheet s.plans) a.others
      (λ q o here there. stays q o (Contains-filter_from (λ r. not (is_same_copy r.sheet p.sheet)) plans' q here).0 (Contains-filter_from (λ r. not (is_same_copy r.sheet p.sheet)) s.plans o there).0) in
      let one = length-filter test (without p.sheet plans') in
      let other = length-filter test (without p.sheet s.plans) in
      let before = one-of-them test p.sheet s.plans p in' (same_copy-refl p.sheet) in
      omega arith

  live-few : live_count machine s.now after ≤ 256
  live-few =
      let few : live_count machine s.now s.plans ≤ 256 = on.few_live in
      let left = live_count-left machine s.now plans' after (AreLeft-change_plan machine p.sheet release plans' (λ q in'' e. IsLeft-release machine (s.now + machine.lead) q)) in
      let own = own-and-others (is_live machine s.now) p.sheet plans' mine a.legal.in_order a.planned in
      let others = count-unmoved (is_live machine s.now) (without p.sheet plans') (without p.sheet s.plans) a.others
      (λ q o here there u. live-before machine s.now o q (retimed machine s p on plans' a q o (Contains-filter_from (λ r. not (is_same_copy r.sheet p.sheet)) plans' q here).0 (Contains-filter_from (λ r. not (is_same_copy r.sheet p.sheet)) s.plans o there).0 u)) in
      let one = length-filter (is_live machine s.now) (without p.sheet plans') in
      let other = length-filter (is_live machine s.now) (without p.sheet s.plans) in
      let before = one-of-them (is_live machine s.now) p.sheet s.plans p in' (same_copy-refl p.sheet) in
      let was = ap (λ b. cond {A = ℕ} b 1 0) (ends-live machine s.now p timed way.runs) in
      let is = ap (λ b. cond {A = ℕ} b 1 0) (ends-live machine s.now mine mine-timed mine-late) in
      omega arith

  -- a loose one stays as it is
  way-yet : (q o : Plan) → Contains plans' q → Contains s.plans o → IsUnmoved q o → IsTrue (is_loose_in s.lost q) → IsUnderWay s.now q
  way-yet q o here there u e =
      let same : is_loose_in s.lost q ≡ is_loose_in s.lost o = ap (is_loose_in s.lost) u.is in
      let before = All-contains (λ (p : Plan). IsTrue (is_loose_in s.lost p) → IsUnderWay s.now p) s.plans o on.way there (sym same ∙ e) in
      let was-front : is_front o.kind ≡ true = and-first (is_front o.kind) (not (is_lost s o)) (sym same ∙ e) in
      let long = same-length q o u in
      let stays : (i : ℕ) → i ≤ length o.acts → point q i ≡ point o i = λ i within. other-fixed machine s p on plans' a q o here there u i (fixed-front (is_front o.kind) _ was-front) within in
      record {
        started = λ i low. let at = stays i (omega arith) in let was : point o i ≤ s.now = before.started i (omega arith) in omega arith;
        runs = let at = stays (length o.acts) (omega arith) in let end : end_of_plan q ≡ point q (length o.acts) = ap (point q) long in let was : s.now < end_of_plan o = before.runs in omega arith;
      }

  loop-ahead : (x y : Plan) → Contains after x → Contains after y → IsTrue (is_loose_in s.lost x) → (tray : ℕ) → IsTrue (goes_to x.goal tray)
      → IsTrue (is_delivered_to y tray) → IsTrue (is_before x.sheet y.sheet) → s.now < end_of_plan y
  loop-ahead x y in1 in2 e tray to to' before =
      cases (λ y. IsTrue (is_delivered_to y tray) → IsTrue (is_before x.sheet y.sheet) → s.now < end_of_plan y) y in2
      (λ q o here there u other to' before.
      cases (λ x. IsTrue (is_loose_in s.lost x) → IsTrue (goes_to x.goal tray) → IsTrue (is_before x.sheet q.sheet) → s.now < end_of_plan q) x in1
      (λ r v here' there' w other' e to before.
      ends-yet machine s p on plans' a q o here there u other
      (on.ahead v o there' there (sym (ap (is_loose_in s.lost) w.is) ∙ e) tray (sym (ap (λ (x : Plan). goes_to x.goal tray) w.is) ∙ to)
      (sym (ap (λ (x : Plan). is_delivered_to x tray) u.is) ∙ to')
      (ap (λ (c : SheetId). is_before c o.sheet) (sym (unmoved-sheet r v w)) ∙ ap (is_before r.sheet) (sym (unmoved-sheet q o u)) ∙ before)))
      (λ e to before. absurd (whole-loose (is_front mine.kind) _ mine-whole e)) e to before)
      (λ to' before. mine-late) to' before where
        whole-loose : (b c : Bool) → b ≡ false → (b && c) ≡ true → ⊥
        whole-loose true c e f = cc
        whole-loose false c e f = cc

  pub on-planned : IsPlannable machine (planned machine ask plans' s).state → IsStateOnWay machine (planned machine ask plans' s).state
  on-planned plannable = record {
    plan_on = plannable;
    few_live = live-few;
    named = λ x y in1 in2 same.
        let one = from x in1 in
        let other = from y in2 in
        let job = on.named one.0 other.0 one.1 other.1 (sym one.2 ∙ same ∙ other.2) in
        ap (λ (c : SheetId). c.job) one.3 ∙ job ∙ sym (ap (λ (c : SheetId). c.job) other.3);
    goals = All-from_contains (λ p. IsKnownGoal machine p.goal) after (λ r in''.
        cases (λ r. IsKnownGoal machine r.goal) r in''
        (λ q o here there u other. subst (IsKnownGoal machine) (sym (ap (λ (x : Plan). x.goal) u.is)) (All-contains (λ (p : Plan). IsKnownGoal machine p.goal) s.plans o on.goals there))
        (subst (IsKnownGoal machine) (sym a.answers.goal) (All-contains (λ (p : Plan). IsKnownGoal machine p.goal) s.plans p on.goals in')));
    way = All-from_contains (λ p. IsTrue (is_loose_in s.lost p) → IsUnderWay s.now p) after (λ r in''.
        cases (λ r. IsTrue (is_loose_in s.lost r) → IsUnderWay s.now r) r in'' (λ q o here there u other. way-yet q o here there u)
        (λ e. absurd (whole-loose (is_front mine.kind) _ mine-whole e)));
    ahead = loop-ahead;
  } where
    whole-loose : (b c : Bool) → b ≡ false → (b && c) ≡ true → ⊥
    whole-loose true c e f = cc
    whole-loose false c e f = cc

  open-same : (g : Group) → is_open_of s g mine ≡ is_open_of s g p
  open-same g = λ k. (not (list_any (is_same_copy (a.answers.sheet k)) s.lost) && is_to_tray (a.answers.goal k)) && is_in g (a.answers.sheet k)

  pub fall-planned : CanFall (planned machine ask plans' s).state []
  fall-planned = record {
    known = All-from_contains (IsKnown s.jobs) after (λ q in''. let r = from q in'' in
        subst (λ (c : SheetId). c.job < length s.jobs) (sym r.3) (All-contains (IsKnown s.jobs) s.plans r.0 can.fall.known r.1));
    next = All-from_contains (λ p. HasNextCopy p.sheet) after (λ q in''. let r = from q in'' in
        subst HasNextCopy (sym r.3) (All-contains (λ (p : Plan). HasNextCopy p.sheet) s.plans r.0 can.fall.next r.1));
    purges = All-from_contains (HasStarted s.now) after (λ r in''.
        cases (HasStarted s.now) r in''
        (λ q o here there u other purge.
        let was : point o 0 ≤ s.now = All-contains (HasStarted s.now) s.plans o can.fall.purges there (sym (ap (λ (x : Plan). is_to_tray x.goal) u.is) ∙ purge) in
        let re = retimed machine s p on plans' a q o here there u in
        let stays = low-stays machine s.now o q re 0 re.timed.some was in omega arith)
        (λ purge. let at = mine-fixed 0 (omega arith) in let was : point p 0 ≤ s.now = way.started 0 timed.some in omega arith));
    few = λ g.
        let few = can.fall.few g in
        let less = counted (is_open_of s g) (λ q o here there u e. sym (ap (is_open_of s g) u.is) ∙ e) refl in
        let same = ap (λ b. cond {A = ℕ} b 1 0) (open-same g) in
        omega arith;
  }

  pub loop-planned : IsPlannable machine (planned machine ask plans' s).state → CanLoop machine (planned machine ask plans' s).state
  loop-planned plannable = record { on_way = on-planned plannable; fall = fall-planned }
