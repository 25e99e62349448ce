-- A loose copy gives its tray up, and falls back: the loop can go on.
use Rattle.std.proofs.Common.{◌≡◌, ℕ, ◌+◌, ◌<◌, ◌≤◌, Bool, true, false, cond, not, ◌&&◌, List, [], ◌∷◌, length, find, Option, Some, None, option_map, IsTrue, Contains, refl, sym, ap, ◌∙◌, arith, subst, count_by, inl, inr}
use Rattle.std.proofs.lemmas.List.Elements.{All-contains}
use Rattle.tp_machine.specs.declared.machine.Machine.{Machine}
use Rattle.tp_schedule.specs.LivePlans.{live_count}
use Rattle.tp_schedule.specs.PlannerAnswers.{IsKnownGoal}
use Rattle.tp_schedule.specs.Plans.{IsTimedPlan, change_plan, end_of_plan, goes_to, is_before, is_delivered_to, is_front, is_same_copy, plan_of}
use Rattle.tp_schedule.specs.declared.parts.Ask.{Ask}
use Rattle.tp_schedule.specs.declared.parts.Plan.{Plan}
use Rattle.tp_schedule.specs.declared.parts.SheetId.{SheetId}
use Rattle.tp_schedule.proofs.CopyFacts.{plan_of-itself, same_copy-is}
use Rattle.tp_schedule.proofs.Membership.{All-from_contains}
use Rattle.tp_event_rules.specs.Fates.{to_purge}
use Rattle.tp_event_rules.specs.Lines.{is_lost}
use Rattle.tp_event_rules.specs.Loops.{ask_in_flight, gives_tray_up, is_loose, next_ask}
use Rattle.tp_event_rules.specs.Moments.{is_to_tray}
use Rattle.tp_event_rules.specs.Seen.{HasNextCopy, HasStarted}
use Rattle.tp_event_rules.specs.States.{SessionState}
use Rattle.tp_event_rules.proofs.LeftPlans.{AreLeft, live_count-left}
use Rattle.tp_event_rules.proofs.ListFacts.{find-Some}
use Rattle.tp_event_rules.proofs.PlanOnFacts.{CanPlanOn-left, Contains-change_plan, IsLeft-to_purge}
use Rattle.tp_event_rules.proofs.ReleasedPlans.{AreLeft-change_plan}
use Rattle.tp_replan.specs.LooseLoop.{CanLoop, IsUnderWay, is_loose_in}
use Rattle.tp_replan.specs.Meanings.{IsKnown}
use Rattle.tp_replan.specs.Open.{is_in}
use Rattle.tp_replan.proofs.AllFall.{StillCan, can-fall_back}
use Rattle.tp_replan.proofs.OpenFacts.{and-first, and-second, count-cons, is_open_of}
use Rattle.tp_replan.proofs.StillOnWay.{IsStateOnWay, formed-in, on-fall_back}

-- the first loose copy is asked
pub record IsFirstLoose (machine : Machine) (s : SessionState) (ask : Ask) : Type 0 where
  pub p : Plan
  pub there : Contains s.plans p
  pub loose : is_loose s p ≡ true
  pub is : ask_in_flight machine s p ≡ ask

pub first-loose : (machine : Machine) (s : SessionState) (ask : Ask) → next_ask machine s ≡ Some ask → IsFirstLoose machine s ask
first-loose machine s ask e = go (find (is_loose s) s.plans) refl e where
  go : (o : Option Plan) → find (is_loose s) s.plans ≡ o → option_map (ask_in_flight machine s) o ≡ Some ask → IsFirstLoose machine s ask
  go None f e = absurd cc
  go (Some p) f e = let at = find-Some (is_loose s) s.plans p f in record { p = p; there = at.0; loose = at.1; is = cc }

-- all plans of the copy are this one
pub the-copy : (machine : Machine) (s : SessionState) (p q : Plan) → IsStateOnWay machine s → Contains s.plans p → Contains s.plans q → is_same_copy q.sheet p.sheet ≡ true → q ≡ p
the-copy machine s p q on in' in'' same =
    let sheets : q.sheet ≡ p.sheet = same_copy-is q.sheet p.sheet same in
    let mine = plan_of-itself s.plans q on.plan_on.legal.in_order in'' in
    let its = plan_of-itself s.plans p on.plan_on.legal.in_order in' in
    let at : plan_of q.sheet s.plans ≡ plan_of p.sheet s.plans = ap (λ c. plan_of c s.plans) sheets in
    cc

-- counts where one plan is changed
pub count-change : (copy : SheetId) (f : Plan → Plan) (test : Plan → Bool) (k : ℕ) (plans : List Plan) (p : Plan) → plan_of copy plans ≡ Some p → cond (test (f p)) 1 0 + k ≤ cond (test p) 1 0
    → count_by test (change_plan copy f plans) + k ≤ count_by test plans
count-change copy f test k [] p at less = absurd cc
count-change copy f test k (q ∷ plans) p at less = go (is_same_copy q.sheet copy) at (count-change copy f test k plans p) where
  go : (b : Bool) → cond b (Some q) (plan_of copy plans) ≡ Some p → (plan_of copy plans ≡ Some p → cond (test (f p)) 1 0 + k ≤ cond (test p) 1 0 → count_by test (change_plan copy f plans) + k ≤ count_by test plans)
      → count_by test (cond b (f q ∷ plans) (q ∷ change_plan copy f plans)) + k ≤ count_by test (q ∷ plans)
  go true at rest =
      let is : q ≡ p = cc in
      let one = count-cons test (f q) plans in
      let other = count-cons test q plans in
      let tests = ap (λ (r : Plan). cond {A = ℕ} (test r) 1 0) is in
      let changed = ap (λ (r : Plan). cond {A = ℕ} (test (f r)) 1 0) is in
      omega arith
  go false at rest =
      let one = count-cons test q (change_plan copy f plans) in
      let other = count-cons test q plans in
      let few = rest at less in
      omega arith

-- counts that a change can raise by one at the most
pub count-change_more : (copy : SheetId) (f : Plan → Plan) (test : Plan → Bool) (plans : List Plan) → count_by test (change_plan copy f plans) ≤ count_by test plans + 1
count-change_more copy f test [] = omega arith
count-change_more copy f test (q ∷ plans) = go (is_same_copy q.sheet copy) (count-change_more copy f test plans) where
  most : (b : Bool) → cond {A = ℕ} b 1 0 ≤ 1
  most true = omega arith
  most false = omega arith

  go : (b : Bool) → count_by test (change_plan copy f plans) ≤ count_by test plans + 1 → count_by test (cond b (f q ∷ plans) (q ∷ change_plan copy f plans)) ≤ count_by test (q ∷ plans) + 1
  go true rest =
      let one = count-cons test (f q) plans in
      let other = count-cons test q plans in
      let at = most (test (f q)) in
      omega arith
  go false rest =
      let one = count-cons test q (change_plan copy f plans) in
      let other = count-cons test q plans in
      omega arith

module _ (machine : Machine) (s : SessionState) (p : Plan) (can : CanLoop machine s) (in' : Contains s.plans p) (loose : is_loose s p ≡ true) where
  -- the state where the copy is to be purged
  abbrev pub given_up : SessionState
  given_up = record s { plans = change_plan p.sheet to_purge s.plans }

  on : IsStateOnWay machine s
  on = can.on_way

  front : is_front p.kind ≡ true
  front = and-first (is_front p.kind) (not (is_lost s p)) loose

  way : IsUnderWay s.now p
  way = All-contains (λ (p : Plan). is_loose s p ≡ true → IsUnderWay s.now p) s.plans p on.way in' loose

  timed : IsTimedPlan machine p
  timed = All-contains (IsTimedPlan machine) s.plans p on.plan_on.legal.timed in'

  less : AreLeft machine s.plans (change_plan p.sheet to_purge s.plans)
  less = AreLeft-change_plan machine p.sheet to_purge s.plans (λ q in'' same. IsLeft-to_purge machine q (subst (λ (r : Plan). is_front r.kind ≡ true) (sym (the-copy machine s p q on in' in'' same)) front))

  -- each plan is one of before, or the copy's with a purge as goal
  cases : (Q : Plan → Type 0) (q : Plan) → Contains (change_plan p.sheet to_purge s.plans) q → ((r : Plan) → Contains s.plans r → Q r) → Q (to_purge p) → Q q
  cases Q q in'' same mine = elim (Contains-change_plan p.sheet to_purge s.plans q on.plan_on.legal.in_order in'') [
    | inl other ↦ same q other.0
    | inr own ↦ subst Q (sym own.3) (subst (λ r. Q (to_purge r)) (sym (the-copy machine s p own.0 on in' own.1 own.2)) mine)
  ]

  from : (q : Plan) → Contains (change_plan p.sheet to_purge s.plans) q → (r : Plan) × Contains s.plans r × (q.name ≡ r.name) × (q.sheet ≡ r.sheet)
  from q in'' = cases (λ q. (r : Plan) × Contains s.plans r × (q.name ≡ r.name) × (q.sheet ≡ r.sheet)) q in'' (λ r there. (r, there, refl, refl)) (p, in', refl, refl)

  pub on-given_up : IsStateOnWay machine given_up
  on-given_up = record {
    plan_on = CanPlanOn-left machine s.now s.plans given_up.plans less on.plan_on;
    few_live =
        let fewer = live_count-left machine s.now s.plans given_up.plans less in
        let few : live_count machine s.now s.plans ≤ 256 = on.few_live in
        omega arith;
    named = λ p q in' in'' same.
        let one = from p in' in
        let other = from q in'' in
        let job = on.named one.0 other.0 one.1 other.1 (sym one.2 ∙ same ∙ other.2) in
        ap (λ (c : SheetId). c.job) one.3 ∙ job ∙ sym (ap (λ (c : SheetId). c.job) other.3);
    goals = All-from_contains (λ p. IsKnownGoal machine p.goal) given_up.plans (λ q in''. cases (λ q. IsKnownGoal machine q.goal) q in'' (λ r there. All-contains (λ (p : Plan). IsKnownGoal machine p.goal) s.plans r on.goals there) tt);
    way = All-from_contains (λ p. IsTrue (is_loose_in s.lost p) → IsUnderWay s.now p) given_up.plans (λ q in''.
        cases (λ q. IsTrue (is_loose_in s.lost q) → IsUnderWay s.now q) q in''
        (λ r there. All-contains (λ p. IsTrue (is_loose_in s.lost p) → IsUnderWay s.now p) s.plans r on.way there)
        (λ e. record { started = way.started; runs = way.runs }));
    ahead = λ a b in' in'' e tray to to' before.
        cases (λ a. IsTrue (is_loose_in s.lost a) → IsTrue (goes_to a.goal tray) → IsTrue (is_before a.sheet b.sheet) → s.now < end_of_plan b) a in'
        (λ r there e to before.
        cases (λ b. IsTrue (is_delivered_to b tray) → IsTrue (is_before r.sheet b.sheet) → s.now < end_of_plan b) b in''
        (λ q there' to' before. on.ahead r q there there' e tray to to' before)
        (λ to' before. absurd (no-purge (is_front p.kind) to')) to' before)
        (λ e to before. absurd cc) e to before;
  } where
    no-purge : (b : Bool) → (not b && false) ≡ true → ⊥
    no-purge true e = cc
    no-purge false e = cc

  -- its sheet is to wait, so that it can fall back
  pub can-given_up : is_to_tray p.goal ≡ true → StillCan given_up (p.sheet ∷ [])
  can-given_up tray = record {
    fall = record {
      known = All-from_contains (IsKnown s.jobs) given_up.plans (λ q in''. let r = from q in'' in
          subst (λ (c : SheetId). c.job < length s.jobs) (sym r.3) (All-contains (IsKnown s.jobs) s.plans r.0 can.fall.known r.1));
      next = All-from_contains (λ p. HasNextCopy p.sheet) given_up.plans (λ q in''. let r = from q in'' in
          subst HasNextCopy (sym r.3) (All-contains (λ (p : Plan). HasNextCopy p.sheet) s.plans r.0 can.fall.next r.1));
      purges = All-from_contains (HasStarted s.now) given_up.plans (λ q in''.
          cases (HasStarted s.now) q in'' (λ r there. All-contains (HasStarted s.now) s.plans r can.fall.purges there)
          (λ e. way.started 0 timed.some));
      few = λ g.
          let few = can.fall.few g in
          let less = count-change p.sheet to_purge (is_open_of s g) (cond (is_in g p.sheet) 1 0) s.plans p (plan_of-itself s.plans p on.plan_on.legal.in_order in')
          (counted (is_lost s p) (is_in g p.sheet) (and-second (is_front p.kind) (not (is_lost s p)) loose)) in
          let one = count-cons (is_in g) p.sheet [] in
          omega arith;
    };
    formed = formed-in machine given_up on-given_up;
  } where
    counted : (lost cp : Bool) → not lost ≡ true → cond ((not lost && false) && cp) 1 0 + cond cp 1 0 ≤ cond ((not lost && is_to_tray p.goal) && cp) 1 0
    counted true cp e = absurd cc
    counted false cp e = rw tray (omega arith)

  pub loop-given_up : is_to_tray p.goal ≡ true → CanLoop machine (gives_tray_up (ask_in_flight machine s p) s).state
  loop-given_up tray = record {
    on_way = on-fall_back machine given_up (record { sheet = p.sheet; want = p.want; again = true }) on-given_up;
    fall = (can-fall_back given_up (record { sheet = p.sheet; want = p.want; again = true }) [] (can-given_up tray)).fall;
  }
