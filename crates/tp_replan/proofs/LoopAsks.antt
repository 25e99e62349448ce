-- The ask for a loose copy can be put, and its running action uses its module.
use Rattle.std.proofs.Common.{◌≡◌, ℕ, zero, suc, ◌+◌, ◌-◌, ◌<◌, ◌≤◌, Bool, true, false, cond, not, ◌&&◌, ◌||◌, ◌==◌, nat_le, nat_lt, List, [], ◌∷◌, length, slice_index, slice_get, Option, Some, None, option_and_then, unwrap_or, Contains, refl, sym, ap, ◌∙◌, arith, count_by, inl, inr}
use Rattle.std.specs.Prelude.{IsSomeAnd}
use Rattle.std.specs.List.{list_any}
use Rattle.std.proofs.lemmas.Bool.Decides.{nat_tests}
use Rattle.std.proofs.lemmas.List.Folds.{list_any_at}
use Rattle.std.proofs.lemmas.List.Elements.{All-contains}
use Rattle.tp_machine.specs.Steps.{can_step, step_of, after}
use Rattle.tp_machine.specs.ModuleUse.{action_at}
use Rattle.tp_machine.specs.declared.parts.ActId.{ActId}
use Rattle.tp_machine.specs.declared.parts.Action.{Action}
use Rattle.tp_machine.specs.declared.parts.LocId.{LocId}
use Rattle.tp_machine.specs.declared.parts.Sheet.{Sheet}
use Rattle.tp_machine.specs.declared.parts.State.{State}
use Rattle.tp_machine.specs.declared.machine.Machine.{Machine}
use Rattle.tp_schedule.specs.Holders.{runs_from}
use Rattle.tp_schedule.specs.LivePlans.{is_live, live_count}
use Rattle.tp_schedule.specs.PlannerAnswers.{CanAsk, IsKnownGoal, IsOpenGoal}
use Rattle.tp_schedule.specs.Plans.{IsTimedPlan, end_of_plan, is_front, is_same_copy, point, without}
use Rattle.tp_schedule.specs.Routes.{IsFreshStart, fresh, walk}
use Rattle.tp_schedule.specs.declared.parts.Goal.{Goal}
use Rattle.tp_schedule.specs.declared.parts.Goal.TheVariants.{Tray, Purge}
use Rattle.tp_schedule.specs.declared.parts.Kind.{Kind}
use Rattle.tp_schedule.specs.declared.parts.Kind.TheVariants.{Whole, Front}
use Rattle.tp_schedule.specs.declared.parts.Plan.{Plan}
use Rattle.tp_schedule.specs.declared.parts.SheetId.{SheetId}
use Rattle.tp_schedule.proofs.CopyFacts.{plan_of-itself, same_copy-refl}
use Rattle.tp_schedule.proofs.Membership.{Contains-cons_cases}
use Rattle.tp_schedule.proofs.Walks.{walk_first}
use Rattle.tp_event_rules.specs.Lines.{is_lost}
use Rattle.tp_event_rules.specs.Labels.{last_of}
use Rattle.tp_event_rules.specs.Loops.{ask_in_flight, first_location, from_in, is_loose, module_in, start_of, state_after}
use Rattle.tp_event_rules.specs.Moments.{does_use, is_running, is_running_on, uses_in}
use Rattle.tp_event_rules.specs.States.{SessionState}
use Rattle.tp_event_rules.proofs.ListFacts.{Any-contains}
use Rattle.tp_replan.specs.LooseLoop.{IsUnderWay}
use Rattle.tp_replan.proofs.OpenFacts.{and-first, count-cons}
use Rattle.tp_replan.proofs.StillOnWay.{IsStateOnWay}

pub front-is : (k : Kind) → is_front k ≡ true → k ≡ Front
front-is Whole e = absurd cc
front-is Front e = refl

pub ends-live : (machine : Machine) (now : ℕ) (p : Plan) → IsTimedPlan machine p → now < end_of_plan p → is_live machine now p ≡ true
ends-live machine now p timed late =
    let one_more : length p.points ≡ length p.acts + 1 = timed.one_more in
    let e : nat_lt now (end_of_plan p) ≡ true = grind (arith, nat_tests) in
    rw (list_any_at (nat_lt now) p.points (length p.acts) 0 (omega arith) e) refl

-- the others are fewer
pub others-fewer : (test : Plan → Bool) (c : SheetId) (plans : List Plan) → count_by test (without c plans) ≤ count_by test plans
others-fewer test c [] = omega arith
others-fewer test c (p ∷ plans) = go (is_same_copy p.sheet c) (others-fewer test c plans) where
  go : (b : Bool) → count_by test (without c plans) ≤ count_by test plans → count_by test (cond (not b) (p ∷ without c plans) (without c plans)) ≤ count_by test (p ∷ plans)
  go true few = let one = count-cons test p plans in omega arith
  go false few = let one = count-cons test p plans in let other = count-cons test p (without c plans) in omega arith

pub one-of-them : (test : Plan → Bool) (c : SheetId) (plans : List Plan) (p : Plan) → Contains plans p → is_same_copy p.sheet c ≡ true → count_by test (without c plans) + cond (test p) 1 0 ≤ count_by test plans
one-of-them test c [] p in' same = absurd (omega (arith, in'.1))
one-of-them test c (q ∷ plans) p in' same = elim (Contains-cons_cases q plans p in') [
  | inl is ↦ first (is_same_copy q.sheet c) (ap (λ (r : Plan). is_same_copy r.sheet c) is ∙ same) is
  | inr later ↦ more (is_same_copy q.sheet c) (one-of-them test c plans p later same)
] where
  first : (b : Bool) → b ≡ true → q ≡ p → count_by test (cond (not b) (q ∷ without c plans) (without c plans)) + cond (test p) 1 0 ≤ count_by test (q ∷ plans)
  first true e is =
      let one = count-cons test q plans in
      let fewer = others-fewer test c plans in
      let tests = ap (λ (r : Plan). cond {A = ℕ} (test r) 1 0) is in
      omega arith
  first false e is = absurd cc

  more : (b : Bool) → count_by test (without c plans) + cond (test p) 1 0 ≤ count_by test plans
      → count_by test (cond (not b) (q ∷ without c plans) (without c plans)) + cond (test p) 1 0 ≤ count_by test (q ∷ plans)
  more true few = let one = count-cons test q plans in omega arith
  more false few = let one = count-cons test q plans in let other = count-cons test q (without c plans) in omega arith

-- a plan starts at the location from where its first action goes
loc-is : (a b : LocId) → (a.0 == b.0) ≡ true → a ≡ b
loc-is a b e = let same : a.0 ≡ b.0 = grind (arith, nat_tests) in λ k. record { 0 = same k }

starts-from : (machine : Machine) (want : Sheet) (acts : List ActId) (start end : State) → 0 < length acts → IsFreshStart machine want start → walk machine want acts start ≡ Some end → start ≡ fresh (first_location machine acts)
starts-from machine want [] start end some starts leads = absurd (omega arith)
starts-from machine want (act ∷ acts) start end some starts leads =
    let first = walk_first machine want act acts start end leads in
    let feeder = Any-contains (λ f. (f.media ≡ want.media) × (start ≡ fresh f.loc)) machine.feeders starts in
    let is : start ≡ fresh feeder.0.loc = feeder.2.1 in
    let at = go (action_at machine act.0) first.0 first.1 in
    is ∙ ap fresh (sym (ap (λ (s : State). s.loc) is) ∙ at) where
      taken : (a : Action) (b : Bool) (s' : State) → can_step a want start ≡ b → cond b (Some (after a start)) None ≡ Some s' → b ≡ true
      taken a true s' e f = refl
      taken a false s' e f = absurd cc

      go : (o : Option Action) (s' : State) → option_and_then (λ a. step_of a want start) o ≡ Some s' → start.loc ≡ from_in o
      go None s' e = absurd cc
      go (Some a) s' e = loc-is start.loc a.from (and-first (start.loc.0 == a.from.0) _ (taken a (can_step a want start) s' refl e))

unwrapped : (o : Option State) (end d : State) → o ≡ Some end → unwrap_or o d ≡ end
unwrapped None end d e = absurd cc
unwrapped (Some s) end d e = cc

leads-after : (machine : Machine) (p : Plan) (timed : IsTimedPlan machine p) → walk machine p.want p.acts timed.start ≡ Some (state_after machine p)
leads-after machine p timed =
    let same = starts-from machine p.want p.acts timed.start timed.end timed.some timed.starts timed.leads in
    let from : walk machine p.want p.acts (start_of machine p) ≡ Some timed.end = ap (walk machine p.want p.acts) (sym same) ∙ timed.leads in
    timed.leads ∙ ap Some (sym (unwrapped (walk machine p.want p.acts (start_of machine p)) timed.end (start_of machine p) from))

-- the ask for a loose copy
pub can-ask : (machine : Machine) (s : SessionState) (p : Plan) → IsStateOnWay machine s → Contains s.plans p → is_loose s p ≡ true → CanAsk machine s.plans (ask_in_flight machine s p)
can-ask machine s p on in' loose = record {
  plan_on = on.plan_on;
  few_live =
      let few : live_count machine s.now s.plans ≤ 256 = on.few_live in
      let one = one-of-them (is_live machine s.now) p.sheet s.plans p in' (same_copy-refl p.sheet) in
      let live = ap (λ b. cond {A = ℕ} b 1 0) (ends-live machine s.now p timed way.runs) in
      omega arith;
  named = on.named;
  asked = (
    p,
    plan_of-itself s.plans p on.plan_on.legal.in_order in',
    record {
      front = front-is p.kind (and-first (is_front p.kind) (not (is_lost s p)) loose);
      name = refl;
      want = refl;
      acts = refl;
      released = all-released;
      ends = refl;
      some = timed.some;
      start = timed.start;
      starts = timed.starts;
      leads = leads-after machine p timed;
    },
  );
  has_time = way.runs;
  open_goal = goal p.goal refl (All-contains (λ (p : Plan). IsKnownGoal machine p.goal) s.plans p on.goals in');
} where
  timed : IsTimedPlan machine p
  timed = All-contains (IsTimedPlan machine) s.plans p on.plan_on.legal.timed in'

  way : IsUnderWay s.now p
  way = All-contains (λ (p : Plan). is_loose s p ≡ true → IsUnderWay s.now p) s.plans p on.way in' loose

  all-released : p.released ≡ length p.acts
  all-released = go (nat_lt p.released (length p.acts)) refl where
    go : (b : Bool) → nat_lt p.released (length p.acts) ≡ b → p.released ≡ length p.acts
    go false e =
        let high : length p.acts ≤ p.released = grind (arith, nat_tests) in
        let most : p.released ≤ length p.acts = timed.released in omega arith
    go true e =
        let below : p.released < length p.acts = grind (arith, nat_tests) in
        let above : s.now + machine.lead < point p p.released = on.plan_on.floors p in' refl p.released (omega arith) below in
        let started : point p p.released ≤ s.now = way.started p.released below in
        absurd (omega arith)

  goal : (g : Goal) → p.goal ≡ g → IsKnownGoal machine g → IsOpenGoal machine s.plans (ask_in_flight machine s p) g
  goal Purge e known = tt
  goal (Tray t) e known = (
    known,
    λ q in'' to before.
        ends-live machine s.now q (All-contains (IsTimedPlan machine) s.plans q on.plan_on.legal.timed in'')
        (on.ahead p q in' in'' loose t.0 (let same : (t.0 == t.0) ≡ true = grind (arith, nat_tests) in rw e same) to before),
  )

-- its running action uses its own module
last-runs : (now : ℕ) (test : ActId → Bool) (sheet : SheetId) (m : ℕ) (acts : List ActId) (points : List ℕ) (k : ℕ) → length acts ≡ suc k → length points ≡ length acts + 1
    → slice_index points k ≤ now → now < slice_index points (suc k) → test (last_of acts) ≡ true → list_any (λ run. is_running now run && test run.act) (runs_from sheet m acts points) ≡ true
last-runs now test sheet m [] points k some len low high e = absurd (omega arith)
last-runs now test sheet m (a ∷ acts) [] k some len low high e = absurd (omega arith)
last-runs now test sheet m (a ∷ acts) (start ∷ []) k some len low high e = absurd (omega arith)
last-runs now test sheet m (a ∷ []) (start ∷ end ∷ points) zero some len low high e =
    let begun : nat_le start now ≡ true = grind (arith, nat_tests) in
    let late : nat_lt now end ≡ true = grind (arith, nat_tests) in
    rw (begun, late, e) refl
last-runs now test sheet m (a ∷ []) (start ∷ end ∷ points) (suc k) some len low high e = absurd (omega arith)
last-runs now test sheet m (a ∷ b ∷ acts) (start ∷ end ∷ points) zero some len low high e = absurd (omega arith)
last-runs now test sheet m (a ∷ b ∷ acts) (start ∷ end ∷ points) (suc k) some len low high e =
    or-true (is_running now (record { sheet = sheet; number = m; act = a; start = start; end = end }) && test a) _
    (last-runs now test sheet (m + 1) (b ∷ acts) (end ∷ points) k (omega arith) (omega arith) low high e) where
      or-true : (a b : Bool) → b ≡ true → (a || b) ≡ true
      or-true true b e = refl
      or-true false b e = e

last-there : (acts : List ActId) (k : ℕ) → length acts ≡ suc k → slice_get acts k ≡ Some (last_of acts)
last-there [] k e = absurd (omega arith)
last-there (a ∷ []) zero e = refl
last-there (a ∷ []) (suc k) e = absurd (omega arith)
last-there (a ∷ b ∷ acts) zero e = absurd (omega arith)
last-there (a ∷ b ∷ acts) (suc k) e = last-there (b ∷ acts) k (omega arith)

pub stuck-runs : (machine : Machine) (s : SessionState) (p : Plan) → IsStateOnWay machine s → Contains s.plans p → is_loose s p ≡ true
    → is_running_on machine s.now (module_in (action_at machine (last_of p.acts).0)).0 p ≡ true
stuck-runs machine s p on in' loose =
    let some : 0 < length p.acts = timed.some in
    let count : length p.acts ≡ suc (length p.acts - 1) = omega arith in
    let low : point p (length p.acts - 1) ≤ s.now = way.started (length p.acts - 1) (omega arith) in
    let end : end_of_plan p ≡ point p (suc (length p.acts - 1)) = ap (point p) count in
    let late : s.now < end_of_plan p = way.runs in
    last-runs s.now (does_use machine (module_in (action_at machine (last_of p.acts).0)).0) p.sheet 1 p.acts p.points (length p.acts - 1) count timed.one_more low (omega arith)
    (uses (action_at machine (last_of p.acts).0) _ _ (timed.lasts (length p.acts - 1) (last_of p.acts) (last-there p.acts (length p.acts - 1) count))) where
      timed : IsTimedPlan machine p
      timed = All-contains (IsTimedPlan machine) s.plans p on.plan_on.legal.timed in'

      way : IsUnderWay s.now p
      way = All-contains (λ (p : Plan). is_loose s p ≡ true → IsUnderWay s.now p) s.plans p on.way in' loose

      uses : (o : Option Action) (from to : ℕ) → IsSomeAnd o (λ a. (from + a.least ≤ to) × (to ≤ from + a.most)) → uses_in machine (module_in o).0 o ≡ true
      uses None from to h = absurd h
      uses (Some a) from to h = let same : (a.module.0 == a.module.0) ≡ true = grind (arith, nat_tests) in rw same refl
