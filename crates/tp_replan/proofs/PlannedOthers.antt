-- Another plan where a loose copy is planned: it keeps what is fixed, and what ends after the moment does so yet.
use Rattle.std.proofs.Common.{◌≡◌, ℕ, suc, ◌+◌, ◌-◌, ◌<◌, ◌≤◌, Bool, true, false, ◌&&◌, ◌||◌, nat_le, nat_lt, List, length, Some, Contains, refl, sym, ap, ◌∙◌, arith, subst}
use Rattle.std.proofs.lemmas.Bool.Decides.{nat_tests}
use Rattle.std.proofs.lemmas.List.Elements.{All-contains}
use Rattle.tp_machine.specs.declared.machine.Machine.{Machine}
use Rattle.tp_schedule.specs.Answers.{IsAlternative}
use Rattle.tp_schedule.specs.Plans.{IsTimedPlan, end_of_plan, is_fixed, is_front, is_same_copy, plan_of, point}
use Rattle.tp_schedule.specs.declared.parts.Plan.{Plan}
use Rattle.tp_schedule.proofs.CopyFacts.{plan_of-itself}
use Rattle.tp_event_rules.specs.Loops.{ask_in_flight}
use Rattle.tp_event_rules.specs.States.{SessionState}
use Rattle.tp_event_rules.proofs.AnsweredPlans.{IsUnmoved, unmoved-sheet}
use Rattle.tp_event_rules.proofs.AskedPlans.{IsRetimedPlan}
use Rattle.tp_replan.proofs.StillOnWay.{IsStateOnWay}

-- a plan with the same points, but for its place in the schedule
pub same-length : (q p : Plan) → IsUnmoved q p → length q.acts ≡ length p.acts
same-length q p u = ap (λ (r : Plan). length r.acts) u.is

module _ (machine : Machine) (s : SessionState) (p : Plan) (on : IsStateOnWay machine s) (plans' : List Plan) (a : IsAlternative machine s.plans (ask_in_flight machine s p) plans') where
  -- another plan keeps what is fixed
  pub other-fixed : (q r : Plan) → Contains plans' q → Contains s.plans r → IsUnmoved q r → (i : ℕ) → is_fixed r i ≡ true → i ≤ length r.acts → point q i ≡ point r i
  other-fixed q r in'' there u i fixed within =
      a.fixed r q there (subst (λ c. plan_of c plans' ≡ Some q) (unmoved-sheet q r u) (plan_of-itself plans' q a.legal.in_order in'')) i fixed within

  pub retimed : (q r : Plan) → Contains plans' q → Contains s.plans r → IsUnmoved q r → IsRetimedPlan machine s.now r q
  retimed q r in'' there u = record {
    unmoved = u;
    timed = All-contains (IsTimedPlan machine) s.plans r on.plan_on.legal.timed there;
    timed' = All-contains (IsTimedPlan machine) plans' q a.legal.timed in'';
    floors = λ i released within. let above : s.now + machine.lead < point r i = on.plan_on.floors r there refl i released within in omega arith;
    fixed = other-fixed q r in'' there u;
  }

  not-asked : (q : Plan) → is_same_copy q.sheet p.sheet ≡ false → (is_same_copy q.sheet p.sheet && nat_lt 0 (length p.acts)) ≡ false
  not-asked q e = rw e refl

  -- the same, seen from after
  back : (q r : Plan) → Contains plans' q → Contains s.plans r → IsUnmoved q r → is_same_copy q.sheet p.sheet ≡ false → IsRetimedPlan machine s.now q r
  back q r in'' there u other = record {
    unmoved = record { is = sym u.is };
    timed = All-contains (IsTimedPlan machine) plans' q a.legal.timed in'';
    timed' = All-contains (IsTimedPlan machine) s.plans r on.plan_on.legal.timed there;
    floors = λ i released within. let above : s.now + machine.lead < point q i = a.floors q in'' (not-asked q other) i released within in omega arith;
    fixed = λ i fixed within.
        let long = same-length q r u in
        let same : is_fixed r i ≡ is_fixed q i = ap (λ (x : Plan). is_fixed x i) (sym u.is) in
        sym (other-fixed q r in'' there u i (same ∙ fixed) (omega arith));
  }

  -- what ends after the moment does so yet
  pub ends-yet : (q r : Plan) → Contains plans' q → Contains s.plans r → IsUnmoved q r → is_same_copy q.sheet p.sheet ≡ false → s.now < end_of_plan r → s.now < end_of_plan q
  ends-yet q r in'' there u other late = go (nat_lt s.now (end_of_plan q)) refl where
    b : IsRetimedPlan machine s.now q r
    b = back q r in'' there u other

    last-within : (n : ℕ) → 0 < n → (suc (n - 1)) ≡ n
    last-within n some = omega arith

    go : (t : Bool) → nat_lt s.now (end_of_plan q) ≡ t → s.now < end_of_plan q
    go true e = grind (arith, nat_tests)
    go false e = absurd (ends b (grind (arith, nat_tests))) where
      ends : IsRetimedPlan machine s.now q r → end_of_plan q ≤ s.now → ⊥
      ends b low =
          let long = same-length q r u in
          let some : 0 < length q.acts = b.timed.some in
          let released : nat_lt q.released (length q.acts) ≡ false = all-in (nat_lt q.released (length q.acts)) refl in
          let most : q.released ≤ length q.acts = b.timed.released in
          let at : q.released ≡ length q.acts = grind (arith, nat_tests) in
          let fixed : is_fixed q (length q.acts) ≡ true = fix (is_front q.kind) q.released (length q.acts) (omega arith) (omega arith) in
          let same : point r (length q.acts) ≡ point q (length q.acts) = b.fixed (length q.acts) fixed (omega arith) in
          let there = ap (point r) long in
          omega arith where
            fix : (f : Bool) (n i : ℕ) → 0 < n → i ≤ n → (f || (nat_lt 0 n && nat_le i n)) ≡ true
            fix f n i some low = grind (arith, nat_tests)

            all-in : (t : Bool) → nat_lt q.released (length q.acts) ≡ t → t ≡ false
            all-in false e = refl
            all-in true e =
                let below : q.released < length q.acts = grind (arith, nat_tests) in
                let last = last-within (length q.acts) b.timed.some in
                let rise : point q (length q.acts - 1) < point q ((length q.acts - 1) + 1) = b.timed.rise (length q.acts - 1) (omega arith) in
                let end : point q ((length q.acts - 1) + 1) ≡ end_of_plan q = ap (point q) (omega arith) in
                let above : s.now < point q (length q.acts - 1) = b.floors (length q.acts - 1) (omega arith) (omega arith) in
                absurd (omega arith)
