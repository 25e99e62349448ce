-- Answers and settlings leave what has started, and end no plan.
use Rattle.std.proofs.Common.{◌≡◌, ℕ, ◌+◌, ◌-◌, ◌<◌, ◌≤◌, Bool, true, false, ◌&&◌, ◌||◌, List, length, refl, ap, ◌∙◌, arith, Contains, subst, nat_lt, nat_le, Some}
use Rattle.std.proofs.lemmas.Bool.Decides.{nat_tests}
use Rattle.std.proofs.lemmas.List.Elements.{All-contains}
use Rattle.tp_machine.specs.declared.machine.Machine.{Machine}
use Rattle.tp_jobs.specs.declared.parts.WaitingCopy.{WaitingCopy}
use Rattle.tp_schedule.specs.Answers.{follows_front, KeepsFixed, KeepsFloors}
use Rattle.tp_schedule.specs.Plans.{is_same_copy, IsTimedPlan, end_of_plan, is_fixed, is_front, plan_of, point}
use Rattle.tp_schedule.proofs.CopyFacts.{plan_of-itself}
use Rattle.tp_schedule.specs.Legality.{IsLegal}
use Rattle.tp_schedule.specs.PlannerAnswers.{none_exempt}
use Rattle.tp_schedule.specs.declared.parts.Plan.{Plan}
use Rattle.tp_event_rules.specs.AskPhase.{ask_waiting}
use Rattle.tp_event_rules.specs.Laws.{IsPlannable}
use Rattle.tp_event_rules.specs.States.{SessionState}
use Rattle.tp_event_rules.proofs.AskedFacts.{IsAskedFirst}
use Rattle.tp_event_rules.proofs.AskedPlans.{IsRetimedPlan, low-stays as start-stays}
use Rattle.tp_event_rules.proofs.AnsweredPlans.{IsUnmoved, unmoved-sheet}

-- each unreleased start of the plan is above the moment
abbrev pub IsAbove : ℕ → Plan → Type 0
IsAbove now p = (i : ℕ) → p.released ≤ i → i < length p.acts → now < point p i

-- a plan that has ended is released to its end
pub all-out : (machine : Machine) (now : ℕ) (p : Plan) → IsTimedPlan machine p → IsAbove now p → end_of_plan p ≤ now → p.released ≡ length p.acts
all-out machine now p timed above low = go (nat_lt p.released (length p.acts)) refl where
  go : (b : Bool) → nat_lt p.released (length p.acts) ≡ b → p.released ≡ length p.acts
  go false e =
      let high : length p.acts ≤ p.released = grind (arith, nat_tests) in
      let most : p.released ≤ length p.acts = timed.released in omega arith
  go true e =
      let below : p.released < length p.acts = grind (arith, nat_tests) in
      let at : (length p.acts - 1) + 1 ≡ length p.acts = omega arith in
      let start : now < point p (length p.acts - 1) = above (length p.acts - 1) (omega arith) (omega arith) in
      let rise : point p (length p.acts - 1) < point p ((length p.acts - 1) + 1) = timed.rise (length p.acts - 1) (omega arith) in
      let end : point p ((length p.acts - 1) + 1) ≡ end_of_plan p = ap (point p) at in
      absurd (omega arith)

last-fixed : (front : Bool) (released n : ℕ) → 0 < n → released ≡ n → (front || (nat_lt 0 released && nat_le n released)) ≡ true
last-fixed front released n some e = grind (arith, nat_tests)

-- the same plan, its fixed points kept
pub record IsKept (machine : Machine) (now : ℕ) (p q : Plan) : Type 0 where
  pub unmoved : IsUnmoved q p
  pub timed : IsTimedPlan machine p
  pub timed' : IsTimedPlan machine q
  pub above : IsAbove now p
  pub above' : IsAbove now q
  pub fixed : (i : ℕ) → is_fixed p i ≡ true → i ≤ length p.acts → point q i ≡ point p i

module _ (machine : Machine) (now : ℕ) (p q : Plan) (k : IsKept machine now p q) where
  same-acts : length q.acts ≡ length p.acts
  same-acts = ap (λ (x : Plan). length x.acts) k.unmoved.is

  same-released : q.released ≡ p.released
  same-released = ap (λ (x : Plan). x.released) k.unmoved.is

  same-end : p.released ≡ length p.acts → end_of_plan q ≡ end_of_plan p
  same-end e = ap (point q) same-acts ∙ k.fixed (length p.acts) (last-fixed (is_front p.kind) p.released (length p.acts) k.timed.some e) (omega arith)

  pub ends-on : end_of_plan p ≤ now → end_of_plan q ≤ now
  ends-on low = let same = same-end (all-out machine now p k.timed k.above low) in omega arith

  pub ends-back : end_of_plan q ≤ now → end_of_plan p ≤ now
  ends-back low =
      let out = all-out machine now q k.timed' k.above' low in
      let acts = same-acts in
      let released = same-released in
      let same = same-end (omega arith) in omega arith

pub retimed-kept : (machine : Machine) (now : ℕ) (p q : Plan) → IsKept machine now p q → IsRetimedPlan machine now p q
retimed-kept machine now p q k = record { unmoved = k.unmoved; timed = k.timed; timed' = k.timed'; floors = k.above; fixed = k.fixed }

-- a start that is not above the moment stays
pub low-stays : (machine : Machine) (now : ℕ) (p q : Plan) → IsKept machine now p q → (i : ℕ) → i < length p.acts → point p i ≤ now → point q i ≡ point p i
low-stays machine now p q k = start-stays machine now p q (retimed-kept machine now p q k)

pub above-lead : (machine : Machine) (now : ℕ) (plans : List Plan) (exempt : Plan → Bool) (p : Plan) → KeepsFloors machine now exempt plans → Contains plans p → exempt p ≡ false → IsAbove now p
above-lead machine now plans exempt p floors in' e i released within =
    let above : now + machine.lead < point p i = floors p in' e i released within in omega arith

-- plans of before and after an answer or a settling
pub kept-plan : (machine : Machine) (now : ℕ) (plans plans' : List Plan) (exempt : Plan → Bool) (p q : Plan) → IsLegal machine plans → IsLegal machine plans' → KeepsFloors machine now none_exempt plans → KeepsFloors machine now exempt plans'
    → KeepsFixed plans plans' → Contains plans p → Contains plans' q → exempt q ≡ false → IsUnmoved q p → IsKept machine now p q
kept-plan machine now plans plans' exempt p q legal legal' floors floors' fixed in' in'' e u = record {
  unmoved = u;
  timed = All-contains (IsTimedPlan machine) plans p legal.timed in';
  timed' = All-contains (IsTimedPlan machine) plans' q legal'.timed in'';
  above = above-lead machine now plans none_exempt p floors in' refl;
  above' = above-lead machine now plans' exempt q floors' in'' e;
  fixed = λ i is within. fixed p q in' (subst (λ c. plan_of c plans' ≡ Some q) (unmoved-sheet q p u) (plan_of-itself plans' q legal'.in_order in'')) i is within;
}

-- and where a copy that waits is planned
pub kept-asked : (machine : Machine) (s : SessionState) (w : WaitingCopy) (plans' : List Plan) (f : IsAskedFirst machine s w plans') → IsPlannable machine s
    → (p q : Plan) → Contains s.plans p → Contains plans' q → IsUnmoved q p → IsKept machine s.now p q
kept-asked machine s w plans' f can p q in' in'' u =
    kept-plan machine s.now s.plans plans' (follows_front (ask_waiting machine s w)) p q can.legal f.a.legal can.floors f.a.floors f.a.fixed in' in'' (and-false (is_same_copy q.sheet w.sheet)) u where
      and-false : (b : Bool) → (b && false) ≡ false
      and-false true = refl
      and-false false = refl
