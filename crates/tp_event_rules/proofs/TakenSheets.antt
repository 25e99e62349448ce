-- How many sheets plans took, where less of them is left, where they moved, and where an ask was answered.
use Rattle.std.proofs.Common.{◌≡◌, ℕ, ◌+◌, ◌<◌, ◌≤◌, Bool, true, false, cond, ◌&&◌, ◌==◌, List, [], ◌∷◌, ◌++◌, length, map, refl, sym, ap, ◌∙◌, arith, Option, Some, None, option_and_then}
use Rattle.std.specs.Prelude.{count_by, not, slice_get}
use Rattle.std.proofs.lemmas.Bool.Decides.{nat_tests}
use Rattle.tp_machine.specs.Steps.{step_of}
use Rattle.tp_machine.specs.ModuleUse.{action_at}
use Rattle.tp_machine.specs.declared.parts.ActId.{ActId}
use Rattle.tp_machine.specs.declared.parts.Action.{Action}
use Rattle.tp_machine.specs.declared.parts.Sheet.{Sheet}
use Rattle.tp_machine.specs.declared.parts.State.{State}
use Rattle.tp_machine.specs.declared.machine.Machine.{Machine}
use Rattle.tp_schedule.specs.Answers.{IsAlternative, acts_in, unmoved}
use Rattle.tp_schedule.specs.Plans.{is_same_copy, plan_of, without}
use Rattle.tp_schedule.specs.Routes.{walk}
use Rattle.tp_schedule.specs.declared.parts.Ask.{Ask}
use Rattle.tp_schedule.specs.declared.parts.Plan.{Plan}
use Rattle.tp_schedule.specs.declared.parts.SheetId.{SheetId}
use Rattle.tp_stock.specs.Stock.{begins_at, is_from, taken_at}
use Rattle.tp_stock.proofs.StockFacts.{count-cons}
use Rattle.tp_event_rules.proofs.LeftPlans.{AreLeft, none, gone, more}
use Rattle.tp_event_rules.proofs.ListFacts.{find-Some}
use Rattle.tp_event_rules.proofs.PlanCounts.{count-without}

one-most : (a b : Bool) → (a ≡ true → b ≡ true) → cond {A = ℕ} a 1 0 ≤ cond {A = ℕ} b 1 0
one-most true b each = rw (each refl) (omega arith)
one-most false b each = omega arith

pub taken-left : (machine : Machine) (loc : ℕ) (plans plans' : List Plan) → AreLeft machine plans plans' → taken_at machine plans' loc ≤ taken_at machine plans loc
taken-left machine loc _ _ none = omega arith
taken-left machine loc _ _ (gone p plans plans' rest) =
    let few = taken-left machine loc plans plans' rest in
    let one = count-cons (begins_at machine loc) p plans in omega arith
taken-left machine loc _ _ (more p p' plans plans' left rest) =
    let few = taken-left machine loc plans plans' rest in
    let one = count-cons (begins_at machine loc) p plans in
    let other = count-cons (begins_at machine loc) p' plans' in
    let fewer = one-most (begins_at machine loc p') (begins_at machine loc p) (left.begins loc) in omega arith

taken-unmoved : (machine : Machine) (loc : ℕ) (plans : List Plan) → taken_at machine (map unmoved plans) loc ≡ taken_at machine plans loc
taken-unmoved machine loc [] = refl
taken-unmoved machine loc (p ∷ plans) =
    count-cons (begins_at machine loc) (unmoved p) (map unmoved plans) ∙ ap (λ n. cond (begins_at machine loc p) 1 0 + n) (taken-unmoved machine loc plans)
    ∙ sym (count-cons (begins_at machine loc) p plans)

-- plans that differ in their points alone
pub taken-moved : (machine : Machine) (loc : ℕ) (plans plans' : List Plan) → map unmoved plans' ≡ map unmoved plans → taken_at machine plans' loc ≡ taken_at machine plans loc
taken-moved machine loc plans plans' same = sym (taken-unmoved machine loc plans') ∙ ap (λ ps. taken_at machine ps loc) same ∙ taken-unmoved machine loc plans

-- the first action of a walk starts where the sheet is
pub walk-begins : (machine : Machine) (want : Sheet) (acts : List ActId) (s end : State) (loc : ℕ) → walk machine want acts s ≡ Some end
    → is_from loc (option_and_then (λ act. action_at machine act.0) (slice_get acts 0)) ≡ true → s.loc.0 ≡ loc
walk-begins machine want [] s end loc e begins = absurd (cc)
walk-begins machine want (act ∷ acts) s end loc e begins = go (action_at machine act.0) e begins where
  at : (a : Action) (b : Bool) → (s.loc.0 == a.from.0) ≡ b → (rest : Bool) (o : Option State) → option_and_then (walk machine want acts) (cond (b && rest) o None) ≡ Some end → (a.from.0 == loc) ≡ true → s.loc.0 ≡ loc
  at a true f rest o e g = grind (arith, nat_tests)
  at a false f rest o e g = absurd (cc)

  go : (o : Option Action) → option_and_then (walk machine want acts) (option_and_then (λ a. step_of a want s) o) ≡ Some end → is_from loc o ≡ true → s.loc.0 ≡ loc
  go None e g = absurd (cc)
  go (Some a) e g = at a (s.loc.0 == a.from.0) refl _ _ e g

first-same : (xs ys : List ActId) → 0 < length xs → slice_get (xs ++ ys) 0 ≡ slice_get xs 0
first-same [] ys some = absurd (omega arith)
first-same (x ∷ xs) ys some = refl

-- an ask was answered by a plan
module _ (machine : Machine) (plans : List Plan) (ask : Ask) (plans' : List Plan) (a : IsAlternative machine plans ask plans') (loc : ℕ) where
  pub taken-after : taken_at machine plans' loc ≡ cond (begins_at machine loc a.plan) 1 0 + taken_at machine (without ask.sheet plans) loc
  taken-after =
      let there = find-Some (λ p. is_same_copy p.sheet ask.sheet) plans' a.plan a.planned in
      count-without (begins_at machine loc) ask.sheet plans' a.plan a.legal.in_order there.0 there.1
      ∙ ap (λ n. cond (begins_at machine loc a.plan) 1 0 + n) (taken-moved machine loc (without ask.sheet plans) (without ask.sheet plans') a.others)

  -- the copy had a plan, with which the new one begins
  pub taken-replaced : (q : Plan) → plan_of ask.sheet plans ≡ Some q → 0 < length q.acts → taken_at machine plans' loc ≡ taken_at machine plans loc
  taken-replaced q e some =
      let there = find-Some (λ p. is_same_copy p.sheet ask.sheet) plans q e in
      let before = count-without (begins_at machine loc) ask.sheet plans q a.legal_before.in_order there.0 there.1 in
      let first : slice_get a.plan.acts 0 ≡ slice_get q.acts 0 =
      ap (λ acts. slice_get acts 0) (a.answers.acts ∙ ap (λ o. acts_in o ++ a.answers.route) e) ∙ first-same q.acts a.answers.route some in
      let begins : begins_at machine loc a.plan ≡ begins_at machine loc q = ap (λ o. is_from loc (option_and_then (λ (act : ActId). action_at machine act.0) o)) first in
      taken-after ∙ ap (λ b. cond b 1 0 + taken_at machine (without ask.sheet plans) loc) begins ∙ sym before

  -- it had none: one more is taken at most
  pub taken-added : plan_of ask.sheet plans ≡ None → (taken_at machine (without ask.sheet plans) loc ≤ taken_at machine plans loc) × (begins_at machine loc a.plan ≡ is_from loc (option_and_then (λ act. action_at machine act.0) (slice_get a.answers.route 0)))
  taken-added e =
      (fewer (begins_at machine loc) ask.sheet plans, ap (λ acts. is_from loc (option_and_then (λ (act : ActId). action_at machine act.0) (slice_get acts 0))) (a.answers.acts ∙ ap (λ o. acts_in o ++ a.answers.route) e))
    where
      fewer : (test : Plan → Bool) (c : SheetId) (ps : List Plan) → count_by test (without c ps) ≤ count_by test ps
      fewer test c [] = omega arith
      fewer test c (p ∷ ps) = go (is_same_copy p.sheet c) (fewer test c ps) where
        go : (b : Bool) → count_by test (without c ps) ≤ count_by test ps → count_by test (cond (not b) (p ∷ without c ps) (without c ps)) ≤ count_by test (p ∷ ps)
        go true low = let one = count-cons test p ps in omega arith
        go false low = let one = count-cons test p ps in let other = count-cons test p (without c ps) in omega arith
