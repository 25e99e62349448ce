-- A copy without a place has no plan, and plans are the same but for points where all else of them is.
use Rattle.std.proofs.Common.{◌≡◌, ◌-◌, ◌==◌, ◌++◌, ◌∙◌, Bool, List, [], length, take, drop, Option, Some, None, position, refl, ap, sym, arith, eqb-true, length-drop}
use Rattle.std.specs.Bool.{Decides}
use Rattle.std.specs.Cmp.Lexicographic.{pointwise}
use Rattle.std.proofs.lemmas.Bool.Decides.{nat_tests}
use Rattle.std.proofs.lemmas.List.{take-append-drop}
use Rattle.std.proofs.lemmas.Slice.Eq.{slice_eq-Decides}
use Rattle.tp_machine.specs.declared.parts.ActId.{ActId}
use Rattle.tp_schedule_check.proofs.ListFacts.{take-whole}
use Rattle.tp_schedule.specs.Answers.{unmoved}
use Rattle.tp_schedule.specs.Plans.{is_same_copy, plan_of}
use Rattle.tp_schedule.specs.declared.parts.Plan.{Plan}
use Rattle.tp_schedule.specs.declared.parts.SheetId.{SheetId}
use Rattle.tp_schedule.proofs.ChangeFacts.{planned-has_place}
use Rattle.tp_schedule_check.specs.Alike.{IsSameCopy, IsSameCourse}

pub no-plan : (copy : SheetId) (plans : List Plan) → None ≡ position (λ p. is_same_copy p.sheet copy) plans → plan_of copy plans ≡ None
no-plan copy plans none = go (plan_of copy plans) refl where
  go : (o : Option Plan) → plan_of copy plans ≡ o → o ≡ None
  go None e = refl
  go (Some p) e = absurd (planned-has_place copy plans (rw e refl) none)

pub same-way : (p q : Plan) → IsSameCopy p q → IsSameCourse p q → q.acts ≡ p.acts → unmoved q ≡ unmoved p
same-way p q copy course acts = λ i. record {
  sheet = copy.sheet i;
  name = copy.name i;
  want = copy.want i;
  goal = course.goal i;
  kind = course.kind i;
  acts = acts i;
  points = [];
  released = course.released i;
}

pub way-copy : (p q : Plan) → unmoved q ≡ unmoved p → IsSameCopy p q
way-copy p q same = record { sheet = ap (λ x. x.sheet) same; name = ap (λ x. x.name) same; want = ap (λ x. x.want) same }

pub way-course : (p q : Plan) → unmoved q ≡ unmoved p → IsSameCourse p q
way-course p q same = record { goal = ap (λ x. x.goal) same; kind = ap (λ x. x.kind) same; released = ap (λ x. x.released) same }

pub way-acts : (p q : Plan) → unmoved q ≡ unmoved p → q.acts ≡ p.acts
way-acts p q same = ap (λ x. x.acts) same

act-Decides : (a b : ActId) → Decides (a.0 == b.0) (a ≡ b)
act-Decides a b = (λ e. (let same = eqb-true a.0 b.0 e in λ i. record { 0 = same i }), λ e. (let same = ap (λ (x : ActId). x.0) e in grind (arith, nat_tests)))

pub acts-Decides : (xs ys : List ActId) (r : Bool) → r ≡ pointwise (λ (a b : ActId). a.0 == b.0) xs ys → Decides r (xs ≡ ys)
acts-Decides xs ys r e = slice_eq-Decides act-Decides xs ys r e

pub rest-of : (first acts : List ActId) → take (length first) acts ≡ first → acts ≡ first ++ take (length acts - length first) (drop (length first) acts)
rest-of first acts e =
    let n = length-drop (length first) acts in
    sym (take-append-drop (length first) acts) ∙ ap (λ xs. xs ++ drop (length first) acts) e
    ∙ ap (λ xs. first ++ xs) (sym (take-whole (drop (length first) acts) (length acts - length first) (omega arith)))
