-- The points of a timed plan rise, those of released actions are fixed, and a plan that is past has all actions released.
use Rattle.std.proofs.Common.{◌≡◌, ◌⊎◌, inl, inr, ℕ, zero, suc, ◌+◌, ◌-◌, ◌≤◌, ◌<◌, Bool, true, false, ◌&&◌, ◌||◌, List, [], ◌∷◌, map, length, refl, ap, sym, arith, Contains, ◌∙◌, subst, slice_index}
use Rattle.std.specs.Prelude.{nat_lt, nat_le}
use Rattle.std.proofs.lemmas.Bool.Decides.{nat_tests}
use Rattle.std.proofs.lemmas.Bool.{cases_lt}
use Rattle.std.proofs.lemmas.List.Elements.{All-contains}
use Rattle.tp_machine.specs.declared.machine.Machine.{Machine}
use Rattle.tp_schedule.specs.declared.parts.Plan.{Plan}
use Rattle.tp_schedule.specs.declared.parts.SheetId.{SheetId}
use Rattle.tp_schedule.specs.Answers.{unmoved}
use Rattle.tp_schedule.specs.Plans.{IsTimedPlan, point, end_of_plan, is_fixed, is_front}
use Rattle.tp_schedule.proofs.Membership.{Contains-here, Contains-later}
use Rattle.tp_choices.specs.LiveParts.{MayForget}
use Rattle.tp_choices.proofs.PastFacts.{past_points}

pub points-rise : (machine : Machine) (p : Plan) → IsTimedPlan machine p → (i n : ℕ) → i + n ≤ length p.acts → point p i ≤ point p (i + n)
points-rise machine p timed i zero within = let same : i + 0 ≡ i = omega arith in rw same (omega arith)
points-rise machine p timed i (suc n) within =
    let rest = points-rise machine p timed i n (omega arith) in
    let one = timed.rise (i + n) (omega arith) in
    let same : i + suc n ≡ i + n + 1 = omega arith in
    rw same (omega arith)

pub point-le : (machine : Machine) (p : Plan) → IsTimedPlan machine p → (i j : ℕ) → i ≤ j → j ≤ length p.acts → point p i ≤ point p j
point-le machine p timed i j le within =
    let same : i + (j - i) ≡ j = omega arith in
    subst (λ n. point p i ≤ point p n) same (points-rise machine p timed i (j - i) (omega arith))

pub fixed-by : (p : Plan) (i : ℕ) → 0 < p.released → i ≤ p.released → is_fixed p i ≡ true
fixed-by p i some le = go (is_front p.kind) where
  go : (b : Bool) → (b || (nat_lt 0 p.released && nat_le i p.released)) ≡ true
  go true = refl
  go false = grind (arith, nat_tests)

-- all actions of a plan that is past are released
pub past-released : (machine : Machine) (now : ℕ) (plans : List Plan) (gone : SheetId → Bool) → MayForget machine now plans gone → (p : Plan) → Contains plans p → gone p.sheet ≡ true → length p.acts ≤ p.released
past-released machine now plans gone f p in' e = elim (cases_lt p.released (length p.acts)) [
  | inl less ↦ let ahead = f.ahead p in' p.released (omega arith) less in let past = past_points machine now p (f.past p in' e) p.released in absurd (omega arith)
  | inr le ↦ le
]

pub past-fixed : (machine : Machine) (now : ℕ) (plans : List Plan) (gone : SheetId → Bool) → MayForget machine now plans gone → (p : Plan) → Contains plans p → gone p.sheet ≡ true → (i : ℕ) → i ≤ length p.acts → is_fixed p i ≡ true
past-fixed machine now plans gone f p in' e i within =
    let released = past-released machine now plans gone f p in' e in
    let some = (All-contains (IsTimedPlan machine) plans p f.legal.timed in').some in
    fixed-by p i (omega arith) (omega arith)

-- the end of a plan in two schedules: it stands, or it lies ahead in both
pub end-cases : (machine : Machine) (now : ℕ) (p q : Plan) → IsTimedPlan machine p → IsTimedPlan machine q → length q.acts ≡ length p.acts
    → ((i : ℕ) → i < p.released → (point q i ≡ point p i) × (point q (suc i) ≡ point p (suc i)))
    → ((i : ℕ) → p.released ≤ i → i < length p.acts → (now < point q i) × (now < point p i))
    → (end_of_plan q ≡ end_of_plan p) ⊎ ((now < end_of_plan q) × (now < end_of_plan p))
end-cases machine now p q timed timed' lengths fixed ahead = go (length p.acts) refl where
  go : (n : ℕ) → length p.acts ≡ n → (point q (length q.acts) ≡ point p (length p.acts)) ⊎ ((now < point q (length q.acts)) × (now < point p (length p.acts)))
  go zero e = absurd (let some = timed.some in omega arith)
  go (suc m) e = elim (cases_lt m p.released) [
    | inl less ↦ inl (rw (lengths, e) (fixed m less).1)
    | inr le ↦
        let later = ahead m le (omega arith) in
        let next : m + 1 ≡ suc m = omega arith in
        let rise-q = subst (λ k. point q m < point q k) next (timed'.rise m (omega arith)) in
        let rise-p = subst (λ k. point p m < point p k) next (timed.rise m (omega arith)) in
        inr (rw (lengths, e) (omega (arith, later.0, rise-q), omega (arith, later.1, rise-p)))
  ]

-- plans that are the same but for points, and have the same points, are the same
pub same-by_points : (ps qs : List Plan) → map unmoved ps ≡ map unmoved qs → ((p q : Plan) → Contains ps p → Contains qs q → unmoved p ≡ unmoved q → p.points ≡ q.points) → ps ≡ qs
same-by_points [] [] e each = refl
same-by_points [] (q ∷ qs) e each = absurd (cc)
same-by_points (p ∷ ps) [] e each = absurd (cc)
same-by_points (p ∷ ps) (q ∷ qs) e each =
    let rest : map unmoved ps ≡ map unmoved qs = cc in
    let one : unmoved p ≡ unmoved q = cc in
    let points = each p q (Contains-here p ps) (Contains-here q qs) one in
    let first : p ≡ q = λ i. record (one i) { points = points i } in
    let later = same-by_points ps qs rest (λ a b in-a in-b. each a b (Contains-later p ps a in-a) (Contains-later q qs b in-b)) in
    λ i. first i ∷ later i

-- points that are equal one by one are equal
pub points-equal : (machine : Machine) (p q : Plan) → IsTimedPlan machine p → IsTimedPlan machine q → length p.acts ≡ length q.acts → ((i : ℕ) → i ≤ length q.acts → point p i ≡ point q i) → p.points ≡ q.points
points-equal machine p q timed timed' lengths each = ext p.points q.points (timed.one_more ∙ ap (λ n. n + 1) lengths ∙ sym timed'.one_more) (λ i within. each i (let more = timed.one_more in omega arith)) where
  ext : (xs ys : List ℕ) → length xs ≡ length ys → ((i : ℕ) → i < length xs → slice_index xs i ≡ slice_index ys i) → xs ≡ ys
  ext [] [] e same = refl
  ext [] (y ∷ ys) e same = absurd (omega arith)
  ext (x ∷ xs) [] e same = absurd (omega arith)
  ext (x ∷ xs) (y ∷ ys) e same =
      let first : x ≡ y = same 0 (omega arith) in
      let rest = ext xs ys (omega arith) (λ i within. same (suc i) (omega arith)) in
      λ i. first i ∷ rest i
