-- The numbers of points, plan by plan.
use Rattle.std.proofs.Common.{◌≡◌, ℕ, zero, suc, ◌+◌, ◌-◌, ◌<◌, ◌≤◌, Bool, true, false, cond, List, [], ◌∷◌, ◌++◌, length, map, flat_map, take, slice_get, refl, sym, ap, subst, ◌∙◌, arith, append_assoc, All, Contains, Some}
use Rattle.std.proofs.lemmas.List.{append-nil, length-append}
use Rattle.std.proofs.lemmas.List.Concat.{flat_map-append}
use Rattle.std.proofs.lemmas.List.Elements.{All-append, All-map, All-nil}
use Rattle.tp_machine.specs.ModuleUse.{action_at}
use Rattle.tp_machine.specs.declared.machine.Machine.{Machine}
use Rattle.tp_machine.specs.declared.parts.ActId.{ActId}
use Rattle.tp_schedule.specs.Holders.{holds_of_act}
use Rattle.tp_schedule.specs.Spots.{Spot}
use Rattle.tp_schedule.specs.Spots.Spot.{kept}
use Rattle.tp_schedule.specs.declared.parts.Plan.{Plan}
use Rattle.tp_schedule.specs.declared.parts.SheetId.{SheetId}
use Rattle.tp_constraints.specs.Numbers.{is_same_spot, number, points_from, table_of}
use Rattle.tp_constraints.proofs.PointNumbers.{same_spot-is}
use Rattle.tp_schedule_check.specs.Early.{is_low, low_marks, plan_marks, values_from}
use Rattle.tp_schedule_check.specs.Holds.{held_acts, held_by, held_plan, held_plans}
use Rattle.tp_schedule_check.specs.Lines.{point_count}
use Rattle.tp_schedule_check.specs.declared.held.NumberedAct.{NumberedAct}
use Rattle.tp_schedule_check.proofs.LineFacts.{AllFrom}
use Rattle.tp_schedule_check.proofs.ListFacts.{take-one}
use Rattle.tp_schedule_check.proofs.StepFacts.{IsNumbered, StandsAt}

-- ---- elements of lists one behind the other
get-behind : {X : Type 0} (xs ys : List X) (i j : ℕ) → j ≡ length xs + i → slice_get (xs ++ ys) j ≡ slice_get ys i
get-behind [] ys i j e = ap (slice_get ys) (let same : j ≡ i = omega arith in same)
get-behind (x ∷ xs) ys i zero e = absurd (omega arith)
get-behind (x ∷ xs) ys i (suc j) e = get-behind xs ys i j (omega arith)

get-front : {X : Type 0} (xs ys : List X) (i : ℕ) (x : X) → slice_get xs i ≡ Some x → slice_get (xs ++ ys) i ≡ Some x
get-front [] ys i x e = absurd cc
get-front (y ∷ xs) ys zero x e = e
get-front (y ∷ xs) ys (suc i) x e = get-front xs ys i x e

-- ---- a list of blocks, one for each plan, with an element for each of its points
module _ {X : Type 0} (f : Plan → ℕ → X) (block : Plan → List X) (len : (p : Plan) → length (block p) ≡ length p.acts + 1) (each : (p : Plan) (i : ℕ) → i ≤ length p.acts → slice_get (block p) i ≡ Some (f p i)) where
  abbrev pub HasAt : List X → Plan → ℕ → Type 0
  HasAt whole p n = (i j : ℕ) → j ≡ n + i → i ≤ length p.acts → slice_get whole j ≡ Some (f p i)

  blocks-from : (whole before : List X) (n : ℕ) (plans : List Plan) → whole ≡ before ++ flat_map block plans → n ≡ length before → AllFrom (HasAt whole) n plans
  blocks-from whole before n [] is same = tt
  blocks-from whole before n (p ∷ plans) is same = (
    λ i j at le. ap (λ xs. slice_get xs j) is ∙ get-behind before (block p ++ flat_map block plans) i j (omega arith) ∙ get-front (block p) (flat_map block plans) i (f p i) (each p i le),
    blocks-from whole (before ++ block p) (n + (length p.acts + 1)) plans (is ∙ sym (append_assoc before (block p) (flat_map block plans))) (let l = length-append before (block p) in let k = len p in omega arith),
  )

  blocks-at : (plans : List Plan) → AllFrom (HasAt (flat_map block plans)) 0 plans
  blocks-at plans = blocks-from (flat_map block plans) [] 0 plans refl refl

  blocks-count : (plans : List Plan) → length (flat_map block plans) ≡ point_count plans
  blocks-count [] = refl
  blocks-count (p ∷ plans) = let l = length-append (block p) (flat_map block plans) in let k = len p in let r = blocks-count plans in omega arith

-- the table
points-length : (copy : SheetId) (i n : ℕ) → length (points_from copy i n) ≡ n + 1
points-length copy i zero = refl
points-length copy i (suc n) = let r = points-length copy (suc i) n in omega arith

points-at : (copy : SheetId) (i n k m : ℕ) → k ≤ n → m ≡ i + k → slice_get (points_from copy i n) k ≡ Some (kept copy m)
points-at copy i zero zero m le e = let same : i ≡ m = omega arith in ap (λ x. Some (kept copy x)) same
points-at copy i zero (suc k) m le e = absurd (omega arith)
points-at copy i (suc n) zero m le e = let same : i ≡ m = omega arith in ap (λ x. Some (kept copy x)) same
points-at copy i (suc n) (suc k) m le e = points-at copy (suc i) n k m (omega arith) (omega arith)

pub table-stands : (plans : List Plan) → AllFrom (StandsAt (table_of plans)) 0 plans
table-stands plans = blocks-at (λ p i. kept p.sheet i) (λ p. points_from p.sheet 0 (length p.acts)) (λ p. points-length p.sheet 0 (length p.acts)) (λ p i le. points-at p.sheet 0 (length p.acts) i i le (omega arith)) plans

pub table-count : (plans : List Plan) → length (table_of plans) ≡ point_count plans
table-count plans = blocks-count (λ p i. kept p.sheet i) (λ p. points_from p.sheet 0 (length p.acts)) (λ p. points-length p.sheet 0 (length p.acts)) (λ p i le. points-at p.sheet 0 (length p.acts) i i le (omega arith)) plans

-- the marks
values-length : {X : Type 0} (f : ℕ → X) (i n : ℕ) → length (values_from f i n) ≡ n
values-length f i zero = refl
values-length f i (suc n) = ap suc (values-length f (suc i) n)

values-at : {X : Type 0} (f : ℕ → X) (i n k m : ℕ) → k < n → m ≡ i + k → slice_get (values_from f i n) k ≡ Some (f m)
values-at f i zero k m less e = absurd (omega arith)
values-at f i (suc n) zero m less e = let same : i ≡ m = omega arith in ap (λ x. Some (f x)) same
values-at f i (suc n) (suc k) m less e = values-at f (suc i) n k m (omega arith) (omega arith)

module _ (floor : ℕ) (exempt : Plan → Bool) where
  abbrev pub MarksAt : List Bool → Plan → ℕ → Type 0
  MarksAt marks p n = (i j : ℕ) → j ≡ n + i → i ≤ length p.acts → slice_get marks j ≡ Some (is_low floor exempt p i)

  pub marks-stand : (plans : List Plan) → AllFrom (MarksAt (low_marks floor exempt plans)) 0 plans
  marks-stand plans = blocks-at (is_low floor exempt) (plan_marks floor exempt) (λ p. values-length (is_low floor exempt p) 0 (length p.acts + 1)) (λ p i le. values-at (is_low floor exempt p) 0 (length p.acts + 1) i i (omega arith) (omega arith)) plans

  pub marks-count : (plans : List Plan) → length (low_marks floor exempt plans) ≡ point_count plans
  marks-count plans = blocks-count (is_low floor exempt) (plan_marks floor exempt) (λ p. values-length (is_low floor exempt p) 0 (length p.acts + 1)) (λ p i le. values-at (is_low floor exempt p) 0 (length p.acts + 1) i i (omega arith) (omega arith)) plans

-- what holds of each plan and its number holds of a plan among them
pub from-contains : (P : Plan → ℕ → Type 0) (n : ℕ) (plans : List Plan) (p : Plan) → AllFrom P n plans → Contains plans p → (m : ℕ) × P p m
from-contains P n [] p all c = absurd (omega (arith, c.1))
from-contains P n (q ∷ plans) p all (zero, within, is) = (n, subst (λ x. P x n) is all.0)
from-contains P n (q ∷ plans) p all (suc k, within, is) = from-contains P (n + (length q.acts + 1)) plans p all.1 (k, omega arith, is)

pub from-both : (P Q : Plan → ℕ → Type 0) (n : ℕ) (plans : List Plan) → AllFrom P n plans → AllFrom Q n plans → AllFrom (λ p m. P p m × Q p m) n plans
from-both P Q n [] a b = tt
from-both P Q n (p ∷ plans) a b = ((a.0, b.0), from-both P Q (n + (length p.acts + 1)) plans a.1 b.1)

-- the point at a point's number is that point
pub number-get : (table : List Spot) (s : Spot) → number table s < length table → slice_get table (number table s) ≡ Some s
number-get [] s within = absurd (omega (arith, within))
number-get (x ∷ xs) s within = go (is_same_spot x s) refl within (number-get xs s) where
  go : (b : Bool) → is_same_spot x s ≡ b → cond b 0 (suc (number xs s)) < length (x ∷ xs) → (number xs s < length xs → slice_get xs (number xs s) ≡ Some s) → slice_get (x ∷ xs) (cond b 0 (suc (number xs s))) ≡ Some s
  go true e less rest = ap Some (same_spot-is x s e)
  go false e less rest = rest (omega arith)

-- the holds
module _ (table : List Spot) where
  numbered-acts : (machine : Machine) (sheet : SheetId) (at n : ℕ) (acts : List ActId) (points : List ℕ) → ((i j k : ℕ) → j ≡ n + i → k ≡ at + i → i ≤ length acts → slice_get table j ≡ Some (kept sheet k))
      → All (IsNumbered table) (held_acts machine sheet at n acts points)
  numbered-acts machine sheet at n [] points stands = All-nil (IsNumbered table)
  numbered-acts machine sheet at n (act ∷ acts) [] stands = All-nil (IsNumbered table)
  numbered-acts machine sheet at n (act ∷ acts) (start ∷ []) stands = All-nil (IsNumbered table)
  numbered-acts machine sheet at n (act ∷ acts) (start ∷ end ∷ points) stands =
      let run : NumberedAct = record { sheet = sheet; at = at; number = n; start = start; end = end } in
      All-append (IsNumbered table) (map (held_by run) (holds_of_act (action_at machine act.0))) (held_acts machine sheet (at + 1) (n + 1) acts (end ∷ points))
      (All-map (IsNumbered table) (held_by run) (holds_of_act (action_at machine act.0)) (λ k d within. (stands 0 n at (omega arith) (omega arith) (omega arith), stands 1 (n + 1) (at + 1) refl refl (omega arith))))
      (numbered-acts machine sheet (at + 1) (n + 1) acts (end ∷ points) (λ i j k is is' le. stands (suc i) j k (omega arith) (omega arith) (omega arith)))

  pub numbered-plans : (machine : Machine) (n : ℕ) (plans : List Plan) → AllFrom (StandsAt table) n plans → All (IsNumbered table) (held_plans machine n plans)
  numbered-plans machine n [] stands = All-nil (IsNumbered table)
  numbered-plans machine n (p ∷ plans) stands =
      All-append (IsNumbered table) (held_plan machine n p) (held_plans machine (n + (length p.acts + 1)) plans)
      (numbered-acts machine p.sheet 0 n p.acts p.points (λ i j k is is' le. let same : i ≡ k = omega arith in subst (λ x. slice_get table j ≡ Some (kept p.sheet x)) same (stands.0 i j is le)))
      (numbered-plans machine (n + (length p.acts + 1)) plans stands.1)

-- one value less
pub values-next : {X : Type 0} (f : ℕ → X) (at n : ℕ) → at < n → values_from f at (n - at) ≡ f at ∷ values_from f (at + 1) (n - (at + 1))
values-next f at n less =
    let m = n - (at + 1) in
    let more : n - at ≡ suc m = omega arith in
    let next : suc at ≡ at + 1 = omega arith in
    ap (values_from f at) more ∙ ap (λ k. f at ∷ values_from f k m) next

-- the marks of one plan more
pub marks-more : (floor : ℕ) (exempt : Plan → Bool) (plans : List Plan) (n : ℕ) (p : Plan) (old new : List Bool) → slice_get plans n ≡ Some p → old ≡ low_marks floor exempt (take n plans) → new ≡ old ++ plan_marks floor exempt p
    → new ≡ low_marks floor exempt (take (n + 1) plans)
marks-more floor exempt plans n p old new at was is =
    is ∙ ap (λ xs. xs ++ plan_marks floor exempt p) was ∙ ap (λ ys. low_marks floor exempt (take n plans) ++ ys) (sym (append-nil (plan_marks floor exempt p)))
    ∙ sym (flat_map-append (plan_marks floor exempt) (take n plans) (p ∷ [])) ∙ ap (low_marks floor exempt) (sym (take-one plans n p at))
