-- Plans that get other points.
use Rattle.std.proofs.Common.{IsSome, Option, ◌≡◌, ℕ, zero, suc, Bool, true, false, cond, ◌||◌, List, [], ◌∷◌, ◌++◌, length, filter, map, take, append-nil, refl, ap, sym, ◌∙◌, subst, Some, None, All, AllPairs, get_or}
use Rattle.std.specs.Prelude.{slice_get}
use Rattle.std.proofs.lemmas.List.Elements.{All-head, All-tail, filter-append}
use Rattle.tp_base.proofs.SliceFacts.{All-at}
use Rattle.tp_schedule.proofs.CopyFacts.{NotOf, before-not_same, before-not_same', same_copy-is, same_copy-refl}
use Rattle.tp_schedule.proofs.Pairs.{AllPairs-head, AllPairs-map, AllPairs-tail}
use Rattle.tp_schedule.specs.Spots.{Ticks}
use Rattle.tp_schedule.specs.Times.{at, ticks_from, timed_by}
use Rattle.tp_schedule.specs.Plans.{IsEarlier, change_plan, is_before, is_same_copy, plan_of, with_points}
use Rattle.tp_schedule.specs.declared.parts.Plan.{Plan}
use Rattle.tp_schedule.specs.declared.parts.SheetId.{SheetId}
use Rattle.tp_placing.specs.Commits.{is_loaded, retimed_in}

-- a plan that has the points already
pub change-same : (copy : SheetId) (points : List ℕ) (plans : List Plan) (p : Plan) → plan_of copy plans ≡ Some p → points ≡ p.points → plans ≡ change_plan copy (with_points points) plans
change-same copy points [] p is same = refl
change-same copy points (q ∷ plans) p is same = go (is_same_copy q.sheet copy) is (change-same copy points plans p) where
  go : (b : Bool) → cond b (Some q) (plan_of copy plans) ≡ Some p → (plan_of copy plans ≡ Some p → points ≡ p.points → plans ≡ change_plan copy (with_points points) plans)
      → q ∷ plans ≡ cond b (with_points points q ∷ plans) (q ∷ change_plan copy (with_points points) plans)
  go true is' rest =
      let one : q ≡ p = cc in
      let its : points ≡ q.points = same ∙ ap (λ (r : Plan). r.points) (sym one) in
      ap (λ ps. with_points ps q ∷ plans) (sym its)
  go false is' rest = ap (λ ps. q ∷ ps) (rest is' same)

-- a plan keeps its copy
pub retimed-sheet : (live : List Plan) (t : Ticks) (p : Plan) → (retimed_in live t p).sheet ≡ p.sheet
retimed-sheet live t p = go (is_loaded live p.sheet) where
  go : (b : Bool) → (cond b (timed_by t p) p).sheet ≡ p.sheet
  go true = refl
  go false = refl

pub retimed-not : (live : List Plan) (t : Ticks) (p : Plan) → is_loaded live p.sheet ≡ false → retimed_in live t p ≡ p
retimed-not live t p e = rw e refl

pub retimed-is : (live : List Plan) (t : Ticks) (p : Plan) → is_loaded live p.sheet ≡ true → retimed_in live t p ≡ timed_by t p
retimed-is live t p e = rw e refl

same-turn : (a b : SheetId) → is_same_copy a b ≡ false → is_same_copy b a ≡ false
same-turn a b e = go (is_same_copy b a) refl where
  go : (c : Bool) → is_same_copy b a ≡ c → c ≡ false
  go true f = let is = same_copy-is b a f in let bad : is_same_copy a b ≡ true = subst (λ c. is_same_copy a c ≡ true) (sym is) (same_copy-refl a) in cc
  go false f = refl

pub or-true : (b : Bool) → (b || true) ≡ true
or-true true = refl
or-true false = refl

pub or-false : (b : Bool) → (b || false) ≡ b
or-false true = refl
or-false false = refl

loaded-push : (live : List Plan) (p : Plan) (copy : SheetId) → is_loaded (live ++ p ∷ []) copy ≡ (is_loaded live copy || is_same_copy p.sheet copy)
loaded-push [] p copy = or-false (is_same_copy p.sheet copy)
loaded-push (q ∷ live) p copy = ap (λ b. is_same_copy q.sheet copy || b) (loaded-push live p copy) ∙ go (is_same_copy q.sheet copy) where
  go : (b : Bool) → (b || (is_loaded live copy || is_same_copy p.sheet copy)) ≡ ((b || is_loaded live copy) || is_same_copy p.sheet copy)
  go true = refl
  go false = refl

-- one plan more that is loaded changes no plan of another copy
retimed-other : (live : List Plan) (t : Ticks) (p q : Plan) → is_same_copy q.sheet p.sheet ≡ false → retimed_in live t q ≡ retimed_in (live ++ p ∷ []) t q
retimed-other live t p q other =
    let e : is_loaded (live ++ p ∷ []) q.sheet ≡ is_loaded live q.sheet = loaded-push live p q.sheet ∙ ap (λ b. is_loaded live q.sheet || b) (same-turn q.sheet p.sheet other) ∙ or-false (is_loaded live q.sheet) in
    ap (λ b. cond b (timed_by t q) q) (sym e)

retimed-others : (live : List Plan) (t : Ticks) (p : Plan) (plans : List Plan) → All (NotOf p.sheet) plans → map (retimed_in live t) plans ≡ map (retimed_in (live ++ p ∷ []) t) plans
retimed-others live t p [] others = refl
retimed-others live t p (q ∷ plans) others =
    let one = retimed-other live t p q (All-head (NotOf p.sheet) q plans others) in
    let rest = retimed-others live t p plans (All-tail (NotOf p.sheet) q plans others) in
    λ i. one i ∷ rest i

-- a loaded plan more gets its points
pub change-next : (live : List Plan) (t : Ticks) (points : List ℕ) (plans : List Plan) (p : Plan) → AllPairs IsEarlier plans → plan_of p.sheet plans ≡ Some p → is_loaded live p.sheet ≡ false → points ≡ ticks_from (at t p) 0 (suc (length p.acts))
    → change_plan p.sheet (with_points points) (map (retimed_in live t) plans) ≡ map (retimed_in (live ++ p ∷ []) t) plans
change-next live t points [] p in_order planned not_yet is = absurd cc
change-next live t points (q ∷ plans) p in_order planned not_yet is =
    let P : SheetId → Type 0 = λ c. cond (is_same_copy c p.sheet) (with_points points (retimed_in live t q) ∷ map (retimed_in live t) plans) (retimed_in live t q ∷ change_plan p.sheet (with_points points) (map (retimed_in live t) plans)) ≡ retimed_in (live ++ p ∷ []) t q ∷ map (retimed_in (live ++ p ∷ []) t) plans in
    subst P (sym (retimed-sheet live t q)) (go (is_same_copy q.sheet p.sheet) refl planned (change-next live t points plans p (AllPairs-tail IsEarlier q plans in_order))) where
      go : (b : Bool) → is_same_copy q.sheet p.sheet ≡ b → cond b (Some q) (plan_of p.sheet plans) ≡ Some p
          → (plan_of p.sheet plans ≡ Some p → is_loaded live p.sheet ≡ false → points ≡ ticks_from (at t p) 0 (suc (length p.acts)) → change_plan p.sheet (with_points points) (map (retimed_in live t) plans) ≡ map (retimed_in (live ++ p ∷ []) t) plans)
          → cond b (with_points points (retimed_in live t q) ∷ map (retimed_in live t) plans) (retimed_in live t q ∷ change_plan p.sheet (with_points points) (map (retimed_in live t) plans)) ≡ retimed_in (live ++ p ∷ []) t q ∷ map (retimed_in (live ++ p ∷ []) t) plans
      go true e is-q rest =
          let one : q ≡ p = cc in
          let sheet = ap (λ (r : Plan). r.sheet) one in
          let stays : retimed_in live t q ≡ q = retimed-not live t q (subst (λ c. is_loaded live c ≡ false) (sym sheet) not_yet) in
          let here : is_loaded (live ++ p ∷ []) q.sheet ≡ true = loaded-push live p q.sheet ∙ ap (λ b. is_loaded live q.sheet || b) (subst (λ c. is_same_copy p.sheet c ≡ true) (sym sheet) (same_copy-refl p.sheet)) ∙ or-true (is_loaded live q.sheet) in
          let first : with_points points (retimed_in live t q) ≡ retimed_in (live ++ p ∷ []) t q =
          ap (with_points points) stays ∙ ap (λ ts. with_points ts q) (is ∙ ap (λ (r : Plan). ticks_from (at t r) 0 (suc (length r.acts))) (sym one)) ∙ sym (retimed-is (live ++ p ∷ []) t q here) in
          let others : All (NotOf p.sheet) plans = λ k d within. subst (λ c. is_same_copy (get_or plans k d).sheet c ≡ false) sheet (before-not_same' q.sheet (get_or plans k d).sheet (AllPairs-head IsEarlier q plans in_order k d within)) in
          let later = retimed-others live t p plans others in
          λ i. first i ∷ later i
      go false e planned' rest =
          let first = retimed-other live t p q e in
          let later = rest planned' not_yet is in
          λ i. first i ∷ later i

-- and until then it is as it was
pub planned-still : (live : List Plan) (t : Ticks) (plans : List Plan) (copy : SheetId) (p : Plan) → plan_of copy plans ≡ Some p → is_loaded live copy ≡ false → plan_of copy (map (retimed_in live t) plans) ≡ Some p
planned-still live t [] copy p planned not_yet = planned
planned-still live t (q ∷ plans) copy p planned not_yet =
    let P : SheetId → Type 0 = λ c. cond (is_same_copy c copy) (Some (retimed_in live t q)) (plan_of copy (map (retimed_in live t) plans)) ≡ Some p in
    subst P (sym (retimed-sheet live t q)) (go (is_same_copy q.sheet copy) refl planned (planned-still live t plans copy p)) where
      go : (b : Bool) → is_same_copy q.sheet copy ≡ b → cond b (Some q) (plan_of copy plans) ≡ Some p → (plan_of copy plans ≡ Some p → is_loaded live copy ≡ false → plan_of copy (map (retimed_in live t) plans) ≡ Some p)
          → cond b (Some (retimed_in live t q)) (plan_of copy (map (retimed_in live t) plans)) ≡ Some p
      go true e is-q rest = ap Some (retimed-not live t q (subst (λ c. is_loaded live c ≡ false) (sym (same_copy-is q.sheet copy e)) not_yet)) ∙ is-q
      go false e planned' rest = rest planned' not_yet

-- a plan is not among those before it
pub not-before : (k : ℕ) (live : List Plan) (p : Plan) → AllPairs IsEarlier live → slice_get live k ≡ Some p → is_loaded (take k live) p.sheet ≡ false
not-before k [] p in_order there = absurd cc
not-before zero (q ∷ live) p in_order there = refl
not-before (suc k) (q ∷ live) p in_order there =
    let rest = not-before k live p (AllPairs-tail IsEarlier q live in_order) there in
    let first : is_same_copy q.sheet p.sheet ≡ false = before-not_same q.sheet p.sheet (All-at (IsEarlier q) live k p (AllPairs-head IsEarlier q live in_order) there) in
    rw (first, rest) refl

-- those of the loaded plans that pass a test, with one plan more
pub part-not : (mine : Plan → Bool) (live : List Plan) (copy : SheetId) → is_loaded live copy ≡ false → is_loaded (filter mine live) copy ≡ false
part-not mine [] copy none = refl
part-not mine (q ∷ live) copy none = go (mine q) (is_same_copy q.sheet copy) refl none (part-not mine live copy) where
  go : (b c : Bool) → is_same_copy q.sheet copy ≡ c → (c || is_loaded live copy) ≡ false → (is_loaded live copy ≡ false → is_loaded (filter mine live) copy ≡ false) → is_loaded (cond b (q ∷ filter mine live) (filter mine live)) copy ≡ false
  go b true e none' rest = absurd cc
  go true false e none' rest = rw e (rest none')
  go false false e none' rest = rest none'

pub part-more : (mine : Plan → Bool) (live : List Plan) (p : Plan) → mine p ≡ true → filter mine live ++ p ∷ [] ≡ filter mine (live ++ p ∷ [])
part-more mine live p e = (let one : filter mine (p ∷ []) ≡ p ∷ [] = rw e refl in ap (λ ps. filter mine live ++ ps) (sym one)) ∙ sym (filter-append mine live (p ∷ []))

pub part-same : (mine : Plan → Bool) (live : List Plan) (p : Plan) → mine p ≡ false → filter mine live ≡ filter mine (live ++ p ∷ [])
part-same mine live p e = sym (append-nil (filter mine live)) ∙ (let one : filter mine (p ∷ []) ≡ [] = rw e refl in ap (λ ps. filter mine live ++ ps) (sym one)) ∙ sym (filter-append mine live (p ∷ []))

-- where none is loaded the plans stay
pub retimed-none : (t : Ticks) (plans : List Plan) → plans ≡ map (retimed_in [] t) plans
retimed-none t [] = refl
retimed-none t (p ∷ plans) = ap (λ ps. p ∷ ps) (retimed-none t plans)

pub in_order-retimed : (live : List Plan) (t : Ticks) (plans : List Plan) → AllPairs IsEarlier plans → AllPairs IsEarlier (map (retimed_in live t) plans)
in_order-retimed live t plans in_order =
    AllPairs-map IsEarlier IsEarlier (λ _. Unit {0}) (retimed_in live t) plans (λ k d within. tt) in_order
    (λ x y _ _ before. subst (λ c. is_before c (retimed_in live t y).sheet ≡ true) (sym (retimed-sheet live t x)) (subst (λ c. is_before x.sheet c ≡ true) (sym (retimed-sheet live t y)) before))

-- a copy that has no plan then had none before
pub none-before : (live : List Plan) (t : Ticks) (plans : List Plan) (copy : SheetId) → plan_of copy (map (retimed_in live t) plans) ≡ None → plan_of copy plans ≡ None
none-before live t [] copy none = refl
none-before live t (q ∷ plans) copy none =
    go (is_same_copy q.sheet copy) (subst (λ (c : SheetId). cond (is_same_copy c copy) (Some (retimed_in live t q)) (plan_of copy (map (retimed_in live t) plans)) ≡ None) (retimed-sheet live t q) none) (none-before live t plans copy) where
      go : (b : Bool) → cond b (Some (retimed_in live t q)) (plan_of copy (map (retimed_in live t) plans)) ≡ None → (plan_of copy (map (retimed_in live t) plans) ≡ None → plan_of copy plans ≡ None) → cond b (Some q) (plan_of copy plans) ≡ None
      go true e rest = absurd cc
      go false e rest = rest e

pub none-after : (live : List Plan) (t : Ticks) (plans : List Plan) (copy : SheetId) → plan_of copy plans ≡ None → plan_of copy (map (retimed_in live t) plans) ≡ None
none-after live t [] copy none = refl
none-after live t (q ∷ plans) copy none =
    subst (λ (c : SheetId). cond (is_same_copy c copy) (Some (retimed_in live t q)) (plan_of copy (map (retimed_in live t) plans)) ≡ None) (sym (retimed-sheet live t q))
    (go (is_same_copy q.sheet copy) none (none-after live t plans copy)) where
      go : (same : Bool) → cond same (Some q) (plan_of copy plans) ≡ None → (plan_of copy plans ≡ None → plan_of copy (map (retimed_in live t) plans) ≡ None)
          → cond same (Some (retimed_in live t q)) (plan_of copy (map (retimed_in live t) plans)) ≡ None
      go true e later = absurd cc
      go false e later = later e

pub planned-after : (live : List Plan) (t : Ticks) (plans : List Plan) (copy : SheetId) → IsSome (plan_of copy plans) → IsSome (plan_of copy (map (retimed_in live t) plans))
planned-after live t plans copy planned = go (plan_of copy (map (retimed_in live t) plans)) refl where
  go : (o : Option Plan) → plan_of copy (map (retimed_in live t) plans) ≡ o → IsSome o
  go None e = (let none = subst IsSome (none-before live t plans copy e) planned in absurd cc)
  go (Some p) e = refl
