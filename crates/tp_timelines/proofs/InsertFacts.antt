-- What taking inserts back gives.
use Rattle.std.proofs.Common.{suc, zero, ◌≡◌, ℕ, ◌+◌, ◌<◌, ◌≤◌, List, [], ◌∷◌, ◌++◌, length, take, drop, set, Some, sym, refl, ap, ◌∙◌, subst, arith, inl, inr}
use Rattle.std.proofs.lemmas.Option.{slice_get_within}
use Rattle.std.proofs.lemmas.List.{length-append, length-set, length-take-le, take_at, drop_all, drop-append-le, take-append-drop, set-set, set-get_or, get_or-set_same}
use Rattle.std.proofs.lemmas.List.Sums.{sum_by-set, get_or-le-sum_by}
use Rattle.std.proofs.lemmas.List.Edits.{length-insert, length-remove}
use Rattle.std.specs.List.{slice_get, insert, remove}
use Rattle.tp_base.proofs.SliceFacts.{slice_get_left, slice_get_last, slice_get_end}
use Rattle.tp_timelines.specs.declared.inserts.Insert.{Insert}
use Rattle.tp_timelines.specs.Orders.{order_on, total}
use Rattle.tp_timelines.specs.Inserts.{without, taken_back, StandAt}

pub taken_back-append : (is js : List Insert) (orders : List (List ℕ)) → taken_back (is ++ js) orders ≡ taken_back is (taken_back js orders)
taken_back-append [] js orders = refl
taken_back-append (i ∷ is) js orders = ap (without i) (taken_back-append is js orders)

pub remove-insert : (xs : List ℕ) (k x : ℕ) → k ≤ length xs → remove (insert xs k x) k ≡ xs
remove-insert xs k x h =
    let l = length-take-le k xs h in
    let a : take k (take k xs ++ x ∷ drop k xs) ≡ take k xs = take_at (take k xs) (x ∷ drop k xs) k l in
    let b : drop (suc k) (take k xs ++ x ∷ drop k xs) ≡ drop k xs = drop_over (take k xs) x (drop k xs) k (sym l) in
    ap (λ ys. ys ++ drop (suc k) (take k xs ++ x ∷ drop k xs)) a ∙ ap (λ ys. take k xs ++ ys) b ∙ take-append-drop k xs
  where
    drop_over : (ys : List ℕ) (x : ℕ) (zs : List ℕ) (k : ℕ) → k ≡ length ys → drop (suc k) (ys ++ x ∷ zs) ≡ zs
    drop_over [] x zs zero h = refl
    drop_over [] x zs (suc k) h = absurd (omega arith)
    drop_over (y ∷ ys) x zs zero h = absurd (omega arith)
    drop_over (y ∷ ys) x zs (suc k) h = drop_over ys x zs k (omega arith)

-- a number inserted and taken back
pub without-insert : (i : Insert) (orders : List (List ℕ)) (x : ℕ) → i.resource.0 < length orders → i.place ≤ length (order_on orders i.resource.0)
    → without i (set orders i.resource.0 (insert (order_on orders i.resource.0) i.place x)) ≡ orders
without-insert i orders x known within =
    let r = i.resource.0 in
    let new = insert (order_on orders r) i.place x in
    ap (λ ys. set (set orders r new) r (remove ys i.place)) (get_or-set_same orders r new [] known)
    ∙ ap (set (set orders r new) r) (remove-insert (order_on orders r) i.place x within)
    ∙ set-set orders r new (order_on orders r)
    ∙ set-get_or orders r []

-- ---- one more insert
module _ (orders : List (List ℕ)) (inserted : List Insert) (i : Insert) (x : ℕ) (known : i.resource.0 < length orders) (within : i.place ≤ length (order_on orders i.resource.0)) where
  abbrev after : List (List ℕ)
  after = set orders i.resource.0 (insert (order_on orders i.resource.0) i.place x)

  -- what stood after the first n inserts stands still
  pub taken_back-insert : (n : ℕ) → n ≤ length inserted → taken_back (drop n (inserted ++ i ∷ [])) after ≡ taken_back (drop n inserted) orders
  taken_back-insert n h =
      ap (λ is. taken_back is after) (drop-append-le n inserted (i ∷ []) h)
      ∙ taken_back-append (drop n inserted) (i ∷ []) after
      ∙ ap (taken_back (drop n inserted)) (without-insert i orders x known within)

  pub total-insert : total after ≡ total orders + 1
  total-insert =
      let s = sum_by-set length orders i.resource.0 (insert (order_on orders i.resource.0) i.place x) [] known in
      let l = length-insert (order_on orders i.resource.0) i.place x within in
      omega arith

  pub StandAt-insert : StandAt orders inserted → StandAt after (inserted ++ i ∷ [])
  StandAt-insert stand k j g =
      let l = length-set orders i.resource.0 (insert (order_on orders i.resource.0) i.place x) in
      let n = length-append inserted (i ∷ []) in
      elim (slice_get_end inserted i k j g) [
        | inl q ↦ (
            let s = stand k j q in
            let w = slice_get_within inserted k j q in
            let e = taken_back-insert (suc k) (omega arith) in
            (omega (arith, s.0), subst (λ os. j.place < length (order_on os j.resource.0)) (sym e) s.1))
        | inr q ↦ (
            let e : drop (suc k) (inserted ++ i ∷ []) ≡ [] = drop_all (suc k) (inserted ++ i ∷ []) (omega (arith, q.0)) in
            let at : i.place < length (order_on after i.resource.0) =
            (let o : order_on after i.resource.0 ≡ insert (order_on orders i.resource.0) i.place x = get_or-set_same orders i.resource.0 (insert (order_on orders i.resource.0) i.place x) [] known in
            let m = length-insert (order_on orders i.resource.0) i.place x within in
            omega (arith, ap length o)) in
            subst (λ (j : Insert). (j.resource.0 < length after) × (j.place < length (order_on (taken_back (drop (suc k) (inserted ++ i ∷ [])) after) j.resource.0))) q.1
            (omega arith, subst (λ is. i.place < length (order_on (taken_back is after) i.resource.0)) (sym e) at))
      ]

-- ---- the last insert taken back
module _ (orders : List (List ℕ)) (before all : List Insert) (i : Insert) (is : all ≡ before ++ i ∷ []) (stand : StandAt orders all) where
  stand_last : (i.resource.0 < length orders) × (i.place < length (order_on orders i.resource.0))
  stand_last =
      let at : slice_get all (length before) ≡ Some i = ap (λ xs. slice_get xs (length before)) is ∙ slice_get_last before i in
      let s = stand (length before) i at in
      let e : drop (suc (length before)) all ≡ [] = drop_all (suc (length before)) all (omega (arith, ap length is, length-append before (i ∷ []))) in
      (s.0, subst (λ xs. i.place < length (order_on (taken_back xs orders) i.resource.0)) e s.1)

  pub last_known : i.resource.0 < length orders
  last_known = stand_last.0

  pub last_there : i.place < length (order_on orders i.resource.0)
  last_there = stand_last.1

  pub taken_back-last : (n : ℕ) → n ≤ length before → taken_back (drop n all) orders ≡ taken_back (drop n before) (without i orders)
  taken_back-last n h = ap (λ xs. taken_back (drop n xs) orders) is ∙ ap (λ xs. taken_back xs orders) (drop-append-le n before (i ∷ []) h) ∙ taken_back-append (drop n before) (i ∷ []) orders

  pub StandAt-last : StandAt (without i orders) before
  StandAt-last k j g =
      let w = slice_get_within before k j g in
      let s = stand k j (ap (λ xs. slice_get xs k) is ∙ slice_get_left before (i ∷ []) k w ∙ g) in
      let e = taken_back-last (suc k) (omega arith) in
      let l = length-set orders i.resource.0 (remove (order_on orders i.resource.0) i.place) in
      (omega (arith, s.0), subst (λ os. j.place < length (order_on os j.resource.0)) e s.1)

-- ---- how many there are
pub length-order : (orders : List (List ℕ)) (r : ℕ) → r < length orders → length (order_on orders r) ≤ total orders
length-order orders r known = get_or-le-sum_by length orders r [] known

pub total-without : (i : Insert) (orders : List (List ℕ)) → i.resource.0 < length orders → i.place < length (order_on orders i.resource.0) → total (without i orders) + 1 ≡ total orders
total-without i orders known there =
    let s = sum_by-set length orders i.resource.0 (remove (order_on orders i.resource.0) i.place) [] known in
    let l = length-remove (order_on orders i.resource.0) i.place there in
    omega arith

pub length-without : (i : Insert) (orders : List (List ℕ)) → length (without i orders) ≡ length orders
length-without i orders = length-set orders i.resource.0 (remove (order_on orders i.resource.0) i.place)

pub length-taken_back : (is : List Insert) (orders : List (List ℕ)) → length (taken_back is orders) ≡ length orders
length-taken_back [] orders = refl
length-taken_back (i ∷ is) orders = length-without i (taken_back is orders) ∙ length-taken_back is orders
