-- Own holds among kept ones: an order with a branch's holds is the kept one where they are left out, and a rank tells where
-- an own hold stands in it.
use Rattle.std.proofs.Common.{◌≡◌, ℕ, zero, suc, ◌<◌, ◌==◌, ◌||◌, Bool, true, false, cond, leb, ltb, List, [], ◌∷◌, ◌++◌, length, filter, find, insert, take, drop, refl, sym, ◌∙◌, ap, arith, All, AllPairs, Option, Some, None, option_map}
use Rattle.std.proofs.lemmas.Bool.Decides.{nat_tests}
use Rattle.std.proofs.lemmas.List.Elements.{All-nil, All-cons, All-head, All-tail, All-take, All-drop}
use Rattle.tp_constraints.specs.Gaps.{Gap, slot_gap}
use Rattle.tp_constraints.specs.Numbers.{is_same_spot}
use Rattle.tp_machine.specs.ModuleUse.{action_at}
use Rattle.tp_machine.specs.declared.parts.HoldRule.{HoldRule}
use Rattle.tp_machine.specs.declared.machine.Machine.{Machine}
use Rattle.tp_schedule.specs.Choices.{Choice, placed, put_places}
use Rattle.tp_schedule.specs.Holders.{holds_of_act}
use Rattle.tp_schedule.specs.Spots.{Slot, Spot, slot_order}
use Rattle.tp_schedule.specs.Spots.Spot.{kept, own}
use Rattle.tp_schedule.specs.declared.parts.Plan.{Plan}
use Rattle.tp_schedule.specs.declared.parts.SheetId.{SheetId}
use Rattle.tp_schedule.proofs.PutFacts.{All-insert}
use Rattle.tp_bound_laws.proofs.Lists.{number-same}
use Rattle.tp_bound_laws.specs.Chains.{gap_behind, gap_in}
use Rattle.tp_bound_laws.proofs.ApartStarts.{Apart}
use Rattle.tp_bound_check.proofs.CutFacts.{find-cut, slot-out}
use Rattle.tp_bound_check.specs.Founds.{found_in, next_found, slot_before, slot_behind}
use Rattle.tp_bound_check.specs.Points.{copy_in}
use Rattle.tp_bound_check.specs.declared.found.Found.{Found}
use Rattle.tp_bound_check.specs.Ranks.{is_kept, is_kept_point, mixed_gap, own_among, rank_at}
use Rattle.tp_bound_check.specs.declared.stance.Stance.{Stance}
use Rattle.tp_bound_check.proofs.KeptRanks.{filter-drop, filter-take, order-kept}

-- ---- holds of one own action
abbrev pub NotAt : ℕ → Slot → Type 0
NotAt m x = is_same_spot x.from (own m) ≡ false

own-elsewhere : (p : Spot) (c : SheetId) (i : ℕ) → is_kept_point p ≡ false → is_same_spot p (kept c i) ≡ false
own-elsewhere (kept d j) c i bare = absurd cc
own-elsewhere (own n) c i bare = refl

kept-elsewhere : (p : Spot) (m : ℕ) → is_kept_point p ≡ true → is_same_spot p (own m) ≡ false
kept-elsewhere (kept d j) m whole = refl
kept-elsewhere (own n) m whole = absurd cc

order-not : (m : ℕ) (xs : List Slot) → All (λ s. is_kept s ≡ true) xs → All (NotAt m) xs
order-not m [] all = All-nil (NotAt m)
order-not m (x ∷ xs) all = All-cons (NotAt m) x xs (kept-elsewhere x.from m (All-head (λ s. is_kept s ≡ true) x xs all)) (order-not m xs (All-tail (λ s. is_kept s ≡ true) x xs all))

put-not : (m n : ℕ) (resource : ℕ) (to : Spot) (rules : List HoldRule) (places : List ℕ) (order : List Slot) → (n == m) ≡ false → All (NotAt m) order → All (NotAt m) (put_places resource (own n) to rules places order)
put-not m n resource to [] places order other all = all
put-not m n resource to (rule ∷ rules) [] order other all = all
put-not m n resource to (rule ∷ rules) (place ∷ places) order other all = put-not m n resource to rules places (cond (rule.resource.0 == resource) (insert order place slot) order) other (go (rule.resource.0 == resource)) where
  slot : Slot
  slot = record { rule = rule; from = own n; to = to }

  go : (b : Bool) → All (NotAt m) (cond b (insert order place slot) order)
  go true = All-insert (NotAt m) order place slot all other
  go false = all

pub placed-not : (machine : Machine) (plans : List Plan) (resource m : ℕ) (cs : List Choice) → ((k : ℕ) → k < length cs → (suc k == m) ≡ false) → All (NotAt m) (placed machine resource (slot_order machine plans resource) cs)
placed-not machine plans resource m [] others = order-not m (slot_order machine plans resource) (order-kept machine plans resource)
placed-not machine plans resource m (c ∷ cs) others =
    put-not m (suc (length cs)) resource (own (length cs)) (holds_of_act (action_at machine c.act.0)) c.places (placed machine resource (slot_order machine plans resource) cs) (others (length cs) (omega arith))
    (placed-not machine plans resource m cs (λ k lt. others k (omega (arith, lt))))

find-not : (m : ℕ) (xs : List Slot) → All (NotAt m) xs → find (λ x. is_same_spot x.from (own m)) xs ≡ None
find-not m [] all = refl
find-not m (x ∷ xs) all = ap (λ b. cond b (Some x) (find (λ x. is_same_spot x.from (own m)) xs)) (All-head (NotAt m) x xs all) ∙ find-not m xs (All-tail (NotAt m) x xs all)

find-seam : (m : ℕ) (ys : List Slot) (s : Slot) (zs : List Slot) → is_same_spot s.from (own m) ≡ true → All (NotAt m) ys → find (λ x. is_same_spot x.from (own m)) (ys ++ s ∷ zs) ≡ Some s
find-seam m [] s zs here all = ap (λ b. cond b (Some s) (find (λ x. is_same_spot x.from (own m)) zs)) here
find-seam m (y ∷ ys) s zs here all = ap (λ b. cond b (Some y) (find (λ x. is_same_spot x.from (own m)) (ys ++ s ∷ zs))) (All-head (NotAt m) y ys all) ∙ find-seam m ys s zs here (All-tail (NotAt m) y ys all)

find-kept : (c : SheetId) (i : ℕ) (xs : List Slot) → find (λ x. is_same_spot x.from (kept c i)) xs ≡ find (λ x. is_same_spot x.from (kept c i)) (filter is_kept xs)
find-kept c i [] = refl
find-kept c i (x ∷ xs) = go (is_kept x) refl (find-kept c i xs) where
  F : List Slot → Option Slot
  F ys = find (λ y. is_same_spot y.from (kept c i)) ys

  go : (b : Bool) → is_kept x ≡ b → F xs ≡ F (filter is_kept xs) → cond (is_same_spot x.from (kept c i)) (Some x) (F xs) ≡ F (cond b (x ∷ filter is_kept xs) (filter is_kept xs))
  go true e rest = ap (cond (is_same_spot x.from (kept c i)) (Some x)) rest
  go false e rest = ap (λ t. cond t (Some x) (F xs)) (own-elsewhere x.from c i e) ∙ rest

gap-not : (apart m : ℕ) (b a : Spot) (xs : List Slot) → All (NotAt m) xs → gap_in apart (own m) a xs ≡ None
gap-not apart m b a [] all = refl
gap-not apart m b a (x ∷ xs) all = ap (λ t. cond t (gap_behind apart x a xs) (gap_in apart (own m) a xs)) (All-head (NotAt m) x xs all) ∙ gap-not apart m b a xs (All-tail (NotAt m) x xs all)

gap-until_not : (apart m : ℕ) (b : Spot) (xs : List Slot) → All (NotAt m) xs → gap_in apart b (own m) xs ≡ None
gap-until_not apart m b [] all = refl
gap-until_not apart m b (x ∷ xs) all =
    let tail = All-tail (NotAt m) x xs all in
    ap (λ o. cond (is_same_spot x.from b) (option_map (slot_gap apart x) o) (gap_in apart b (own m) xs)) (find-not m xs tail) ∙ either (is_same_spot x.from b) (gap_in apart b (own m) xs) (gap-until_not apart m b xs tail)
  where
    either : (t : Bool) (o : Option Gap) → o ≡ None → cond t None o ≡ None
    either true o e = refl
    either false o e = e

gap-here : (apart m : ℕ) (a : Spot) (ys : List Slot) (s : Slot) (zs : List Slot) → is_same_spot s.from (own m) ≡ true → All (NotAt m) ys → gap_in apart (own m) a (ys ++ s ∷ zs) ≡ gap_behind apart s a zs
gap-here apart m a [] s zs here all = ap (λ t. cond t (gap_behind apart s a zs) (gap_in apart (own m) a zs)) here
gap-here apart m a (y ∷ ys) s zs here all =
    ap (λ t. cond t (gap_behind apart y a (ys ++ s ∷ zs)) (gap_in apart (own m) a (ys ++ s ∷ zs))) (All-head (NotAt m) y ys all) ∙ gap-here apart m a ys s zs here (All-tail (NotAt m) y ys all)

gap-there : (apart m : ℕ) (c : SheetId) (i : ℕ) (ys : List Slot) (s : Slot) (zs : List Slot) → s.from ≡ own m → All (NotAt m) ys → All (NotAt m) zs
    → gap_in apart (kept c i) (own m) (ys ++ s ∷ zs) ≡ option_map (λ x. slot_gap apart x s) (find (λ x. is_same_spot x.from (kept c i)) ys)
gap-there apart m c i [] s zs here before after =
    ap (λ p. cond (is_same_spot p (kept c i)) (gap_behind apart s (own m) zs) (gap_in apart (kept c i) (own m) zs)) here ∙ gap-until_not apart m (kept c i) zs after
gap-there apart m c i (y ∷ ys) s zs here before after =
    let same : is_same_spot s.from (own m) ≡ true = ap (λ p. is_same_spot p (own m)) here ∙ number-same m in
    ap (λ o. cond (is_same_spot y.from (kept c i)) (option_map (slot_gap apart y) o) (gap_in apart (kept c i) (own m) (ys ++ s ∷ zs))) (find-seam m ys s zs same (All-tail (NotAt m) y ys before))
    ∙ go (is_same_spot y.from (kept c i)) (gap-there apart m c i ys s zs here (All-tail (NotAt m) y ys before) after)
  where
    F : Option Slot
    F = find (λ x. is_same_spot x.from (kept c i)) ys

    go : (t : Bool) → gap_in apart (kept c i) (own m) (ys ++ s ∷ zs) ≡ option_map (λ x. slot_gap apart x s) F
        → cond t (Some (slot_gap apart y s)) (gap_in apart (kept c i) (own m) (ys ++ s ∷ zs)) ≡ option_map (λ x. slot_gap apart x s) (cond t (Some y) F)
    go true rest = refl
    go false rest = rest

-- an own hold in place of a range of places, and a kept one: the kept order tells what is between them
pub mixed-is : (apart m lo hi : ℕ) (b a : Spot) (xs kept_slots : List Slot) (t : Stance) → own_among b a ≡ Some m → All (NotAt m) xs → filter is_kept xs ≡ kept_slots → t.slot.from ≡ own m → t.lo ≡ rank_at lo xs → t.hi ≡ rank_at hi xs
    → gap_in apart b a (take lo xs ++ t.slot ∷ drop hi xs) ≡ mixed_gap apart b a (Some t) kept_slots
mixed-is apart m lo hi (own n) (own k) xs kept_slots t among not same from is-lo is-hi = absurd cc
mixed-is apart m lo hi (kept d j) (kept c i) xs kept_slots t among not same from is-lo is-hi = absurd cc
mixed-is apart m lo hi (own n) (kept c i) xs kept_slots t among not same from is-lo is-hi =
    let n-is : n ≡ m = cc in
    let here : is_same_spot t.slot.from (own m) ≡ true = ap (λ p. is_same_spot p (own m)) from ∙ number-same m in
    ap (λ k. gap_in apart (own k) (kept c i) (take lo xs ++ t.slot ∷ drop hi xs)) n-is
    ∙ gap-here apart m (kept c i) (take lo xs) t.slot (drop hi xs) here (All-take (NotAt m) lo xs not)
    ∙ ap (option_map (slot_gap apart t.slot)) (find-kept c i (drop hi xs) ∙ ap (find (λ (x : Slot). is_same_spot x.from (kept c i))) (filter-drop hi xs ∙ ap (λ k. drop k (filter is_kept xs)) (sym is-hi) ∙ ap (drop t.hi) same))
mixed-is apart m lo hi (kept c i) (own n) xs kept_slots t among not same from is-lo is-hi =
    let n-is : n ≡ m = cc in
    ap (λ k. gap_in apart (kept c i) (own k) (take lo xs ++ t.slot ∷ drop hi xs)) n-is
    ∙ gap-there apart m c i (take lo xs) t.slot (drop hi xs) from (All-take (NotAt m) lo xs not) (All-drop (NotAt m) hi xs not)
    ∙ ap (option_map (λ (x : Slot). slot_gap apart x t.slot)) (find-kept c i (take lo xs) ∙ ap (find (λ (x : Slot). is_same_spot x.from (kept c i))) (filter-take lo xs ∙ ap (λ k. take k (filter is_kept xs)) (sym is-lo) ∙ ap (take t.lo) same))

-- nothing is between where the own action has bare hold
pub mixed-none : (apart m : ℕ) (b a : Spot) (xs kept_slots : List Slot) → own_among b a ≡ Some m → All (NotAt m) xs → gap_in apart b a xs ≡ mixed_gap apart b a None kept_slots
mixed-none apart m (own n) (own k) xs kept_slots among not = absurd cc
mixed-none apart m (kept d j) (kept c i) xs kept_slots among not = absurd cc
mixed-none apart m (own n) (kept c i) xs kept_slots among not = let n-is : n ≡ m = cc in ap (λ k. gap_in apart (own k) (kept c i) xs) n-is ∙ gap-not apart m (own m) (kept c i) xs not
mixed-none apart m (kept c i) (own n) xs kept_slots among not = let n-is : n ≡ m = cc in ap (λ k. gap_in apart (kept c i) (own k) xs) n-is ∙ gap-until_not apart m (kept c i) xs not

pub insert-parts : (xs : List Slot) (i : ℕ) (s : Slot) → insert xs i s ≡ take i xs ++ s ∷ drop i xs
insert-parts [] zero s = refl
insert-parts [] (suc i) s = refl
insert-parts (x ∷ xs) zero s = refl
insert-parts (x ∷ xs) (suc i) s = ap (λ ys. x ∷ ys) (insert-parts xs i s)

-- ---- holds that are looked up
none-less : (n : ℕ) → ltb n 0 ≡ false
none-less n = grind (arith, nat_tests)

less-first : (n : ℕ) → ltb 0 (suc n) ≡ true
less-first n = grind (arith, nat_tests)

less-next : (m n : ℕ) → ltb (suc m) (suc n) ≡ ltb m n
less-next m n = grind (arith, nat_tests)

find-behind : (a : Spot) (hi : ℕ) (xs : List Slot) → AllPairs Apart xs → find (λ y. is_same_spot y.from a) (drop hi xs) ≡ slot_behind hi (found_in a xs)
find-behind a hi xs pairs = find-cut a 0 hi xs (omega arith) pairs ∙ go (found_in a xs) where
  go : (o : Option Found) → slot-out 0 hi o ≡ slot_behind hi o
  go None = refl
  go (Some f) = ap (λ t. cond (t || leb hi f.at) (Some f.slot) None) (none-less f.at)

find-before : (a : Spot) (lo : ℕ) (xs : List Slot) → find (λ y. is_same_spot y.from a) (take lo xs) ≡ slot_before lo (found_in a xs)
find-before a zero xs = go (found_in a xs) where
  go : (o : Option Found) → None ≡ slot_before 0 o
  go None = refl
  go (Some f) = ap (λ t. cond t (Some f.slot) None) (sym (none-less f.at))
find-before a (suc lo) [] = refl
find-before a (suc lo) (x ∷ xs) = go (is_same_spot x.from a) (find-before a lo xs) where
  next : (o : Option Found) → slot_before lo o ≡ slot_before (suc lo) (option_map next_found o)
  next None = refl
  next (Some f) = ap (λ t. cond t (Some f.slot) None) (sym (less-next f.at lo))

  go : (b : Bool) → find (λ y. is_same_spot y.from a) (take lo xs) ≡ slot_before lo (found_in a xs)
      → cond b (Some x) (find (λ y. is_same_spot y.from a) (take lo xs)) ≡ slot_before (suc lo) (cond b (Some (record { at = 0; slot = x })) (option_map next_found (found_in a xs)))
  go true e = ap (λ t. cond t (Some x) None) (sym (less-first lo))
  go false e = e ∙ next (found_in a xs)

pub own-first : (apart : ℕ) (p q : Spot) (t : Stance) (order : List Slot) (o : Option Slot) → AllPairs Apart order → copy_in p ≡ None → o ≡ slot_behind t.hi (found_in q order) → option_map (slot_gap apart t.slot) o ≡ mixed_gap apart p q (Some t) order
own-first apart (kept c i) q t order o pairs bare is = absurd cc
own-first apart (own n) q t order o pairs bare is = ap (option_map (slot_gap apart t.slot)) (is ∙ sym (find-behind q t.hi order pairs))

pub kept-first : (apart : ℕ) (p q : Spot) (c : SheetId) (t : Stance) (order : List Slot) (o : Option Slot) → copy_in p ≡ Some c → o ≡ slot_before t.lo (found_in p order) → option_map (λ x. slot_gap apart x t.slot) o ≡ mixed_gap apart p q (Some t) order
kept-first apart (own n) q c t order o copy is = absurd cc
kept-first apart (kept d i) q c t order o copy is = ap (option_map (λ (x : Slot). slot_gap apart x t.slot)) (is ∙ sym (find-before (kept d i) t.lo order))
