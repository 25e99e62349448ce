-- Ranks among kept holds: what stands before a place, with and without own holds.
use Rattle.std.proofs.Common.{◌≡◌, ℕ, zero, suc, ◌+◌, ◌-◌, ◌<◌, ◌==◌, Bool, true, false, cond, ltb, min, List, [], ◌∷◌, length, filter, insert, take, drop, get_or, refl, sym, ◌∙◌, ap, arith, All}
use Rattle.std.proofs.lemmas.Bool.Decides.{nat_tests}
use Rattle.std.proofs.lemmas.Bool.{ltb-true}
use Rattle.std.proofs.lemmas.List.{length-take}
use Rattle.std.proofs.lemmas.List.Elements.{All-head, All-tail, All-take}
use Rattle.tp_choices.proofs.LiveSlots.{slot_of, slots-in}
use Rattle.tp_choices.proofs.SameTicks.{in-slots}
use Rattle.tp_machine.specs.ModuleUse.{action_at}
use Rattle.tp_machine.specs.declared.parts.HoldRule.{HoldRule}
use Rattle.tp_machine.specs.declared.machine.Machine.{Machine}
use Rattle.tp_schedule.specs.Choices.{Choice, placed, put_places}
use Rattle.tp_schedule.specs.Holders.{holds_of_act}
use Rattle.tp_schedule.specs.Spots.{Slot, Spot, slot_order}
use Rattle.tp_schedule.specs.Spots.Spot.{own}
use Rattle.tp_schedule.specs.declared.parts.Plan.{Plan}
use Rattle.tp_schedule.proofs.Membership.{All-from_contains}
use Rattle.tp_bound_check.proofs.TrackFacts.{places-one}
use Rattle.tp_bound_check.specs.Ranks.{is_kept, is_kept_point, rank_at, without}

-- ---- ranks of places
abbrev counted : Bool → Slot → List Slot → ℕ
counted b x ys = length (cond b (x ∷ ys) ys)

counted-whole : (b : Bool) (x : Slot) (ys : List Slot) → b ≡ false → counted b x ys ≡ length ys
counted-whole true x ys e = absurd cc
counted-whole false x ys e = refl

counted-same : (b : Bool) (x : Slot) (ys zs : List Slot) → length ys ≡ length zs → counted b x ys ≡ counted b x zs
counted-same true x ys zs e = ap suc e
counted-same false x ys zs e = e

rank-nil : (place : ℕ) → rank_at place [] ≡ 0
rank-nil zero = refl
rank-nil (suc place) = refl

rank-none : (place : ℕ) (s : Slot) → is_kept s ≡ false → rank_at place (s ∷ []) ≡ 0
rank-none zero s bare = refl
rank-none (suc place) s bare = counted-whole (is_kept s) s (filter is_kept (take place [])) bare ∙ rank-nil place

without-none : (i : ℕ) → without i 0 ≡ 0
without-none i = let t : ltb i 0 ≡ false = grind (arith, nat_tests) in ap (λ b. cond b (0 - 1) 0) t

without-first : (place : ℕ) → without 0 (suc place) ≡ place
without-first place = let t : ltb 0 (suc place) ≡ true = grind (arith, nat_tests) in ap (λ b. cond b (suc place - 1) (suc place)) t ∙ (let e : suc place - 1 ≡ place = omega arith in e)

without-suc : (i place : ℕ) → without (suc i) (suc place) ≡ suc (without i place)
without-suc i place = ap (λ b. cond b (suc place - 1) (suc place)) less ∙ go (ltb i place) refl where
  less : ltb (suc i) (suc place) ≡ ltb i place
  less = grind (arith, nat_tests)

  go : (b : Bool) → ltb i place ≡ b → cond b (suc place - 1) (suc place) ≡ suc (cond b (place - 1) place)
  go true e = let lt = ltb-true i place e in omega (arith, lt)
  go false e = refl

-- a hold more that is own
pub rank-insert : (xs : List Slot) (i place : ℕ) (s : Slot) → is_kept s ≡ false → rank_at place (insert xs i s) ≡ rank_at (without i place) xs
rank-insert [] zero place s bare = rank-none place s bare ∙ sym (rank-nil (without 0 place))
rank-insert [] (suc i) place s bare = rank-none place s bare ∙ sym (rank-nil (without (suc i) place))
rank-insert (x ∷ xs) zero zero s bare = ap (λ k. rank_at k (x ∷ xs)) (sym (without-none 0))
rank-insert (x ∷ xs) zero (suc place) s bare = counted-whole (is_kept s) s (filter is_kept (take place (x ∷ xs))) bare ∙ ap (λ k. rank_at k (x ∷ xs)) (sym (without-first place))
rank-insert (x ∷ xs) (suc i) zero s bare = ap (λ k. rank_at k (x ∷ xs)) (sym (without-none (suc i)))
rank-insert (x ∷ xs) (suc i) (suc place) s bare =
    counted-same (is_kept x) x (filter is_kept (take place (insert xs i s))) (filter is_kept (take (without i place) xs)) (rank-insert xs i place s bare)
    ∙ ap (λ k. rank_at k (x ∷ xs)) (sym (without-suc i place))

-- the same of what the code has, for one rule of an action
pub rank-one : (resource : ℕ) (from to : Spot) (rules : List HoldRule) (places : List ℕ) (next at : ℕ) (rule : HoldRule) (place : ℕ) (order : List Slot) (left less : ℕ) (d : HoldRule) → is_kept_point from ≡ false → next ≡ at + 1 → at < length rules → at < length places
    → rule ≡ get_or rules at d → place ≡ get_or places at 0 → less ≡ cond (rule.resource.0 == resource) (without place left) left
    → rank_at left (put_places resource from to rules (take next places) order) ≡ rank_at less (put_places resource from to rules (take at places) order)
rank-one resource from to rules places next at rule place order left less d bare next-is within inside rule-is place-is less-is =
    ap (λ n. rank_at left (put_places resource from to rules (take n places) order)) next-is
    ∙ ap (rank_at left) (places-one resource from to rules places at rule place order d within inside rule-is place-is)
    ∙ go (rule.resource.0 == resource) ∙ ap (λ n. rank_at n xs) (sym less-is)
  where
    xs : List Slot
    xs = put_places resource from to rules (take at places) order

    go : (b : Bool) → rank_at left (cond b (insert xs place (record { rule = rule; from = from; to = to })) xs) ≡ rank_at (cond b (without place left) left) xs
    go true = rank-insert xs place left (record { rule = rule; from = from; to = to }) bare
    go false = refl

-- ---- the kept order
filter-all : (xs : List Slot) → All (λ s. is_kept s ≡ true) xs → filter is_kept xs ≡ xs
filter-all [] all = refl
filter-all (x ∷ xs) all = ap (λ b. cond b (x ∷ filter is_kept xs) (filter is_kept xs)) (All-head (λ s. is_kept s ≡ true) x xs all) ∙ ap (λ ys. x ∷ ys) (filter-all xs (All-tail (λ s. is_kept s ≡ true) x xs all))

pub order-kept : (machine : Machine) (plans : List Plan) (resource : ℕ) → All (λ s. is_kept s ≡ true) (slot_order machine plans resource)
order-kept machine plans resource = All-from_contains (λ s. is_kept s ≡ true) (slot_order machine plans resource) (λ s in'.
    let (p, there, of') = slots-in machine resource plans s (in-slots machine plans resource s in') in
    ap is_kept_point (slot_of machine resource p s of').from)

pub rank-kept : (machine : Machine) (plans : List Plan) (resource place : ℕ) → rank_at place (slot_order machine plans resource) ≡ min place (length (slot_order machine plans resource))
rank-kept machine plans resource place =
    let K = slot_order machine plans resource in
    ap length (filter-all (take place K) (All-take (λ s. is_kept s ≡ true) place K (order-kept machine plans resource))) ∙ length-take place K

filter-insert : (xs : List Slot) (i : ℕ) (s : Slot) → is_kept s ≡ false → filter is_kept (insert xs i s) ≡ filter is_kept xs
filter-insert [] zero s bare = ap (λ b. cond b (s ∷ []) []) bare
filter-insert [] (suc i) s bare = ap (λ b. cond b (s ∷ []) []) bare
filter-insert (x ∷ xs) zero s bare = ap (λ b. cond b (s ∷ filter is_kept (x ∷ xs)) (filter is_kept (x ∷ xs))) bare
filter-insert (x ∷ xs) (suc i) s bare = ap (λ ys. cond (is_kept x) (x ∷ ys) ys) (filter-insert xs i s bare)

filter-put : (resource : ℕ) (from to : Spot) (rules : List HoldRule) (places : List ℕ) (order : List Slot) → is_kept_point from ≡ false → filter is_kept (put_places resource from to rules places order) ≡ filter is_kept order
filter-put resource from to [] places order bare = refl
filter-put resource from to (rule ∷ rules) [] order bare = refl
filter-put resource from to (rule ∷ rules) (place ∷ places) order bare = filter-put resource from to rules places (cond (rule.resource.0 == resource) (insert order place slot) order) bare ∙ go (rule.resource.0 == resource) where
  slot : Slot
  slot = record { rule = rule; from = from; to = to }

  go : (b : Bool) → filter is_kept (cond b (insert order place slot) order) ≡ filter is_kept order
  go true = filter-insert order place slot bare
  go false = refl

filter-placed : (machine : Machine) (resource : ℕ) (order : List Slot) (cs : List Choice) → filter is_kept (placed machine resource order cs) ≡ filter is_kept order
filter-placed machine resource order [] = refl
filter-placed machine resource order (c ∷ cs) =
    filter-put resource (own (suc (length cs))) (own (length cs)) (holds_of_act (action_at machine c.act.0)) c.places (placed machine resource order cs) refl ∙ filter-placed machine resource order cs

-- the order without own holds is the kept one
pub kept-placed : (machine : Machine) (plans : List Plan) (resource : ℕ) (cs : List Choice) → filter is_kept (placed machine resource (slot_order machine plans resource) cs) ≡ slot_order machine plans resource
kept-placed machine plans resource cs = filter-placed machine resource (slot_order machine plans resource) cs ∙ filter-all (slot_order machine plans resource) (order-kept machine plans resource)

-- ---- parts of an order
pub filter-take : (place : ℕ) (xs : List Slot) → filter is_kept (take place xs) ≡ take (rank_at place xs) (filter is_kept xs)
filter-take zero xs = refl
filter-take (suc place) [] = refl
filter-take (suc place) (x ∷ xs) = go (is_kept x) (filter-take place xs) where
  go : (b : Bool) → filter is_kept (take place xs) ≡ take (length (filter is_kept (take place xs))) (filter is_kept xs)
      → cond b (x ∷ filter is_kept (take place xs)) (filter is_kept (take place xs)) ≡ take (counted b x (filter is_kept (take place xs))) (cond b (x ∷ filter is_kept xs) (filter is_kept xs))
  go true e = ap (λ ys. x ∷ ys) e
  go false e = e

pub filter-drop : (place : ℕ) (xs : List Slot) → filter is_kept (drop place xs) ≡ drop (rank_at place xs) (filter is_kept xs)
filter-drop zero xs = refl
filter-drop (suc place) [] = refl
filter-drop (suc place) (x ∷ xs) = go (is_kept x) (filter-drop place xs) where
  go : (b : Bool) → filter is_kept (drop place xs) ≡ drop (length (filter is_kept (take place xs))) (filter is_kept xs)
      → filter is_kept (drop place xs) ≡ drop (counted b x (filter is_kept (take place xs))) (cond b (x ∷ filter is_kept xs) (filter is_kept xs))
  go true e = e
  go false e = e
