-- What is put into an order later changes nothing between two holds that stand in it.
use Rattle.std.proofs.Common.{◌≡◌, ℕ, zero, suc, ◌+◌, ◌-◌, ◌≤◌, ◌<◌, ◌==◌, Bool, true, false, cond, max, min, List, [], ◌∷◌, length, insert, find, take, reverse, get_or, refl, sym, ◌∙◌, ap, arith, add-zero, Some, None, option_map}
use Rattle.std.proofs.Math.Seq.{take-length}
use Rattle.std.proofs.lemmas.Bool.Decides.{nat_tests}
use Rattle.std.proofs.lemmas.List.{length-reverse, reverse-reverse}
use Rattle.tp_constraints.specs.Gaps.{slot_gap}
use Rattle.tp_constraints.specs.Numbers.{is_same_spot}
use Rattle.tp_constraints.specs.Suffixes.{order_in}
use Rattle.tp_machine.specs.ModuleUse.{action_at}
use Rattle.tp_machine.specs.declared.parts.HoldRule.{HoldRule}
use Rattle.tp_machine.specs.declared.machine.Machine.{Machine}
use Rattle.tp_schedule.specs.Choices.{Choice, placed, put_places}
use Rattle.tp_schedule.specs.Holders.{holds_of_act}
use Rattle.tp_schedule.specs.Spots.{Slot, Spot, slot_order}
use Rattle.tp_schedule.specs.Spots.Spot.{kept, own}
use Rattle.tp_schedule.specs.declared.parts.Plan.{Plan}
use Rattle.tp_bound_laws.specs.Chains.{gap_behind, gap_in}
use Rattle.tp_bound_laws.specs.Places.{Branch}
use Rattle.tp_bound_check.specs.Points.{choices_to}
use Rattle.tp_bound_check.specs.Stands.{order_until}
use Rattle.tp_bound_check.proofs.ChoiceFacts.{slice-is}
use Rattle.tp_bound_check.proofs.StandFacts.{order-more}

find-insert : (a : Spot) (xs : List Slot) (i : ℕ) (s : Slot) → is_same_spot s.from a ≡ false → find (λ x. is_same_spot x.from a) (insert xs i s) ≡ find (λ x. is_same_spot x.from a) xs
find-insert a [] zero s other = ap (λ t. cond t (Some s) None) other
find-insert a [] (suc i) s other = ap (λ t. cond t (Some s) None) other
find-insert a (x ∷ xs) zero s other = ap (λ t. cond t (Some s) (find (λ y. is_same_spot y.from a) (x ∷ xs))) other
find-insert a (x ∷ xs) (suc i) s other = ap (λ o. cond (is_same_spot x.from a) (Some x) o) (find-insert a xs i s other)

gap-insert : (apart : ℕ) (b a : Spot) (xs : List Slot) (i : ℕ) (s : Slot) → is_same_spot s.from b ≡ false → is_same_spot s.from a ≡ false → gap_in apart b a (insert xs i s) ≡ gap_in apart b a xs
gap-insert apart b a [] zero s not-b not-a = ap (λ t. cond t (gap_behind apart s a []) None) not-b
gap-insert apart b a [] (suc i) s not-b not-a = ap (λ t. cond t (gap_behind apart s a []) None) not-b
gap-insert apart b a (x ∷ xs) zero s not-b not-a = ap (λ t. cond t (gap_behind apart s a (x ∷ xs)) (gap_in apart b a (x ∷ xs))) not-b
gap-insert apart b a (x ∷ xs) (suc i) s not-b not-a =
    ap (λ o. cond (is_same_spot x.from b) (option_map (slot_gap apart x) o) (gap_in apart b a (insert xs i s))) (find-insert a xs i s not-a)
    ∙ ap (λ g. cond (is_same_spot x.from b) (gap_behind apart x a xs) g) (gap-insert apart b a xs i s not-b not-a)

gap-put : (apart : ℕ) (b a : Spot) (resource : ℕ) (from to : Spot) (rules : List HoldRule) (places : List ℕ) (order : List Slot) → is_same_spot from b ≡ false → is_same_spot from a ≡ false
    → gap_in apart b a (put_places resource from to rules places order) ≡ gap_in apart b a order
gap-put apart b a resource from to [] places order not-b not-a = refl
gap-put apart b a resource from to (rule ∷ rules) [] order not-b not-a = refl
gap-put apart b a resource from to (rule ∷ rules) (place ∷ places) order not-b not-a =
    gap-put apart b a resource from to rules places (cond (rule.resource.0 == resource) (insert order place slot) order) not-b not-a ∙ go (rule.resource.0 == resource)
  where
    slot : Slot
    slot = record { rule = rule; from = from; to = to }

    go : (t : Bool) → gap_in apart b a (cond t (insert order place slot) order) ≡ gap_in apart b a order
    go true = gap-insert apart b a order place slot not-b not-a
    go false = refl

other-number : (m n : ℕ) → m ≤ n → (n + 1 == m) ≡ false
other-number m n le = grind (arith, nat_tests)

other-start : (p : Spot) (n : ℕ) → choices_to p ≤ n → is_same_spot (own (n + 1)) p ≡ false
other-start (kept c i) n le = refl
other-start (own m) n le = other-number m n le

abbrev no-choice : Choice
no-choice = record { act = record { 0 = 0 }; places = [] }

module _ (machine : Machine) (plans : List Plan) (branch : Branch) (resource : ℕ) where
  -- the order with all choices
  pub order-all : (n : ℕ) → n ≡ length branch.x.choices → order_until machine plans branch resource n ≡ order_in machine plans branch.x resource
  order-all n e =
      let old = reverse branch.x.choices in
      let l : n ≡ length old = e ∙ sym (length-reverse branch.x.choices) in
      ap (placed machine resource (slot_order machine plans resource)) (ap (λ m. reverse (take m old)) l ∙ ap reverse (take-length old) ∙ reverse-reverse branch.x.choices)

  gap-more : (apart : ℕ) (b a : Spot) (n : ℕ) → choices_to b ≤ n → choices_to a ≤ n → n < length branch.x.choices
      → gap_in apart b a (order_until machine plans branch resource (n + 1)) ≡ gap_in apart b a (order_until machine plans branch resource n)
  gap-more apart b a n le-b le-a lt =
      let old = reverse branch.x.choices in
      let l = length-reverse branch.x.choices in
      let c = get_or old n no-choice in
      ap (gap_in apart b a) (order-more machine plans branch resource n c (slice-is old n no-choice (omega (arith, l, lt))))
      ∙ gap-put apart b a resource (own (n + 1)) (own n) (holds_of_act (action_at machine c.act.0)) c.places (order_until machine plans branch resource n) (other-start b n le-b) (other-start a n le-a)

  gap-later : (apart : ℕ) (b a : Spot) (n k : ℕ) → choices_to b ≤ n → choices_to a ≤ n → n + k ≤ length branch.x.choices
      → gap_in apart b a (order_until machine plans branch resource (n + k)) ≡ gap_in apart b a (order_until machine plans branch resource n)
  gap-later apart b a n zero le-b le-a lt = ap (λ m. gap_in apart b a (order_until machine plans branch resource m)) (add-zero n)
  gap-later apart b a n (suc k) le-b le-a lt =
      let e : n + suc k ≡ n + k + 1 = omega arith in
      ap (λ m. gap_in apart b a (order_until machine plans branch resource m)) e ∙ gap-more apart b a (n + k) (omega arith) (omega arith) (omega arith)
      ∙ gap-later apart b a n k le-b le-a (omega arith)

  -- what is between two holds tells the order with the choices up to both
  pub gap-until : (apart : ℕ) (b a : Spot) (n : ℕ) → n ≡ min (max (choices_to b) (choices_to a)) (length branch.x.choices)
      → gap_in apart b a (order_until machine plans branch resource n) ≡ gap_in apart b a (order_in machine plans branch.x resource)
  gap-until apart b a n e = go (length branch.x.choices - n) refl where
    go : (k : ℕ) → length branch.x.choices - n ≡ k → gap_in apart b a (order_until machine plans branch resource n) ≡ gap_in apart b a (order_in machine plans branch.x resource)
    go zero none = ap (gap_in apart b a) (order-all n (omega arith))
    go (suc k) some =
        let all : n + suc k ≡ length branch.x.choices = omega arith in
        sym (gap-later apart b a n (suc k) (omega arith) (omega arith) (omega arith)) ∙ ap (gap_in apart b a) (order-all (n + suc k) all)
