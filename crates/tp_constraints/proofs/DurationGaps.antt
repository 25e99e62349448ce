-- Actions last within their durations exactly where their gaps are kept.
use Rattle.std.proofs.Common.{◌≡◌, ℕ, zero, suc, ◌+◌, ◌≤◌, List, [], ◌∷◌, refl, arith, All, subst, flat_map, Option, Some, None, IsSome, IsSomeAnd, length, Contains}
use Rattle.std.specs.Prelude.{◌≤ℤ◌, ◌+ℤ◌, pos, neg_ℤ, slice_get}
use Rattle.std.proofs.lemmas.List.Elements.{All-nil, All-cons, All-head, All-tail, All-append}
use Rattle.std.proofs.lemmas.Int.{ints}
use Rattle.tp_machine.specs.ModuleUse.{action_at}
use Rattle.tp_machine.specs.declared.parts.Action.{Action}
use Rattle.tp_machine.specs.declared.parts.ActId.{ActId}
use Rattle.tp_machine.specs.declared.machine.Machine.{Machine}
use Rattle.tp_schedule.specs.declared.parts.SheetId.{SheetId}
use Rattle.tp_schedule.specs.Plans.{LastsWithin}
use Rattle.tp_schedule.specs.Spots.{Spot, Ticks}
use Rattle.tp_schedule.specs.Spots.Spot.{kept, own}
use Rattle.tp_constraints.specs.Gaps.{Gap, KeepsGap, KeepsGaps, gap, range_gaps, acts_gaps}
use Rattle.tp_schedule.specs.Choices.{Choice, acts_of, ChoicesLast}
use Rattle.tp_constraints.specs.Suffixes.{choice_gaps}
use Rattle.tp_schedule.proofs.LegalOrders.{LastsBy}
use Rattle.tp_constraints.proofs.Lists.{All-split}

-- one action between two points
pub range-from_gaps : (t : Ticks) (o : Option Action) (from to : Spot) → IsSome o → KeepsGaps t (range_gaps o from to) → IsSomeAnd o (λ a. (t from + a.least ≤ t to) × (t to ≤ t from + a.most))
range-from_gaps t None from to known keeps = absurd cc
range-from_gaps t (Some a) from to known keeps =
    let least : (pos (t from) +ℤ pos a.least) ≤ℤ pos (t to) = All-head (KeepsGap t) (gap from to (pos a.least)) (gap to from (neg_ℤ (pos a.most)) ∷ []) keeps in
    let most : (pos (t to) +ℤ neg_ℤ (pos a.most)) ≤ℤ pos (t from) = All-head (KeepsGap t) (gap to from (neg_ℤ (pos a.most))) [] (All-tail (KeepsGap t) (gap from to (pos a.least)) (gap to from (neg_ℤ (pos a.most)) ∷ []) keeps) in
    (omega (arith, ints), omega (arith, ints))

pub gaps-from_range : (t : Ticks) (o : Option Action) (from to : Spot) → IsSomeAnd o (λ a. (t from + a.least ≤ t to) × (t to ≤ t from + a.most)) → KeepsGaps t (range_gaps o from to)
gaps-from_range t None from to fits = All-nil (KeepsGap t)
gaps-from_range t (Some a) from to fits =
    let least : (pos (t from) +ℤ pos a.least) ≤ℤ pos (t to) = omega (arith, ints, fits.0) in
    let most : (pos (t to) +ℤ neg_ℤ (pos a.most)) ≤ℤ pos (t from) = omega (arith, ints, fits.1) in
    All-cons (KeepsGap t) (gap from to (pos a.least)) (gap to from (neg_ℤ (pos a.most)) ∷ []) least (All-cons (KeepsGap t) (gap to from (neg_ℤ (pos a.most))) [] most (All-nil (KeepsGap t)))

pub some-from_lasts : (t : Ticks) (o : Option Action) (from to : ℕ) → IsSomeAnd o (λ a. (from + a.least ≤ to) × (to ≤ from + a.most)) → IsSome o
some-from_lasts t None from to fits = absurd fits
some-from_lasts t (Some a) from to fits = refl

-- each action of the list is one of the machine
abbrev pub ActsKnown : Machine → List ActId → Type 0
ActsKnown machine acts = (i : ℕ) (act : ActId) → slice_get acts i ≡ Some act → IsSome (action_at machine act.0)

-- the actions of a copy
pub acts-from_gaps : (machine : Machine) (t : Ticks) (copy : SheetId) (n : ℕ) (acts : List ActId) → ActsKnown machine acts → KeepsGaps t (acts_gaps machine copy n acts) → LastsBy machine t copy n acts
acts-from_gaps machine t copy n [] known keeps i j act e is = absurd (cc)
acts-from_gaps machine t copy n (a ∷ acts) known keeps zero j act e is =
    let r = All-split (KeepsGap t) (range_gaps (action_at machine a.0) (kept copy n) (kept copy (suc n))) (acts_gaps machine copy (suc n) acts) keeps in
    let first : LastsWithin machine a (t (kept copy n)) (t (kept copy (suc n))) = range-from_gaps t (action_at machine a.0) (kept copy n) (kept copy (suc n)) (known 0 a refl) r.0 in
    let same : a ≡ act = cc in
    let here : j ≡ n = omega arith in
    rw here (subst (λ b. LastsWithin machine b (t (kept copy n)) (t (kept copy (suc n)))) same first)
acts-from_gaps machine t copy n (a ∷ acts) known keeps (suc i) j act e is =
    let r = All-split (KeepsGap t) (range_gaps (action_at machine a.0) (kept copy n) (kept copy (suc n))) (acts_gaps machine copy (suc n) acts) keeps in
    acts-from_gaps machine t copy (suc n) acts (λ k b is'. known (suc k) b is') r.1 i j act (omega arith) is

pub gaps-from_acts : (machine : Machine) (t : Ticks) (copy : SheetId) (n : ℕ) (acts : List ActId) → LastsBy machine t copy n acts → KeepsGaps t (acts_gaps machine copy n acts)
gaps-from_acts machine t copy n [] lasts = All-nil (KeepsGap t)
gaps-from_acts machine t copy n (a ∷ acts) lasts =
    All-append (KeepsGap t) (range_gaps (action_at machine a.0) (kept copy n) (kept copy (suc n))) (acts_gaps machine copy (suc n) acts)
    (gaps-from_range t (action_at machine a.0) (kept copy n) (kept copy (suc n)) (lasts 0 n a (omega arith) refl))
    (gaps-from_acts machine t copy (suc n) acts (λ i j b e is. lasts (suc i) j b (omega arith) is))

-- gaps that are kept plan by plan
pub each-from_flat : {X : Type 0} (t : Ticks) (f : X → List Gap) (xs : List X) → KeepsGaps t (flat_map f xs) → All (λ x. KeepsGaps t (f x)) xs
each-from_flat t f [] keeps = All-nil (λ x. KeepsGaps t (f x))
each-from_flat t f (x ∷ xs) keeps = let r = All-split (KeepsGap t) (f x) (flat_map f xs) keeps in All-cons (λ x. KeepsGaps t (f x)) x xs r.0 (each-from_flat t f xs r.1)

pub flat-from_each : {X : Type 0} (t : Ticks) (f : X → List Gap) (xs : List X) → All (λ x. KeepsGaps t (f x)) xs → KeepsGaps t (flat_map f xs)
flat-from_each t f [] each = All-nil (KeepsGap t)
flat-from_each t f (x ∷ xs) each = All-append (KeepsGap t) (f x) (flat_map f xs) (All-head (λ x. KeepsGaps t (f x)) x xs each) (flat-from_each t f xs (All-tail (λ x. KeepsGaps t (f x)) x xs each))

-- the choices last exactly where their gaps are kept
pub last-from_gaps : (machine : Machine) (t : Ticks) (choices : List Choice) → ((act : ActId) → Contains (acts_of choices) act → IsSome (action_at machine act.0)) → KeepsGaps t (choice_gaps machine choices) → ChoicesLast machine t choices
last-from_gaps machine t [] known keeps = tt
last-from_gaps machine t (c ∷ choices) known keeps =
    let r = All-split (KeepsGap t) (range_gaps (action_at machine c.act.0) (own (suc (length choices))) (own (length choices))) (choice_gaps machine choices) keeps in (
      range-from_gaps t (action_at machine c.act.0) (own (suc (length choices))) (own (length choices)) (known c.act (0, omega arith, refl)) r.0,
      last-from_gaps machine t choices (λ act in'. known act (suc in'.0, omega (arith, in'.1), in'.2)) r.1,
    )

pub gaps-from_last : (machine : Machine) (t : Ticks) (choices : List Choice) → ChoicesLast machine t choices → KeepsGaps t (choice_gaps machine choices)
gaps-from_last machine t [] last = All-nil (KeepsGap t)
gaps-from_last machine t (c ∷ choices) last =
    All-append (KeepsGap t) (range_gaps (action_at machine c.act.0) (own (suc (length choices))) (own (length choices))) (choice_gaps machine choices)
    (gaps-from_range t (action_at machine c.act.0) (own (suc (length choices))) (own (length choices)) last.0) (gaps-from_last machine t choices last.1)
