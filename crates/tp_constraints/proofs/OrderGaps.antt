-- The holds of an order lie apart exactly where the gaps between neighbours are kept.
use Rattle.std.proofs.Common.{◌≡◌, inl, inr, ℕ, zero, suc, ◌<◌, List, [], ◌∷◌, refl, arith, All, AllPairs}
use Rattle.std.specs.Prelude.{◌≤ℤ◌, ◌+ℤ◌, pos}
use Rattle.std.proofs.lemmas.List.Elements.{All-nil, All-cons, All-head, All-tail, All-append}
use Rattle.std.proofs.lemmas.Int.{ints}
use Rattle.tp_machine.specs.Modes.{gap_at, gap_between}
use Rattle.tp_machine.specs.ModuleUse.{tick_of}
use Rattle.tp_machine.specs.declared.parts.Anchor.{Anchor}
use Rattle.tp_machine.specs.declared.parts.Anchor.TheVariants.{Start, End}
use Rattle.tp_machine.specs.declared.machine.Machine.{Machine}
use Rattle.tp_schedule.specs.Spots.{Spot, Ticks, Slot, IsApart, IsRow, IsSoundSlot}
use Rattle.tp_constraints.specs.Gaps.{KeepsGap, KeepsGaps, anchor_spot, slot_gap, chain_gaps, all_chains}
use Rattle.std.proofs.lemmas.Bool.{cases_lt}
use Rattle.tp_schedule.proofs.SlotOrder.{AllPairs-from_row, IsRow-from_AllPairs}
use Rattle.tp_constraints.proofs.Lists.{All-split}

-- a hold ends by the next exactly where the gap is kept
tick_of-spot : (t : Ticks) (a : Anchor) (from to : Spot) → tick_of a (t from) (t to) ≡ t (anchor_spot a from to)
tick_of-spot t Start from to = refl
tick_of-spot t End from to = refl

pub gap-from_apart : (g : ℕ) (t : Ticks) (x y : Slot) → IsApart g t x y → KeepsGap t (slot_gap g x y)
gap-from_apart g t x y apart =
    let a = tick_of-spot t x.rule.end x.from x.to in
    let b = tick_of-spot t y.rule.begin y.from y.to in
    let e : ((pos (t (anchor_spot x.rule.end x.from x.to)) +ℤ x.rule.end_off) +ℤ pos (gap_between g x.rule y.rule)) ≤ℤ (pos (t (anchor_spot y.rule.begin y.from y.to)) +ℤ y.rule.begin_off) = rw (← a, ← b) apart in
    omega (arith, ints)

pub apart-from_gap : (g : ℕ) (t : Ticks) (x y : Slot) → KeepsGap t (slot_gap g x y) → IsApart g t x y
apart-from_gap g t x y keeps =
    let a = tick_of-spot t x.rule.end x.from x.to in
    let b = tick_of-spot t y.rule.begin y.from y.to in
    let e : ((pos (t (anchor_spot x.rule.end x.from x.to)) +ℤ x.rule.end_off) +ℤ pos (gap_between g x.rule y.rule)) ≤ℤ (pos (t (anchor_spot y.rule.begin y.from y.to)) +ℤ y.rule.begin_off) = omega (arith, ints) in
    rw (a, b) e

-- neighbours
pub gaps-from_row : (g : ℕ) (t : Ticks) (xs : List Slot) → IsRow g t xs → KeepsGaps t (chain_gaps g xs)
gaps-from_row g t [] row = All-nil (KeepsGap t)
gaps-from_row g t (x ∷ []) row = All-nil (KeepsGap t)
gaps-from_row g t (x ∷ y ∷ ys) row = All-cons (KeepsGap t) (slot_gap g x y) (chain_gaps g (y ∷ ys)) (gap-from_apart g t x y row.0) (gaps-from_row g t (y ∷ ys) row.1)

pub row-from_gaps : (g : ℕ) (t : Ticks) (xs : List Slot) → KeepsGaps t (chain_gaps g xs) → IsRow g t xs
row-from_gaps g t [] keeps = tt
row-from_gaps g t (x ∷ []) keeps = tt
row-from_gaps g t (x ∷ y ∷ ys) keeps = (apart-from_gap g t x y (All-head (KeepsGap t) (slot_gap g x y) (chain_gaps g (y ∷ ys)) keeps), row-from_gaps g t (y ∷ ys) (All-tail (KeepsGap t) (slot_gap g x y) (chain_gaps g (y ∷ ys)) keeps))

-- no hold is empty, so neighbours are enough
pub apart-from_gaps : (g : ℕ) (t : Ticks) (xs : List Slot) → All (IsSoundSlot t) xs → KeepsGaps t (chain_gaps g xs) → AllPairs (IsApart g t) xs
apart-from_gaps g t xs sound keeps = AllPairs-from_row g t xs sound (row-from_gaps g t xs keeps)

pub gaps-from_apart : (g : ℕ) (t : Ticks) (xs : List Slot) → AllPairs (IsApart g t) xs → KeepsGaps t (chain_gaps g xs)
gaps-from_apart g t xs pairs = gaps-from_row g t xs (IsRow-from_AllPairs g t xs pairs)

-- the chains of all resources
pub chains-each : (machine : Machine) (t : Ticks) (orders : ℕ → List Slot) (n : ℕ) → KeepsGaps t (all_chains machine orders n) → (r : ℕ) → r < n → KeepsGaps t (chain_gaps (gap_at machine r) (orders r))
chains-each machine t orders zero all r below = absurd (omega (arith, below))
chains-each machine t orders (suc n) all r below =
    let s = All-split (KeepsGap t) (chain_gaps (gap_at machine n) (orders n)) (all_chains machine orders n) all in
    elim (cases_lt r n) [
      | inl l ↦ chains-each machine t orders n s.1 r l
      | inr l ↦ let e : r ≡ n = omega arith in rw e s.0
    ]

pub chains-all : (machine : Machine) (t : Ticks) (orders : ℕ → List Slot) (n : ℕ) → ((r : ℕ) → KeepsGaps t (chain_gaps (gap_at machine r) (orders r))) → KeepsGaps t (all_chains machine orders n)
chains-all machine t orders zero each = All-nil (KeepsGap t)
chains-all machine t orders (suc n) each = All-append (KeepsGap t) (chain_gaps (gap_at machine n) (orders n)) (all_chains machine orders n) (each n) (chains-all machine t orders n each)
