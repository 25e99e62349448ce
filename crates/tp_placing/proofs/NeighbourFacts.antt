-- The edges to the neighbours of a place may be asked of the network.
use Rattle.std.proofs.Common.{ℕ, zero, suc, ◌+◌, ◌<◌, ◌≤◌, List, [], ◌∷◌, length, sym, subst, arith, Option, Some, None, pos, negsuc, All, ℤ, ◌+ℤ◌, ◌-ℤ◌, ◌≤ℤ◌}
use Rattle.std.specs.List.{slice_get}
use Rattle.std.proofs.lemmas.Int.{ints}
use Rattle.std.proofs.lemmas.Option.{slice_get_within}
use Rattle.std.proofs.lemmas.List.{length-append}
use Rattle.std.proofs.lemmas.List.Elements.{All-nil, All-cons, All-append}
use Rattle.tp_base.proofs.SliceFacts.{All-at}
use Rattle.tp_base.specs.declared.edges.PointId.{PointId}
use Rattle.tp_machine.proofs.ModeFacts.{gap_between-most}
use Rattle.tp_machine.specs.Modes.{gap_between}
use Rattle.tp_machine.specs.Machines.{IsOffset}
use Rattle.tp_machine.specs.declared.parts.Anchor.{Anchor}
use Rattle.tp_machine.specs.declared.parts.Anchor.TheVariants.{Start, End}
use Rattle.tp_schedule.specs.Spots.{Spot, Slot}
use Rattle.tp_placing.specs.declared.parts.Held.{Held}
use Rattle.tp_placing.specs.Edges.{anchor_point, hold_edge, edge_after, edge_until, edges_around, held_of, held_before, held_behind}
use Rattle.tp_placing.specs.LoadedBoard.{AreSlots, HasSmallOffsets}
use Rattle.tp_base.specs.Grows.{IsKnown}

-- a hold whose points are there and whose offsets are in their range
pub record IsSmallHold (points : ℕ) (h : Held) : Type 0 where
  pub start : h.start.0 < points
  pub end : h.end.0 < points
  pub small : HasSmallOffsets h.rule

anchor-within : (points : ℕ) (a : Anchor) (start end : PointId) → start.0 < points → end.0 < points → (anchor_point a start end).0 < points
anchor-within points Start start end s e = s
anchor-within points End start end s e = e

pub small-weight : (a b : ℤ) (n : ℕ) → IsOffset a → IsOffset b → n ≤ 4096 → (negsuc 999999 ≤ℤ ((a -ℤ b) +ℤ pos n)) × (((a -ℤ b) +ℤ pos n) ≤ℤ pos 1000000)
small-weight a b n x y few = let x0 = x.0 in let x1 = x.1 in let y0 = y.0 in let y1 = y.1 in (omega (arith, ints), omega (arith, ints))

pub can-hold : (g points : ℕ) (h k : Held) (tag : ℕ) → IsSmallHold points h → IsSmallHold points k → g ≤ 4096 → IsKnown points (hold_edge g h k tag)
can-hold g points h k tag x y few =
    let most = gap_between-most g h.rule k.rule in
    let w = small-weight h.rule.end_off k.rule.begin_off (gap_between g h.rule k.rule) x.small.1 y.small.0 (omega arith) in
    record {
      from = anchor-within points h.rule.end h.start h.end x.start x.end;
      to = anchor-within points k.rule.begin k.start k.end y.start y.end;
      least = w.0;
      most = w.1;
    }

-- a hold, if there is one
abbrev IsSmallIf : ℕ → Option Held → Type 0
IsSmallIf points None = Unit {0}
IsSmallIf points (Some h) = IsSmallHold points h

small-at : (table : List Spot) (held : List Held) (ids : List ℕ) (slots : List Slot) (place : ℕ) → AreSlots table held ids slots → All (λ h. HasSmallOffsets h.rule) held → IsSmallIf (length table) (held_of held (slice_get ids place))
small-at table held [] [] place a small = tt
small-at table held [] (s ∷ slots) place a small = absurd a
small-at table held (id ∷ ids) [] place a small = absurd a
small-at table held (id ∷ ids) (s ∷ slots) zero a small = subst (IsSmallIf (length table)) (sym a.0.at) (record {
  start = slice_get_within table a.0.hold.start.0 s.from a.0.start;
  end = slice_get_within table a.0.hold.end.0 s.to a.0.end;
  small = All-at (λ h. HasSmallOffsets h.rule) held id a.0.hold small a.0.at;
})
small-at table held (id ∷ ids) (s ∷ slots) (suc place) a small = small-at table held ids slots place a.1 small

small-before : (table : List Spot) (held : List Held) (ids : List ℕ) (slots : List Slot) (place : ℕ) → AreSlots table held ids slots → All (λ h. HasSmallOffsets h.rule) held → IsSmallIf (length table) (held_before held ids place)
small-before table held ids slots zero a small = tt
small-before table held ids slots (suc place) a small = small-at table held ids slots place a small

can-after : (g points : ℕ) (o : Option Held) (h : Held) (tag : ℕ) → IsSmallIf points o → IsSmallHold points h → g ≤ 4096 → All (IsKnown points) (edge_after g o h tag)
can-after g points None h tag x y few = All-nil (IsKnown points)
can-after g points (Some k) h tag x y few = All-cons (IsKnown points) (hold_edge g k h tag) [] (can-hold g points k h tag x y few) (All-nil (IsKnown points))

can-until : (g points : ℕ) (o : Option Held) (h : Held) (tag : ℕ) → IsSmallIf points o → IsSmallHold points h → g ≤ 4096 → All (IsKnown points) (edge_until g h o tag)
can-until g points None h tag x y few = All-nil (IsKnown points)
can-until g points (Some k) h tag x y few = All-cons (IsKnown points) (hold_edge g h k tag) [] (can-hold g points h k tag y x few) (All-nil (IsKnown points))

pub can-neighbours : (g : ℕ) (table : List Spot) (held : List Held) (ids : List ℕ) (slots : List Slot) (place : ℕ) (h : Held) (tag : ℕ) → AreSlots table held ids slots → All (λ h. HasSmallOffsets h.rule) held → IsSmallHold (length table) h → g ≤ 4096
    → All (IsKnown (length table)) (edges_around g (held_before held ids place) h (held_behind held ids place) tag)
can-neighbours g table held ids slots place h tag a small new few =
    All-append (IsKnown (length table)) (edge_after g (held_before held ids place) h tag) (edge_until g h (held_behind held ids place) (tag + 1))
    (can-after g (length table) (held_before held ids place) h tag (small-before table held ids slots place a small) new few)
    (can-until g (length table) (held_behind held ids place) h (tag + 1) (small-at table held ids slots place a small) new few)

one-after : (g : ℕ) (o : Option Held) (h : Held) (tag : ℕ) → length (edge_after g o h tag) ≤ 1
one-after g None h tag = omega arith
one-after g (Some k) h tag = omega arith

one-until : (g : ℕ) (o : Option Held) (h : Held) (tag : ℕ) → length (edge_until g h o tag) ≤ 1
one-until g None h tag = omega arith
one-until g (Some k) h tag = omega arith

pub two-neighbours : (g : ℕ) (before behind : Option Held) (h : Held) (tag : ℕ) → length (edges_around g before h behind tag) ≤ 2
two-neighbours g before behind h tag =
    let l = length-append (edge_after g before h tag) (edge_until g h behind (tag + 1)) in let a = one-after g before h tag in let b = one-until g behind h (tag + 1) in omega arith

-- the numbers of an order are those of holds
pub slots-known : (table : List Spot) (held : List Held) (ids : List ℕ) (slots : List Slot) → AreSlots table held ids slots → All (λ id. id < length held) ids
slots-known table held [] [] a = All-nil (λ id. id < length held)
slots-known table held [] (s ∷ slots) a = absurd a
slots-known table held (id ∷ ids) [] a = absurd a
slots-known table held (id ∷ ids) (s ∷ slots) a = All-cons (λ id. id < length held) id ids (slice_get_within held id a.0.hold a.0.at) (slots-known table held ids slots a.1)
