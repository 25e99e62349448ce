-- Holds and their slots: a hold begins and ends when its slot does, where the points have the times of a schedule.
use Rattle.std.proofs.Common.{◌≡◌, ℕ, zero, suc, ◌<◌, List, [], ◌∷◌, length, refl, ap, ◌∙◌, subst, arith, All, AllPairs, Option, Some, None, pos}
use Rattle.std.specs.Prelude.{◌+ℤ◌, ◌≤ℤ◌}
use Rattle.std.specs.List.{slice_get}
use Rattle.std.proofs.lemmas.Int.{ints}
use Rattle.std.proofs.lemmas.List.Elements.{All-head}
use Rattle.std.proofs.lemmas.Option.{same_Some, slice_get_within}
use Rattle.tp_base.proofs.SliceFacts.{All-at}
use Rattle.tp_base.specs.declared.edges.PointId.{PointId}
use Rattle.tp_machine.specs.ModuleUse.{tick_of}
use Rattle.tp_machine.specs.declared.parts.Anchor.{Anchor}
use Rattle.tp_machine.specs.declared.parts.Anchor.TheVariants.{Start, End}
use Rattle.tp_machine.specs.declared.parts.HoldRule.{HoldRule}
use Rattle.tp_schedule.specs.Spots.{Spot, Slot, Ticks, IsApart, IsRow, IsSoundSlot, begin_at, end_at}
use Rattle.tp_schedule.proofs.SlotOrder.{IsRow-from_AllPairs}
use Rattle.tp_constraints.specs.Gaps.{KeepsGap, KeepsGaps, slot_gap}
use Rattle.tp_constraints.specs.Numbers.{spot_at, spot_in}
use Rattle.tp_constraints.specs.Suffixes.{before_place, gap_after, gap_until}
use Rattle.tp_constraints.proofs.OrderGaps.{apart-from_gap}
use Rattle.tp_placing.specs.PushedHolds.{IsAmong, IsPutBy, IsRowBy, begin_by, end_by}
use Rattle.tp_placing.specs.Edges.{anchor_point, held_before, held_behind, held_of}
use Rattle.tp_placing.specs.LoadedBoard.{AreSlots}
use Rattle.tp_placing.specs.declared.parts.Held.{Held}
use Rattle.tp_placing.proofs.SlotFacts.{AtPlace, slots-at, slots-before}
use Rattle.tp_placing.proofs.SlotFacts.AtPlace.{none, some}

anchor-among : (points : ℕ) (a : Anchor) (start end : PointId) → start.0 < points → end.0 < points → (anchor_point a start end).0 < points
anchor-among points Start start end s e = s
anchor-among points End start end s e = e

pub among-of : (table : List Spot) (h : Held) (from to : Spot) (points : ℕ) → points ≡ length table → slice_get table h.start.0 ≡ Some from → slice_get table h.end.0 ≡ Some to → IsAmong points h
among-of table h from to points same s e =
    let start : h.start.0 < points = omega (arith, same, slice_get_within table h.start.0 from s) in
    let end : h.end.0 < points = omega (arith, same, slice_get_within table h.end.0 to e) in
    (anchor-among points h.rule.begin h.start h.end start end, anchor-among points h.rule.end h.start h.end start end)

module _ (table : List Spot) (t : Ticks) where
  -- the times of the points by their numbers
  abbrev pub by_number : ℕ → ℕ
  by_number i = t (spot_at table i)

  pub number-tick : (i : ℕ) (s : Spot) → slice_get table i ≡ Some s → by_number i ≡ t s
  number-tick i s at = ap (λ o. t (spot_in o)) at

  anchor-tick : (a : Anchor) (start end : PointId) (from to : Spot) → slice_get table start.0 ≡ Some from → slice_get table end.0 ≡ Some to → by_number (anchor_point a start end).0 ≡ tick_of a (t from) (t to)
  anchor-tick Start start end from to s e = rw s refl
  anchor-tick End start end from to s e = rw e refl

  pub begin-is : (h : Held) (s : Slot) → h.rule ≡ s.rule → slice_get table h.start.0 ≡ Some s.from → slice_get table h.end.0 ≡ Some s.to → begin_by by_number h ≡ begin_at t s
  begin-is h s same start end =
      let tick = anchor-tick h.rule.begin h.start h.end s.from s.to start end in
      ap (λ n. pos n +ℤ h.rule.begin_off) tick ∙ ap (λ (r : HoldRule). pos (tick_of r.begin (t s.from) (t s.to)) +ℤ r.begin_off) same

  pub end-is : (h : Held) (s : Slot) → h.rule ≡ s.rule → slice_get table h.start.0 ≡ Some s.from → slice_get table h.end.0 ≡ Some s.to → end_by by_number h ≡ end_at t s
  end-is h s same start end =
      let tick = anchor-tick h.rule.end h.start h.end s.from s.to start end in
      ap (λ n. pos n +ℤ h.rule.end_off) tick ∙ ap (λ (r : HoldRule). pos (tick_of r.end (t s.from) (t s.to)) +ℤ r.end_off) same

  -- the slot of a hold, which begins and ends with it
  pub record IsTimed (h : Held) (q : Option Slot) : Type 0 where
    pub slot : Slot
    pub at : q ≡ Some slot
    pub begin : begin_by by_number h ≡ begin_at t slot
    pub end : end_by by_number h ≡ end_at t slot
    pub among : IsAmong (length table) h

  timed : (held : List Held) (o : Option Held) (q : Option Slot) (h : Held) → AtPlace table held o q → o ≡ Some h → IsTimed h q
  timed held o q h none e = absurd cc
  timed held o q h (some k s rule start end) e =
      subst (λ g. IsTimed g (Some s)) (same_Some k h e) (record { slot = s; at = refl; begin = begin-is k s rule start end; end = end-is k s rule start end; among = among-of table k s.from s.to (length table) refl start end })

  row-next : (g : ℕ) (xs : List Slot) → IsRow g t xs → (k : ℕ) (a b : Slot) → slice_get xs k ≡ Some a → slice_get xs (suc k) ≡ Some b → IsApart g t a b
  row-next g [] row k a b x y = absurd cc
  row-next g (s ∷ []) row zero a b x y = absurd cc
  row-next g (s ∷ []) row (suc k) a b x y = absurd cc
  row-next g (s ∷ r ∷ xs) row zero a b x y = subst (λ z. IsApart g t z b) (same_Some s a x) (subst (IsApart g t s) (same_Some r b y) row.0)
  row-next g (s ∷ r ∷ xs) row (suc k) a b x y = row-next g (r ∷ xs) row.1 k a b x y

  ends-by : (g : ℕ) (a b : Slot) → IsApart g t a b → end_at t a ≤ℤ begin_at t b
  ends-by g a b apart = omega (arith, ints, apart)

  after-apart : (g : ℕ) (q : Option Slot) (a s : Slot) → q ≡ Some a → KeepsGaps t (gap_after g q s) → IsApart g t a s
  after-apart g None a s e keeps = absurd cc
  after-apart g (Some x) a s e keeps = subst (λ z. IsApart g t z s) (same_Some x a e) (apart-from_gap g t x s (All-head (KeepsGap t) (slot_gap g x s) [] keeps))

  until-apart : (g : ℕ) (q : Option Slot) (a s : Slot) → q ≡ Some a → KeepsGaps t (gap_until g s q) → IsApart g t s a
  until-apart g None a s e keeps = absurd cc
  until-apart g (Some x) a s e keeps = subst (λ z. IsApart g t s z) (same_Some x a e) (apart-from_gap g t s x (All-head (KeepsGap t) (slot_gap g s x) [] keeps))

  module _ (held : List Held) (order : List ℕ) (slots : List Slot) (are : AreSlots table held order slots) where
    pub timed-at : (k : ℕ) (h : Held) → held_behind held order k ≡ Some h → IsTimed h (slice_get slots k)
    timed-at k h e = timed held (held_of held (slice_get order k)) (slice_get slots k) h (slots-at table held order slots k are) e

    timed-before : (place : ℕ) (h : Held) → held_before held order place ≡ Some h → IsTimed h (before_place slots place)
    timed-before place h e = timed held (held_before held order place) (before_place slots place) h (slots-before table held order slots place are) e

    pub row-by : (g : ℕ) → AllPairs (IsApart g t) slots → All (IsSoundSlot t) slots → IsRowBy by_number held order
    row-by g apart sound = record {
      long = λ k h e. (
          let i = timed-at k h e in
          let s = All-at (IsSoundSlot t) slots k i.slot sound i.at in
          let long = s.long in
          let begin = i.begin in
          let end = i.end in
          omega (arith, ints, long, begin, end));
      apart = λ k f h e d. (
          let i = timed-at k f e in
          let j = timed-at (suc k) h d in
          let by = ends-by g i.slot j.slot (row-next g slots (IsRow-from_AllPairs g t slots apart) k i.slot j.slot i.at j.at) in
          let end = i.end in
          let begin = j.begin in
          omega (arith, ints, by, begin, end));
    }

    pub put-by : (g place : ℕ) (new : Held) (s : Slot) → begin_by by_number new ≡ begin_at t s → end_by by_number new ≡ end_at t s → IsSoundSlot t s → IsRowBy by_number held order
        → KeepsGaps t (gap_after g (before_place slots place) s) → KeepsGaps t (gap_until g s (slice_get slots place)) → IsPutBy by_number held order new place
    put-by g place new s begin end sound row after until = record {
      row = row;
      long = (let long = sound.long in omega (arith, ints, long, begin, end));
      after = λ h e. (
          let i = timed-before place h e in
          let by = ends-by g i.slot s (after-apart g (before_place slots place) i.slot s i.at after) in
          let f = i.end in
          omega (arith, ints, by, begin, f));
      until = λ h e. (
          let i = timed-at place h e in
          let by = ends-by g s i.slot (until-apart g (slice_get slots place) i.slot s i.at until) in
          let f = i.begin in
          omega (arith, ints, by, end, f));
    }
