-- Orders of numbers as orders of slots.
use Rattle.std.proofs.Common.{◌≡◌, ℕ, zero, suc, ◌+◌, List, [], ◌∷◌, ◌++◌, length, map, refl, ap, sym, ◌∙◌, subst, Option, Some, None, pos, ◌-ℤ◌, ◌+ℤ◌}
use Rattle.std.proofs.lemmas.List.{map-append, append-nil}
use Rattle.std.specs.List.{slice_get, insert}
use Rattle.std.proofs.lemmas.Option.{same_Some, slice_get_within}
use Rattle.tp_base.proofs.SliceFacts.{slice_get_left}
use Rattle.tp_machine.specs.Modes.{gap_between}
use Rattle.tp_machine.specs.declared.parts.Anchor.{Anchor}
use Rattle.tp_machine.specs.declared.parts.Anchor.TheVariants.{Start, End}
use Rattle.tp_machine.specs.declared.parts.HoldRule.{HoldRule}
use Rattle.tp_base.specs.declared.edges.PointId.{PointId}
use Rattle.tp_schedule.specs.Spots.{Spot, Slot}
use Rattle.tp_constraints.specs.Gaps.{gap, anchor_spot, slot_gap}
use Rattle.tp_constraints.specs.Numbers.{spot_at, gap_by}
use Rattle.tp_constraints.specs.Suffixes.{gap_after, gap_until, before_place, place_gaps}
use Rattle.tp_placing.specs.declared.parts.Held.{Held}
use Rattle.tp_placing.specs.Edges.{anchor_point, hold_edge, edge_after, edge_until, edges_around, held_of, held_before, held_behind}
use Rattle.tp_placing.specs.LoadedBoard.{IsSlotOf, AreSlots}
use Rattle.tp_placing.specs.ReadOrders.{IsHoldOf}

-- a longer table and more holds
pub slot-grown : (table more : List Spot) (held others : List Held) (id : ℕ) (s : Slot) → IsSlotOf table held id s → IsSlotOf (table ++ more) (held ++ others) id s
slot-grown table more held others id s i = record {
  hold = i.hold;
  at = slice_get_left held others id (slice_get_within held id i.hold i.at) ∙ i.at;
  rule = i.rule;
  start = slice_get_left table more i.hold.start.0 (slice_get_within table i.hold.start.0 s.from i.start) ∙ i.start;
  end = slice_get_left table more i.hold.end.0 (slice_get_within table i.hold.end.0 s.to i.end) ∙ i.end;
}

pub slots-grown : (table more : List Spot) (held others : List Held) (ids : List ℕ) (slots : List Slot) → AreSlots table held ids slots → AreSlots (table ++ more) (held ++ others) ids slots
slots-grown table more held others [] [] a = tt
slots-grown table more held others [] (s ∷ slots) a = absurd a
slots-grown table more held others (id ∷ ids) [] a = absurd a
slots-grown table more held others (id ∷ ids) (s ∷ slots) a = (slot-grown table more held others id s a.0, slots-grown table more held others ids slots a.1)

pub slots-grown-held : (table : List Spot) (held others : List Held) (ids : List ℕ) (slots : List Slot) → AreSlots table held ids slots → AreSlots table (held ++ others) ids slots
slots-grown-held table held others ids slots a = subst (λ t. AreSlots t (held ++ others) ids slots) (append-nil table) (slots-grown table [] held others ids slots a)

pub length-slots : (table : List Spot) (held : List Held) (ids : List ℕ) (slots : List Slot) → AreSlots table held ids slots → length ids ≡ length slots
length-slots table held [] [] a = refl
length-slots table held [] (s ∷ slots) a = absurd a
length-slots table held (id ∷ ids) [] a = absurd a
length-slots table held (id ∷ ids) (s ∷ slots) a = ap suc (length-slots table held ids slots a.1)

-- one slot more at a place
pub slots-insert : (table : List Spot) (held : List Held) (ids : List ℕ) (slots : List Slot) (place id : ℕ) (s : Slot) → AreSlots table held ids slots → IsSlotOf table held id s → AreSlots table held (insert ids place id) (insert slots place s)
slots-insert table held [] [] zero id s a i = (i, tt)
slots-insert table held [] [] (suc place) id s a i = (i, tt)
slots-insert table held [] (r ∷ slots) place id s a i = absurd a
slots-insert table held (n ∷ ids) [] place id s a i = absurd a
slots-insert table held (n ∷ ids) (r ∷ slots) zero id s a i = (i, a)
slots-insert table held (n ∷ ids) (r ∷ slots) (suc place) id s a i = (a.0, slots-insert table held ids slots place id s a.1 i)

-- the hold at a place, where there is one
pub data AtPlace (table : List Spot) (held : List Held) : Option Held → Option Slot → Type 0 where
  none : AtPlace table held None None
  some : (h : Held) (s : Slot) → h.rule ≡ s.rule → slice_get table h.start.0 ≡ Some s.from → slice_get table h.end.0 ≡ Some s.to → AtPlace table held (Some h) (Some s)

pub slots-at : (table : List Spot) (held : List Held) (ids : List ℕ) (slots : List Slot) (place : ℕ) → AreSlots table held ids slots → AtPlace table held (held_of held (slice_get ids place)) (slice_get slots place)
slots-at table held [] [] place a = none
slots-at table held [] (s ∷ slots) place a = absurd a
slots-at table held (id ∷ ids) [] place a = absurd a
slots-at table held (id ∷ ids) (s ∷ slots) zero a = subst (λ o. AtPlace table held o (Some s)) (sym a.0.at) (some a.0.hold s a.0.rule a.0.start a.0.end)
slots-at table held (id ∷ ids) (s ∷ slots) (suc place) a = slots-at table held ids slots place a.1

-- the hold that is read at a place is the slot there
pub hold-of : (table : List Spot) (held : List Held) (o : Option Held) (q : Option Slot) (h : Held) (s : Slot) → AtPlace table held o q → o ≡ Some h → q ≡ Some s → IsHoldOf table h s
hold-of table held None None h s none a b = absurd cc
hold-of table held None (Some _) h s is a b = elim is [ ]
hold-of table held (Some _) None h s is a b = elim is [ ]
hold-of table held (Some _) (Some _) h s (some k r rule start end) a b =
    subst (λ x. IsHoldOf table x s) (same_Some k h a) (subst (λ y. IsHoldOf table k y) (same_Some r s b) (record { rule = rule; start = start; end = end }))

pub slots-before : (table : List Spot) (held : List Held) (ids : List ℕ) (slots : List Slot) (place : ℕ) → AreSlots table held ids slots → AtPlace table held (held_before held ids place) (before_place slots place)
slots-before table held ids slots zero a = none
slots-before table held ids slots (suc place) a = slots-at table held ids slots place a

-- an edge between two holds is the gap between their slots
anchored : (table : List Spot) (a : Anchor) (start end : PointId) (from to : Spot) → slice_get table start.0 ≡ Some from → slice_get table end.0 ≡ Some to → spot_at table (anchor_point a start end).0 ≡ anchor_spot a from to
anchored table Start start end from to s e = rw s refl
anchored table End start end from to s e = rw e refl

pub hold-gap : (g : ℕ) (table : List Spot) (h k : Held) (s r : Slot) → h.rule ≡ s.rule → slice_get table h.start.0 ≡ Some s.from → slice_get table h.end.0 ≡ Some s.to
    → k.rule ≡ r.rule → slice_get table k.start.0 ≡ Some r.from → slice_get table k.end.0 ≡ Some r.to → (tag : ℕ) → gap_by table (hold_edge g h k tag) ≡ slot_gap g s r
hold-gap g table h k s r a b c d e f tag =
    let from : spot_at table (anchor_point h.rule.end h.start h.end).0 ≡ anchor_spot s.rule.end s.from s.to =
    anchored table h.rule.end h.start h.end s.from s.to b c ∙ ap (λ (q : HoldRule). anchor_spot q.end s.from s.to) a in
    let to : spot_at table (anchor_point k.rule.begin k.start k.end).0 ≡ anchor_spot r.rule.begin r.from r.to =
    anchored table k.rule.begin k.start k.end r.from r.to e f ∙ ap (λ (q : HoldRule). anchor_spot q.begin r.from r.to) d in
    let weight : ((h.rule.end_off -ℤ k.rule.begin_off) +ℤ pos (gap_between g h.rule k.rule)) ≡ ((s.rule.end_off -ℤ r.rule.begin_off) +ℤ pos (gap_between g s.rule r.rule)) = λ i. ((a i).end_off -ℤ (d i).begin_off) +ℤ pos (gap_between g (a i) (d i)) in
    λ i. gap (from i) (to i) (weight i)

after-gap : (g : ℕ) (table : List Spot) (held : List Held) (o : Option Held) (q : Option Slot) (h : Held) (s : Slot) → AtPlace table held o q → h.rule ≡ s.rule → slice_get table h.start.0 ≡ Some s.from → slice_get table h.end.0 ≡ Some s.to
    → (tag : ℕ) → map (gap_by table) (edge_after g o h tag) ≡ gap_after g q s
after-gap g table held o q h s none a b c tag = refl
after-gap g table held o q h s (some k r x y z) a b c tag = ap (λ e. e ∷ []) (hold-gap g table k h r s x y z a b c tag)

pub until-gap : (g : ℕ) (table : List Spot) (held : List Held) (o : Option Held) (q : Option Slot) (h : Held) (s : Slot) → AtPlace table held o q → h.rule ≡ s.rule → slice_get table h.start.0 ≡ Some s.from → slice_get table h.end.0 ≡ Some s.to
    → (tag : ℕ) → map (gap_by table) (edge_until g h o tag) ≡ gap_until g s q
until-gap g table held o q h s none a b c tag = refl
until-gap g table held o q h s (some k r x y z) a b c tag = ap (λ e. e ∷ []) (hold-gap g table h k s r a b c x y z tag)

-- the edges to the neighbours of a place are its gaps
pub neighbour-gaps : (g : ℕ) (table : List Spot) (held : List Held) (ids : List ℕ) (slots : List Slot) (place : ℕ) (h : Held) (s : Slot) → AreSlots table held ids slots
    → h.rule ≡ s.rule → slice_get table h.start.0 ≡ Some s.from → slice_get table h.end.0 ≡ Some s.to
    → (tag : ℕ) → map (gap_by table) (edges_around g (held_before held ids place) h (held_behind held ids place) tag) ≡ place_gaps g slots place s
neighbour-gaps g table held ids slots place h s all a b c tag =
    let x = after-gap g table held (held_before held ids place) (before_place slots place) h s (slots-before table held ids slots place all) a b c tag in
    let y = until-gap g table held (held_behind held ids place) (slice_get slots place) h s (slots-at table held ids slots place all) a b c (tag + 1) in
    map-append (gap_by table) (edge_after g (held_before held ids place) h tag) (edge_until g h (held_behind held ids place) (tag + 1)) ∙ (λ i. x i ++ y i)
