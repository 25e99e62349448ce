-- How a hold pushes those behind it.
use Rattle.std.proofs.Common.{◌≡◌, ℕ, zero, suc, ◌+◌, ◌-◌, ◌<◌, ◌≤◌, List, length, ap, sym, ◌∙◌, subst, arith, inl, inr, get_or, set, All, Option, Some, ℤ, pos, negsuc, to_z, of_z, w64}
use Rattle.std.specs.Prelude.{◌+ℤ◌, ◌≤ℤ◌}
use Rattle.std.specs.List.{slice_get}
use Rattle.std.proofs.lemmas.Int.{ints, to_z-of_z}
use Rattle.std.specs.Prelude.{slice_index, slice_set}
use Rattle.std.proofs.lemmas.Bool.{cases_eq, cases_lt}
use Rattle.std.proofs.lemmas.Option.{same_Some, slice_get-get_or}
use Rattle.tp_base.proofs.SliceFacts.{All-at}
use Rattle.tp_constraints.proofs.Lists.{get-there}
use Rattle.std.proofs.lemmas.List.{get_or-set_other, get_or-set_same, length-set}
use Rattle.tp_base.specs.Net.{Net, IsEarliest, IsSolution, with_low}
use Rattle.tp_base.specs.declared.edges.PointId.{PointId}
use Rattle.tp_machine.specs.declared.machine.Machine.{Machine}
use Rattle.tp_machine.specs.declared.parts.ActId.{ActId}
use Rattle.tp_schedule.specs.Plans.{LastsWithin}
use Rattle.tp_schedule.specs.declared.parts.Plan.{Plan}
use Rattle.tp_placing.specs.PushedHolds.{ArePlanned, IsLong, IsPutBy, IsRowBy, LastsAtLeast, begin_by, end_by}
use Rattle.tp_placing.specs.Edges.{held_behind, held_of}
use Rattle.tp_placing.specs.declared.parts.Held.{Held}

-- numbers that are small enough stay
pub small-stays : (z : ℤ) → negsuc 4294967295 ≤ℤ z → z ≤ℤ pos 1099511627776 → to_z w64 (of_z w64 z) ≡ z
small-stays z low high = grind (arith, ints, to_z-of_z)

-- the earliest time of a point is no later than that of any solution
pub earliest-below : (n : Net) (p : ℕ) (tick : ℕ) → IsEarliest n p tick → p < length n.lows → (y : ℕ → ℕ) → IsSolution n y → tick ≤ y p
earliest-below n p tick e within y sol = let le = e.1.least y sol p within in let same = e.2 in omega (arith, le, same)

pub moved-below : (tick later : ℕ) (off z : ℤ) → tick ≤ later → z ≡ (pos tick +ℤ off) → z ≤ℤ (pos later +ℤ off)
moved-below tick later off z le e = omega (arith, ints, le, e)

-- how long the action of a plan lasts that starts at a hold's start
pub planned-least : (m : Machine) (plans : List Plan) (firsts : List PointId) (h : Held) (k i least : ℕ) (p : Plan) (f : PointId) (act : ActId) → slice_get plans k ≡ Some p → slice_get firsts k ≡ Some f → slice_get p.acts i ≡ Some act
    → h.start.0 ≡ f.0 + i → h.end.0 ≡ suc h.start.0 → ((start end : ℕ) → LastsWithin m act start end → start + least ≤ end) → (y : ℕ → ℕ) → ArePlanned m plans firsts y → y h.start.0 + least ≤ y h.end.0
planned-least m plans firsts h k i least p f act plan first acts start end within y planned =
    let s : f.0 + i ≡ h.start.0 = sym start in
    let e : f.0 + suc i ≡ h.end.0 = omega (arith, start, end) in
    let lasts : LastsWithin m act (y (f.0 + i)) (y (f.0 + suc i)) = planned k i p f act plan first acts in
    within (y h.start.0) (y h.end.0) (subst (λ n. LastsWithin m act (y n) (y h.end.0)) s (subst (λ n. LastsWithin m act (y (f.0 + i)) (y n)) e lasts))

-- a solution in which a point is late enough is one where its least time is raised
pub raised-solution : (n : Net) (p low : ℕ) (y : ℕ → ℕ) → IsSolution n y → low ≤ y p → IsSolution (with_low n p low) y
raised-solution n p low y sol le = record {
  above_low = λ i within. (
      let l = length-set n.lows p low in
      go i (omega (arith, within, l)) (sol.above_low i (omega (arith, within, l))));
  below_cap = λ i within. (let l = length-set n.lows p low in sol.below_cap i (omega (arith, within, l)));
  keeps = sol.keeps;
} where
  go : (i : ℕ) → i < length n.lows → slice_index n.lows i ≤ y i → slice_index (slice_set n.lows p low) i ≤ y i
  go i within above = elim (cases_eq i p) [
    | inl e ↦ (let a : get_or (set n.lows p low) p 0 ≡ low = get_or-set_same n.lows p low 0 (omega (arith, within, e)) in let b = ap (λ j. get_or (set n.lows p low) j 0) e in let d = ap y e in omega (arith, a, b, d, le))
    | inr e ↦ (let a : get_or (set n.lows p low) i 0 ≡ get_or n.lows i 0 = get_or-set_other n.lows p i low 0 e in omega (arith, a, above))
  ]

-- at times of a kind, the hold at a place of an order pushes the one at another, further back, by a length
abbrev pub Pushes : List Held → List ℕ → ((ℕ → ℕ) → Type 0) → ℕ → ℕ → ℤ → Type 0
Pushes held order times at place rest = (y : ℕ → ℕ) → times y → IsRowBy y held order → (g h : Held) → held_behind held order at ≡ Some g → held_behind held order place ≡ Some h → (begin_by y g +ℤ rest) ≤ℤ begin_by y h

-- a new hold behind a place pushes the one at another to a tick, where its action lasts so long
abbrev pub Bounds : List Held → List ℕ → ((ℕ → ℕ) → Type 0) → Net → Held → Option ℕ → ℕ → ℕ → ℤ → Type 0
Bounds held order times net new least at place till = (y : ℕ → ℕ) (earlier : ℕ) → at < earlier → earlier ≤ place → IsSolution net y → times y → LastsAtLeast y new least → IsPutBy y held order new earlier → (h : Held) → held_behind held order place ≡ Some h → till ≤ℤ begin_by y h

-- a hold is so long at least, where its action lasts so long
abbrev pub Lasts : Held → Option ℕ → ℤ → Type 0
Lasts h least len = (y : ℕ → ℕ) → IsLong y h → LastsAtLeast y h least → (begin_by y h +ℤ len) ≤ℤ end_by y h

-- ---- the holds of an order, by their numbers
module _ (held : List Held) (order : List ℕ) (numbers : All (λ id. id < length held) order) (times : (ℕ → ℕ) → Type 0) where
  -- the hold at a place that there is
  there : (k : ℕ) → k < length order → (h : Held) × (held_behind held order k ≡ Some h)
  there k within =
      let id = get-there order k within in
      let h = get-there held id.0 (All-at (λ id. id < length held) order k id.0 numbers id.1) in
      (h.0, ap (held_of held) id.1 ∙ h.1)

  -- in a row each hold begins no later than one behind it
  rises : (y : ℕ → ℕ) → IsRowBy y held order → (d j k : ℕ) → k ≡ j + d → k < length order → (g h : Held) → held_behind held order j ≡ Some g → held_behind held order k ≡ Some h → begin_by y g ≤ℤ begin_by y h
  rises y row zero j k e within g h a b =
      let i : k ≡ j = omega (arith, e) in
      let same : g ≡ h = same_Some g h (sym a ∙ ap (held_behind held order) (sym i) ∙ b) in
      let z = ap (begin_by y) same in
      omega (arith, ints, z)
  rises y row (suc d) j zero e within g h a b = absurd (omega (arith, e))
  rises y row (suc d) j (suc k) e within g h a b =
      let c = there k (omega (arith, within)) in
      let below = rises y row d j k (omega (arith, e)) (omega (arith, within)) g c.0 a c.1 in
      let long = row.long k c.0 c.1 in
      let apart = row.apart k c.0 h c.1 b in
      omega (arith, ints, below, long, apart)

  pub pushes-more : (at place : ℕ) (before : Held) (rest more rest' : ℤ) → Pushes held order times (suc at) place rest → suc at ≤ place → place < length order → held_behind held order at ≡ Some before
      → ((y : ℕ → ℕ) → times y → IsLong y before → (begin_by y before +ℤ more) ≤ℤ end_by y before) → rest' ≤ℤ (rest +ℤ more) → Pushes held order times at place rest'
  pushes-more at place before rest more rest' pushes le within is lasts sum y ok row g h a b =
      let c = there (suc at) (omega (arith, le, within)) in
      let far = pushes y ok row c.0 h c.1 b in
      let apart = row.apart at before c.0 is c.1 in
      let long = lasts y ok (row.long at before is) in
      let z = ap (begin_by y) (same_Some g before (sym a ∙ is)) in
      omega (arith, ints, far, apart, long, z, sum)

  -- a new hold at a place between two, or further to the front, pushes the one at the last place
  pushed-by : (at place earlier : ℕ) (new : Held) (from len rest till : ℤ) → Pushes held order times at place rest → at ≤ place → place < length order → earlier ≤ at → (y : ℕ → ℕ) → times y → IsPutBy y held order new earlier
      → from ≤ℤ begin_by y new → ((begin_by y new +ℤ len) ≤ℤ end_by y new) → till ≤ℤ (from +ℤ (rest +ℤ len)) → (h : Held) → held_behind held order place ≡ Some h → till ≤ℤ begin_by y h
  pushed-by at place earlier new from len rest till pushes le within before y ok put begin lasts sum h b =
      let f = there earlier (omega (arith, le, within, before)) in
      let c = there at (omega (arith, le, within)) in
      let until = put.until f.0 f.1 in
      let rise = rises y put.row (at - earlier) earlier at (omega (arith, before)) (omega (arith, le, within)) f.0 c.0 f.1 c.1 in
      let far = pushes y ok put.row c.0 h c.1 b in
      omega (arith, ints, until, rise, far, begin, lasts, sum)

  -- the hold before a place pushes a new one at that place
  pub bounds-more : (net : Net) (new before : Held) (least : Option ℕ) (at place : ℕ) (end till till' rest len : ℤ) → Bounds held order times net new least (suc at) place till → Pushes held order times (suc at) place rest → suc at ≤ place → place < length order
      → held_behind held order at ≡ Some before → ((y : ℕ → ℕ) → IsSolution net y → end ≤ℤ end_by y before) → Lasts new least len → till' ≤ℤ till → till' ≤ℤ (end +ℤ (rest +ℤ len)) → Bounds held order times net new least at place till'
  bounds-more net new before least at place end till till' rest len bounds pushes le within is ends lasts one other y earlier above most sol ok known put h b = elim (cases_eq earlier (suc at)) [
    | inl e ↦ (
        let put' : IsPutBy y held order new (suc at) = subst (IsPutBy y held order new) e put in
        let a = put'.after before is in
        let n = ends y sol in
        pushed-by (suc at) place (suc at) new end len rest till' pushes le within (omega arith) y ok put' (omega (arith, ints, a, n)) (lasts y put'.long known) other h b)
    | inr n ↦ (let below = bounds y earlier (omega (arith, above, n)) most sol ok known put h b in omega (arith, ints, below, one))
  ]

  pub bounds-all : (net : Net) (new : Held) (least : Option ℕ) (at place : ℕ) (from till till' rest len : ℤ) → Bounds held order times net new least at place till → Pushes held order times at place rest → at ≤ place → place < length order
      → ((y : ℕ → ℕ) → IsSolution net y → from ≤ℤ begin_by y new) → Lasts new least len → till' ≤ℤ till → till' ≤ℤ (from +ℤ (rest +ℤ len))
      → (y : ℕ → ℕ) (earlier : ℕ) → earlier ≤ place → IsSolution net y → times y → LastsAtLeast y new least → IsPutBy y held order new earlier → (h : Held) → held_behind held order place ≡ Some h → till' ≤ℤ begin_by y h
  bounds-all net new least at place from till till' rest len bounds pushes le within begins lasts one other y earlier most sol ok known put h b = elim (cases_lt at earlier) [
    | inl above ↦ (let below = bounds y earlier above most sol ok known put h b in omega (arith, ints, below, one))
    | inr not ↦ pushed-by at place earlier new from len rest till' pushes le within (omega (arith, not)) y ok put (begins y sol) (lasts y put.long known) other h b
  ]

pub raised-known : (n : Net) (p low k : ℕ) → k < length n.lows → k < length (with_low n p low).lows
raised-known n p low k within = let l = length-set n.lows p low in omega (arith, within, l)

-- the hold of the number that is read at a place
pub at-order : (held : List Held) (order : List ℕ) → All (λ id. id < length held) order → (k id : ℕ) (d : Held) → slice_get order k ≡ Some id → held_behind held order k ≡ Some (get_or held id d)
at-order held order numbers k id d is =
    ap (held_of held) is ∙ slice_get-get_or held id d (All-at (λ n. n < length held) order k id numbers is)
