-- Bounds that move round a least solution leave it least.
use Rattle.std.proofs.Common.{◌≡◌, ◌⊎◌, inl, inr, ℕ, ◌<◌, ◌≤◌, List, length, slice_index, set, get_or, ap, arith, min}
use Rattle.std.proofs.lemmas.Bool.{cases_eq, cases_lt}
use Rattle.std.proofs.lemmas.Int.{ints}
use Rattle.std.proofs.lemmas.List.{length-set, get_or-set_same, get_or-set_other}
use Rattle.tp_base.specs.declared.edges.Edge.{Edge}
use Rattle.tp_base.specs.Net.{IsLeast, IsSolution, Keeps, Net, with_bounds_at}

-- the earlier of two times of each point
earlier : (x y : ℕ → ℕ) → ℕ → ℕ
earlier x y i = min (x i) (y i)

earlier-first : (x y : ℕ → ℕ) (i : ℕ) → earlier x y i ≤ x i
unfolding earlier
earlier-first x y i = omega arith

earlier-second : (x y : ℕ → ℕ) (i : ℕ) → earlier x y i ≤ y i
unfolding earlier
earlier-second x y i = omega arith

earlier-above : (x y : ℕ → ℕ) (i low : ℕ) → low ≤ x i → low ≤ y i → low ≤ earlier x y i
unfolding earlier
earlier-above x y i low a b = omega arith

earlier-is : (x y : ℕ → ℕ) (i : ℕ) → (earlier x y i ≡ x i) ⊎ (earlier x y i ≡ y i)
unfolding earlier
earlier-is x y i = elim (cases_lt (x i) (y i)) [
  | inl l ↦ inl (omega arith)
  | inr m ↦ inr (omega arith)
]

earlier-keeps : (x y : ℕ → ℕ) (e : Edge) → Keeps x e → Keeps y e → Keeps (earlier x y) e
earlier-keeps x y e a b =
    let f = earlier-first x y e.from.0 in
    let s = earlier-second x y e.from.0 in
    elim (earlier-is x y e.to.0) [
      | inl p ↦ omega (arith, ints)
      | inr q ↦ omega (arith, ints)
    ]

-- a bound that is changed at one point
at-point : (xs : List ℕ) (p v : ℕ) → p < length xs → slice_index (set xs p v) p ≡ v
at-point xs p v known = get_or-set_same xs p v 0 known

pub low-rises : (lows : List ℕ) (p low : ℕ) → p < length lows → slice_index lows p ≤ low → (i : ℕ) → slice_index lows i ≤ slice_index (set lows p low) i
low-rises lows p low known more i = elim (cases_eq i p) [
  | inl e ↦ let a = at-point lows p low known in let b = ap (slice_index lows) e in let c = ap (slice_index (set lows p low)) e in omega arith
  | inr ne ↦ let a : slice_index (set lows p low) i ≡ slice_index lows i = get_or-set_other lows p i low 0 ne in omega arith
]

-- x i stays on its side of the bound
stays-above : (lows : List ℕ) (p low : ℕ) (x : ℕ → ℕ) → p < length lows → low ≤ x p → ((i : ℕ) → i < length lows → slice_index lows i ≤ x i) → (i : ℕ) → i < length lows → slice_index (set lows p low) i ≤ x i
stays-above lows p low x known at_most above i inside = elim (cases_eq i p) [
  | inl e ↦ let a = at-point lows p low known in let b = ap x e in let c = ap (slice_index (set lows p low)) e in omega arith
  | inr ne ↦ let a : slice_index (set lows p low) i ≡ slice_index lows i = get_or-set_other lows p i low 0 ne in let b = above i inside in omega arith
]

stays-below : (caps : List ℕ) (count p cap : ℕ) (x : ℕ → ℕ) → p < length caps → x p ≤ cap → ((i : ℕ) → i < count → x i ≤ slice_index caps i) → (i : ℕ) → i < count → x i ≤ slice_index (set caps p cap) i
stays-below caps count p cap x known at_most below i inside = elim (cases_eq i p) [
  | inl e ↦ let a = at-point caps p cap known in let b = ap x e in let c = ap (slice_index (set caps p cap)) e in omega arith
  | inr ne ↦ let a : slice_index (set caps p cap) i ≡ slice_index caps i = get_or-set_other caps p i cap 0 ne in let b = below i inside in omega arith
]

-- the least solution is a solution of the net with the moved bounds, and no solution of that is earlier anywhere: the earlier
-- of both would be one of the net as it was
pub moved_least : (net : Net) (p low cap : ℕ) (x : ℕ → ℕ) → length net.caps ≡ length net.lows → p < length net.lows → slice_index net.lows p ≤ low → low ≤ x p → x p ≤ cap → IsLeast net x → IsLeast (with_bounds_at net p low cap) x
moved_least net p low cap x caps known more at_least at_most is = record {
  solution = record {
    above_low = λ i inside. stays-above net.lows p low x known at_least is.solution.above_low i (let n = length-set net.lows p low in omega arith);
    below_cap = λ i inside. stays-below net.caps (length net.lows) p cap x (omega arith) at_most is.solution.below_cap i (let n = length-set net.lows p low in omega arith);
    keeps = is.solution.keeps;
  };
  least = λ y other i inside. (
      let n = length-set net.lows p low in
      let both : IsSolution net (earlier x y) = record {
        above_low = λ j within. (
            let a = is.solution.above_low j within in
            let b = other.above_low j (omega arith) in
            let r = low-rises net.lows p low known more j in
            earlier-above x y j (slice_index net.lows j) a (omega arith));
        below_cap = λ j within. (let a = earlier-first x y j in let b = is.solution.below_cap j within in omega arith);
        keeps = λ k d within. earlier-keeps x y (get_or net.edges k d) (is.solution.keeps k d within) (other.keeps k d within);
      } in
      let first = is.least (earlier x y) both i (omega arith) in
      let second = earlier-second x y i in
      omega arith);
}
