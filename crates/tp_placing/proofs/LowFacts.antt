-- A point whose low may be after the horizon.
use Rattle.std.proofs.Common.{◌≡◌, ℕ, ◌+◌, ◌<◌, min, List, [], ◌∷◌, length, refl, subst, arith, inl, inr}
use Rattle.std.proofs.lemmas.Bool.{cases_lt}
use Rattle.std.proofs.lemmas.List.{length-append, get_or_at}
use Rattle.tp_base.specs.declared.edges.Edge.{Edge}
use Rattle.tp_base.specs.Net.{Net, HasLeast, HasNoSolution, with_point, with_edges}

-- no solution has a point whose low is above its cap
pub no-solution-above : (net : Net) (low top : ℕ) (es : List Edge) → length net.caps ≡ length net.lows → top < low → HasNoSolution (with_edges (with_point net low top) es)
no-solution-above net low top es same above x s =
    let l = length-append net.lows (low ∷ []) in
    let a = s.above_low (length net.lows) (omega arith) in
    let b = s.below_cap (length net.lows) (omega arith) in
    let e = get_or_at net.lows low [] 0 (length net.lows) refl in
    let f = get_or_at net.caps top [] 0 (length net.lows) same in
    omega arith

module _ (net : Net) (sum horizon : ℕ) (es : List Edge) (same : length net.caps ≡ length net.lows) where
  abbrev Extended : ℕ → Net
  Extended low = with_edges (with_point net low horizon) es

  -- where there is a solution the low is the sum
  pub low-is : HasLeast (Extended (min sum (horizon + 1))) → min sum (horizon + 1) ≡ sum
  low-is least = elim (cases_lt (horizon + 1) sum) [
    | inl above ↦ absurd (no-solution-above net (min sum (horizon + 1)) horizon es same (omega arith) least.0 least.1.solution)
    | inr below ↦ omega arith
  ]

  -- where there is none, there is none with the sum
  pub none-with-sum : HasNoSolution (Extended (min sum (horizon + 1))) → HasNoSolution (Extended sum)
  none-with-sum none = elim (cases_lt horizon sum) [
    | inl above ↦ no-solution-above net sum horizon es same above
    | inr below ↦ (let e : min sum (horizon + 1) ≡ sum = omega arith in subst (λ low. HasNoSolution (Extended low)) e none)
  ]
