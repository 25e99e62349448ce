-- Hops are followed one by one.
use Rattle.std.proofs.Common.{◌≡◌, ℕ, ◌+◌, ◌<◌, ◌*◌, ◌^◌, List, ◌∷◌, drop, refl, sym, ◌∙◌, ap, subst, arith, add-one, Some, None}
use Rattle.std.specs.Prelude.{ℤ, pos, ◌+ℤ◌, ◌≤ℤ◌, neg_ℤ}
use Rattle.std.specs.List.{slice_get}
use Rattle.std.proofs.lemmas.Int.{ints}
use Rattle.tp_bounds.specs.declared.hops.Hop.{Hop}
use Rattle.tp_constraints.specs.Gaps.{Gap}
use Rattle.tp_machine.specs.declared.machine.Machine.{Machine}
use Rattle.tp_schedule.specs.Spots.{Spot}
use Rattle.tp_schedule.specs.declared.parts.Ask.{Ask}
use Rattle.tp_schedule.specs.declared.parts.Plan.{Plan}
use Rattle.tp_bound_laws.specs.Chains.{follow, gap_of, led_on}
use Rattle.tp_bound_laws.specs.Chains.Led.{lost}
use Rattle.tp_bound_laws.specs.Places.{Stand}
use Rattle.tp_bound_check.specs.Points.{IsWeight}
use Rattle.tp_bound_check.proofs.RowSteps.{drop-one}

module _ (machine : Machine) (plans : List Plan) (ask : Ask) (limit : ℤ) (s : Stand) where
  follow-more : (k : ℕ) (at : Spot) (sum : ℤ) (hops : List Hop) (h : Hop) → slice_get hops k ≡ Some h
      → follow machine plans ask limit s k at sum (drop k hops) ≡ led_on k (λ g. follow machine plans ask limit s (k + 1) g.to (sum +ℤ g.weight) (drop (k + 1) hops)) (gap_of machine plans ask limit s at h)
  follow-more k at sum hops h e =
      let P : List Hop → Type 0 = λ more. follow machine plans ask limit s k at sum more ≡ led_on k (λ g. follow machine plans ask limit s (k + 1) g.to (sum +ℤ g.weight) (drop (k + 1) hops)) (gap_of machine plans ask limit s at h) in
      let Q : ℕ → Type 0 = λ m. follow machine plans ask limit s k at sum (h ∷ drop (k + 1) hops) ≡ led_on k (λ g. follow machine plans ask limit s m g.to (sum +ℤ g.weight) (drop (k + 1) hops)) (gap_of machine plans ask limit s at h) in
      subst P (sym (drop-one hops k h e)) (subst Q (sym (add-one k)) refl)

  pub follow-on : (k : ℕ) (at : Spot) (sum : ℤ) (hops : List Hop) (h : Hop) (g : Gap) → slice_get hops k ≡ Some h → Some g ≡ gap_of machine plans ask limit s at h
      → follow machine plans ask limit s k at sum (drop k hops) ≡ follow machine plans ask limit s (k + 1) g.to (sum +ℤ g.weight) (drop (k + 1) hops)
  follow-on k at sum hops h g e f = follow-more k at sum hops h e ∙ sym (ap (led_on k (λ g. follow machine plans ask limit s (k + 1) g.to (sum +ℤ g.weight) (drop (k + 1) hops))) f)

  pub follow-lost : (k : ℕ) (at : Spot) (sum : ℤ) (hops : List Hop) (h : Hop) → slice_get hops k ≡ Some h → None ≡ gap_of machine plans ask limit s at h
      → follow machine plans ask limit s k at sum (drop k hops) ≡ lost k
  follow-lost k at sum hops h e f = follow-more k at sum hops h e ∙ sym (ap (led_on k (λ g. follow machine plans ask limit s (k + 1) g.to (sum +ℤ g.weight) (drop (k + 1) hops))) f)

pub least-on : (k : ℕ) (sum weight new : ℤ) → neg_ℤ (pos (20480 * k)) ≤ℤ sum → IsWeight weight → new ≡ (sum +ℤ weight) → neg_ℤ (pos (20480 * (k + 1))) ≤ℤ new
least-on k sum weight new h w e = let low = w.0 in omega (arith, ints)

pub most-on : (k n : ℕ) (sum weight new : ℤ) → sum ≤ℤ pos (n + 20480 * k) → IsWeight weight → new ≡ (sum +ℤ weight) → new ≤ℤ pos (n + 20480 * (k + 1))
most-on k n sum weight new h w e = let high = w.1 in omega (arith, ints)

pub least-fits : (k : ℕ) (sum : ℤ) → k < 2 ^ 32 → neg_ℤ (pos (20480 * k)) ≤ℤ sum → neg_ℤ (pos (2 ^ 48)) ≤ℤ sum
least-fits k sum lt h = omega (arith, ints)

pub most-fits : (k : ℕ) (sum : ℤ) → k < 2 ^ 32 → sum ≤ℤ pos (2 ^ 34 + 20480 * k) → sum ≤ℤ pos (2 ^ 48)
most-fits k sum lt h = omega (arith, ints)
