-- The live plans of a schedule, kept one after another.
use Rattle.std.proofs.Common.{◌≡◌, ℕ, ◌+◌, ◌*◌, ◌<◌, ◌≤◌, Bool, true, false, cond, List, [], ◌∷◌, ◌++◌, length, drop, filter, ap, sym, ◌∙◌, arith, Some, All}
use Rattle.std.specs.Prelude.{slice_get}
use Rattle.std.proofs.lemmas.List.{append_assoc, length-append}
use Rattle.std.proofs.lemmas.List.Elements.{All-nil, All-head, All-tail}
use Rattle.tp_base.specs.Net.{HasLeast, empty_net}
use Rattle.tp_schedule.specs.declared.parts.Plan.{Plan}
use Rattle.tp_placing.specs.LoadedNet.{point_count}
use Rattle.tp_placing.proofs.LoadHolds.{drop-get}

module _ {X : Type 0} (test : X → Bool) (kept xs whole : List X) (at : ℕ) (x : X) (read : slice_get xs at ≡ Some x) (so-far : kept ++ filter test (drop at xs) ≡ whole) where
  pub keep-passed : test x ≡ true → (kept ++ x ∷ []) ++ filter test (drop (at + 1) xs) ≡ whole
  keep-passed e =
      let step = ap (filter test) (drop-get xs at x read) ∙ ap (λ b. cond b (x ∷ filter test (drop (at + 1) xs)) (filter test (drop (at + 1) xs))) e in
      append_assoc kept (x ∷ []) (filter test (drop (at + 1) xs)) ∙ ap (λ ys. kept ++ ys) (sym step) ∙ so-far

  pub keep-failed : test x ≡ false → kept ++ filter test (drop (at + 1) xs) ≡ whole
  keep-failed e =
      let step = ap (filter test) (drop-get xs at x read) ∙ ap (λ b. cond b (x ∷ filter test (drop (at + 1) xs)) (filter test (drop (at + 1) xs))) e in
      ap (λ ys. kept ++ ys) (sym step) ∙ so-far

  pub keep-fits : test x ≡ true → length kept < length whole
  keep-fits e =
      let a = ap length (keep-passed e) in
      let b = length-append (kept ++ x ∷ []) (filter test (drop (at + 1) xs)) in
      let c = length-append kept (x ∷ []) in
      omega arith

-- a network without points has a least solution
pub empty-least : HasLeast empty_net
empty-least = (
  λ i. 0,
  record {
    solution = record { above_low = λ i below. absurd (omega (arith, below)); below_cap = λ i below. absurd (omega (arith, below)); keeps = All-nil (λ e. _) };
    least = λ y s i below. absurd (omega (arith, below));
  },
)

-- how many points there can be
pub points-few : (plans : List Plan) → All (λ p. length p.acts ≤ 64) plans → point_count plans ≤ 65 * length plans
points-few [] few = omega arith
points-few (p ∷ plans) few =
    let one : length p.acts ≤ 64 = All-head (λ q. length q.acts ≤ 64) p plans few in
    let rest = points-few plans (All-tail (λ q. length q.acts ≤ 64) p plans few) in
    omega arith
