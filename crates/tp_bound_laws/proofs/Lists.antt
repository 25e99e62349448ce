-- A number is itself.
use Rattle.std.proofs.Common.{◌≡◌, ℕ, true, ◌==◌, refl}
use Rattle.std.proofs.lemmas.Bool.{eq-eqb}

pub number-same : (n : ℕ) → (n == n) ≡ true
number-same n = eq-eqb n n refl
