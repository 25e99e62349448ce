-- A script has 27 events.
use Rattle.std.proofs.Common.{◌≡◌, ℕ, length, refl}
use Rattle.tp_soak.specs.Scripts.{script}

pub length-script : (x : ℕ) → length (script x) ≡ 27
unfolding script
length-script x = refl
