-- No location is marked.
use Rattle.std.proofs.Common.{◌≡◌, ℕ, zero, suc, false, get_or, replicate, refl}
use Rattle.tp_jobs.proofs.blocked.Blocked.none.Goals as goal

unmarked : (m n : ℕ) → get_or (replicate m false) n false ≡ false
unmarked zero n = refl
unmarked (suc m) zero = refl
unmarked (suc m) (suc n) = unmarked m n

pub returns : goal.returns
returns c loc = unmarked 256 loc.0
