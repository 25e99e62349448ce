-- The ticks of a plan as a list.
use Rattle.std.proofs.Common.{◌≡◌, ℕ, zero, suc, ◌+◌, ◌<◌, length, refl, ap, arith, slice_index}
use Rattle.tp_schedule.specs.Times.{ticks_from}

pub length-ticks_from : (f : ℕ → ℕ) (i n : ℕ) → length (ticks_from f i n) ≡ n
length-ticks_from f i zero = refl
length-ticks_from f i (suc n) = ap suc (length-ticks_from f (suc i) n)

pub ticks_from-at : (f : ℕ → ℕ) (j n i k : ℕ) → i < n → k ≡ j + i → slice_index (ticks_from f j n) i ≡ f k
ticks_from-at f j zero i k within e = absurd (omega arith)
ticks_from-at f j (suc n) zero k within e = ap f (omega arith)
ticks_from-at f j (suc n) (suc i) k within e = ticks_from-at f (suc j) n i k (omega arith) (omega arith)
