use Rattle.std.proofs.Common.{◌≡◌, ℕ, ◌<◌, length, get_or, pos}
use Rattle.tp_stock.specs.Stock.{taken_at}
use Rattle.tp_session_standing.specs.StandingStates.{refill_at}
use Rattle.tp_session_standing.proofs.stock_rows.refills_of.Given as goal

abbrev pub invariant-locations : goal.invariant-locations
invariant-locations l =
    (length l.refills ≡ 256)
    × ((k : ℕ) → k < l.at → get_or l.refills k (pos 0) ≡ refill_at (taken_at l.fn.machine l.fn.plans.plans k) k l.fn.machine.feeders l.fn.stock)
