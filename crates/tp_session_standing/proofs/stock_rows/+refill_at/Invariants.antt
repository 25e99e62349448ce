use Rattle.std.proofs.Common.{length}
use Rattle.tp_session_standing.proofs.stock_rows.+refill_at.Given as goal

abbrev pub decreases-refill_at : goal.decreases-refill_at
decreases-refill_at l = length l.feeders.now
