use Rattle.std.proofs.Common.{length}
use Rattle.rows_engines.proofs.in_flight.+walk_on.Given as goal

abbrev pub decreases-walk_on : goal.decreases-walk_on
decreases-walk_on l = length l.acts.now
