use Rattle.std.proofs.Common.{length}
use Rattle.rows_sessions.proofs.random_machines.Dice.fill.Given as goal

abbrev pub decreases-bytes : goal.decreases-bytes
decreases-bytes l = length l.rest
