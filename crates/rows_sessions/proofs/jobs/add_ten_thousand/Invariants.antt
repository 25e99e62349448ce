use Rattle.std.proofs.Common.{◌≤◌, length}
use Rattle.rows_sessions.proofs.jobs.add_ten_thousand.Given as goal

abbrev pub invariant-loop-number : goal.invariant-loop-number
invariant-loop-number l = length l.lines.jobs ≤ l.number
