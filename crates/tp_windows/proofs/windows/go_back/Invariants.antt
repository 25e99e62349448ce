use Rattle.std.proofs.Common.{◌≡◌, List, length}
use Rattle.tp_schedule.specs.Spots.{Spot}
use Rattle.tp_windows.specs.Walks.{halves_of, siblings}
use Rattle.tp_windows.proofs.windows.go_back.Given as goal

abbrev pub invariant-sides : goal.invariant-sides
invariant-sides l = (table : List Spot) → siblings (halves_of table l.path.items) ≡ siblings (halves_of table l.fn.path.items)

abbrev pub decreases-sides : goal.decreases-sides
decreases-sides l = length l.path.items
