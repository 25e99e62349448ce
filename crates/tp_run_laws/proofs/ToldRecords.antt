-- A record as a turn tells it.
use Rattle.std.specs.Prelude.{◌≡◌, ◌+◌, ◌<◌, ◌≤◌, length}
use Rattle.tp_schedule.specs.Limits.{most_acts}
use Rattle.tp_schedule.specs.declared.records.Record.{Record}
use Rattle.tp_schedule.specs.declared.records.Record.TheVariants.{Plan, Move}

-- it has a line, and a plan has at most so many actions as a plan may have
abbrev pub IsTold : Record → Type 0
IsTold (Plan sheet place points acts) = (length points ≡ length acts + 1) × (0 < length acts) × (length acts ≤ most_acts)
IsTold (Move sheet points) = (2 ≤ length points) × (length points ≤ most_acts + 1)
IsTold _ = Unit {0}
