-- What a walk came to.
use Rattle.std.specs.Prelude.{List}
use Rattle.tp_machine.specs.declared.machine.Machine.{Machine}
use Rattle.tp_schedule.specs.Answers.{NoneBefore}
use Rattle.tp_schedule.specs.declared.parts.Ask.{Ask}
use Rattle.tp_schedule.specs.declared.parts.Plan.{Plan}
use Rattle.tp_windows.specs.declared.windows.Walked.{Walked}
use Rattle.tp_windows.specs.declared.windows.Walked.TheVariants.{Ended, GaveUp}

-- where the walk ended, no alternative ends before the tick
abbrev pub IsWalked : Machine → List Plan → Ask → Walked → Type 0
IsWalked machine plans ask (Ended end) = NoneBefore machine plans ask end
IsWalked machine plans ask GaveUp = Unit {0}
