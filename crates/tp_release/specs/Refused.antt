-- The causes for which the clock is not moved.
use Rattle.std.specs.Prelude.{Option, Some, None, Result, Ok, Err}
use Rattle.tp_schedule.specs.declared.records.Cause.{Cause}
use Rattle.tp_schedule.specs.declared.records.Cause.TheVariants.{Back, End}
use Rattle.tp_release.specs.declared.fault.AdvanceFault.{AdvanceFault}
use Rattle.tp_release.specs.declared.fault.AdvanceFault.TheVariants.{Memory, ClockBack, ClockEnd}

-- the cause by which a move of the clock is refused, which want of memory is not
abbrev pub clock_cause : AdvanceFault → Option Cause
clock_cause Memory = None
clock_cause (ClockBack now) = Some (Back now)
clock_cause ClockEnd = Some End

-- the cause in an answer
abbrev pub cause_in : {X : Type 0} → Result X AdvanceFault → Option Cause
cause_in (Ok x) = None
cause_in (Err fault) = clock_cause fault
