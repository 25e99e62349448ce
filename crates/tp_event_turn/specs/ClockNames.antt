-- What may be reported of a move of the clock.
use Rattle.std.specs.Prelude.{◌<◌, List, length}
use Rattle.tp_machine.specs.Machines.{IsLocation}
use Rattle.tp_machine.specs.declared.machine.Machine.{Machine}
use Rattle.tp_jobs.specs.declared.parts.Job.{Job}
use Rattle.tp_event_records.specs.RecordNames.{IsKnown}
use Rattle.tp_event_rules.specs.declared.tell.Tell.{Tell}
use Rattle.tp_event_rules.specs.declared.tell.Tell.TheVariants.{Done, Release}

-- the copy is of one of the jobs, and the location or the action is one of the machine's
abbrev pub IsKnownTell : Machine → List Job → Tell → Type 0
IsKnownTell machine jobs (Done sheet loc at) = (sheet.job < length jobs) × IsLocation machine loc
IsKnownTell machine jobs (Release sheet number act start end) = (sheet.job < length jobs) × IsKnown machine act
