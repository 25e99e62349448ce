-- What was read is the event of the words.
use Rattle.tp_farm.proofs.AddressFacts.{echoed_of, off_of, passed_of, some_of}
use Rattle.tp_farm.proofs.farm_lines.read_event.Goals as goal

pub returns-in-Ok-Some-clause-event : goal.returns-in-Ok-Some-clause-event
returns-in-Ok-Some-clause-event c = some_of _ c.in-Ok-Some.event (rw c.in-Ok-Some.field-0-is at c.in-Ok-Some.ensures)

pub returns-in-Ok-Some-clause-echoed : goal.returns-in-Ok-Some-clause-echoed
returns-in-Ok-Some-clause-echoed c = echoed_of _ c.in-Ok-Some.event (rw c.in-Ok-Some.field-0-is at c.in-Ok-Some.ensures)

pub returns-in-Ok-None-clause-event : goal.returns-in-Ok-None-clause-event
returns-in-Ok-None-clause-event c = passed_of _ (rw c.in-Ok-None.field-0-is at c.in-Ok-None.ensures)

pub returns-in-Err-Syntax-clause-event : goal.returns-in-Err-Syntax-clause-event
returns-in-Err-Syntax-clause-event c = off_of _ (rw c.in-Err-Syntax.field-0-is at c.in-Err-Syntax.ensures)
