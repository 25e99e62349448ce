use Rattle.tp_stream.proofs.ReadLines.{reads_bad, reads_some}
use Rattle.tp_stream.proofs.script.read_event_of.Goals as goal

pub returns-in-Ok-Some : goal.returns-in-Ok-Some
returns-in-Ok-Some c = reads_some c.args.line.now c.in-Ok-Some.event (rw c.in-Ok-Some.field-0-is at c.in-Ok-Some.ensures)

pub returns-in-Err-Syntax : goal.returns-in-Err-Syntax
returns-in-Err-Syntax c = reads_bad c.args.line.now (rw c.in-Err-Syntax.field-0-is at c.in-Err-Syntax.ensures)
