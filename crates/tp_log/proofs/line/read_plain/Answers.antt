use Rattle.tp_log.proofs.LineFacts.{note_read, no_newline, note_fault, echo_fault}
use Rattle.tp_log.proofs.line.read_plain.Goals as goal

pub returns-in_default : goal.returns-in_default
returns-in_default c = no_newline c.args.line.now c.in_default.ensures

pub returns-in-Ok-read_words : goal.returns-in-Ok-read_words
returns-in-Ok-read_words c = note_read c.args.line.now c.in-Some.text.now c.in-Ok-read_words.rec c.in-Some.ensures c.in-Ok-read_words.ensures

pub returns-in-Err-read_words : goal.returns-in-Err-read_words
returns-in-Err-read_words c = note_fault c.args.line.now c.in-Some.text.now c.in-Err-read_words.fault c.in-Some.ensures c.in-None.ensures c.in-Err-read_words.ensures

pub returns-in-Err : goal.returns-in-Err
returns-in-Err c = echo_fault c.args.line.now c.in-Some.text.now c.in-Some-echoed.event.now c.in-Err.fault c.in-Some.ensures c.in-Some-echoed.ensures c.in-Err.ensures
