use Rattle.std.proofs.Common.{arith}
use Rattle.std.proofs.lemmas.Grind.{common_steps}
use Rattle.tp_log.specs.RecordReaders.{three_of}
use Rattle.tp_log.proofs.record_reader.read_done.Goals as goal

pub returns-in_default : goal.returns-in_default
unfolding three_of
returns-in_default c = grind (arith, common_steps)

pub returns-in_err-sheet : goal.returns-in_err-sheet
unfolding three_of
returns-in_err-sheet c = grind (arith, common_steps)

pub returns-in_err-place : goal.returns-in_err-place
unfolding three_of
returns-in_err-place c = grind (arith, common_steps)

pub returns-in_err-at : goal.returns-in_err-at
unfolding three_of
returns-in_err-at c = grind (arith, common_steps)

pub returns : goal.returns
unfolding three_of
returns c = grind (arith, common_steps)
