use Rattle.std.proofs.Common.{arith}
use Rattle.std.proofs.lemmas.Grind.{common_steps}
use Rattle.tp_words.specs.Fields.{five_of}
use Rattle.tp_log.proofs.record_reader.read_release.Goals as goal

pub returns-in_default : goal.returns-in_default
unfolding five_of
returns-in_default c = grind (arith, common_steps)

pub returns-in_err-sheet : goal.returns-in_err-sheet
unfolding five_of
returns-in_err-sheet c = grind (arith, common_steps)

pub returns-in_err-act : goal.returns-in_err-act
unfolding five_of
returns-in_err-act c = grind (arith, common_steps)

pub returns-in_err-name : goal.returns-in_err-name
unfolding five_of
returns-in_err-name c = grind (arith, common_steps)

pub returns-in_err-start : goal.returns-in_err-start
unfolding five_of
returns-in_err-start c = grind (arith, common_steps)

pub returns-in_err-end : goal.returns-in_err-end
unfolding five_of
returns-in_err-end c = grind (arith, common_steps)

pub returns : goal.returns
unfolding five_of
returns c = grind (arith, common_steps)
