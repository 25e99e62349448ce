use Rattle.tp_placing.proofs.CauseFacts.{numbered-in}
use Rattle.tp_placing.proofs.laws.tables_are_numbered.Goals as goal

pub returns : goal.returns
returns c = numbered-in
