use Rattle.tp_bounds.proofs.LineFacts.{line_read, no_newline}
use Rattle.tp_bounds.proofs.tree_reader.read_bound_line.Goals as goal

pub returns-in-None : goal.returns-in-None
returns-in-None c = no_newline c.args.line.now c.in-None.ensures

pub returns-in-Some : goal.returns-in-Some
returns-in-Some c = line_read c.args.line.now c.in-Some.text.now c.read_text.result c.in-Some.ensures c.read_text.ensures
