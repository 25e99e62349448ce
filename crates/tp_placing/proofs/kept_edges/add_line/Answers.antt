use Rattle.std.proofs.Common.{sym, append-nil}
use Rattle.tp_placing.proofs.kept_edges.add_line.Goals as goal

pub returns-in-None-clause-added : goal.returns-in-None-clause-added
returns-in-None-clause-added c = rw c.in-None.is (sym (append-nil _))
