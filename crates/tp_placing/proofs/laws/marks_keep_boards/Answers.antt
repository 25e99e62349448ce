use Rattle.tp_placing.proofs.MarkFacts.{keep_end_reasons, keep_reasons, keep_reasons_up_to, mark_keeps, undo_keeps}
use Rattle.tp_placing.proofs.laws.marks_keep_boards.Goals as goal

pub returns : goal.returns
returns g c = record {
  mark = mark_keeps g.N.Network.reading g.N.Undo.untouched;
  back = undo_keeps g.N.Network.reading g.N.Undo.untouched;
  reasons = keep_reasons g.N.Undo.untouched g.N.Network.refutes g.met.N.Network.refutes_by_untouched;
  reasons_up_to = keep_reasons_up_to g.N.Undo.untouched g.N.Network.refutes g.met.N.Network.refutes_by_untouched;
  end_reasons = keep_end_reasons g.N.Undo.untouched g.N.Network.refutes g.met.N.Network.refutes_by_untouched;
}
