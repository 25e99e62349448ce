use Rattle.std.proofs.Common.{Ok, subst}
use Rattle.tp_bounds.specs.Lines.{ReadsBound}
use Rattle.tp_log.proofs.BoundLines.{plain_read}
use Rattle.tp_log.proofs.log_line.read_log_line.Goals as goal

pub returns-in-Ok-None : goal.returns-in-Ok-None
returns-in-Ok-None c =
    let none = subst (λ told. ReadsBound c.args.line.now (Ok told)) c.in-Ok-None.field-0-is c.in-Ok-None.ensures in
    plain_read c.args.line.now c.read_plain.result none c.read_plain.ensures
