use Rattle.std.proofs.Common.{rules}
use Rattle.rows_engines.proofs.TrialFacts.{ready-back}
use Rattle.rows_engines.proofs.engine_rows.tried_end.Goals as goal

pub returns-in-Ok-clause-ready : goal.returns-in-Ok-clause-ready
returns-in-Ok-clause-ready g c plans ready =
    let back = c.abandon.ensures.back c.args.board.now c.args.machine.now c.in-Ok.ensures.trial in
    let same = ready-back g.N.Network.reading c.args.board.now c.abandon.new.self.0 c.args.machine.now plans c.args.ask.now back ready in
    search rules
