use Rattle.std.proofs.Common.{arith}
use Rattle.tp_constraints.specs.Suffixes.{with_place}
use Rattle.tp_placing.specs.Boards.{suffix_of}
use Rattle.rows_engines.proofs.AskFacts.{can_place}
use Rattle.rows_engines.proofs.LaidWays.{can_lay}
use Rattle.rows_engines.proofs.ReasonFacts.{is_told-reason}
use Rattle.rows_engines.proofs.laid_ways.bounds_where_late.Goals as goal

pub open_action-requires-clause-ready : goal.open_action-requires-clause-ready
open_action-requires-clause-ready g c =
    can_lay g.N.Network.reading c.args.board.now c.args.machine.now c.args.ask.now c.args.state 0 c.requires.laid (let kept = c.requires.kept in omega arith)

pub place-requires-clause-next : goal.place-requires-clause-next
place-requires-clause-next g c =
    can_place c.args.machine.now c.open_action.new.self.plans c.args.act c.args.room _ _ c.get.result.now c.get-2.result.now c.in-Ok.ensures.suffix c.get.ensures c.get-2.ensures

pub returns-clause-told : goal.returns-clause-told
returns-clause-told g c =
    is_told-reason c.place.new.self g.N.Network.refutes c.args.machine.now (suffix_of c.open_action.new.self) (with_place 0) c.in-Err-place.ensures.shown
