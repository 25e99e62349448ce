use Rattle.std.proofs.Common.{arith, subst, sym}
use Rattle.tp_placing.specs.Boards.{suffix_of}
use Rattle.rows_engines.proofs.LaidWays.{IsOfOne, can_lay, can_put}
use Rattle.rows_engines.proofs.laid_ways.tried_at.Goals as goal

pub open_action-requires-clause-ready : goal.open_action-requires-clause-ready
open_action-requires-clause-ready g c =
    can_lay g.N.Network.reading c.args.board.now c.args.machine.now c.args.ask.now c.args.state 0 c.requires.laid (let kept = c.requires.kept in omega arith)

pub try_place-requires-clause-next : goal.try_place-requires-clause-next
try_place-requires-clause-next g c =
    let few = c.if-place-places.false in
    let places = c.places.ensures c.args.machine.now c.requires.laid.stands in
    let one = c.if-len-ne1.false in
    let len = c.len-2.ensures.len in
    can_put c.args.machine.now c.open_action.new.self.plans c.args.choice.0 c.args.choice.1 c.args.choice.2 (suffix_of c.args.board.now) (suffix_of c.open_action.new.self) c.in-Ok.ensures.suffix
    (subst (λ ps. IsOfOne c.args.machine.now ps c.args.choice.0 c.args.choice.2 (suffix_of c.args.board.now)) (sym c.open_action.ensures.loaded.plans) (record {
      action = c.get.result.now;
      rule = c.get-2.result.now;
      at = c.get.ensures;
      has = c.get-2.ensures;
      one = omega arith;
      within = omega arith;
    }))
