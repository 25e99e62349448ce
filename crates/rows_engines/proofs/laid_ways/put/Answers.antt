use Rattle.std.proofs.Common.{arith, subst, sym}
use Rattle.tp_placing.specs.Boards.{suffix_of}
use Rattle.rows_engines.proofs.LaidWays.{IsOfOne, can_put, is_put}
use Rattle.rows_engines.proofs.laid_ways.put.Goals as goal

pub place-requires-clause-next : goal.place-requires-clause-next
place-requires-clause-next g c =
    let few = c.if-place-places.false in
    let places = c.places.ensures c.args.machine.now c.requires.stands in
    let one = c.if-len-ne1.false in
    let len = c.len.ensures.len in
    can_put c.args.machine.now c.open_action.new.self.plans c.args.act c.args.room c.args.place (suffix_of c.args.board.now) (suffix_of c.open_action.new.self) c.in-Ok.ensures.suffix
    (subst (λ ps. IsOfOne c.args.machine.now ps c.args.act c.args.place (suffix_of c.args.board.now)) (sym c.open_action.ensures.loaded.plans) (record {
      action = c.get.result.now;
      rule = c.get-2.result.now;
      at = c.get.ensures;
      has = c.get-2.ensures;
      one = omega arith;
      within = omega arith;
    }))

pub returns-in-Ok-place-clause-put : goal.returns-in-Ok-place-clause-put
returns-in-Ok-place-clause-put g c =
    let few = c.if-place-places.false in
    let places = c.places.ensures c.args.machine.now c.requires.stands in
    let one = c.if-len-ne1.false in
    let len = c.len.ensures.len in
    is_put c.args.machine.now c.args.board.now.plans c.args.act c.args.room c.args.place (suffix_of c.args.board.now) (suffix_of c.open_action.new.self) (suffix_of c.place.new.self)
    c.in-Ok.ensures.suffix c.in-Ok-place.ensures.suffix (record {
      action = c.get.result.now;
      rule = c.get-2.result.now;
      at = c.get.ensures;
      has = c.get-2.ensures;
      one = omega arith;
      within = omega arith;
    })
