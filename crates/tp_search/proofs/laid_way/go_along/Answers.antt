use Rattle.std.proofs.Common.{refl}
use Rattle.tp_search.proofs.FoundFacts.{found-laid}
use Rattle.tp_search.proofs.FurtherFacts.{further-same, further-trans}
use Rattle.tp_search.proofs.laid_way.go_along.Goals as goal

pub along-init : goal.along-init
along-init g c = record {
  since = further-same g.N.Network.reading c.args.board.now c.args.board.now refl (record { made_for = refl; plans = refl; ask = refl }) refl;
  carries = c.requires.carries;
}

pub returns-then-is_start-clause-found : goal.returns-then-is_start-clause-found
returns-then-is_start-clause-found g c is =
    let deeper = c.in-Some.ensures.deeper in
    let list = deeper.carries in
    let end = deeper.in_time in
    found-laid g.N.Network.reading c.args.board.now c.step_along.new.board c.args.problem.machine.now c.args.problem.ask.now list.goal c.in-Some.next.first list.choices c.args.bound end.0
    (further-trans g.N.Network.reading c.args.board.now c.along.board c.step_along.new.board c.along.invariant.since deeper.further)
    list.laid list.placed c.requires.new_copy (c.is_start.ensures.0 c.if-is_start.true) end.1 end.2

pub returns-then-is_start-clause-further : goal.returns-then-is_start-clause-further
returns-then-is_start-clause-further g c = further-trans g.N.Network.reading c.args.board.now c.along.board c.step_along.new.board c.along.invariant.since c.in-Some.ensures.deeper.further

pub returns-then-is_start-clause-stands : goal.returns-then-is_start-clause-stands
returns-then-is_start-clause-stands g c = c.in-Some.ensures.deeper.carries.laid.stands

pub along-preserved : goal.along-preserved
along-preserved g c =
    let deeper = c.in-Some.ensures.deeper in
    record { since = further-trans g.N.Network.reading c.args.board.now c.along.board c.step_along.new.board c.along.invariant.since deeper.further; carries = deeper.carries }
