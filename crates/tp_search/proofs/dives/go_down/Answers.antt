use Rattle.std.proofs.Common.{refl, arith}
use Rattle.tp_search.proofs.ActSteps.{laid-at_most}
use Rattle.tp_search.proofs.FoundFacts.{found-laid}
use Rattle.tp_search.proofs.FurtherFacts.{further-back, further-same, further-trans}
use Rattle.tp_search.proofs.dives.go_down.Goals as goal

pub down-init : goal.down-init
down-init g c = record {
  since = further-same g.N.Network.reading c.args.board.now c.args.board.now refl (record { made_for = refl; plans = refl; ask = refl }) refl;
  carries = c.requires.carries;
}

pub returns-then-is_start-clause-found : goal.returns-then-is_start-clause-found
returns-then-is_start-clause-found g c is =
    let deeper = c.in-Some.ensures.deeper in
    let list = deeper.carries in
    let end = deeper.in_time in
    found-laid g.N.Network.reading c.args.board.now c.step_down.new.board c.args.problem.machine.now c.args.problem.ask.now list.goal c.in-Some.next.first list.choices c.args.bound end.0
    (further-trans g.N.Network.reading c.args.board.now c.down.board c.step_down.new.board c.down.invariant.since deeper.further)
    list.laid list.placed c.requires.new_copy (c.is_start.ensures.0 c.if-is_start.true) end.1 end.2

pub returns-then-is_start-clause-further : goal.returns-then-is_start-clause-further
returns-then-is_start-clause-further g c = further-trans g.N.Network.reading c.args.board.now c.down.board c.step_down.new.board c.down.invariant.since c.in-Some.ensures.deeper.further

pub returns-then-is_start-clause-stands : goal.returns-then-is_start-clause-stands
returns-then-is_start-clause-stands g c = c.in-Some.ensures.deeper.carries.laid.stands

pub down-smaller : goal.down-smaller
down-smaller g c =
    let list = c.in-Some.ensures.deeper.carries in
    let most = laid-at_most g.N.Network.reading c.step_down.new.board c.args.problem.machine.now c.args.problem.ask.now list.goal c.in-Some.next.first list.choices list.laid in
    let count = c.in-Some.ensures.count in
    omega (arith, most, count, list.count)

pub down-preserved : goal.down-preserved
down-preserved g c =
    let deeper = c.in-Some.ensures.deeper in
    record { since = further-trans g.N.Network.reading c.args.board.now c.down.board c.step_down.new.board c.down.invariant.since deeper.further; carries = deeper.carries }

pub returns-clause-further : goal.returns-clause-further
returns-clause-further g c =
    let back = c.step_down.ensures.back c.in_default.is in
    further-trans g.N.Network.reading c.args.board.now c.down.board c.step_down.new.board c.down.invariant.since (further-back g.N.Network.reading c.down.board c.step_down.new.board c.args.problem.machine.now back)

pub returns-clause-stands : goal.returns-clause-stands
returns-clause-stands g c = (c.step_down.ensures.back c.in_default.is).stands c.down.invariant.carries.laid.stands
