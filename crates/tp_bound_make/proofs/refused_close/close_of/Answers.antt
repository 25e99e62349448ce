use Rattle.std.proofs.Common.{◌<◌, length}
use Rattle.tp_bound_make.proofs.ReasonFacts.{AreFit, chain-fits, chain-late, chain-short, circle-fits, circle-late, circle-short, told-reason}
use Rattle.tp_base.specs.declared.edges.Proof.TheVariants.{Chain, Circle}
use Rattle.tp_bound_make.proofs.refused_close.close_of.Goals as goal
use Rattle.tp_bound_make.proofs.refused_close.close_of.Goals.{In-Chain, In-Circle}

chain : (g : _) (c : In-Chain g) → AreFit g.N.Network.refutes c.args.machine.now c.args.board.now c.requires.reason c.in-Chain.edges.now
chain g c =
    let r = c.requires.reason in
    chain-fits g.N.Network.refutes c.args.machine.now c.args.board.now r c.in-Chain.first.0 c.in-Chain.edges.now (chain-late r.net c.reason.result c.in-Chain.first c.in-Chain.edges c.in-Chain.is (c.reason.ensures r.net r.shown))

pub chain_of-requires-clause-tellable : goal.chain_of-requires-clause-tellable
chain_of-requires-clause-tellable g c = (chain g c).tellable

pub chain_of-requires-clause-few : goal.chain_of-requires-clause-few
chain_of-requires-clause-few g c = (chain g c).few

circle : (g : _) (c : In-Circle g) → AreFit g.N.Network.refutes c.args.machine.now c.args.board.now c.requires.reason c.in-Circle.edges.now × (0 < length c.in-Circle.edges.now)
circle g c =
    let r = c.requires.reason in
    circle-fits g.N.Network.refutes c.args.machine.now c.args.board.now r c.in-Circle.edges.now (circle-late r.net c.reason.result c.in-Circle.edges c.in-Circle.is (c.reason.ensures r.net r.shown))

pub circle_of-requires-clause-tellable : goal.circle_of-requires-clause-tellable
circle_of-requires-clause-tellable g c = (circle g c).0.tellable

pub circle_of-requires-clause-few : goal.circle_of-requires-clause-few
circle_of-requires-clause-few g c = (circle g c).0.few

pub circle_of-requires-clause-some : goal.circle_of-requires-clause-some
circle_of-requires-clause-some g c = (circle g c).1

pub returns-in-Chain : goal.returns-in-Chain
returns-in-Chain g c =
    told-reason g.N.Network.refutes c.args.machine.now c.args.board.now c.reason.result (Chain c.in-Chain.first c.in-Chain.edges) c.reason.ensures c.in-Chain.is
    (λ close tells. chain-short c.args.machine.now c.args.board.now.plans c.args.board.now.causes c.args.board.now.limit c.in-Chain.edges.now close (chain g (goal.at.returns-in-Chain g c).In-Chain).short c.in-Chain.first tells)
    c.chain_of.result c.chain_of.ensures

pub returns-in-Circle : goal.returns-in-Circle
returns-in-Circle g c =
    told-reason g.N.Network.refutes c.args.machine.now c.args.board.now c.reason.result (Circle c.in-Circle.edges) c.reason.ensures c.in-Circle.is
    (λ close tells. circle-short c.args.machine.now c.args.board.now.plans c.args.board.now.causes c.args.board.now.limit c.in-Circle.edges.now close (circle g (goal.at.returns-in-Circle g c).In-Circle).0.short tells)
    c.circle_of.result c.circle_of.ensures
