use Rattle.std.proofs.Common.{◌∙◌, sym, arith}
use Rattle.tp_pool.proofs.UpFacts.{goes_up, stops_up, has_parent}
use Rattle.tp_pool.proofs.pool.choice_up.Goals as goal

pub unreachable-requires : goal.unreachable-requires
unreachable-requires c = has_parent c.args.nodes.now c.up.at c.args.depth _ c.requires.nodes c.up.invariant.there c.requires.first c.up-test.true c.in_default.not-Some

pub up-smaller : goal.up-smaller
up-smaller c =
    let up = goes_up c.args.nodes.now c.up.at c.args.depth c.in-Some.parent _ c.requires.nodes c.up.invariant.there c.in-Some.is c.up-test.true in
    up.below

pub up-preserved : goal.up-preserved
up-preserved c =
    let up = goes_up c.args.nodes.now c.up.at c.args.depth c.in-Some.parent _ c.requires.nodes c.up.invariant.there c.in-Some.is c.up-test.true in
    record {
      there = omega (arith, up.below, c.up.invariant.there);
      above = up.above;
      same = up.same ∙ c.up.invariant.same;
    }

pub returns : goal.returns
returns c = sym c.up.invariant.same ∙ stops_up c.args.nodes.now c.up.at c.args.depth _ c.requires.nodes c.up.invariant.there c.up.invariant.above c.up-test.false
