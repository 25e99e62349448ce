use Rattle.std.proofs.Common.{◌-◌, length, arith, subst, sym, pos, All}
use Rattle.tp_base.specs.Grows.{IsKnown}
use Rattle.tp_base.specs.Net.{Keeps}
use Rattle.tp_windows.specs.Links.{edges_of}
use Rattle.tp_windows.proofs.LinkFacts.{edge_at, falls}
use Rattle.tp_windows.specs.declared.times.Link.{Link}
use Rattle.tp_windows.proofs.times.lower_all.Goals as goal

abbrev no_link : Link
no_link = record { edge = record { from = record { 0 = 0 }; to = record { 0 = 0 }; weight = pos 0; tag = 0 }; older = 0 }

pub lower_edge-requires-clause-known : goal.lower_edge-requires-clause-known
lower_edge-requires-clause-known c =
    let t = c.edges-test.true in
    let le = c.edges.invariant.left in
    edge_at (IsKnown (length c.edges.highs)) c.args.links.now (c.edges.left - 1) no_link (omega (arith, t, le)) (subst (λ n. All (IsKnown n) (edges_of c.args.links.now)) (sym c.edges.invariant.same) c.requires.known)

pub returns-in-None-clause-between : goal.returns-in-None-clause-between
returns-in-None-clause-between c = λ y keeps before.
    let t = c.edges-test.true in
    let le = c.edges.invariant.left in
    c.lower_edge.ensures.between y (edge_at (Keeps y) c.args.links.now (c.edges.left - 1) no_link (omega (arith, t, le)) keeps) (c.edges.invariant.between y keeps before)

pub returns-in-None-clause-refused : goal.returns-in-None-clause-refused
returns-in-None-clause-refused c = λ e y keeps before.
    let t = c.edges-test.true in
    let le = c.edges.invariant.left in
    c.lower_edge.ensures.refused c.in-None.is y (edge_at (Keeps y) c.args.links.now (c.edges.left - 1) no_link (omega (arith, t, le)) keeps) (c.edges.invariant.between y keeps before)

pub edges-smaller-then-lowered : goal.edges-smaller-then-lowered
edges-smaller-then-lowered c =
    let t = c.edges-test.true in
    let le = c.edges.invariant.left in
    let f = falls c.args.links.now (c.edges.left - 1) no_link c.requires.falling (omega (arith, t, le)) in
    omega (arith, t, f)

pub edges-preserved-then-lowered : goal.edges-preserved-then-lowered
edges-preserved-then-lowered c =
    let t = c.edges-test.true in
    let le = c.edges.invariant.left in
    let f = falls c.args.links.now (c.edges.left - 1) no_link c.requires.falling (omega (arith, t, le)) in
    let same = c.lower_edge.ensures.same in
    let old = c.edges.invariant.same in
    record {
      left = omega (arith, t, le, f);
      same = omega (arith, same, old);
      between = λ y keeps before. c.lower_edge.ensures.between y (edge_at (Keeps y) c.args.links.now (c.edges.left - 1) no_link (omega (arith, t, le)) keeps) (c.edges.invariant.between y keeps before);
    }

pub edges-smaller : goal.edges-smaller
edges-smaller c =
    let t = c.edges-test.true in
    let le = c.edges.invariant.left in
    let f = falls c.args.links.now (c.edges.left - 1) no_link c.requires.falling (omega (arith, t, le)) in
    omega (arith, t, f)

pub edges-preserved : goal.edges-preserved
edges-preserved c =
    let t = c.edges-test.true in
    let le = c.edges.invariant.left in
    let f = falls c.args.links.now (c.edges.left - 1) no_link c.requires.falling (omega (arith, t, le)) in
    let same = c.lower_edge.ensures.same in
    let old = c.edges.invariant.same in
    record {
      left = omega (arith, t, le, f);
      same = omega (arith, same, old);
      between = λ y keeps before. c.lower_edge.ensures.between y (edge_at (Keeps y) c.args.links.now (c.edges.left - 1) no_link (omega (arith, t, le)) keeps) (c.edges.invariant.between y keeps before);
    }
