use Rattle.std.proofs.Common.{◌≡◌, length, subst, sym, ◌∙◌, arith, All}
use Rattle.tp_bound_make.specs.TellableReasons.{IsTold, tell}
use Rattle.tp_bound_make.proofs.TellFacts.{get-at, take_all, told-one}
use Rattle.tp_bound_make.proofs.hops.first_untold.Goals as goal

pub edges-preserved : goal.edges-preserved
edges-preserved g c =
    told-one (tell c.args.machine.now c.args.board.now.plans c.args.board.now.causes) c.args.edges.now c.edges.at _ (get-at c.args.edges.now c.edges.at _ c.edges-test.true) c.in-Some.field-0 (sym c.hop_by.ensures ∙ c.in-Some.is) c.edges.invariant

pub returns-clause-none : goal.returns-clause-none
returns-clause-none g c =
    let all : c.edges.at ≡ length c.args.edges.now = omega (arith, c.edges-test.false, c.edges.auto.at-end) in
    subst (All (IsTold (tell c.args.machine.now c.args.board.now.plans c.args.board.now.causes))) (take_all c.edges.at c.args.edges.now all) c.edges.invariant

pub hop_by-requires : goal.hop_by-requires
hop_by-requires g c = record { stands = c.requires.stands; tellable = c.requires.tellable c.edges.at _ c.edges-test.true }

pub returns-in-None-clause-some : goal.returns-in-None-clause-some
returns-in-None-clause-some g c =
    record {
      edge = _;
      within = c.edges-test.true;
      there = get-at c.args.edges.now c.edges.at _ c.edges-test.true;
      untold = sym c.hop_by.ensures ∙ c.in-None.is;
      before = c.edges.invariant;
    }
