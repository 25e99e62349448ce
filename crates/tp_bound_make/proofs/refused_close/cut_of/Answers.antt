use Rattle.std.proofs.Common.{sym, subst, ap, ◌∙◌}
use Rattle.tp_bounds.specs.declared.tree.Close.TheVariants.{Chain}
use Rattle.tp_base.specs.declared.edges.Edge.{Edge}
use Rattle.tp_bound_make.specs.TellableReasons.{IsNameOf, tell}
use Rattle.tp_bound_make.proofs.TellFacts.{cut-few, cut-hops, edge-is, get-at}
use Rattle.tp_bound_make.proofs.refused_close.cut_of.Goals as goal

pub put_hops-requires-2-clause-room : goal.put_hops-requires-2-clause-room
put_hops-requires-2-clause-room g c =
    cut-few (tell c.args.machine.now c.args.board.now.plans c.args.board.now.causes) c.args.edges.now c.args.at c.requires.cut.within c.new-hops.result c.put_hops.new.hops c.put_hops.new.hops c.new-hops.ensures c.in_ok-put_hops.ensures
    4294967294 c.requires.few

pub returns : goal.returns
returns g c =
    let b = c.args.board.now in
    let there = get-at c.args.edges.now c.args.at _ c.requires.cut.within in
    let same = edge-is _ _ (sym there ∙ c.requires.cut.there) in
    record {
      at = c.args.at;
      cut = c.requires.cut;
      first = c.point_by.result;
      named = subst (λ (e : Edge). IsNameOf b.plans b.limit e.to c.point_by.result) same c.point_by.ensures;
      is = ap (λ hops. Chain c.point_by.result hops)
          (cut-hops (tell c.args.machine.now b.plans b.causes) c.args.edges.now c.args.at c.requires.cut.within c.new-hops.result c.put_hops.new.hops c.put_hops-2.new.hops c.new-hops.ensures c.in_ok-put_hops.ensures c.in_ok-put_hops-2.ensures);
    }
