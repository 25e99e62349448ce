use Rattle.std.proofs.Common.{◌-◌, sym, subst, All, ◌∙◌}
use Rattle.tp_base.specs.Net.{Keeps}
use Rattle.tp_windows.proofs.RootFacts.{line_holds}
use Rattle.tp_windows.proofs.root.close_before.Goals as goal

pub returns-clause-root : goal.returns-clause-root
returns-clause-root c machine plans ask net by =
    let root = by.read in
    record {
      read = record {
        is_net = root.is_net;
        wide = (c.close.ensures.wide.0 ∙ c.come_before.ensures.wide.0 ∙ root.wide.0, c.close.ensures.wide.1 ∙ c.come_before.ensures.wide.0 ∙ root.wide.0);
        edges = root.edges;
        rests = root.rests;
        starts = root.starts;
        ahead = root.ahead;
        behind = root.behind;
      };
      between = λ y times.
          let line = line_holds plans ask root.is_net.is_table.differ (c.args.end - 1) y c.args.root.now.ahead c.line_side.result root.ahead c.line_side.ensures times.line in
          let keeps = subst (All (Keeps y)) (sym root.edges.0.all) times.solution.keeps in
          c.close.ensures.kept y keeps (c.come_before.ensures.kept y (by.between y times) line);
    }
