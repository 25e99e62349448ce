use Rattle.std.proofs.Common.{ap, ◌∙◌, List}
use Rattle.std.specs.Prelude.{ℕ, slice_index, option_map}
use Rattle.tp_base.specs.declared.edges.PointId.{PointId}
use Rattle.tp_constraints.specs.Numbers.{table_of}
use Rattle.tp_windows.specs.Arrays.{windows_by}
use Rattle.tp_windows.proofs.RootFacts.{after_fits, before_fits}
use Rattle.tp_windows.proofs.SeenFacts.{way_in}
use Rattle.tp_windows.proofs.halves.find_way.Goals as goal

pub returns-clause-way : goal.returns-clause-way
returns-clause-way c plans net known root orders =
    let lows = c.args.node.now.ranges.lows.items in
    let highs = c.args.node.now.ranges.highs.items in
    let w = windows_by (table_of plans) lows highs in
    let behind = after_fits plans c.args.ask.now root.is_net.is_table.differ lows highs c.args.root.now.ahead c.line_time-after.result root.ahead (c.line_time-after.ensures ∙ ap (λ (ts : List ℕ). option_map (λ (p : PointId). slice_index ts p.0) c.args.root.now.ahead) c.deref.ensures.value) in
    let ahead = before_fits plans c.args.ask.now root.is_net.is_table.differ lows highs c.args.root.now.behind c.line_time-before.result root.behind (c.line_time-before.ensures ∙ ap (λ (ts : List ℕ). option_map (λ (p : PointId). slice_index ts p.0) c.args.root.now.behind) c.deref-2.ensures.value) in
    way_in _ c.way.result plans w c.way.ensures.way (record {
      goal = known;
      rests = root.rests;
      starts = root.starts;
      rows = c.write.ensures.rows c.args.machine.now plans root.is_net.is_table orders;
      line = λ end fits. (behind end fits, ahead end fits);
    })

pub returns-clause-orders : goal.returns-clause-orders
returns-clause-orders c plans have = c.write.ensures.orders c.args.machine.now plans have
