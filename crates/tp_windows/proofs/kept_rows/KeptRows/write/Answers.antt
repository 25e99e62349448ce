use Rattle.std.proofs.Common.{ap, length, map, sym, ◌∙◌, ◌++◌, drop, take, subst, List}
use Rattle.std.specs.Prelude.{◌≡◌}
use Rattle.tp_base.proofs.LeastFacts.{mut_items}
use Rattle.tp_constraints.specs.Numbers.{table_of}
use Rattle.tp_windows.specs.Arrays.{windows_by}
use Rattle.tp_windows.specs.KeptRows.{AreRowsOf, HaveOrders}
use Rattle.tp_windows.specs.RowLists.{rows_from, timed}
use Rattle.tp_windows.specs.declared.gaps.KeptHold.{KeptHold}
use Rattle.tp_windows.proofs.RowCuts.{rows-map}
use Rattle.tp_windows.proofs.RowTimes.{orders_timed, rows_timed}
use Rattle.tp_windows.proofs.kept_rows.KeptRows.write.Goals as goal
use Rattle.tp_windows.proofs.kept_rows.KeptRows.write.Goals.{After-write_times}

abbrev written : (c : After-write_times) → List KeptHold
written c = take c.self.inside.holds.len (c.write_times.new.holds ++ drop (length c.write_times.new.holds) c.self.inside.holds.items)

rows-after : (c : After-write_times) → rows_from (written c) 0 c.self.inside.ends.items ≡ map (map (timed c.args.ranges.now.lows.items c.args.ranges.now.highs.items)) (rows_from c.self.inside.holds.items 0 c.self.inside.ends.items)
rows-after c =
    let f : KeptHold → KeptHold = timed c.args.ranges.now.lows.items c.args.ranges.now.highs.items in
    let holds = c.self.inside.holds in
    let ends = c.self.inside.ends.items in
    let long = c.write_times.auto.holds ∙ ap length c.deref_mut.ensures.value ∙ sym holds.ok.0 in
    let is : written c ≡ map f holds.items = mut_items holds.len c.write_times.new.holds holds.items long ∙ c.write_times.ensures.written ∙ ap (map f) c.deref_mut.ensures.value in
    ap (λ hs. rows_from hs 0 ends) is ∙ rows-map f holds.items 0 ends

pub returns-clause-orders : goal.returns-clause-orders
returns-clause-orders c machine plans have' =
    let have = rw (← c.self.view_is) at have' in
    subst (HaveOrders machine plans) (sym (rows-after (goal.at.returns-clause-orders c).After-write_times)) (orders_timed c.args.ranges.now.lows.items c.args.ranges.now.highs.items machine plans (rows_from c.self.inside.holds.items 0 c.self.inside.ends.items) have)

pub returns-clause-rows : goal.returns-clause-rows
returns-clause-rows c machine plans table have' =
    let have = rw (← c.self.view_is) at have' in
    let lows = c.args.ranges.now.lows.items in
    let highs = c.args.ranges.now.highs.items in
    subst (AreRowsOf machine plans (windows_by (table_of plans) lows highs)) (sym (rows-after (goal.at.returns-clause-rows c).After-write_times)) (rows_timed lows highs machine plans (rows_from c.self.inside.holds.items 0 c.self.inside.ends.items) table.differ have)
