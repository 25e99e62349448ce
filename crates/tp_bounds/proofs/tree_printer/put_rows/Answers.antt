use Rattle.tp_bounds.specs.Lines.{IsRow, row_text}
use Rattle.tp_bounds.proofs.More.{all_more, text_more}
use Rattle.tp_bounds.proofs.tree_printer.put_rows.Goals as goal

pub loop-row-preserved : goal.loop-row-preserved
loop-row-preserved c =
    let item = c.row-item.result in
    let lt = c.loop-row-test.true in
    record {
      written = text_more row_text c.args.rows.now c.loop-row.row-index item item c.args.out.now.items c.loop-row.out.items c.put_row.new.out.items lt c.row-item.is c.loop-row.invariant.written c.in_ok-put_row.ensures.written;
      spelled = all_more IsRow c.args.rows.now c.loop-row.row-index item item lt c.row-item.is c.loop-row.invariant.spelled c.in_ok-put_row.ensures.spelled;
    }
