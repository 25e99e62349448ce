use Rattle.toml.specs.View.{table_view}
use Rattle.tp_machine_text.proofs.Built.{no_entries}
use Rattle.tp_compose.proofs.Built.{flat_built}
use Rattle.tp_compose.proofs.flat_table.flat_of.Goals as goal

pub returns : goal.returns
returns c =
    flat_built (table_view c.args.own.now) (table_view c.args.firsts.now) (table_view c.args.table.now) _ _ _ _ _ _ _ (no_entries c.new-flat.result.entries c.new-flat.ensures.empty)
    c.from.ensures c.in_ok-put.ensures c.in_ok-put_locations.ensures c.in_ok-put_supplies.ensures c.in_ok-put_actions.ensures c.in_ok-put_numbers.ensures
