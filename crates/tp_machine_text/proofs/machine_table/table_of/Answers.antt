use Rattle.tp_machine_text.proofs.Built.{no_entries, machine_built}
use Rattle.tp_machine_text.proofs.machine_table.table_of.Goals as goal

pub returns : goal.returns
returns c =
    machine_built c.args.machine.now _ _ _ _ _ (no_entries c.new-table.result.entries c.new-table.ensures.empty) c.in_ok-put_numbers.ensures c.in_ok-put_locations.ensures c.in_ok-put_parts.ensures c.in_ok-put_amounts.ensures
