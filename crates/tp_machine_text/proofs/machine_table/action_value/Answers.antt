use Rattle.std.proofs.Common.{length}
use Rattle.tp_machine_text.specs.Printed.{resource_names}
use Rattle.tp_machine_text.proofs.Built.{no_entries, action_built}
use Rattle.tp_machine_text.proofs.OwnNumbers.{knows}
use Rattle.tp_machine_text.proofs.machine_table.action_value.Goals as goal

pub put_way-requires : goal.put_way-requires
put_way-requires c =
    let k = knows (length c.args.locations.now) (length c.args.modules.now) (length c.args.resources.now) c.args.action.now c.requires in
    record { from = k.from; to = k.to; of_module = k.of_module }

pub holds_value-requires : goal.holds_value-requires
holds_value-requires c =
    rw c.as_slice.ensures (knows (length c.args.locations.now) (length c.args.modules.now) (length c.args.resources.now) c.args.action.now c.requires).holds

pub returns : goal.returns
returns c =
    action_built c.args.locations.now c.args.modules.now (resource_names c.args.resources.now) c.args.action.now _ _ _ _ _ _
    (no_entries c.new-table.result.entries c.new-table.ensures.empty) c.in_ok-put_way.ensures c.in_ok-put_work.ensures
    (rw c.as_slice.ensures at c.in_ok-holds.ensures) c.in_ok-put.ensures c.from.ensures
