use Rattle.tp_machine_text.proofs.Built.{more_names}
use Rattle.tp_machine_text.proofs.table_parts.names_value.Goals as goal

pub names-preserved : goal.names-preserved
names-preserved c =
    more_names c.names.array.items c.push.new.self.items c.in_ok-name_value.field-0 c.args.names.now c.names.at c.get.result
    c.names.invariant c.in_ok-name_value.ensures c.get.ensures c.in_ok-push.ensures.items
