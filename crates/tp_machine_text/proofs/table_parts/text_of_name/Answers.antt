use Rattle.tp_machine_text.proofs.NameBytes.{name_utf8}
use Rattle.tp_machine_text.proofs.table_parts.text_of_name.Goals as goal

pub unreachable-requires : goal.unreachable-requires
unreachable-requires c = c.in-Err.ensures.cases.0 (rw c.as_bytes.ensures.value (name_utf8 c.args.name.now c.as_bytes.ensures.valid))
