use Rattle.tp_machine_text.proofs.NameBytes.{name_utf8}
use Rattle.tp_snapshot.proofs.json_values.name_value.Goals as goal

pub text_value-requires : goal.text_value-requires
text_value-requires c = rw c.as_bytes.ensures.value (name_utf8 c.args.name.now c.as_bytes.ensures.valid)
