use Rattle.tp_snapshot.proofs.json_values.text_value.Goals as goal

pub unreachable-requires : goal.unreachable-requires
unreachable-requires c = c.in-Err.ensures.cases.0 c.requires
