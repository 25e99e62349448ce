use Rattle.toml.specs.View.{table_view}
use Rattle.tp_machine_text.proofs.Kept.{kept}
use Rattle.tp_machine_text.proofs.machine_reader.read_table.Goals as goal

pub machine_of-requires : goal.machine_of-requires
machine_of-requires c = kept (table_view c.args.table.now) (cc)
