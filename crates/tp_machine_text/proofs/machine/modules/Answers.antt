use Rattle.std.specs.Prelude.{codes}
use Rattle.toml.specs.View.{table_view}
use Rattle.tp_machine_text.specs.Words.{elements_at}
use Rattle.tp_machine_text.proofs.KeptFacts.{names_wider}
use Rattle.tp_machine_text.proofs.machine.modules.Goals as goal

pub names_of-requires : goal.names_of-requires
names_of-requires c = rw c.values_at.ensures (names_wider (elements_at (codes "modules") (table_view c.args.table.now)) c.requires.modules)
