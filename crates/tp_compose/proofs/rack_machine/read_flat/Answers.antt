use Rattle.toml.specs.View.{table_view}
use Rattle.std.proofs.Common.{◌≡◌}
use Rattle.tp_compose.proofs.OneRack.{rack_made, rack_refused}
use Rattle.tp_compose.proofs.rack_machine.read_flat.Goals as goal

pub returns-in-Ok-clause-ok : goal.returns-in-Ok-clause-ok
returns-in-Ok-clause-ok c = rack_made (table_view c.args.table.now) (table_view c.args.made.now) c.in-Ok.machine c.requires.kept c.requires.made c.in-Ok.ensures.ok c.in-Ok.ensures.kept

pub returns-in-Err-Rule-clause-flat : goal.returns-in-Err-Rule-clause-flat
returns-in-Err-Rule-clause-flat c = λ n same.
    let e : c.in-Err-Rule.rule ≡ n = cc in
    rack_refused (table_view c.args.table.now) (table_view c.args.made.now) n c.requires.made (c.in-Err-Rule.ensures.rule n (cc))
