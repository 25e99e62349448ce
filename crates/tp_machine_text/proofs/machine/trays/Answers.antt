use Rattle.toml.specs.View.{table_view}
use Rattle.tp_machine_text.proofs.KeptFacts.{few_locations, trays_from}
use Rattle.tp_machine_text.proofs.Given.{few_seen, few_known}
use Rattle.tp_machine_text.proofs.machine.trays.Goals as goal

pub locs_of-requires : goal.locs_of-requires
locs_of-requires c =
    let t = table_view c.args.table.now in
    record {
      few = few_seen _ _ 256 c.values_at.ensures (few_locations t c.requires);
      within = few_known t c.requires _ _ (trays_from t c.requires) c.values_at-2.ensures;
    }
