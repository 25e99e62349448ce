use Rattle.tp_machine_text.proofs.OwnNumbers.{trays_fit, purges_fit}
use Rattle.tp_machine_text.proofs.machine_table.put_locations.Goals as goal

pub locs_value-requires : goal.locs_value-requires
locs_value-requires c = let m = c.args.machine.now in rw c.as_slice.ensures (trays_fit m.locations m.trays m.good_trays)

pub locs_value-requires-2 : goal.locs_value-requires-2
locs_value-requires-2 c = let m = c.args.machine.now in rw c.as_slice-2.ensures (purges_fit m.locations m.trays m.purges m.good_purges)
