use Rattle.tp_machine_text.proofs.machine.locations.Goals as goal

pub names_of-requires : goal.names_of-requires
names_of-requires c = rw c.values_at.ensures c.requires.locations
