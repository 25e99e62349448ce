use Rattle.tp_machine_text.proofs.OwnNumbers.{feeders_fit, actions_fit}
use Rattle.tp_machine_text.proofs.machine_table.put_parts.Goals as goal

pub feeders_table-requires-clause-known : goal.feeders_table-requires-clause-known
feeders_table-requires-clause-known c = let m = c.args.machine.now in rw c.as_slice.ensures (feeders_fit m.locations m.trays m.purges m.feeders m.good_feeders)

pub actions_value-requires : goal.actions_value-requires
actions_value-requires c =
    let m = c.args.machine.now in
    rw (c.as_slice-3.ensures, c.as_slice-4.ensures) (actions_fit m.locations m.modules m.trays m.purges m.feeders m.resources m.actions m.ways m.holds)
