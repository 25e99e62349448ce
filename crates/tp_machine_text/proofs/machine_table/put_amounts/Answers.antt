use Rattle.tp_machine_text.proofs.OwnNumbers.{feeders_fit}
use Rattle.tp_machine_text.proofs.machine_table.put_amounts.Goals as goal

pub stocks_table-requires-clause-known : goal.stocks_table-requires-clause-known
stocks_table-requires-clause-known c = let m = c.args.machine.now in rw c.as_slice-2.ensures (feeders_fit m.locations m.trays m.purges m.feeders m.good_feeders)
