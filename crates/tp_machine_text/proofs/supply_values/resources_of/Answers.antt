use Rattle.std.proofs.Common.{arith}
use Rattle.std.proofs.lemmas.Grind.{common_steps}
use Rattle.tp_machine_text.proofs.Sorted.{keys_rise, length_keys}
use Rattle.tp_machine_text.proofs.supply_values.resources_of.Goals as goal

pub entries-init : goal.entries-init
entries-init c =
    let counted = length_keys c.args.table.now.entries in
    record { counted = grind (arith, common_steps); named = grind (arith, common_steps); whole = grind (arith, common_steps) }

pub returns-clause-rise : goal.returns-clause-rise
returns-clause-rise c = keys_rise c.args.table.now.entries c.iter-entries.ensures.ordered

pub entries-preserved : goal.entries-preserved
entries-preserved c = record { counted = grind (arith, common_steps); named = grind (arith, common_steps); whole = grind (arith, common_steps) }
