use Rattle.std.proofs.Common.{◌∙◌, arith}
use Rattle.std.proofs.lemmas.Grind.{common_steps}
use Rattle.tp_machine_text.proofs.Sorted.{length_keys, keys_counted, keys_placed}
use Rattle.tp_machine_text.proofs.supply_values.place_of_key.Goals as goal

pub keys-init : goal.keys-init
keys-init c =
    let es = c.args.table.now.entries in
    let start = c.into_iter-key-iterator.ensures.into_iter_gives ∙ c.keys-keys.ensures.rest in
    record { counted = keys_counted es _ start; placed = keys_placed es _ c.args.text.now start }

pub overflow_add-place : goal.overflow_add-place
overflow_add-place c = omega (arith, length_keys c.args.table.now.entries)

pub keys-preserved : goal.keys-preserved
keys-preserved c = record {
  counted = grind (arith, common_steps);
  placed = grind (arith, common_steps);
}
