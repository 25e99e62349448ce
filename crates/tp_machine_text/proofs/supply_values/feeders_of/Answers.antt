use Rattle.std.proofs.Common.{map, arith}
use Rattle.std.proofs.lemmas.Grind.{common_steps}
use Rattle.std.proofs.lemmas.List.{length-map}
use Rattle.toml.specs.View.{view}
use Rattle.tp_machine_text.specs.Words.{text_of}
use Rattle.tp_machine_text.proofs.Sorted.{few_keys, keys_rise, length_keys}
use Rattle.tp_machine_text.proofs.supply_values.feeders_of.Goals as goal

pub push-requires : goal.push-requires
push-requires c =
    let es = c.args.table.now.entries in
    let names = map text_of (map view c.args.locations.now) in
    let few = few_keys names es c.iter-entries.ensures.ordered c.requires.known in
    omega (arith, few, length_keys es, length-map (map view c.args.locations.now) text_of, length-map c.args.locations.now view)

pub returns-clause-rise : goal.returns-clause-rise
returns-clause-rise c = keys_rise c.args.table.now.entries c.iter-entries.ensures.ordered

pub entries-preserved : goal.entries-preserved
entries-preserved c = record { counted = grind (arith, common_steps); named = grind (arith, common_steps); whole = grind (arith, common_steps) }
