use Rattle.std.proofs.Common.{ap, ◌∙◌, arith}
use Rattle.std.proofs.lemmas.Grind.{common_steps}
use Rattle.toml.specs.View.{table_view}
use Rattle.tp_machine_text.specs.Slips.{first_in}
use Rattle.tp_machine_text.specs.MachineSlips.{amount}
use Rattle.tp_machine_text.proofs.Found.{length_data, values_counted, values_found}
use Rattle.tp_machine_text.proofs.looks.all_amounts.Goals as goal

pub values-init : goal.values-init
values-init c =
    let start = c.into_iter-value-iterator.ensures.into_iter_gives ∙ c.values-values.ensures.rest in
    record {
      counted = values_counted c.args.members.now.entries _ start;
      looked = ap (first_in (amount (table_view c.args.table.now) c.args.key c.args.want) 0) (values_found c.args.members.now.entries _ start);
    }

pub values-preserved : goal.values-preserved
values-preserved c = record {
  counted = grind (arith, common_steps);
  looked = grind (arith, common_steps);
}

pub overflow_add-number : goal.overflow_add-number
overflow_add-number c = omega (arith, c.values.invariant.counted, length_data c.args.members.now.entries)
