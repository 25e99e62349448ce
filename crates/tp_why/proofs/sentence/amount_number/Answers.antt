use Rattle.std.proofs.Common.{ap, ◌∙◌}
use Rattle.std.specs.Prelude.{slice_get}
use Rattle.tp_machine_text.proofs.Found.{values_found}
use Rattle.tp_why.proofs.sentence.amount_number.Goals as goal

pub values-init : goal.values-init
values-init c =
    let start = c.into_iter-value-iterator.ensures.into_iter_gives ∙ c.values-values.ensures.rest in
    ap (λ ds. slice_get ds c.args.number) (values_found c.args.table.now.entries _ start)
