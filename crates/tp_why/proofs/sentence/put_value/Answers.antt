use Rattle.std.proofs.Common.{◌≡◌, ◌++◌, ◌∙◌, OnOk, ap, string_bytes, subst}
use Rattle.toml.specs.View.{array_view, table_view, view}
use Rattle.toml.proofs.Views.{view-Array, view-Table}
use Rattle.tp_why.proofs.Shown.{array_shown, table_shown}
use Rattle.tp_why.proofs.sentence.put_value.Goals as goal

pub returns-in-Array : goal.returns-in-Array
returns-in-Array c = subst (λ t. OnOk c.put_count.result (string_bytes c.put_count.new.out ≡ string_bytes c.args.out.now ++ t))
    (array_shown (view c.args.value.now) (array_view c.in-Array.field-0) c.count_items.result (ap view c.in-Array.is ∙ view-Array c.in-Array.field-0) c.count_items.ensures) c.put_count.ensures

pub returns-in-Table : goal.returns-in-Table
returns-in-Table c = subst (λ t. OnOk c.put_count-in-Table.result (string_bytes c.put_count-in-Table.new.out ≡ string_bytes c.args.out.now ++ t))
    (table_shown (view c.args.value.now) (table_view c.in-Table.field-0) c.count_keys.result (ap view c.in-Table.is ∙ view-Table c.in-Table.field-0) c.count_keys.ensures) c.put_count-in-Table.ensures
