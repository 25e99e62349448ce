use denote.Ref.{Bor}
use Rattle.std.proofs.Common.{◌≡◌, Some, Vec, Global, ap, sym, ◌∙◌}
use Rattle.std.specs.Prelude.{option_map}
use Rattle.serde_json.specs.Find.{as_array, get}
use Rattle.serde_json.specs.View.{items_view, view}
use Rattle.serde_json.specs.declared.value.Value.{Value}
use Rattle.tp_snapshot.proofs.Seen.{array-at}
use Rattle.tp_snapshot.proofs.json_lookup.values_at.Goals as goal

pub returns-in-Some : goal.returns-in-Some
returns-in-Some c =
    let at : get c.args.key.now (view c.args.value.now) ≡ Some (view c.in_ok-value_at.field-0.now) = sym c.value_at.ensures ∙ ap (option_map (λ (v : Bor Value). view v.now)) c.in_ok-value_at.was in
    let is : as_array (view c.in_ok-value_at.field-0.now) ≡ Some (items_view c.in-Some.values.now.items) = sym c.as_array.ensures ∙ ap (option_map (λ (v : Bor (Vec Value Global)). items_view v.now.items)) c.in-Some.is in
    rw (c.as_slice.ensures.value) (sym (array-at c.args.key.now (view c.args.value.now) c.in_ok-value_at.field-0.now c.in-Some.values.now.items at is))
