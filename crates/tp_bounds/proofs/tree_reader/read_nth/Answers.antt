use Rattle.std.proofs.Common.{◌≡◌, Ok, Some, refl, ap, subst, ◌∙◌}
use Rattle.tp_bounds.specs.declared.line.BoundLine.TheVariants.{Room}
use Rattle.tp_bounds.specs.Lines.{ReadsBound}
use Rattle.tp_bounds.proofs.TreeFacts.{row_behind}
use Rattle.tp_bounds.proofs.tree_reader.read_nth.Goals as goal

pub returns-in-Ok-Some-Room : goal.returns-in-Ok-Some-Room
returns-in-Ok-Some-Room c =
    let row = c.in-Ok-Some-Room.field-0-0-0 in
    let is : c.in-Ok-Some-Room.field-0 ≡ Some (Room row) = c.in-Ok-Some-Room.field-0-is ∙ ap (λ told. Some told) c.in-Ok-Some-Room.field-0-0-is in
    let told = subst (λ told. ReadsBound c.args.line.now (Ok told)) is c.in-Ok-Some-Room.ensures in
    (refl, row_behind c.args.nodes c.args.line.now row c.if-nodes-gt0.true told.0 told.1)
