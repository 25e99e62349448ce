use Rattle.std.proofs.Common.{◌≡◌, ◌∙◌, refl, sym, ap, arith, true, List}
use Rattle.std.specs.Prelude.{slice_get}
use Rattle.std.proofs.lemmas.Slice.Eq.{bytes_eq-Decides}
use Rattle.tp_bounds.specs.declared.tree.TreeRow.{TreeRow}
use Rattle.tp_schedule.specs.declared.parts.Plan.{Plan}
use Rattle.tp_bound_laws.specs.Places.{is_name_of_resource}
use Rattle.tp_bound_make.proofs.RangeFacts.{range-shows}
use Rattle.tp_bound_make.proofs.closed_places.Range.put.Goals as goal
use Rattle.tp_bound_make.proofs.closed_places.Range.put.Goals.{After-get-resource}

pub get-resource-requires : goal.get-resource-requires
get-resource-requires c = let h = c.requires.known in let f = c.from.ensures in omega (arith, h, f)

-- the head's name is that of the resource
named : (c : After-get-resource) (plans : List Plan) (rows : List TreeRow)
    → is_name_of_resource c.args.scene.machine.now plans c.args.scene.ask.now rows c.get-resource.result.now.name (slice_get c.args.scene.machine.now.resources c.args.places.rule.resource.0) ≡ true
named c plans rows =
    ap (λ n. is_name_of_resource c.args.scene.machine.now plans c.args.scene.ask.now rows c.get-resource.result.now.name (slice_get c.args.scene.machine.now.resources n)) (sym c.from.ensures)
    ∙ ap (is_name_of_resource c.args.scene.machine.now plans c.args.scene.ask.now rows c.get-resource.result.now.name) c.get-resource.ensures ∙ (bytes_eq-Decides c.get-resource.result.now.name c.get-resource.result.now.name).1 refl

pub returns-in-Ok-clause-shown : goal.returns-in-Ok-clause-shown
returns-in-Ok-clause-shown c = λ plans x place last r.
    let places = c.args.places in
    let range = c.args.self in
    let begins = r.begins in
    let reaches = r.reaches in
    let within = r.within in
    range-shows c.args.scene.machine.now plans c.args.scene.ask.now c.args.scene.rooms.now.sums c.args.scene.limit c.args.nodes.now c.put_node.new.nodes c.args.branch x places.rule places.lo range.hi c.get-resource.result.now.name range.close
    (named (goal.at.returns-in-Ok-clause-shown c).After-get-resource plans) (omega (arith, begins, reaches)) (omega (arith, within, last)) r.closes c.in-Ok.ensures
