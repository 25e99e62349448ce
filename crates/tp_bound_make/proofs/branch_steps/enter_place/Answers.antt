use Rattle.std.proofs.Common.{◌≡◌, ◌+◌, [], refl, sym, subst, ap, ◌∙◌, arith, true, List, Option, Some}
use Rattle.std.specs.Prelude.{slice_get}
use Rattle.std.proofs.lemmas.Slice.Eq.{bytes_eq-Decides}
use Rattle.tp_bounds.specs.declared.tree.Head.TheVariants.{At as AtHead}
use Rattle.tp_bounds.specs.declared.tree.TreeRow.{TreeRow}
use Rattle.tp_constraints.specs.Suffixes.{Suffix, with_place}
use Rattle.tp_placing.proofs.StandFacts.{and-some}
use Rattle.tp_placing.specs.Calls.{CanPlace}
use Rattle.tp_placing.specs.Boards.{suffix_of}
use Rattle.tp_schedule.specs.Plans.{AreNamed}
use Rattle.tp_bound_laws.specs.Places.{places_from, is_name_of_resource}
use Rattle.std.specs.Prelude.{IfSome, MatchOption}
use Rattle.std.specs.Result.{IfOk}
use Rattle.tp_schedule.specs.declared.parts.Plan.{Plan}
use Rattle.tp_bound_make.specs.declared.scene.ShowBranch.{ShowBranch}
use Rattle.tp_bound_make.specs.TreeProgress.{Carries, IsEarly, IsEntered, IsOpen, PutsNode, Shows, branch_by, kids_of}
use Rattle.tp_bound_make.proofs.CarryFacts.{carries-place, hold-known, may-place, own-suffix, place-refused}
use Rattle.tp_bound_make.proofs.EnterFacts.{early-at, enter-by, ok-three, place-shows, placed_below}
use Rattle.tp_bound_make.proofs.ReasonFacts.{ok-map}
use Rattle.tp_bound_make.proofs.branch_steps.enter_place.Goals as goal
use Rattle.tp_bound_make.proofs.branch_steps.enter_place.Goals.{After-get}

pub get-requires : goal.get-requires
get-requires g c = let h = hold-known c.args.scene.machine.now c.args.branch c.args.rule c.requires.next in let f = c.from.ensures in omega (arith, h, f)

pub place-requires-clause-next : goal.place-requires-clause-next
place-requires-clause-next g c =
    let x = c.requires.carries.0 in
    let k = c.requires.carries.1 in
    and-some (suffix_of c.args.board.now) x (λ y. CanPlace c.args.scene.machine.now c.args.board.now.plans y c.args.branch.places c.args.place) k.carried
    (may-place g.N.Network.reading g.N.Network.refutes c.args.scene.machine.now c.args.scene.ask.now c.args.board.now c.args.branch x c.args.rule c.args.place k c.requires.next (c.requires.within x k.carried))

pub put_carried-requires-clause-named : goal.put_carried-requires-clause-named
put_carried-requires-clause-named g c = subst AreNamed (sym c.place.ensures.loaded.plans) c.requires.named

pub put_carried-requires-clause-carries : goal.put_carried-requires-clause-carries
put_carried-requires-clause-carries g c =
    let x = c.requires.carries.0 in
    let k = carries-place g.N.Network.reading g.N.Network.refutes c.args.scene.machine.now c.args.scene.ask.now c.args.board.now c.place.new.self c.args.branch (placed_below c.args.branch) x c.args.rule c.args.place
    c.requires.carries.1 c.requires.next (c.requires.within x c.requires.carries.1.carried) c.place.ensures.loaded c.in-Ok.ensures.suffix refl in
    (with_place c.args.place x, k.0)

pub put_late-requires-clause-named : goal.put_late-requires-clause-named
put_late-requires-clause-named g c = subst AreNamed (sym c.place.ensures.loaded.plans) c.requires.named

pub put_late-requires-clause-refused : goal.put_late-requires-clause-refused
put_late-requires-clause-refused g c =
    let x = c.requires.carries.0 in
    (with_place c.args.place x, place-refused g.N.Network.reading g.N.Network.refutes c.args.scene.machine.now c.args.scene.ask.now c.args.board.now c.place.new.self c.args.branch x c.args.place c.requires.carries.1 c.in-Err.ensures.shown)

-- the head's name is that of the resource
named : (g : _) (c : After-get g) (rows : List TreeRow) → is_name_of_resource c.args.scene.machine.now c.args.board.now.plans c.args.scene.ask.now rows c.get.result.now.name (slice_get c.args.scene.machine.now.resources c.args.rule.resource.0) ≡ true
named g c rows =
    ap (λ n. is_name_of_resource c.args.scene.machine.now c.args.board.now.plans c.args.scene.ask.now rows c.get.result.now.name (slice_get c.args.scene.machine.now.resources n)) (sym c.from.ensures)
    ∙ ap (is_name_of_resource c.args.scene.machine.now c.args.board.now.plans c.args.scene.ask.now rows c.get.result.now.name) c.get.ensures ∙ (bytes_eq-Decides c.get.result.now.name c.get.result.now.name).1 refl

pub returns-in-Ok-put_late-clause-entered : goal.returns-in-Ok-put_late-clause-entered
returns-in-Ok-put_late-clause-entered g c =
    let machine = c.args.scene.machine.now in
    let ask = c.args.scene.ask.now in
    let limit = c.args.scene.limit in
    let plans = c.args.board.now.plans in
    let x0 = c.requires.carries.0 in
    let k = c.requires.carries.1 in
    let place = c.args.place in
    let refused = place-refused g.N.Network.reading g.N.Network.refutes machine ask c.args.board.now c.place.new.self c.args.branch x0 place k c.in-Err.ensures.shown in
    let put = subst (λ ps. PutsNode machine ps ask limit c.args.nodes.now c.put_late.new.nodes (branch_by (placed_below c.args.branch) (with_place place x0)) (AtHead c.get.result.now.name place place) (λ _. [])) c.place.ensures.loaded.plans
    (c.in-Ok-put_late.ensures (branch_by (placed_below c.args.branch) (with_place place x0)) refl refused) in
    own-suffix (suffix_of c.args.board.now) x0 k.carried
    (λ x. Shows machine plans ask c.args.scene.rooms.now.sums limit c.args.nodes.now c.put_late.new.nodes (λ rows. places_from machine plans ask rows (branch_by c.args.branch x) c.args.rule place) (λ rows. places_from machine plans ask rows (branch_by c.args.branch x) c.args.rule (place + 1)))
    (place-shows machine plans ask c.args.scene.rooms.now.sums limit c.args.nodes.now c.put_late.new.nodes c.args.branch x0 c.args.rule place c.get.result.now.name (named g (goal.at.returns-in-Ok-put_late-clause-entered g c).After-get) (c.requires.within x0 k.carried)
    (λ _. []) put)

pub returns-in-Ok-clause-entered : goal.returns-in-Ok-clause-entered
returns-in-Ok-clause-entered g c =
    let machine = c.args.scene.machine.now in
    let ask = c.args.scene.ask.now in
    let limit = c.args.scene.limit in
    let plans = c.args.board.now.plans in
    let sums = c.args.scene.rooms.now.sums in
    let old = c.args.nodes.now in
    let new = c.put_carried.new.nodes in
    let r = c.args.branch in
    let child = placed_below r in
    let x0 = c.requires.carries.0 in
    let k = c.requires.carries.1 in
    let place = c.args.place in
    let y = with_place place x0 in
    let head = AtHead c.get.result.now.name place place in
    let carried = carries-place g.N.Network.reading g.N.Network.refutes machine ask c.args.board.now c.place.new.self r child x0 c.args.rule place k c.requires.next (c.requires.within x0 k.carried) c.place.ensures.loaded c.in-Ok.ensures.suffix refl in
    let name = named g (goal.at.returns-in-Ok-clause-entered g c).After-get in
    let Put = λ (ps : List Plan) (o : Option ShowBranch). (z : Suffix) → Carries g.N.Network.reading machine ask c.place.new.self child z
    → MatchOption o (PutsNode machine ps ask limit old new (branch_by child z) head (λ _. [])) (λ q. (q ≡ child) × PutsNode machine ps ask limit old new (branch_by child z) head (λ rows. kids_of machine ps ask rows (branch_by child z))) in
    let Open = λ (o : Option ShowBranch). IfSome o (λ _. IsOpen machine ask child) in
    let Early = λ (o : Option ShowBranch). IfSome o (λ _. IsEarly machine ask limit c.place.new.self) in
    let Entered = λ (o : Option ShowBranch) (x : Suffix). IsEntered g.N.Network.reading machine plans ask sums limit old new c.put_carried.new.board r
    (λ rows. places_from machine plans ask rows (branch_by r x) c.args.rule place) (λ rows. places_from machine plans ask rows (branch_by r x) c.args.rule (place + 1)) o in
    let put = subst (λ ps. IfOk c.put_carried.result (Put ps)) c.place.ensures.loaded.plans c.put_carried.ensures.put in
    ok-map (λ o. Put plans o × (Open o × Early o)) (λ o. (x : Suffix) → suffix_of c.args.board.now ≡ Some x → Entered o x) c.put_carried.result
    (λ o both. own-suffix (suffix_of c.args.board.now) x0 k.carried (Entered o)
    (enter-by g.N.Network.reading machine plans ask sums limit old new o c.place.new.self c.put_carried.new.board r child y head
    (λ rows. places_from machine plans ask rows (branch_by r x0) c.args.rule place) (λ rows. places_from machine plans ask rows (branch_by r x0) c.args.rule (place + 1)) carried.0 c.put_carried.ensures.same c.put_carried.ensures.since.load.plans carried.1
    (place-shows machine plans ask sums limit old new r x0 c.args.rule place c.get.result.now.name name (c.requires.within x0 k.carried)) (both.0 y carried.0) both.1.0 (early-at machine plans ask limit c.place.new.self y o both.1.1 carried.0.carried c.place.ensures.loaded.plans)))
    (ok-three (Put plans) Open Early c.put_carried.result put c.put_carried.ensures.splits c.put_carried.ensures.split_early)
