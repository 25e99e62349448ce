use Rattle.std.proofs.Common.{◌≡◌, ◌<◌, ◌+◌, ◌++◌, ◌∷◌, [], refl, sym, subst, ap, ◌∙◌, true, List, Option, Some, None, cond}
use Rattle.std.specs.Prelude.{IfSome, IsSomeAnd, MatchOption}
use Rattle.std.specs.Result.{IfOk}
use Rattle.std.proofs.lemmas.Slice.Eq.{bytes_eq-Decides}
use Rattle.tp_bounds.specs.declared.tree.Close.TheVariants.{Dead}
use Rattle.tp_bounds.specs.declared.tree.Head.TheVariants.{Act as ActHead}
use Rattle.tp_bounds.specs.declared.tree.TreeRow.{TreeRow}
use Rattle.tp_constraints.specs.Suffixes.{Suffix, with_action}
use Rattle.tp_machine.specs.ModuleUse.{action_at}
use Rattle.tp_placing.specs.Boards.{suffix_of}
use Rattle.tp_placing.specs.Calls.{CanGoOn}
use Rattle.tp_placing.proofs.StandFacts.{and-some}
use Rattle.tp_schedule.specs.Plans.{AreNamed}
use Rattle.tp_schedule.specs.Routes.{is_act_allowed}
use Rattle.tp_schedule.specs.declared.parts.Plan.{Plan}
use Rattle.tp_bound_laws.specs.Places.{action_due, is_name_of_act, state_before}
use Rattle.tp_bound_make.specs.TreeProgress.{Carries, IsEarly, IsEntered, IsOpen, PutsNode, Shows, below, branch_by, kids_of}
use Rattle.tp_bound_make.specs.declared.scene.ShowBranch.{ShowBranch}
use Rattle.tp_bound_make.proofs.ActFacts.{act-shows, dead-shows, found-steps, opened_below, skipped-shows}
use Rattle.tp_bound_make.proofs.CarryFacts.{act-refused, carries-act, own-suffix}
use Rattle.tp_bound_make.proofs.EarlyFacts.{has-places, memory-early, room-is}
use Rattle.tp_bound_make.proofs.EnterFacts.{early-at, enter-by, ok-none, ok-three}
use Rattle.tp_bound_make.proofs.ReasonFacts.{ok-map}
use Rattle.tp_bound_make.proofs.goal_steps.enter_act.Goals as goal
use Rattle.tp_bound_make.proofs.goal_steps.enter_act.Goals.{After-get, In-Ok}

pub returns-in_default-clause-entered : goal.returns-in_default-clause-entered
returns-in_default-clause-entered g c = λ x carried.
    skipped-shows c.args.scene.machine.now c.args.board.now.plans c.args.scene.ask.now c.args.scene.rooms.now.sums c.args.scene.limit c.args.nodes.now c.args.branch x c.args.act (sym c.in_default.is ∙ c.step_back.ensures.before)

-- the head's name is that of the action
named : (g : _) (c : After-get g) (rows : List TreeRow) → is_name_of_act c.args.scene.machine.now c.args.board.now.plans c.args.scene.ask.now rows c.get.result.now.name (action_at c.args.scene.machine.now c.args.act.0) ≡ true
named g c rows =
    ap (λ n. is_name_of_act c.args.scene.machine.now c.args.board.now.plans c.args.scene.ask.now rows c.get.result.now.name (action_at c.args.scene.machine.now n)) (sym c.from.ensures)
    ∙ ap (is_name_of_act c.args.scene.machine.now c.args.board.now.plans c.args.scene.ask.now rows c.get.result.now.name) c.get.ensures ∙ (bytes_eq-Decides c.get.result.now.name c.get.result.now.name).1 refl

found : (g : _) (c : After-get g) → Some c.in-Some.state ≡ cond (is_act_allowed c.args.scene.machine.now c.args.scene.ask.now.outs c.args.act) (state_before c.args.scene.ask.now.want c.args.branch.first (action_at c.args.scene.machine.now c.args.act.0)) None
found g c = sym c.in-Some.is ∙ c.step_back.ensures.before

pub returns-in_default-room-clause-entered : goal.returns-in_default-room-clause-entered
returns-in_default-room-clause-entered g c =
    let at = (goal.at.returns-in_default-room-clause-entered g c).After-get in
    let machine = c.args.scene.machine.now in
    let ask = c.args.scene.ask.now in
    let plans = c.args.board.now.plans in
    let r = c.args.branch in
    ok-none (c.put_dead.new.nodes ≡ c.args.nodes.now ++ record { depth = r.depth + 1; head = ActHead c.get.result.now.name; close = Dead } ∷ [])
    (λ o. (x : Suffix) → suffix_of c.args.board.now ≡ Some x → IsEntered g.N.Network.reading machine plans ask c.args.scene.rooms.now.sums c.args.scene.limit c.args.nodes.now c.put_dead.new.nodes c.args.board.now r
    (λ rows. action_due machine plans ask rows (branch_by r x) c.args.act) (λ _. []) o) c.put_dead.result c.put_dead.ensures.none c.put_dead.ensures.put
    (λ put x carried. dead-shows machine plans ask c.args.scene.rooms.now.sums c.args.scene.limit c.args.nodes.now c.put_dead.new.nodes r x c.args.act c.in-Some.state c.get.result.now.name (named g at) c.in-Some.ensures.known (found g at) (sym c.room.ensures ∙ c.in_default-room.is) put)

pub open_action-requires-clause-ready : goal.open_action-requires-clause-ready
open_action-requires-clause-ready g c =
    let x = c.requires.carries.0 in
    let k = c.requires.carries.1 in
    and-some c.args.board.now.ask c.args.scene.ask.now (λ ask. IsSomeAnd (suffix_of c.args.board.now) (CanGoOn ask)) c.requires.set.asked
    (and-some (suffix_of c.args.board.now) x (CanGoOn c.args.scene.ask.now) k.carried (record { going = k.going; fewer = c.requires.fewer x k.carried }))

pub put_carried-requires-clause-set : goal.put_carried-requires-clause-set
put_carried-requires-clause-set g c = record { stands = c.open_action.ensures.stands; asked = c.open_action.ensures.loaded.ask ∙ c.requires.set.asked; goal = c.requires.set.goal }

pub put_carried-requires-clause-named : goal.put_carried-requires-clause-named
put_carried-requires-clause-named g c = subst AreNamed (sym c.open_action.ensures.loaded.plans) c.requires.named

-- what the board carries with the action
opened : (g : _) (c : In-Ok g) → Carries g.N.Network.reading c.args.scene.machine.now c.args.scene.ask.now c.open_action.new.self (opened_below c.args.branch c.args.act c.in-Some.state)
    (with_action c.args.act c.in-Some-room.room c.requires.carries.0) × (below (opened_below c.args.branch c.args.act c.in-Some.state) < below c.args.branch)
opened g c =
    let machine = c.args.scene.machine.now in
    let ask = c.args.scene.ask.now in
    let x = c.requires.carries.0 in
    let k = c.requires.carries.1 in
    let steps = found-steps machine ask c.args.act c.args.branch.first c.in-Some.state (sym c.in-Some.is ∙ c.step_back.ensures.before) in
    carries-act g.N.Network.reading g.N.Network.refutes machine ask c.args.board.now c.open_action.new.self c.args.branch (opened_below c.args.branch c.args.act c.in-Some.state) x c.args.act c.in-Some-room.room
    c.in-Some.state k c.requires.known c.in-Some.ensures.known (c.requires.fewer x k.carried)
    (has-places g.N.Network.reading machine ask c.args.board.now c.requires.set c.args.branch x k c.requires.placed) steps.1 steps.0
    (room-is machine ask c.args.scene.rooms.now.sums c.in-Some.state c.in-Some-room.room c.requires.fits.rooms c.in-Some.ensures.known (sym c.room.ensures ∙ c.in-Some-room.is)) c.open_action.ensures.loaded c.in-Ok.ensures.suffix refl

pub put_carried-requires-clause-carries : goal.put_carried-requires-clause-carries
put_carried-requires-clause-carries g c =
    let at = (goal.at.put_carried-requires-clause-carries g c).In-Ok in
    (with_action c.args.act c.in-Some-room.room c.requires.carries.0, (opened g at).0)

pub put_late-requires-clause-set : goal.put_late-requires-clause-set
put_late-requires-clause-set g c = record { stands = c.open_action.ensures.stands; asked = c.open_action.ensures.loaded.ask ∙ c.requires.set.asked; goal = c.requires.set.goal }

pub put_late-requires-clause-named : goal.put_late-requires-clause-named
put_late-requires-clause-named g c = subst AreNamed (sym c.open_action.ensures.loaded.plans) c.requires.named

pub put_late-requires-clause-refused : goal.put_late-requires-clause-refused
put_late-requires-clause-refused g c =
    let x = c.requires.carries.0 in
    let k = c.requires.carries.1 in (
      with_action c.args.act c.in-Some-room.room x,
      act-refused g.N.Network.reading g.N.Network.refutes c.args.scene.machine.now c.args.scene.ask.now c.args.board.now c.open_action.new.self c.args.branch x c.args.act c.in-Some-room.room k
          (c.requires.fewer x k.carried) c.in-Err.ensures.shown,
    )

pub returns-in-Ok-put_late-clause-entered : goal.returns-in-Ok-put_late-clause-entered
returns-in-Ok-put_late-clause-entered g c =
    let at = (goal.at.returns-in-Ok-put_late-clause-entered g c).After-get in
    let machine = c.args.scene.machine.now in
    let ask = c.args.scene.ask.now in
    let limit = c.args.scene.limit in
    let plans = c.args.board.now.plans in
    let sums = c.args.scene.rooms.now.sums in
    let r = c.args.branch in
    let x0 = c.requires.carries.0 in
    let k = c.requires.carries.1 in
    let room = c.in-Some-room.room in
    let b = branch_by (opened_below r c.args.act c.in-Some.state) (with_action c.args.act room x0) in
    let refused = act-refused g.N.Network.reading g.N.Network.refutes machine ask c.args.board.now c.open_action.new.self r x0 c.args.act room k (c.requires.fewer x0 k.carried) c.in-Err.ensures.shown in
    let put = subst (λ ps. PutsNode machine ps ask limit c.args.nodes.now c.put_late.new.nodes b (ActHead c.get.result.now.name) (λ _. [])) c.open_action.ensures.loaded.plans (c.in-Ok-put_late.ensures b refl refused) in
    own-suffix (suffix_of c.args.board.now) x0 k.carried (λ x. Shows machine plans ask sums limit c.args.nodes.now c.put_late.new.nodes (λ rows. action_due machine plans ask rows (branch_by r x) c.args.act) (λ _. []))
    (act-shows machine plans ask sums limit c.args.nodes.now c.put_late.new.nodes r x0 c.args.act c.in-Some.state c.get.result.now.name (named g at) c.in-Some.ensures.known (found g at) room (sym c.room.ensures ∙ c.in-Some-room.is) (λ _. []) put)

pub returns-in-Ok-clause-entered : goal.returns-in-Ok-clause-entered
returns-in-Ok-clause-entered g c =
    let at = (goal.at.returns-in-Ok-clause-entered g c).After-get in
    let machine = c.args.scene.machine.now in
    let ask = c.args.scene.ask.now in
    let limit = c.args.scene.limit in
    let plans = c.args.board.now.plans in
    let sums = c.args.scene.rooms.now.sums in
    let old = c.args.nodes.now in
    let new = c.put_carried.new.nodes in
    let r = c.args.branch in
    let act = c.args.act in
    let room = c.in-Some-room.room in
    let child = opened_below r act c.in-Some.state in
    let x0 = c.requires.carries.0 in
    let k = c.requires.carries.1 in
    let y = with_action act room x0 in
    let head = ActHead c.get.result.now.name in
    let carried = opened g (goal.at.returns-in-Ok-clause-entered g c).In-Ok in
    let Put = λ (ps : List Plan) (o : Option ShowBranch). (z : Suffix) → Carries g.N.Network.reading machine ask c.open_action.new.self child z
    → MatchOption o (PutsNode machine ps ask limit old new (branch_by child z) head (λ _. [])) (λ q. (q ≡ child) × PutsNode machine ps ask limit old new (branch_by child z) head (λ rows. kids_of machine ps ask rows (branch_by child z))) in
    let Open = λ (o : Option ShowBranch). IfSome o (λ _. IsOpen machine ask child) in
    let Early = λ (o : Option ShowBranch). IfSome o (λ _. IsEarly machine ask limit c.open_action.new.self) in
    let Entered = λ (o : Option ShowBranch) (x : Suffix). IsEntered g.N.Network.reading machine plans ask sums limit old new c.put_carried.new.board r
    (λ rows. action_due machine plans ask rows (branch_by r x) act) (λ _. []) o in
    let put = subst (λ ps. IfOk c.put_carried.result (Put ps)) c.open_action.ensures.loaded.plans c.put_carried.ensures.put in
    ok-map (λ o. Put plans o × (Open o × Early o)) (λ o. (x : Suffix) → suffix_of c.args.board.now ≡ Some x → Entered o x) c.put_carried.result
    (λ o both. own-suffix (suffix_of c.args.board.now) x0 k.carried (Entered o)
    (enter-by g.N.Network.reading machine plans ask sums limit old new o c.open_action.new.self c.put_carried.new.board r child y head
    (λ rows. action_due machine plans ask rows (branch_by r x0) act) (λ _. []) carried.0 c.put_carried.ensures.same c.put_carried.ensures.since.load.plans carried.1
    (act-shows machine plans ask sums limit old new r x0 act c.in-Some.state c.get.result.now.name (named g at) c.in-Some.ensures.known (found g at) room (sym c.room.ensures ∙ c.in-Some-room.is)) (both.0 y carried.0) both.1.0 (early-at machine plans ask limit c.open_action.new.self y o both.1.1 carried.0.carried c.open_action.ensures.loaded.plans)))
    (ok-three (Put plans) Open Early c.put_carried.result put c.put_carried.ensures.splits c.put_carried.ensures.split_early)

pub returns-in_default-room-clause-early : goal.returns-in_default-room-clause-early
returns-in_default-room-clause-early g c = memory-early c.args.scene.machine.now c.args.board.now.plans c.args.scene.ask.now c.args.scene.limit c.put_dead.result c.put_dead.ensures.memory
