use Rattle.std.proofs.Common.{◌≡◌, ◌++◌, ◌∷◌, [], refl, sym, subst, ap, ◌∙◌, arith, List, Option}
use Rattle.std.specs.Prelude.{IfSome, MatchOption}
use Rattle.std.specs.Result.{IfOk}
use Rattle.tp_bounds.specs.declared.tree.Close.TheVariants.{Dead}
use Rattle.tp_bounds.specs.declared.tree.Head.TheVariants.{Goal as GoalHead}
use Rattle.tp_bounds.specs.declared.tree.NamedState.{NamedState}
use Rattle.tp_constraints.specs.Suffixes.{Suffix, with_goal}
use Rattle.tp_schedule.specs.Plans.{AreNamed}
use Rattle.tp_schedule.specs.declared.parts.Plan.{Plan}
use Rattle.tp_bound_make.specs.Closes.{IsRefused}
use Rattle.tp_bound_make.specs.RoomRows.{named}
use Rattle.tp_bound_make.specs.TreeProgress.{Carries, IsEarly, IsGoalEntered, IsOpen, PutsNode, branch_by, kids_of}
use Rattle.tp_bound_make.specs.declared.scene.ShowBranch.{ShowBranch}
use Rattle.tp_bound_make.proofs.EarlyFacts.{memory-early, room-is}
use Rattle.tp_bound_make.proofs.EnterFacts.{early-at, ok-none, ok-three}
use Rattle.tp_bound_make.proofs.GoalShows.{carries-goal, dead-goal, goal-by, goal-shows, goal_below}
use Rattle.tp_bound_make.proofs.ReasonFacts.{ok-map}
use Rattle.tp_bound_make.proofs.goal_steps.enter_goal.Goals as goal

pub returns-in_default-clause-entered : goal.returns-in_default-clause-entered
returns-in_default-clause-entered g c =
    let machine = c.args.scene.machine.now in
    ok-none (c.put_dead.new.nodes ≡ c.args.nodes.now ++ record { depth = 0; head = GoalHead c.named.result; close = Dead } ∷ [])
    (IsGoalEntered g.N.Network.reading machine c.args.board.now.plans c.args.scene.ask.now c.args.scene.rooms.now.sums c.args.scene.limit c.args.nodes.now c.put_dead.new.nodes c.args.board.now c.args.goal)
    c.put_dead.result c.put_dead.ensures.none c.put_dead.ensures.put
    (λ put. dead-goal machine c.args.board.now.plans c.args.scene.ask.now c.args.scene.rooms.now.sums c.args.scene.limit c.args.nodes.now c.put_dead.new.nodes c.args.goal c.requires.known (sym c.room.ensures ∙ c.in_default.is)
    (put ∙ ap (λ (s : NamedState). c.args.nodes.now ++ record { depth = 0; head = GoalHead s; close = Dead } ∷ []) c.named.ensures))

pub put_carried-requires-clause-named : goal.put_carried-requires-clause-named
put_carried-requires-clause-named g c = subst AreNamed (sym c.open_goal.ensures.loaded.plans) c.requires.named

pub put_late-requires-clause-named : goal.put_late-requires-clause-named
put_late-requires-clause-named g c = subst AreNamed (sym c.open_goal.ensures.loaded.plans) c.requires.named

pub put_late-requires-clause-refused : goal.put_late-requires-clause-refused
put_late-requires-clause-refused g c = (with_goal c.in-Some.room, record { going = refl; few = omega arith; shown = c.in-Err.ensures.shown c.args.scene.machine.now c.requires.set.stands })

pub returns-in-Ok-put_late-clause-entered : goal.returns-in-Ok-put_late-clause-entered
returns-in-Ok-put_late-clause-entered g c =
    let machine = c.args.scene.machine.now in
    let ask = c.args.scene.ask.now in
    let limit = c.args.scene.limit in
    let room = c.in-Some.room in
    let b = branch_by (goal_below c.args.goal) (with_goal room) in
    let refused : IsRefused g.N.Network.refutes machine c.open_goal.new.self (with_goal room) = record { going = refl; few = omega arith; shown = c.in-Err.ensures.shown machine c.requires.set.stands } in
    let put = subst (λ ps. PutsNode machine ps ask limit c.args.nodes.now c.put_late.new.nodes b (GoalHead c.named.result) (λ _. [])) c.open_goal.ensures.loaded.plans (c.in-Ok-put_late.ensures b refl refused) in
    goal-shows machine c.args.board.now.plans ask c.args.scene.rooms.now.sums limit c.args.nodes.now c.put_late.new.nodes c.args.goal c.requires.known room (sym c.room.ensures ∙ c.in-Some.is) (λ _. [])
    (subst (λ s. PutsNode machine c.args.board.now.plans ask limit c.args.nodes.now c.put_late.new.nodes b (GoalHead s) (λ _. [])) c.named.ensures put)

pub returns-in-Ok-clause-entered : goal.returns-in-Ok-clause-entered
returns-in-Ok-clause-entered g c =
    let machine = c.args.scene.machine.now in
    let ask = c.args.scene.ask.now in
    let limit = c.args.scene.limit in
    let plans = c.args.board.now.plans in
    let sums = c.args.scene.rooms.now.sums in
    let old = c.args.nodes.now in
    let new = c.put_carried.new.nodes in
    let room = c.in-Some.room in
    let child = goal_below c.args.goal in
    let is_room = room-is machine ask sums c.args.goal room c.requires.fits.rooms c.requires.known (sym c.room.ensures ∙ c.in-Some.is) in
    let carried = carries-goal g.N.Network.reading machine plans ask sums limit old new c.open_goal.new.self c.args.goal room c.requires.known c.requires.is_goal is_room c.requires.kept c.in-Ok.ensures.suffix in
    let Put = λ (ps : List Plan) (s : NamedState) (o : Option ShowBranch). (z : Suffix) → Carries g.N.Network.reading machine ask c.open_goal.new.self child z
    → MatchOption o (PutsNode machine ps ask limit old new (branch_by child z) (GoalHead s) (λ _. [])) (λ q. (q ≡ child) × PutsNode machine ps ask limit old new (branch_by child z) (GoalHead s) (λ rows. kids_of machine ps ask rows (branch_by child z))) in
    let Open = λ (o : Option ShowBranch). IfSome o (λ _. IsOpen machine ask child) in
    let Early = λ (o : Option ShowBranch). IfSome o (λ _. IsEarly machine ask limit c.open_goal.new.self) in
    let put = subst (λ s. IfOk c.put_carried.result (Put plans s)) c.named.ensures (subst (λ ps. IfOk c.put_carried.result (Put ps c.named.result)) c.open_goal.ensures.loaded.plans c.put_carried.ensures.put) in
    ok-map (λ o. Put plans (named machine c.args.goal) o × (Open o × Early o)) (IsGoalEntered g.N.Network.reading machine plans ask sums limit old new c.put_carried.new.board c.args.goal) c.put_carried.result
    (λ o both. goal-by g.N.Network.reading machine plans ask sums limit old new o c.open_goal.new.self c.put_carried.new.board c.args.goal room c.requires.known (sym c.room.ensures ∙ c.in-Some.is) carried
    c.put_carried.ensures.same c.put_carried.ensures.since.load.plans (both.0 (with_goal room) carried) both.1.0 (early-at machine plans ask limit c.open_goal.new.self (with_goal room) o both.1.1 carried.carried c.open_goal.ensures.loaded.plans))
    (ok-three (Put plans (named machine c.args.goal)) Open Early c.put_carried.result put c.put_carried.ensures.splits c.put_carried.ensures.split_early)

pub returns-in_default-clause-early : goal.returns-in_default-clause-early
returns-in_default-clause-early g c = memory-early c.args.scene.machine.now c.args.board.now.plans c.args.scene.ask.now c.args.scene.limit c.put_dead.result c.put_dead.ensures.memory

pub put_carried-requires-clause-carries : goal.put_carried-requires-clause-carries
put_carried-requires-clause-carries g c =
    let machine = c.args.scene.machine.now in
    let ask = c.args.scene.ask.now in
    let room = c.in-Some.room in
    let sums = c.args.scene.rooms.now.sums in
    let is_room = room-is machine ask sums c.args.goal room c.requires.fits.rooms c.requires.known (sym c.room.ensures ∙ c.in-Some.is) in (
      with_goal room,
      carries-goal g.N.Network.reading machine c.args.board.now.plans ask sums 0 [] [] c.open_goal.new.self c.args.goal room c.requires.known c.requires.is_goal is_room c.requires.kept c.in-Ok.ensures.suffix,
    )
