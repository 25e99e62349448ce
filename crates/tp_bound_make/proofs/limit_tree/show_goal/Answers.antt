use Rattle.std.proofs.Common.{◌≡◌, ◌∙◌, ap, sym, subst, List, Result}
use Rattle.std.specs.Prelude.{IfErr}
use Rattle.std.specs.Result.{OnOk}
use Rattle.tp_bounds.specs.declared.tree.Node.{Node}
use Rattle.tp_placing.specs.Boards.{BoardValue, past_of}
use Rattle.tp_schedule.specs.Plans.{AreNamed}
use Rattle.tp_schedule.specs.declared.parts.Plan.{Plan}
use Rattle.tp_bound_make.specs.declared.scene.NotShown.{NotShown}
use Rattle.tp_bound_make.specs.TreeProgress.{IsEarlyEnd, IsSince}
use Rattle.tp_bound_make.proofs.EnterFacts.{early-on}
use Rattle.tp_bound_make.proofs.GoalWalks.{HasGoal, IsAtGoal, at-goal, goal-goes, goal-none, goal-some}
use Rattle.tp_bound_make.proofs.MarkSteps.{IsMarked, mark-known, since-trans, taken-back}
use Rattle.tp_bound_make.proofs.WalkFacts.{set-since}
use Rattle.tp_bound_make.proofs.limit_tree.show_goal.Goals as goal
use Rattle.tp_bound_make.proofs.limit_tree.show_goal.Goals.{After-mark-mark, After-undo_to, in-Ok-Some, in-Ok-None, in-Err}

marked : (g : _) (c : After-mark-mark g) → IsMarked g.N.Network.reading g.N.Undo.untouched c.args.board.now c.mark-mark.new.self c.mark-mark.result.0
marked g c = let m = c.mark-mark.ensures in record { number = m.number; past_more = m.past; content_same = m.content; untouched_same = m.untouched; room_same = m.capacity }

here : (g : _) (c : After-mark-mark g) → IsAtGoal g.N.Network.reading g.N.Undo.untouched c.args.scene.machine.now c.args.scene.ask.now c.args.board.now c.mark-mark.new.self
here g c =
    let r = c.requires in
    at-goal g.N.Network.reading g.N.Undo.untouched c.args.scene.machine.now c.args.scene.ask.now c.marks_keep_boards.ensures.mark c.args.board.now c.mark-mark.new.self c.mark-mark.result.0 (marked g c) r.set r.closed r.marks

pub enter_goal-requires-clause-set : goal.enter_goal-requires-clause-set
enter_goal-requires-clause-set g c = (here g (goal.at.enter_goal-requires-clause-set g c).After-mark-mark).set

pub enter_goal-requires-clause-named : goal.enter_goal-requires-clause-named
enter_goal-requires-clause-named g c = subst AreNamed (sym (here g (goal.at.enter_goal-requires-clause-named g c).After-mark-mark).plans) c.requires.named

pub show_below-shown-requires-clause-set : goal.show_below-shown-requires-clause-set
show_below-shown-requires-clause-set g c =
    let at = here g (goal.at.show_below-shown-requires-clause-set g c).After-mark-mark in
    set-since g.N.Network.reading c.args.scene.machine.now c.args.scene.ask.now c.mark-mark.new.self c.enter_goal.new.board c.enter_goal.ensures.since at.set

pub show_below-shown-requires-clause-named : goal.show_below-shown-requires-clause-named
show_below-shown-requires-clause-named g c =
    let at = here g (goal.at.show_below-shown-requires-clause-named g c).After-mark-mark in
    subst AreNamed (sym (c.enter_goal.ensures.since.load.plans ∙ at.plans)) c.requires.named

pub show_below-shown-requires-clause-ends : goal.show_below-shown-requires-clause-ends
show_below-shown-requires-clause-ends g c =
    let at = here g (goal.at.show_below-shown-requires-clause-ends g c).After-mark-mark in
    let machine = c.args.scene.machine.now in
    let ask = c.args.scene.ask.now in
    let e = goal-goes g.N.Network.reading g.N.Undo.untouched machine ask c.args.scene.rooms.now.sums c.args.scene.limit c.args.board.now c.mark-mark.new.self c.enter_goal.new.board c.args.state
    c.args.nodes.now c.enter_goal.new.nodes c.in-Ok-Some.field-0 c.in-Ok-Some.branch at c.in-Ok-Some.field-0-is c.in-Ok-Some.ensures.entered in
    early-on machine c.args.board.now.plans ask c.args.scene.limit c.enter_goal.new.board e.suffix e.carries.carried (c.enter_goal.ensures.since.load.plans ∙ at.plans) e.early

pub undo_to-requires : goal.undo_to-requires
undo_to-requires g c =
    let m = marked g (goal.at.undo_to-requires g c).After-mark-mark in
    let past : past_of g.N.Network.reading c.match-enter_goal.board ≡ past_of g.N.Network.reading c.mark-mark.new.self = elim c.match-enter_goal.branch [
      | in-Ok-Some w ↦ ap (past_of g.N.Network.reading) w.board-is ∙ w.show_below-shown.ensures.back.since.past_same ∙ c.enter_goal.ensures.since.past_same
      | in-Ok-None w ↦ ap (past_of g.N.Network.reading) w.board-is ∙ c.enter_goal.ensures.since.past_same
      | in-Err w ↦ ap (past_of g.N.Network.reading) w.board-is ∙ c.enter_goal.ensures.since.past_same
    ] in
    mark-known g.N.Network.reading g.N.Undo.untouched c.args.board.now c.mark-mark.new.self c.match-enter_goal.board c.mark-mark.result.0 m past

-- what was done since the mark
since-mark : (g : _) (c : After-undo_to g) → IsSince g.N.Network.reading c.mark-mark.new.self c.match-enter_goal.board c.args.scene.machine.now
since-mark g c =
    let machine = c.args.scene.machine.now in
    let Since = λ (b : BoardValue g.row.N.Denot). IsSince g.N.Network.reading c.mark-mark.new.self b machine in
    elim c.match-enter_goal.branch [
      | in-Ok-Some w ↦ subst Since (sym w.board-is) (since-trans g.N.Network.reading c.mark-mark.new.self c.enter_goal.new.board w.show_below-shown.new.board machine c.enter_goal.ensures.since w.show_below-shown.ensures.back.since)
      | in-Ok-None w ↦ subst Since (sym w.board-is) c.enter_goal.ensures.since
      | in-Err w ↦ subst Since (sym w.board-is) c.enter_goal.ensures.since
    ]

pub returns-clause-back : goal.returns-clause-back
returns-clause-back g c =
    let keeps = c.marks_keep_boards.ensures in
    let u = c.undo_to.ensures in
    let m = marked g (goal.at.returns-clause-back g c).After-mark-mark in
    taken-back g.N.Network.reading g.N.Undo.untouched keeps.mark keeps.back c.args.board.now c.mark-mark.new.self c.match-enter_goal.board c.undo_to.new.self c.args.scene.machine.now c.mark-mark.result.0 m
    (since-mark g (goal.at.returns-clause-back g c).After-undo_to) (record { content_then = u.content; past_less = u.past; untouched_same = u.untouched; room_same = u.capacity })

pub returns-clause-shown : goal.returns-clause-shown
returns-clause-shown g c =
    let at = here g (goal.at.returns-clause-shown g c).After-mark-mark in
    let machine = c.args.scene.machine.now in
    let ask = c.args.scene.ask.now in
    let Gone = λ (ns : List Node). HasGoal g.N.Network.reading g.N.Undo.untouched machine ask c.args.scene.rooms.now.sums c.args.scene.limit c.args.board.now c.mark-mark.new.self c.enter_goal.new.board c.args.state c.args.nodes.now ns in
    elim c.match-enter_goal.branch [
      | in-Ok-Some w ↦ subst (λ ns. OnOk c.match-enter_goal.shown (Gone ns)) (sym w.nodes-is) (subst (λ s. OnOk s (Gone w.show_below-shown.new.nodes)) (sym w.shown-is)
          (goal-some g.N.Network.reading g.N.Undo.untouched machine ask c.args.scene.rooms.now.sums c.args.scene.limit c.args.board.now c.mark-mark.new.self c.enter_goal.new.board c.args.state
          c.args.nodes.now c.enter_goal.new.nodes w.show_below-shown.new.nodes w.in-Ok-Some.field-0 w.in-Ok-Some.branch w.show_below-shown.result at c.enter_goal.ensures.since w.in-Ok-Some.field-0-is w.in-Ok-Some.ensures.entered w.show_below-shown.ensures.shown))
      | in-Ok-None w ↦ subst (λ ns. OnOk c.match-enter_goal.shown (Gone ns)) (sym w.nodes-is) (subst (λ s. OnOk s (Gone c.enter_goal.new.nodes)) (sym w.shown-is)
          (goal-none g.N.Network.reading g.N.Undo.untouched machine ask c.args.scene.rooms.now.sums c.args.scene.limit c.args.board.now c.mark-mark.new.self c.enter_goal.new.board c.args.state
          c.args.nodes.now c.enter_goal.new.nodes w.in-Ok-None.field-0 at w.in-Ok-None.field-0-is w.in-Ok-None.ensures.entered))
      | in-Err w ↦ subst (λ s. OnOk s (Gone c.match-enter_goal.nodes)) (sym w.shown-is) tt
    ]

pub returns-clause-early : goal.returns-clause-early
returns-clause-early g c =
    let at = here g (goal.at.returns-clause-early g c).After-mark-mark in
    let machine = c.args.scene.machine.now in
    let ask = c.args.scene.ask.now in
    let limit = c.args.scene.limit in
    let Early = λ (s : Result Unit NotShown) (ps : List Plan). IfErr s (IsEarlyEnd machine ps ask limit) in
    elim c.match-enter_goal.branch [
      | in-Ok-Some w ↦ subst (λ s. Early s c.args.board.now.plans) (sym w.shown-is) (subst (Early w.show_below-shown.result) (c.enter_goal.ensures.since.load.plans ∙ at.plans) w.show_below-shown.ensures.early)
      | in-Ok-None w ↦ subst (λ s. Early s c.args.board.now.plans) (sym w.shown-is) tt
      | in-Err w ↦ subst (λ s. Early s c.args.board.now.plans) (sym w.shown-is) (subst (λ ps. IsEarlyEnd machine ps ask limit w.in-Err.fault) at.plans w.in-Err.ensures.early)
    ]
