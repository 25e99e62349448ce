use Rattle.std.proofs.Common.{◌≡◌, ℕ, ◌+◌, ◌∙◌, suc, [], ap, sym, subst, add-one, arith, List, Result, Some}
use Rattle.std.specs.Prelude.{IfErr}
use Rattle.std.specs.Result.{OnOk}
use Rattle.tp_bounds.specs.declared.tree.Node.{Node}
use Rattle.tp_bounds.specs.declared.tree.TreeRow.{TreeRow}
use Rattle.tp_placing.specs.Boards.{BoardValue, past_of, suffix_of}
use Rattle.tp_schedule.specs.Plans.{AreNamed}
use Rattle.tp_schedule.specs.declared.parts.Plan.{Plan}
use Rattle.tp_bound_make.specs.declared.scene.NotShown.{NotShown}
use Rattle.tp_constraints.specs.Suffixes.{Suffix}
use Rattle.tp_bound_make.specs.TreeProgress.{IsBack, IsEarlyEnd, IsSince, Shows, branch_by, hold_of, kids_of, left_of}
use Rattle.tp_bound_make.proofs.CarryFacts.{suffix-same}
use Rattle.tp_bound_make.proofs.EnterFacts.{early-on}
use Rattle.tp_bound_make.proofs.MarkSteps.{IsMarked, back-trans, mark-known, since-trans, taken-back}
use Rattle.tp_bound_make.proofs.WalkFacts.{HasGone, IsAtWay, IsStill, at-way, goes-on, gone-none, gone-some, marks-below, set-since, shows-to, shows-trans, still}
use Rattle.tp_bound_make.proofs.WayFacts.{none-left}
use Rattle.tp_bound_make.proofs.branch_walk.+show_below.Goals as goal
use Rattle.tp_bound_make.proofs.branch_walk.+show_below.Goals.{After-mark-mark, After-undo_to, In-Ok, In-ways, in-Ok-Some, in-Ok-None, in-Err-enter}

-- the board at a way is as it was
still0 : (g : _) (t : _) (c : In-ways g t) → IsStill g.N.Network.reading c.args.scene.machine.now c.args.scene.ask.now c.args.board.now c.ways.board c.args.branch c.requires.carries.0
still0 g t c =
    let r = c.requires in
    still g.N.Network.reading c.args.scene.machine.now c.args.scene.ask.now c.args.board.now c.ways.board c.args.branch r.carries.0 c.ways.invariant.back r.set r.carries.1 r.marks

-- the ways from this one to the next are closed
shut : (g : _) (t : _) (c : In-Ok g t) (x : Suffix) → suffix_of c.args.board.now ≡ Some x
    → Shows c.args.scene.machine.now c.args.board.now.plans c.args.scene.ask.now c.args.scene.rooms.now.sums c.args.scene.limit c.ways.nodes c.close_from.new.nodes
    (λ (rows : List TreeRow). left_of c.args.scene.machine.now c.args.board.now.plans c.args.scene.ask.now rows (branch_by c.args.branch x) (hold_of c.args.scene.machine.now c.args.branch) c.ways.way)
    (λ rows. left_of c.args.scene.machine.now c.args.board.now.plans c.args.scene.ask.now rows (branch_by c.args.branch x) (hold_of c.args.scene.machine.now c.args.branch) c.in-Ok.next)
shut g t c x carried =
    let machine = c.args.scene.machine.now in
    let ask = c.args.scene.ask.now in
    let r = c.requires in
    let s = still g.N.Network.reading machine ask c.args.board.now c.ways.board c.args.branch r.carries.0 c.ways.invariant.back r.set r.carries.1 r.marks in
    let same = suffix-same g.N.Network.reading g.N.Network.refutes machine ask c.args.board.now c.ways.board c.ways.invariant.back.content_same in
    subst (λ (ps : List Plan). Shows machine ps ask c.args.scene.rooms.now.sums c.args.scene.limit c.ways.nodes c.close_from.new.nodes (λ (rows : List TreeRow). left_of machine ps ask rows (branch_by c.args.branch x) (hold_of machine c.args.branch) c.ways.way)
    (λ rows. left_of machine ps ask rows (branch_by c.args.branch x) (hold_of machine c.args.branch) c.in-Ok.next)) s.plans (c.in-Ok.ensures.shown x (same ∙ carried))

marked : (g : _) (t : _) (c : After-mark-mark g t) → IsMarked g.N.Network.reading g.N.Undo.untouched c.close_from.new.board c.mark-mark.new.self c.mark-mark.result.0
marked g t c = let m = c.mark-mark.ensures in record { number = m.number; past_more = m.past; content_same = m.content; untouched_same = m.untouched; room_same = m.capacity }

here : (g : _) (t : _) (c : After-mark-mark g t) → IsAtWay g.N.Network.reading g.N.Undo.untouched c.args.scene.machine.now c.args.scene.ask.now c.args.board.now c.mark-mark.new.self c.args.branch c.requires.carries.0
here g t c =
    let r = c.requires in
    at-way g.N.Network.reading g.N.Undo.untouched c.args.scene.machine.now c.args.scene.ask.now c.marks_keep_boards.ensures.mark c.args.board.now c.close_from.new.board c.mark-mark.new.self c.args.branch r.carries.0 c.mark-mark.result.0
    (back-trans g.N.Network.reading c.args.board.now c.ways.board c.close_from.new.board c.args.scene.machine.now c.ways.invariant.back c.close_from.ensures.back) (marked g t c) r.set r.carries.1 r.marks

pub enter-requires-clause-set : goal.enter-requires-clause-set
enter-requires-clause-set g t c = (here g t (goal.at.enter-requires-clause-set g t c).After-mark-mark).set

pub enter-requires-clause-named : goal.enter-requires-clause-named
enter-requires-clause-named g t c = subst AreNamed (sym (here g t (goal.at.enter-requires-clause-named g t c).After-mark-mark).plans) c.requires.named

pub enter-requires-clause-carries : goal.enter-requires-clause-carries
enter-requires-clause-carries g t c = (c.requires.carries.0, (here g t (goal.at.enter-requires-clause-carries g t c).After-mark-mark).carries)

pub enter-requires-clause-ends : goal.enter-requires-clause-ends
enter-requires-clause-ends g t c =
    let at = here g t (goal.at.enter-requires-clause-ends g t c).After-mark-mark in
    let x = c.requires.carries.0 in
    early-on c.args.scene.machine.now c.args.board.now.plans c.args.scene.ask.now c.args.scene.limit c.mark-mark.new.self x at.carries.carried at.plans (c.requires.ends x c.requires.carries.1.carried)

pub show_below-shown-requires : goal.show_below-shown-requires
show_below-shown-requires g t c κs within =
    let at = here g t (goal.at.show_below-shown-requires g t c).After-mark-mark in
    let machine = c.args.scene.machine.now in
    let ask = c.args.scene.ask.now in
    let since = c.enter.ensures.since in
    let e = goes-on g.N.Network.reading g.N.Undo.untouched machine ask c.args.scene.rooms.now.sums c.args.scene.limit c.args.board.now c.mark-mark.new.self c.enter.new.board c.args.branch c.ways.way
    c.close_from.new.nodes c.enter.new.nodes c.in-Ok-Some.field-0 c.in-Ok-Some.child c.requires.carries.0 at c.in-Ok-Some.field-0-is c.in-Ok-Some.ensures.entered in
    let set = set-since g.N.Network.reading machine ask c.mark-mark.new.self c.enter.new.board since at.set in
    let named = subst AreNamed (sym (since.load.plans ∙ at.plans)) c.requires.named in
    let marks = marks-below g.N.Network.reading machine ask c.mark-mark.new.self c.enter.new.board _ _ at.spare e.smaller since in
    let ends = early-on machine c.args.board.now.plans ask c.args.scene.limit c.enter.new.board e.suffix e.carries.carried (since.load.plans ∙ at.plans) e.early in
    let less = e.smaller in
    (omega (arith, less), (within, (set, (named, (c.requires.fits, ((e.suffix, e.carries), (e.is_open, (ends, marks))))))))

pub undo_to-requires : goal.undo_to-requires
undo_to-requires g t c =
    let m = marked g t (goal.at.undo_to-requires g t c).After-mark-mark in
    let past : past_of g.N.Network.reading c.match-enter.board ≡ past_of g.N.Network.reading c.mark-mark.new.self = elim c.match-enter.branch [
      | in-Ok-Some w ↦ ap (past_of g.N.Network.reading) w.board-is ∙ w.show_below-shown.ensures.back.since.past_same ∙ c.enter.ensures.since.past_same
      | in-Ok-None w ↦ ap (past_of g.N.Network.reading) w.board-is ∙ c.enter.ensures.since.past_same
      | in-Err-enter w ↦ ap (past_of g.N.Network.reading) w.board-is ∙ c.enter.ensures.since.past_same
    ] in
    mark-known g.N.Network.reading g.N.Undo.untouched c.close_from.new.board c.mark-mark.new.self c.match-enter.board c.mark-mark.result.0 m past

-- what was done since the mark
since-mark : (g : _) (t : _) (c : After-undo_to g t) → IsSince g.N.Network.reading c.mark-mark.new.self c.match-enter.board c.args.scene.machine.now
since-mark g t c =
    let machine = c.args.scene.machine.now in
    let Since = λ (b : BoardValue g.row.N.Denot). IsSince g.N.Network.reading c.mark-mark.new.self b machine in
    elim c.match-enter.branch [
      | in-Ok-Some w ↦ subst Since (sym w.board-is) (since-trans g.N.Network.reading c.mark-mark.new.self c.enter.new.board w.show_below-shown.new.board machine c.enter.ensures.since w.show_below-shown.ensures.back.since)
      | in-Ok-None w ↦ subst Since (sym w.board-is) c.enter.ensures.since
      | in-Err-enter w ↦ subst Since (sym w.board-is) c.enter.ensures.since
    ]

-- the way is gone
gone : (g : _) (t : _) (c : After-undo_to g t)
    → IsAtWay g.N.Network.reading g.N.Undo.untouched c.args.scene.machine.now c.args.scene.ask.now c.args.board.now c.mark-mark.new.self c.args.branch c.requires.carries.0
    → OnOk c.match-enter.shown (HasGone g.N.Network.reading g.N.Undo.untouched c.args.scene.machine.now c.args.scene.ask.now c.args.scene.rooms.now.sums c.args.scene.limit c.args.board.now c.mark-mark.new.self c.enter.new.board c.args.branch c.ways.way c.close_from.new.nodes c.match-enter.nodes)
gone g t c at =
    let machine = c.args.scene.machine.now in
    let ask = c.args.scene.ask.now in
    let x = c.requires.carries.0 in
    let carried = c.requires.carries.1.carried in
    let Gone = λ (ns : List Node). HasGone g.N.Network.reading g.N.Undo.untouched machine ask c.args.scene.rooms.now.sums c.args.scene.limit c.args.board.now c.mark-mark.new.self c.enter.new.board c.args.branch c.ways.way c.close_from.new.nodes ns in
    elim c.match-enter.branch [
      | in-Ok-Some w ↦ subst (λ ns. OnOk c.match-enter.shown (Gone ns)) (sym w.nodes-is) (subst (λ s. OnOk s (Gone w.show_below-shown.new.nodes)) (sym w.shown-is)
          (gone-some g.N.Network.reading g.N.Undo.untouched machine ask c.args.scene.rooms.now.sums c.args.scene.limit c.args.board.now c.mark-mark.new.self c.enter.new.board c.args.branch c.ways.way
          c.close_from.new.nodes c.enter.new.nodes w.show_below-shown.new.nodes w.in-Ok-Some.field-0 w.in-Ok-Some.child x w.show_below-shown.result carried at c.enter.ensures.since w.in-Ok-Some.field-0-is w.in-Ok-Some.ensures.entered w.show_below-shown.ensures.shown))
      | in-Ok-None w ↦ subst (λ ns. OnOk c.match-enter.shown (Gone ns)) (sym w.nodes-is) (subst (λ s. OnOk s (Gone c.enter.new.nodes)) (sym w.shown-is)
          (gone-none g.N.Network.reading g.N.Undo.untouched machine ask c.args.scene.rooms.now.sums c.args.scene.limit c.args.board.now c.mark-mark.new.self c.enter.new.board c.args.branch c.ways.way
          c.close_from.new.nodes c.enter.new.nodes w.in-Ok-None.field-0 x carried at w.in-Ok-None.field-0-is w.in-Ok-None.ensures.entered))
      | in-Err-enter w ↦ subst (λ s. OnOk s (Gone c.match-enter.nodes)) (sym w.shown-is) tt
    ]

back-now : (g : _) (t : _) (c : After-undo_to g t) → IsMarked g.N.Network.reading g.N.Undo.untouched c.close_from.new.board c.mark-mark.new.self c.mark-mark.result.0
    → IsBack g.N.Network.reading c.args.board.now c.undo_to.new.self c.args.scene.machine.now
back-now g t c m =
    let keeps = c.marks_keep_boards.ensures in
    let u = c.undo_to.ensures in
    let machine = c.args.scene.machine.now in
    back-trans g.N.Network.reading c.args.board.now c.close_from.new.board c.undo_to.new.self machine
    (back-trans g.N.Network.reading c.args.board.now c.ways.board c.close_from.new.board c.args.scene.machine.now c.ways.invariant.back c.close_from.ensures.back)
    (taken-back g.N.Network.reading g.N.Undo.untouched keeps.mark keeps.back c.close_from.new.board c.mark-mark.new.self c.match-enter.board c.undo_to.new.self machine c.mark-mark.result.0 m (since-mark g t c)
    (record { content_then = u.content; past_less = u.past; untouched_same = u.untouched; room_same = u.capacity }))

-- where the way was given up, some alternative ends early
early : (g : _) (t : _) (c : After-undo_to g t)
    → IsAtWay g.N.Network.reading g.N.Undo.untouched c.args.scene.machine.now c.args.scene.ask.now c.args.board.now c.mark-mark.new.self c.args.branch c.requires.carries.0
    → IfErr c.match-enter.shown (IsEarlyEnd c.args.scene.machine.now c.args.board.now.plans c.args.scene.ask.now c.args.scene.limit)
early g t c at =
    let machine = c.args.scene.machine.now in
    let ask = c.args.scene.ask.now in
    let limit = c.args.scene.limit in
    let Early = λ (s : Result Unit NotShown) (ps : List Plan). IfErr s (IsEarlyEnd machine ps ask limit) in
    elim c.match-enter.branch [
      | in-Ok-Some w ↦ subst (λ s. Early s c.args.board.now.plans) (sym w.shown-is) (subst (Early w.show_below-shown.result) (c.enter.ensures.since.load.plans ∙ at.plans) w.show_below-shown.ensures.early)
      | in-Ok-None w ↦ subst (λ s. Early s c.args.board.now.plans) (sym w.shown-is) tt
      | in-Err-enter w ↦ subst (λ s. Early s c.args.board.now.plans) (sym w.shown-is) (subst (λ ps. IsEarlyEnd machine ps ask limit w.in-Err-enter.fault) at.plans w.in-Err-enter.ensures.early)
    ]

pub returns-in-Err-shown-clause-early : goal.returns-in-Err-shown-clause-early
returns-in-Err-shown-clause-early g t c =
    let at = goal.at.returns-in-Err-shown-clause-early g t c in
    subst (λ s. IfErr s (IsEarlyEnd c.args.scene.machine.now c.args.board.now.plans c.args.scene.ask.now c.args.scene.limit)) c.in-Err-shown.is (early g t at.After-undo_to (here g t at.After-mark-mark))

pub returns-in-Err-shown-clause-back : goal.returns-in-Err-shown-clause-back
returns-in-Err-shown-clause-back g t c = let at = goal.at.returns-in-Err-shown-clause-back g t c in back-now g t at.After-undo_to (marked g t at.After-mark-mark)

pub ways-preserved : goal.ways-preserved
ways-preserved g t c =
    let now = (goal.at.ways-preserved g t c).After-undo_to in
    let before = (goal.at.ways-preserved g t c).After-mark-mark in
    let machine = c.args.scene.machine.now in
    let ask = c.args.scene.ask.now in
    let plans = c.args.board.now.plans in
    let sums = c.args.scene.rooms.now.sums in
    let limit = c.args.scene.limit in
    let r = c.args.branch in
    let way = c.ways.way in
    let Gone = HasGone g.N.Network.reading g.N.Undo.untouched machine ask sums limit c.args.board.now c.mark-mark.new.self c.enter.new.board r way c.close_from.new.nodes c.match-enter.nodes in
    let step = subst (λ s. OnOk s Gone) c.in-Ok-shown.is (gone g t now (here g t before)) in
    let onward = c.in-Ok.ensures.onward in
    let stays : c.in-Ok.next ≡ way = let test = c.if-next-way.false in let least = onward.0 in omega (arith, test, least) in
    record {
      shown = λ x carried. let kids = λ (rows : List TreeRow). kids_of machine plans ask rows (branch_by r x) in
          let left = λ (n : ℕ) (rows : List TreeRow). left_of machine plans ask rows (branch_by r x) (hold_of machine r) n in
          shows-to machine plans ask sums limit c.args.nodes.now c.match-enter.nodes kids (left (suc way)) (left (way + 1)) (λ rows. ap (λ n. left n rows) (sym (add-one way)))
          (shows-trans machine plans ask sums limit c.args.nodes.now c.close_from.new.nodes c.match-enter.nodes kids (left way) (left (suc way))
          (shows-trans machine plans ask sums limit c.args.nodes.now c.ways.nodes c.close_from.new.nodes kids (left way) (left way) (c.ways.invariant.shown x carried)
          (shows-to machine plans ask sums limit c.ways.nodes c.close_from.new.nodes (left way) (left c.in-Ok.next) (left way) (λ rows. ap (λ n. left n rows) stays) (shut g t (goal.at.ways-preserved g t c).In-Ok x carried)))
          (step x carried));
      back = back-now g t now (marked g t before);
      within = let test = c.ways-test.true in omega (arith, test);
    }

pub ways-preserved-then-next-way : goal.ways-preserved-then-next-way
ways-preserved-then-next-way g t c =
    let machine = c.args.scene.machine.now in
    let ask = c.args.scene.ask.now in
    let plans = c.args.board.now.plans in
    let r = c.args.branch in
    record {
      shown = λ x carried. let kids = λ (rows : List TreeRow). kids_of machine plans ask rows (branch_by r x) in
          let left = λ (n : ℕ) (rows : List TreeRow). left_of machine plans ask rows (branch_by r x) (hold_of machine r) n in
          shows-trans machine plans ask c.args.scene.rooms.now.sums c.args.scene.limit c.args.nodes.now c.ways.nodes c.close_from.new.nodes kids (left c.ways.way) (left c.in-Ok.next) (c.ways.invariant.shown x carried)
          (shut g t (goal.at.ways-preserved-then-next-way g t c).In-Ok x carried);
      back = back-trans g.N.Network.reading c.args.board.now c.ways.board c.close_from.new.board machine c.ways.invariant.back c.close_from.ensures.back;
      within = c.in-Ok.ensures.onward.1;
    }

pub close_from-requires-clause-set : goal.close_from-requires-clause-set
close_from-requires-clause-set g t c = (still0 g t (goal.at.close_from-requires-clause-set g t c).In-ways).set

pub close_from-requires-clause-named : goal.close_from-requires-clause-named
close_from-requires-clause-named g t c = subst AreNamed (sym (still0 g t (goal.at.close_from-requires-clause-named g t c).In-ways).plans) c.requires.named

pub close_from-requires-clause-carries : goal.close_from-requires-clause-carries
close_from-requires-clause-carries g t c = (c.requires.carries.0, (still0 g t (goal.at.close_from-requires-clause-carries g t c).In-ways).carries)

pub close_from-requires-clause-marks : goal.close_from-requires-clause-marks
close_from-requires-clause-marks g t c = (still0 g t (goal.at.close_from-requires-clause-marks g t c).In-ways).spare

pub returns-clause-shown : goal.returns-clause-shown
returns-clause-shown g t c x carried =
    let machine = c.args.scene.machine.now in
    let ask = c.args.scene.ask.now in
    let plans = c.args.board.now.plans in
    let r = c.args.branch in
    let within = c.ways.invariant.within in
    let last : c.ways.way ≡ c.ways-count.result = omega (arith, within) in
    shows-to machine plans ask c.args.scene.rooms.now.sums c.args.scene.limit c.args.nodes.now c.ways.nodes (λ rows. kids_of machine plans ask rows (branch_by r x)) (λ rows. left_of machine plans ask rows (branch_by r x) (hold_of machine r) c.ways.way) (λ _. [])
    (λ rows. ap (left_of machine plans ask rows (branch_by r x) (hold_of machine r)) (last ∙ c.ways-count.ensures.count x carried) ∙ none-left machine plans ask rows (branch_by r x) (hold_of machine r)) (c.ways.invariant.shown x carried)
