use Rattle.std.proofs.Common.{◌+◌, sym, subst}
use Rattle.tp_search.specs.Dives.{IsPlacing}
use Rattle.tp_search.specs.declared.stored_list.Laid.{Laid}
use Rattle.tp_search.proofs.BoardSteps.{IsMarked, IsSince, back-itself, since-back, since-step, taken-back}
use Rattle.tp_search.proofs.DiveSteps.{carries-stands, try-opened}
use Rattle.tp_search.proofs.FurtherFacts.{deeper-further, further-marked, further-step}
use Rattle.tp_search.proofs.dives.step_by.Goals as goal
use Rattle.tp_search.proofs.dives.step_by.Goals.{After-mark-mark, In-Ok, in-Ok+else-place_within, in-Err}

-- the board was marked
marked : (g : _) (c : After-mark-mark g) → IsMarked g.N.Network.reading g.N.Undo.untouched c.args.board.now c.mark-mark.new.self c.mark-mark.result.0
marked g c = (let m = c.mark-mark.ensures in record { number = m.number; past_more = m.past; content_same = m.content; untouched_same = m.untouched; room_same = m.capacity })

pub open_action-requires-clause-stands : goal.open_action-requires-clause-stands
open_action-requires-clause-stands g c = carries-stands g.N.Network.reading g.N.Undo.untouched c.args.problem.machine.now c.args.problem.ask.now c.args.board.now c.args.board.now c.mark-mark.new.self c.mark-mark.result.0 c.marks_keep_boards.ensures.mark (back-itself g.N.Network.reading c.args.board.now c.args.problem.machine.now) (marked g (goal.at.open_action-requires-clause-stands g c).After-mark-mark) c.args.list c.requires.carries

-- no hold of the action has its place
opened : (g : _) (c : In-Ok g) → IsMarked g.N.Network.reading g.N.Undo.untouched c.args.board.now c.mark-mark.new.self c.mark-mark.result.0
    → IsPlacing g.N.Network.reading c.open_action.new.self c.args.problem.machine.now c.args.problem.ask.now c.args.act 0 (record { first = c.in-Some.before.state; count = c.args.list.count + 1 })
opened g c m =
    try-opened g.N.Network.reading g.N.Undo.untouched c.args.problem.machine.now c.args.problem.ask.now c.args.board.now c.args.board.now c.mark-mark.new.self c.mark-mark.result.0 c.marks_keep_boards.ensures.mark (back-itself g.N.Network.reading c.args.board.now c.args.problem.machine.now) m c.args.list c.requires.carries c.requires.fewer c.args.act c.in-Some.before.state c.in-Some.before.room c.open_action.new.self c.in-Some.ensures.some c.in-Ok.ensures.suffix c.open_action.ensures.stands c.open_action.ensures.loaded

pub place_within-requires-clause-placing : goal.place_within-requires-clause-placing
place_within-requires-clause-placing g c =
    let k = goal.at.place_within-requires-clause-placing g c in
    (record { first = c.in-Some.before.state; count = c.args.list.count + 1 }, opened g k.In-Ok (marked g k.After-mark-mark))

pub returns-then-place_within-clause-deeper : goal.returns-then-place_within-clause-deeper
returns-then-place_within-clause-deeper g c =
    let k = goal.at.returns-then-place_within-clause-deeper g c in
    let m = marked g k.After-mark-mark in
    let p = c.open_action.ensures in
    let list : Laid = record { first = c.in-Some.before.state; count = c.args.list.count + 1 } in
    deeper-further g.N.Network.reading c.args.board.now c.open_action.new.self c.place_within.new.board c.args.problem.machine.now c.args.problem.ask.now c.args.bound list
    (further-step g.N.Network.reading c.args.board.now c.mark-mark.new.self c.open_action.new.self (further-marked g.N.Network.reading g.N.Undo.untouched c.args.board.now c.mark-mark.new.self c.mark-mark.result.0 m) p.past p.loaded p.marks)
    (c.place_within.ensures.deeper c.if-place_within.true list (opened g k.In-Ok m))

pub returns-clause-back : goal.returns-clause-back
returns-clause-back g c none =
    let m = marked g (goal.at.returns-clause-back g c).After-mark-mark in
    let p = c.open_action.ensures in
    let u = c.undo_to.ensures in
    let keeps = c.marks_keep_boards.ensures in
    let step = since-step g.N.Network.reading c.mark-mark.new.self c.open_action.new.self c.args.problem.machine.now p.past p.loaded p.marks (λ s. p.stands) in
    let since : IsSince g.N.Network.reading c.mark-mark.new.self c.match-open_action.board c.args.problem.machine.now = elim c.match-open_action.branch [
      | in-Ok+else-place_within w ↦ subst (λ x. IsSince g.N.Network.reading c.mark-mark.new.self x c.args.problem.machine.now) (sym w.board-is)
          (since-back g.N.Network.reading c.mark-mark.new.self c.open_action.new.self w.place_within.new.board c.args.problem.machine.now step (w.place_within.ensures.back w.if-place_within.false))
      | in-Err w ↦ subst (λ x. IsSince g.N.Network.reading c.mark-mark.new.self x c.args.problem.machine.now) (sym w.board-is) step
    ] in
    taken-back g.N.Network.reading g.N.Undo.untouched keeps.mark keeps.back c.args.board.now c.mark-mark.new.self c.match-open_action.board c.undo_to.new.self c.args.problem.machine.now c.mark-mark.result.0 m since
    (record { content_then = u.content; past_less = u.past; untouched_same = u.untouched; room_same = u.capacity })
