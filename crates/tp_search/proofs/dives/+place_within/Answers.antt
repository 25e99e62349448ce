use Rattle.std.proofs.Common.{◌≡◌, ◌+◌, ◌-◌, suc, ◌≤◌, length, Some, sym, ap, subst, ◌∙◌, arith}
use Rattle.std.specs.Prelude.{slice_get}
use Rattle.tp_machine.specs.ModuleUse.{action_at}
use Rattle.tp_placing.specs.Boards.{suffix_of}
use Rattle.tp_placing.specs.LoadedBoard.{Stands, order_after}
use Rattle.tp_schedule.specs.Holders.{holds_of_act}
use Rattle.tp_search.specs.Boards.{HasMarks, IsBack}
use Rattle.tp_search.proofs.BoardSteps.{IsMarked, IsSinceMark, back-trans, mark-back, since-back, since-mark, since-step}
use Rattle.tp_search.proofs.DiveSteps.{try-can, try-further, try-marks, try-placed, try-stands}
use Rattle.tp_search.proofs.FurtherFacts.{deeper-further, further-step}
use Rattle.tp_search.proofs.PlaceSteps.{resource-known}
use Rattle.tp_search.proofs.dives.+place_within.Goals as goal
use Rattle.tp_search.proofs.dives.+place_within.Goals.{After-mark-mark, After-undo_to-in-loop-place, in-Ok+else-place_within, in-Err-Here}

pub places-requires : goal.places-requires
places-requires g t c =
    let stands = c.requires.placing.1.laid.stands in
    let known = resource-known c.args.problem.machine.now c.args.act.0 c.get.result.now c.args.hold c.get-2.result.now c.get.ensures c.get-2.ensures in
    record { known = omega (arith, known, stands.1.made.1) }

-- the board was marked
marked : (g : _) (t : _) (c : After-mark-mark g t) → IsMarked g.N.Network.reading g.N.Undo.untouched c.loop-place.board c.mark-mark.new.self c.mark-mark.result.0
marked g t c = (let m = c.mark-mark.ensures in record { number = m.number; past_more = m.past; content_same = m.content; untouched_same = m.untouched; room_same = m.capacity })

-- the hold is one of the action, and the place is within the order
is_rule : (g : _) (t : _) (c : After-mark-mark g t) → slice_get (holds_of_act (action_at c.args.problem.machine.now c.args.act.0)) c.args.hold ≡ Some c.get-2.result.now
is_rule g t c = ap (λ hs. slice_get hs c.args.hold) (ap holds_of_act c.get.ensures) ∙ c.get-2.ensures

within-order : (g : _) (t : _) (c : After-mark-mark g t) → Stands g.N.Network.reading c.args.board.now c.args.problem.machine.now
    → c.loop-place.place ≤ length (order_after c.args.problem.machine.now c.args.board.now.plans (suffix_of c.args.board.now) c.get-2.result.now.resource.0)
within-order g t c stands = omega (arith, c.places.ensures c.args.problem.machine.now stands, c.tried-first.ensures)

pub try_place-requires-clause-stands : goal.try_place-requires-clause-stands
try_place-requires-clause-stands g t c =
    try-stands g.N.Network.reading g.N.Undo.untouched c.args.problem.machine.now c.args.problem.ask.now c.args.board.now c.loop-place.board c.mark-mark.new.self c.mark-mark.result.0 c.marks_keep_boards.ensures.mark c.loop-place.invariant.back (marked g t (goal.at.try_place-requires-clause-stands g t c).After-mark-mark) c.args.act c.args.hold c.requires.placing.0 c.requires.placing.1

pub try_place-requires-clause-next : goal.try_place-requires-clause-next
try_place-requires-clause-next g t c =
    let k = (goal.at.try_place-requires-clause-next g t c).After-mark-mark in
    let p = c.requires.placing.1 in
    try-can g.N.Network.reading g.N.Undo.untouched c.args.problem.machine.now c.args.problem.ask.now c.args.board.now c.loop-place.board c.mark-mark.new.self c.mark-mark.result.0 c.marks_keep_boards.ensures.mark c.loop-place.invariant.back (marked g t k) c.args.act c.args.hold c.requires.placing.0 p c.get-2.result.now c.loop-place.place (is_rule g t k) (within-order g t k p.laid.stands)

pub place_within-requires : goal.place_within-requires
place_within-requires g t c κs within =
    let k = (goal.at.place_within-requires g t c).After-mark-mark in
    let held = ap length (ap holds_of_act c.get.ensures) in
    let p = c.requires.placing.1 in
    let q = c.try_place.ensures in
    let more : suc (5 - (c.args.hold + 1)) ≡ 5 - c.args.hold = omega arith in
    let spare = subst (λ n. HasMarks g.N.Network.reading n c.args.board.now) (sym more) c.requires.marks in
    let marks = try-marks g.N.Network.reading g.N.Undo.untouched c.args.problem.machine.now c.args.problem.ask.now c.args.board.now c.loop-place.board c.mark-mark.new.self c.mark-mark.result.0 c.marks_keep_boards.ensures.mark c.loop-place.invariant.back (marked g t k) (5 - (c.args.hold + 1)) c.try_place.new.self spare q.past q.marks in
    let placed = try-placed g.N.Network.reading g.N.Undo.untouched c.args.problem.machine.now c.args.problem.ask.now c.args.board.now c.loop-place.board c.mark-mark.new.self c.mark-mark.result.0 c.marks_keep_boards.ensures.mark c.loop-place.invariant.back (marked g t k) c.args.act c.args.hold c.requires.placing.0 p c.get-2.result.now c.loop-place.place (is_rule g t k) (within-order g t k p.laid.stands)
    (omega arith) c.try_place.new.self c.in-Ok.ensures.suffix c.in-Ok.ensures.stands q.loaded in
    (omega arith, (within, ((c.requires.placing.0, placed), (c.requires.known, marks))))

pub returns-then-place_within-clause-deeper : goal.returns-then-place_within-clause-deeper
returns-then-place_within-clause-deeper g t c is list p =
    let k = (goal.at.returns-then-place_within-clause-deeper g t c).After-mark-mark in
    let held = ap length (ap holds_of_act c.get.ensures) in
    let q = c.try_place.ensures in
    let m = marked g t k in
    let placed = try-placed g.N.Network.reading g.N.Undo.untouched c.args.problem.machine.now c.args.problem.ask.now c.args.board.now c.loop-place.board c.mark-mark.new.self c.mark-mark.result.0 c.marks_keep_boards.ensures.mark c.loop-place.invariant.back m c.args.act c.args.hold list p c.get-2.result.now c.loop-place.place (is_rule g t k) (within-order g t k p.laid.stands)
    (omega arith) c.try_place.new.self c.in-Ok.ensures.suffix c.in-Ok.ensures.stands q.loaded in
    deeper-further g.N.Network.reading c.args.board.now c.try_place.new.self c.place_within.new.board c.args.problem.machine.now c.args.problem.ask.now c.args.bound list
    (further-step g.N.Network.reading c.args.board.now c.mark-mark.new.self c.try_place.new.self (try-further g.N.Network.reading g.N.Undo.untouched c.args.problem.machine.now c.args.problem.ask.now c.args.board.now c.loop-place.board c.mark-mark.new.self c.mark-mark.result.0 c.marks_keep_boards.ensures.mark c.loop-place.invariant.back m) q.past q.loaded q.marks)
    (c.place_within.ensures.deeper c.if-place_within.true list placed)

pub returns-in-Err-UpToHere-clause-back : goal.returns-in-Err-UpToHere-clause-back
returns-in-Err-UpToHere-clause-back g t c none =
    let m = marked g t (goal.at.returns-in-Err-UpToHere-clause-back g t c).After-mark-mark in
    let q = c.try_place.ensures in
    let u = c.undo_to.ensures in
    back-trans g.N.Network.reading c.args.board.now c.loop-place.board c.undo_to.new.self c.args.problem.machine.now c.loop-place.invariant.back
    (mark-back g.N.Network.reading g.N.Undo.untouched c.marks_keep_boards.ensures.mark c.loop-place.board c.mark-mark.new.self c.try_place.new.self c.undo_to.new.self c.args.problem.machine.now c.mark-mark.result.0 m
    (record { past_same = q.past; load = q.loaded; room = ap (λ n. n - 1) q.marks; back = λ s. c.in-Err-UpToHere.ensures.back })
    (record { content_then = u.content; past_less = u.past; untouched_same = u.untouched; room_same = u.capacity }))

-- the place was tried in vain, and the board is taken back
taken : (g : _) (t : _) (c : After-undo_to-in-loop-place g t) → IsMarked g.N.Network.reading g.N.Undo.untouched c.loop-place.board c.mark-mark.new.self c.mark-mark.result.0
    → IsBack g.N.Network.reading c.args.board.now c.undo_to-in-loop-place.new.self c.args.problem.machine.now
taken g t c m =
    let q = c.try_place.ensures in
    let u = c.undo_to-in-loop-place.ensures in
    let since : IsSinceMark g.N.Network.reading g.N.Undo.untouched c.mark-mark.new.self c.match-try_place.board c.args.problem.machine.now = elim c.match-try_place.branch [
      | in-Ok+else-place_within w ↦ subst (λ x. IsSinceMark g.N.Network.reading g.N.Undo.untouched c.mark-mark.new.self x c.args.problem.machine.now) (sym w.board-is)
          (since-mark g.N.Network.reading g.N.Undo.untouched c.marks_keep_boards.ensures.back c.mark-mark.new.self w.place_within.new.board c.args.problem.machine.now
          (since-back g.N.Network.reading c.mark-mark.new.self c.try_place.new.self w.place_within.new.board c.args.problem.machine.now
          (since-step g.N.Network.reading c.mark-mark.new.self c.try_place.new.self c.args.problem.machine.now q.past q.loaded q.marks (λ s. w.in-Ok.ensures.stands))
          (w.place_within.ensures.back w.if-place_within.false)))
      | in-Err-Here w ↦ subst (λ x. IsSinceMark g.N.Network.reading g.N.Undo.untouched c.mark-mark.new.self x c.args.problem.machine.now) (sym w.board-is)
          (record { past_same = q.past; load = q.loaded; room = ap (λ n. n - 1) q.marks; back = λ s. w.in-Err-Here.ensures.back })
    ] in
    back-trans g.N.Network.reading c.args.board.now c.loop-place.board c.undo_to-in-loop-place.new.self c.args.problem.machine.now c.loop-place.invariant.back
    (mark-back g.N.Network.reading g.N.Undo.untouched c.marks_keep_boards.ensures.mark c.loop-place.board c.mark-mark.new.self c.match-try_place.board c.undo_to-in-loop-place.new.self c.args.problem.machine.now c.mark-mark.result.0 m since
    (record { content_then = u.content; past_less = u.past; untouched_same = u.untouched; room_same = u.capacity }))

pub loop-place-preserved : goal.loop-place-preserved
loop-place-preserved g t c =
    let k = goal.at.loop-place-preserved g t c in
    record { back = taken g t k.After-undo_to-in-loop-place (marked g t k.After-mark-mark) }

pub returns-after-try_place-clause-back : goal.returns-after-try_place-clause-back
returns-after-try_place-clause-back g t c none =
    let k = goal.at.returns-after-try_place-clause-back g t c in
    taken g t k.After-undo_to-in-loop-place (marked g t k.After-mark-mark)
