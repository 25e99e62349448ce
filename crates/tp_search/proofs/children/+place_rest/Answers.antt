use Rattle.std.proofs.Common.{◌≡◌, suc, length-set, ◌∙◌, ap, subst, sym, ◌+◌, ◌-◌, ◌<◌, ◌∷◌, length, set, take, length-take-le, arith, IsSomeAnd}
use Rattle.std.specs.Prelude.{slice_get}
use Rattle.tp_machine.specs.ModuleUse.{action_at}
use Rattle.tp_schedule.specs.Holders.{holds_of_act}
use Rattle.tp_placing.specs.Boards.{suffix_of}
use Rattle.tp_placing.specs.Calls.{CanPlace}
use Rattle.tp_search.specs.Boards.{HasMarks, IsBack, IsLaid}
use Rattle.tp_search.specs.Children.{IsNewChild}
use Rattle.tp_search.specs.OpenedLists.{IsAtProgress}
use Rattle.tp_search.specs.OpenedLists.Progress.{through, up_to}
use Rattle.tp_search.specs.Stored.{choices_by}
use Rattle.tp_pool.specs.Entries.{choices_before}
use Rattle.tp_search.proofs.BoardSteps.{back-itself, back-trans, mark-known, since-step}
use Rattle.tp_search.proofs.OpeningSame.{before-same, bounds-same, fresh-same, same-itself, same-trans}
use Rattle.tp_search.proofs.PlaceSteps.{back-now, begin-now, beyond-now, crowded-now, found-now, holds-four, refused-since, shut-now, end-now, marked-stands, may-again, may-place, next-now, next-places, placed-laid, placed-marks, placed-open, placed-progress, resource-known, same-now, tried-late, tried-placed, trying, IsTried, IsTrying, tried-as}
use Rattle.tp_search.proofs.children.+place_rest.Goals as goal
use Rattle.tp_search.proofs.children.+place_rest.Goals.{After-mark-mark, After-undo_to-in-loop-place, Joined-beyond, Then-hold-len, else-beyond, in-Ok+else-place_rest, in-Err-Here, then-beyond+then-not-tested+else-is_all_beyond}

-- where the least end is beyond the limit, no place is tried
pub returns-then-is_beyond-clause-progress : goal.returns-then-is_beyond-clause-progress
returns-then-is_beyond-clause-progress g t c none =
    let r = c.requires in
    beyond-now g.N.Network.reading c.args.problem.machine.now c.args.problem.ask.now c.args.child.now.first c.args.child.now.act c.args.opening.now c.args.store.now c.args.board.now (take c.args.hold c.args.child.now.choice.places) c.end_bound.result
    r.laid r.fresh (c.end_bound.ensures c.args.problem.machine.now r.laid.stands) (c.is_beyond.ensures c.if-is_beyond.true) r.progress

pub returns-then-is_beyond-clause-same : goal.returns-then-is_beyond-clause-same
returns-then-is_beyond-clause-same g t c = same-itself c.args.opening.now c.args.store.now

-- where each hold has its place
all-placed : (g : _) (t : _) (c : Then-hold-len g t) → c.args.hold ≡ length (holds_of_act (action_at c.args.problem.machine.now c.args.child.now.act.0))
all-placed g t c = (let held = ap length (ap holds_of_act c.get.ensures) in omega arith)

pub end_child-requires-clause-child : goal.end_child-requires-clause-child
end_child-requires-clause-child g t c = subst (IsNewChild c.args.problem.machine.now c.args.problem.ask.now c.args.opening.now.goal c.args.child.now) (all-placed g t (goal.at.end_child-requires-clause-child g t c).Then-hold-len) c.requires.child

pub end_child-requires-clause-laid : goal.end_child-requires-clause-laid
end_child-requires-clause-laid g t c =
    subst (λ n. IsLaid g.N.Network.reading c.args.board.now c.args.problem.machine.now c.args.problem.ask.now c.args.opening.now.goal c.args.child.now.first (record { act = c.args.child.now.act; places = take n c.args.child.now.choice.places } ∷ choices_by c.args.problem.machine.now (choices_before c.args.store.now.entries c.args.opening.now.parent)))
    (all-placed g t (goal.at.end_child-requires-clause-laid g t c).Then-hold-len) c.requires.laid

pub end_child-requires-clause-marks : goal.end_child-requires-clause-marks
end_child-requires-clause-marks g t c =
    let all = all-placed g t (goal.at.end_child-requires-clause-marks g t c).Then-hold-len in
    let four = holds-four c.args.problem.machine.now c.args.child.now.act.0 in
    let marks = c.requires.marks in
    omega arith

pub end_child-requires-clause-progress : goal.end_child-requires-clause-progress
end_child-requires-clause-progress g t c =
    subst (λ n. IsAtProgress c.args.problem.machine.now c.args.board.now.plans c.args.problem.ask.now c.args.opening.now c.args.store.now (up_to c.args.child.now.act.0 (take n c.args.child.now.choice.places)))
    (all-placed g t (goal.at.end_child-requires-clause-progress g t c).Then-hold-len) c.requires.progress

pub returns-then-hold-len-clause-progress : goal.returns-then-hold-len-clause-progress
returns-then-hold-len-clause-progress g t c none =
    subst (λ n. IsAtProgress c.args.problem.machine.now c.args.board.now.plans c.args.problem.ask.now c.end_child.new.opening c.end_child.new.store (through c.args.child.now.act.0 (take n c.args.child.now.choice.places)))
    (sym (all-placed g t (goal.at.returns-then-hold-len-clause-progress g t c).Then-hold-len)) (c.end_child.ensures.progress none)

pub places-last-requires : goal.places-last-requires
places-last-requires g t c =
    let stands = c.requires.laid.stands in
    let known = resource-known c.args.problem.machine.now c.args.child.now.act.0 c.get.result.now c.args.hold c.get-2.result.now c.get.ensures c.get-2.ensures in
    record { known = omega (arith, known, stands.1.made.1) }

pub loop-place-init : goal.loop-place-init
loop-place-init g t c =
    let known = ap length (ap holds_of_act c.get.ensures) in
    let count : length (take c.args.hold c.args.child.now.choice.places) ≡ c.args.hold = length-take-le c.args.hold c.args.child.now.choice.places (omega arith) in
    let is_rule = (λ i. slice_get (ap holds_of_act c.get.ensures i) (count i)) ∙ c.get-2.ensures in
    record {
      progress = begin-now g.N.Network.reading c.args.problem.machine.now c.args.problem.ask.now c.args.child.now.first c.args.child.now.act c.args.opening.now c.args.store.now c.args.board.now (take c.args.hold c.args.child.now.choice.places) c.get-2.result.now
          c.requires.laid c.requires.fresh is_rule c.places-last.result c.places-last.ensures c.requires.progress;
      same = same-itself c.args.opening.now c.args.store.now;
      back = back-itself g.N.Network.reading c.args.board.now c.args.problem.machine.now;
    }

-- a place is tried on a marked board
trying-here : (g : _) (t : _) (c : After-mark-mark g t) → IsTrying g.N.Network.reading g.N.Undo.untouched c.args.problem.machine.now c.args.problem.ask.now c.args.child.now.first c.args.child.now.act c.args.opening.now c.loop-place.opening c.args.store.now c.loop-place.store c.args.board.now c.loop-place.board c.mark-mark.new.self c.mark-mark.result.0 (take c.args.hold c.args.child.now.choice.places) c.loop-place.place c.get-2.result.now
trying-here g t c =
    let known = ap length (ap holds_of_act c.get.ensures) in
    let count : length (take c.args.hold c.args.child.now.choice.places) ≡ c.args.hold = length-take-le c.args.hold c.args.child.now.choice.places (omega arith) in
    let m = c.mark-mark.ensures in
    let v = c.loop-place.invariant in
    trying g.N.Network.reading g.N.Undo.untouched c.args.problem.machine.now c.args.problem.ask.now c.args.child.now.first c.args.child.now.act c.args.opening.now c.loop-place.opening c.args.store.now c.loop-place.store c.args.board.now c.loop-place.board c.mark-mark.new.self c.mark-mark.result.0
    (take c.args.hold c.args.child.now.choice.places) c.loop-place.place c.get-2.result.now
    c.get.result.now c.args.hold c.places-last.result c.marks_keep_boards.ensures.mark c.marks_keep_boards.ensures.back c.requires.laid c.requires.fresh c.get.ensures c.get-2.ensures count c.places-last.ensures (omega arith)
    v.same v.back v.progress (record { number = m.number; past_more = m.past; content_same = m.content; untouched_same = m.untouched; room_same = m.capacity })

pub try_place-requires-clause-stands : goal.try_place-requires-clause-stands
try_place-requires-clause-stands g t c =
    let tried = trying-here g t (goal.at.try_place-requires-clause-stands g t c).After-mark-mark in
    marked-stands g.N.Network.reading g.N.Undo.untouched c.args.problem.machine.now c.args.problem.ask.now c.args.child.now.first c.args.child.now.act c.args.opening.now c.loop-place.opening c.args.store.now c.loop-place.store c.args.board.now c.loop-place.board c.mark-mark.new.self c.mark-mark.result.0
    (take c.args.hold c.args.child.now.choice.places) c.loop-place.place c.get-2.result.now tried

pub try_place-requires-clause-next : goal.try_place-requires-clause-next
try_place-requires-clause-next g t c =
    let known = ap length (ap holds_of_act c.get.ensures) in
    let count : length (take c.args.hold c.args.child.now.choice.places) ≡ c.args.hold = length-take-le c.args.hold c.args.child.now.choice.places (omega arith) in
    let tried = trying-here g t (goal.at.try_place-requires-clause-next g t c).After-mark-mark in
    subst (λ n. IsSomeAnd (suffix_of c.mark-mark.new.self) (λ x. CanPlace c.args.problem.machine.now c.mark-mark.new.self.plans x n c.loop-place.place)) count
    (may-place g.N.Network.reading g.N.Undo.untouched c.args.problem.machine.now c.args.problem.ask.now c.args.child.now.first c.args.child.now.act c.args.opening.now c.loop-place.opening c.args.store.now c.loop-place.store c.args.board.now c.loop-place.board c.mark-mark.new.self c.mark-mark.result.0
    (take c.args.hold c.args.child.now.choice.places) c.loop-place.place c.get-2.result.now tried)

pub place_rest-requires : goal.place_rest-requires
place_rest-requires g t c κs within =
    let known = ap length (ap holds_of_act c.get.ensures) in
    let v = c.loop-place.invariant in
    let tried = trying-here g t (goal.at.place_rest-requires g t c).After-mark-mark in
    let p = c.try_place.ensures in
    let put = c.in-Ok.ensures.suffix in
    let some : c.args.hold < length c.args.child.now.choice.places = omega arith in
    let next = next-places c.args.child.now.choice.places c.args.hold c.loop-place.place some in
    let olds = choices_by c.args.problem.machine.now (choices_before c.loop-place.store.entries c.loop-place.opening.parent) in
    let laid = subst (λ ps. IsLaid g.N.Network.reading c.try_place.new.self c.args.problem.machine.now c.args.problem.ask.now c.loop-place.opening.goal c.args.child.now.first (record { act = c.args.child.now.act; places = ps } ∷ olds)) (sym next)
    (placed-laid g.N.Network.reading g.N.Undo.untouched c.args.problem.machine.now c.args.problem.ask.now c.args.child.now.first c.args.child.now.act c.args.opening.now c.loop-place.opening c.args.store.now c.loop-place.store c.args.board.now c.loop-place.board c.mark-mark.new.self c.mark-mark.result.0
    (take c.args.hold c.args.child.now.choice.places) c.loop-place.place c.get-2.result.now tried c.try_place.new.self put c.in-Ok.ensures.stands p.loaded) in
    let progress = subst (λ ps. IsAtProgress c.args.problem.machine.now c.try_place.new.self.plans c.args.problem.ask.now c.loop-place.opening c.loop-place.store (up_to c.args.child.now.act.0 ps)) (sym next)
    (placed-progress g.N.Network.reading g.N.Undo.untouched c.args.problem.machine.now c.args.problem.ask.now c.args.child.now.first c.args.child.now.act c.args.opening.now c.loop-place.opening c.args.store.now c.loop-place.store c.args.board.now c.loop-place.board c.mark-mark.new.self c.mark-mark.result.0
    (take c.args.hold c.args.child.now.choice.places) c.loop-place.place c.get-2.result.now tried c.try_place.new.self p.loaded) in
    let more : suc (5 - (c.args.hold + 1)) ≡ 5 - c.args.hold = omega arith in
    let spare = subst (λ n. HasMarks g.N.Network.reading n c.args.board.now) (sym more) c.requires.marks in
    let marks = placed-marks g.N.Network.reading g.N.Undo.untouched c.args.problem.machine.now c.args.problem.ask.now c.args.child.now.first c.args.child.now.act c.args.opening.now c.loop-place.opening c.args.store.now c.loop-place.store c.args.board.now c.loop-place.board c.mark-mark.new.self c.mark-mark.result.0
    (take c.args.hold c.args.child.now.choice.places) c.loop-place.place c.get-2.result.now tried (5 - (c.args.hold + 1)) c.try_place.new.self spare p.past p.marks in
    let same = v.same in
    let r = c.requires in
    let bounds = bounds-same c.args.problem.machine.now c.args.problem.ask.now c.args.opening.now c.loop-place.opening c.args.store.now c.loop-place.store same r.bounds in
    let fresh = fresh-same c.args.problem.machine.now c.args.problem.ask.now c.args.opening.now c.loop-place.opening c.args.store.now c.loop-place.store same r.fresh in
    let child : IsNewChild c.args.problem.machine.now c.args.problem.ask.now c.loop-place.opening.goal (record { act = c.args.child.now.act; choice = record c.args.child.now.choice { places = set c.args.child.now.choice.places c.args.hold c.loop-place.place }; first = c.args.child.now.first; count = c.args.child.now.count; complete = c.args.child.now.complete }) (c.args.hold + 1) = record {
      act = r.child.act;
      four = length-set c.args.child.now.choice.places c.args.hold c.loop-place.place ∙ r.child.four;
      known = r.child.known;
      hold = omega arith;
      goal = r.child.goal ∙ sym same.goal;
      complete = r.child.complete;
    } in
    let count = r.count ∙ ap (λ cs. suc (length (choices_by c.args.problem.machine.now cs))) (sym (before-same c.args.problem.machine.now c.args.problem.ask.now c.args.opening.now c.loop-place.opening c.args.store.now c.loop-place.store same r.fresh)) in
    (omega arith, (within, (r.posed, (child, (laid, (count, (marks, (fresh, (bounds, progress)))))))))

pub undo_to-requires-in-loop-place : goal.undo_to-requires-in-loop-place
undo_to-requires-in-loop-place g t c =
    let known = ap length (ap holds_of_act c.get.ensures) in
    let tried = trying-here g t (goal.at.undo_to-requires-in-loop-place g t c).After-mark-mark in
    let p = c.try_place.ensures in
    let some : c.args.hold < length c.args.child.now.choice.places = omega arith in
    let next = next-places c.args.child.now.choice.places c.args.hold c.loop-place.place some in
    let after : IsTried g.N.Network.reading g.N.Undo.untouched c.args.problem.machine.now c.args.problem.ask.now c.args.child.now.first c.args.child.now.act c.args.opening.now c.loop-place.opening c.args.store.now c.loop-place.store c.args.board.now c.loop-place.board c.mark-mark.new.self c.mark-mark.result.0
    (take c.args.hold c.args.child.now.choice.places) c.loop-place.place c.get-2.result.now c.match-try_place.board c.match-try_place.opening c.match-try_place.store = elim c.match-try_place.branch [
      | in-Ok+else-place_rest w ↦ tried-as g.N.Network.reading g.N.Undo.untouched c.args.problem.machine.now c.args.problem.ask.now c.args.child.now.first c.args.child.now.act c.args.opening.now c.loop-place.opening c.args.store.now c.loop-place.store c.args.board.now c.loop-place.board c.mark-mark.new.self c.mark-mark.result.0
          (take c.args.hold c.args.child.now.choice.places) c.loop-place.place c.get-2.result.now w.place_rest.new.board c.match-try_place.board w.place_rest.new.opening c.match-try_place.opening w.place_rest.new.store c.match-try_place.store w.board-is w.opening-is w.store-is
          (tried-placed g.N.Network.reading g.N.Undo.untouched c.args.problem.machine.now c.args.problem.ask.now c.args.child.now.first c.args.child.now.act c.args.opening.now c.loop-place.opening c.args.store.now c.loop-place.store c.args.board.now c.loop-place.board c.mark-mark.new.self c.mark-mark.result.0
          (take c.args.hold c.args.child.now.choice.places) c.loop-place.place c.get-2.result.now tried c.try_place.new.self w.place_rest.new.board w.place_rest.new.opening w.place_rest.new.store
          (since-step g.N.Network.reading c.mark-mark.new.self c.try_place.new.self c.args.problem.machine.now p.past p.loaded p.marks (λ s. w.in-Ok.ensures.stands)) w.place_rest.ensures.same (w.place_rest.ensures.back w.if-place_rest.false)
          (subst (λ ps. IsAtProgress c.args.problem.machine.now c.try_place.new.self.plans c.args.problem.ask.now w.place_rest.new.opening w.place_rest.new.store (through c.args.child.now.act.0 ps)) next (w.place_rest.ensures.progress w.if-place_rest.false)))
      | in-Err-Here w ↦ tried-as g.N.Network.reading g.N.Undo.untouched c.args.problem.machine.now c.args.problem.ask.now c.args.child.now.first c.args.child.now.act c.args.opening.now c.loop-place.opening c.args.store.now c.loop-place.store c.args.board.now c.loop-place.board c.mark-mark.new.self c.mark-mark.result.0
          (take c.args.hold c.args.child.now.choice.places) c.loop-place.place c.get-2.result.now c.try_place.new.self c.match-try_place.board c.loop-place.opening c.match-try_place.opening c.loop-place.store c.match-try_place.store w.board-is w.opening-is w.store-is
          (tried-late g.N.Network.reading g.N.Undo.untouched c.args.problem.machine.now c.args.problem.ask.now c.args.child.now.first c.args.child.now.act c.args.opening.now c.loop-place.opening c.args.store.now c.loop-place.store c.args.board.now c.loop-place.board c.mark-mark.new.self c.mark-mark.result.0
          (take c.args.hold c.args.child.now.choice.places) c.loop-place.place c.get-2.result.now tried c.try_place.new.self
          (refused-since g.N.Network.reading g.N.Undo.untouched c.args.problem.machine.now c.args.problem.ask.now c.args.child.now.first c.args.child.now.act c.args.opening.now c.loop-place.opening c.args.store.now c.loop-place.store c.args.board.now c.loop-place.board c.mark-mark.new.self c.mark-mark.result.0
          (take c.args.hold c.args.child.now.choice.places) c.loop-place.place c.get-2.result.now tried c.try_place.new.self p.past p.loaded p.marks w.in-Err-Here.ensures.back) w.in-Err-Here.ensures.late)
    ] in
    mark-known g.N.Network.reading g.N.Undo.untouched c.loop-place.board c.mark-mark.new.self c.match-try_place.board c.mark-mark.result.0 tried.marked after.since.past_same

-- and was tried, or is late
tried-here : (g : _) (t : _) (c : After-undo_to-in-loop-place g t) → IsTrying g.N.Network.reading g.N.Undo.untouched c.args.problem.machine.now c.args.problem.ask.now c.args.child.now.first c.args.child.now.act c.args.opening.now c.loop-place.opening c.args.store.now c.loop-place.store c.args.board.now c.loop-place.board c.mark-mark.new.self c.mark-mark.result.0 (take c.args.hold c.args.child.now.choice.places) c.loop-place.place c.get-2.result.now
    → IsTried g.N.Network.reading g.N.Undo.untouched c.args.problem.machine.now c.args.problem.ask.now c.args.child.now.first c.args.child.now.act c.args.opening.now c.loop-place.opening c.args.store.now c.loop-place.store c.args.board.now c.loop-place.board c.mark-mark.new.self c.mark-mark.result.0 (take c.args.hold c.args.child.now.choice.places) c.loop-place.place c.get-2.result.now c.match-try_place.board c.match-try_place.opening c.match-try_place.store
tried-here g t c tried =
    let known = ap length (ap holds_of_act c.get.ensures) in
    let p = c.try_place.ensures in
    let some : c.args.hold < length c.args.child.now.choice.places = omega arith in
    let next = next-places c.args.child.now.choice.places c.args.hold c.loop-place.place some in
    elim c.match-try_place.branch [
      | in-Ok+else-place_rest w ↦ tried-as g.N.Network.reading g.N.Undo.untouched c.args.problem.machine.now c.args.problem.ask.now c.args.child.now.first c.args.child.now.act c.args.opening.now c.loop-place.opening c.args.store.now c.loop-place.store c.args.board.now c.loop-place.board c.mark-mark.new.self c.mark-mark.result.0
          (take c.args.hold c.args.child.now.choice.places) c.loop-place.place c.get-2.result.now w.place_rest.new.board c.match-try_place.board w.place_rest.new.opening c.match-try_place.opening w.place_rest.new.store c.match-try_place.store w.board-is w.opening-is w.store-is
          (tried-placed g.N.Network.reading g.N.Undo.untouched c.args.problem.machine.now c.args.problem.ask.now c.args.child.now.first c.args.child.now.act c.args.opening.now c.loop-place.opening c.args.store.now c.loop-place.store c.args.board.now c.loop-place.board c.mark-mark.new.self c.mark-mark.result.0
          (take c.args.hold c.args.child.now.choice.places) c.loop-place.place c.get-2.result.now tried c.try_place.new.self w.place_rest.new.board w.place_rest.new.opening w.place_rest.new.store
          (since-step g.N.Network.reading c.mark-mark.new.self c.try_place.new.self c.args.problem.machine.now p.past p.loaded p.marks (λ s. w.in-Ok.ensures.stands)) w.place_rest.ensures.same (w.place_rest.ensures.back w.if-place_rest.false)
          (subst (λ ps. IsAtProgress c.args.problem.machine.now c.try_place.new.self.plans c.args.problem.ask.now w.place_rest.new.opening w.place_rest.new.store (through c.args.child.now.act.0 ps)) next (w.place_rest.ensures.progress w.if-place_rest.false)))
      | in-Err-Here w ↦ tried-as g.N.Network.reading g.N.Undo.untouched c.args.problem.machine.now c.args.problem.ask.now c.args.child.now.first c.args.child.now.act c.args.opening.now c.loop-place.opening c.args.store.now c.loop-place.store c.args.board.now c.loop-place.board c.mark-mark.new.self c.mark-mark.result.0
          (take c.args.hold c.args.child.now.choice.places) c.loop-place.place c.get-2.result.now c.try_place.new.self c.match-try_place.board c.loop-place.opening c.match-try_place.opening c.loop-place.store c.match-try_place.store w.board-is w.opening-is w.store-is
          (tried-late g.N.Network.reading g.N.Undo.untouched c.args.problem.machine.now c.args.problem.ask.now c.args.child.now.first c.args.child.now.act c.args.opening.now c.loop-place.opening c.args.store.now c.loop-place.store c.args.board.now c.loop-place.board c.mark-mark.new.self c.mark-mark.result.0
          (take c.args.hold c.args.child.now.choice.places) c.loop-place.place c.get-2.result.now tried c.try_place.new.self
          (refused-since g.N.Network.reading g.N.Undo.untouched c.args.problem.machine.now c.args.problem.ask.now c.args.child.now.first c.args.child.now.act c.args.opening.now c.loop-place.opening c.args.store.now c.loop-place.store c.args.board.now c.loop-place.board c.mark-mark.new.self c.mark-mark.result.0
          (take c.args.hold c.args.child.now.choice.places) c.loop-place.place c.get-2.result.now tried c.try_place.new.self p.past p.loaded p.marks w.in-Err-Here.ensures.back) w.in-Err-Here.ensures.late)
    ]

-- the board is back before the test, and after it
back-here : (g : _) (t : _) (c : After-undo_to-in-loop-place g t) → IsTrying g.N.Network.reading g.N.Undo.untouched c.args.problem.machine.now c.args.problem.ask.now c.args.child.now.first c.args.child.now.act c.args.opening.now c.loop-place.opening c.args.store.now c.loop-place.store c.args.board.now c.loop-place.board c.mark-mark.new.self c.mark-mark.result.0 (take c.args.hold c.args.child.now.choice.places) c.loop-place.place c.get-2.result.now
    → IsBack g.N.Network.reading c.args.board.now c.undo_to-in-loop-place.new.self c.args.problem.machine.now
back-here g t c tried =
    let u = c.undo_to-in-loop-place.ensures in
    back-now g.N.Network.reading g.N.Undo.untouched c.args.problem.machine.now c.args.problem.ask.now c.args.child.now.first c.args.child.now.act c.args.opening.now c.loop-place.opening c.args.store.now c.loop-place.store c.args.board.now c.loop-place.board c.mark-mark.new.self c.mark-mark.result.0
    (take c.args.hold c.args.child.now.choice.places) c.loop-place.place c.get-2.result.now tried c.match-try_place.board c.undo_to-in-loop-place.new.self c.match-try_place.opening c.match-try_place.store (tried-here g t c tried)
    (record { content_then = u.content; past_less = u.past; untouched_same = u.untouched; room_same = u.capacity })

back-after : (g : _) (t : _) (c : Joined-beyond g t) → IsBack g.N.Network.reading c.args.board.now c.undo_to-in-loop-place.new.self c.args.problem.machine.now
    → IsBack g.N.Network.reading c.args.board.now c.if-beyond.board c.args.problem.machine.now
back-after g t c back = elim c.if-beyond.branch [
  | then-beyond+then-not-tested+else-is_all_beyond w ↦
      subst (λ b. IsBack g.N.Network.reading c.args.board.now b c.args.problem.machine.now) (sym w.board-is)
      (back-trans g.N.Network.reading c.args.board.now c.undo_to-in-loop-place.new.self w.is_all_beyond.new.board c.args.problem.machine.now back w.is_all_beyond.ensures.back)
  | else-beyond w ↦ subst (λ b. IsBack g.N.Network.reading c.args.board.now b c.args.problem.machine.now) (sym w.board-is) back
]

pub loop-place-preserved : goal.loop-place-preserved
loop-place-preserved g t c =
    let known = ap length (ap holds_of_act c.get.ensures) in
    let k = goal.at.loop-place-preserved g t c in
    let tried = trying-here g t k.After-mark-mark in
    let after = tried-here g t k.After-undo_to-in-loop-place tried in
    let back = back-after g t k.Joined-beyond (back-here g t k.After-undo_to-in-loop-place tried) in
    record {
      progress = next-now g.N.Network.reading g.N.Undo.untouched c.args.problem.machine.now c.args.problem.ask.now c.args.child.now.first c.args.child.now.act c.args.opening.now c.loop-place.opening c.args.store.now c.loop-place.store c.args.board.now c.loop-place.board c.mark-mark.new.self c.mark-mark.result.0
          (take c.args.hold c.args.child.now.choice.places) c.loop-place.place c.get-2.result.now tried c.match-try_place.board c.if-beyond.board c.match-try_place.opening c.match-try_place.store after
          (c.loop-place.place - 1) (omega arith) back;
      same = same-now g.N.Network.reading g.N.Undo.untouched c.args.problem.machine.now c.args.problem.ask.now c.args.child.now.first c.args.child.now.act c.args.opening.now c.loop-place.opening c.args.store.now c.loop-place.store c.args.board.now c.loop-place.board c.mark-mark.new.self c.mark-mark.result.0
          (take c.args.hold c.args.child.now.choice.places) c.loop-place.place c.get-2.result.now tried c.match-try_place.board c.if-beyond.board c.match-try_place.opening c.match-try_place.store after;
      back = back;
    }

pub returns-after-beyond-clause-progress : goal.returns-after-beyond-clause-progress
returns-after-beyond-clause-progress g t c none =
    let known = ap length (ap holds_of_act c.get.ensures) in
    let count : length (take c.args.hold c.args.child.now.choice.places) ≡ c.args.hold = length-take-le c.args.hold c.args.child.now.choice.places (omega arith) in
    let k = goal.at.returns-after-beyond-clause-progress g t c in
    let tried = trying-here g t k.After-mark-mark in
    end-now g.N.Network.reading g.N.Undo.untouched c.args.problem.machine.now c.args.problem.ask.now c.args.child.now.first c.args.child.now.act c.args.opening.now c.loop-place.opening c.args.store.now c.loop-place.store c.args.board.now c.loop-place.board c.mark-mark.new.self c.mark-mark.result.0
    (take c.args.hold c.args.child.now.choice.places) c.loop-place.place c.get-2.result.now tried c.match-try_place.board c.if-beyond.board c.match-try_place.opening c.match-try_place.store (tried-here g t k.After-undo_to-in-loop-place tried) (omega arith) (omega arith)

pub returns-after-beyond-clause-same : goal.returns-after-beyond-clause-same
returns-after-beyond-clause-same g t c =
    let k = goal.at.returns-after-beyond-clause-same g t c in
    let tried = trying-here g t k.After-mark-mark in
    same-now g.N.Network.reading g.N.Undo.untouched c.args.problem.machine.now c.args.problem.ask.now c.args.child.now.first c.args.child.now.act c.args.opening.now c.loop-place.opening c.args.store.now c.loop-place.store c.args.board.now c.loop-place.board c.mark-mark.new.self c.mark-mark.result.0
    (take c.args.hold c.args.child.now.choice.places) c.loop-place.place c.get-2.result.now tried c.match-try_place.board c.if-beyond.board c.match-try_place.opening c.match-try_place.store (tried-here g t k.After-undo_to-in-loop-place tried)

pub returns-after-beyond-clause-back : goal.returns-after-beyond-clause-back
returns-after-beyond-clause-back g t c none =
    let k = goal.at.returns-after-beyond-clause-back g t c in
    back-after g t k.Joined-beyond (back-here g t k.After-undo_to-in-loop-place (trying-here g t k.After-mark-mark))

-- the least end behind the place is read
pub end_bound-requires-in-Ok-clause-stands : goal.end_bound-requires-in-Ok-clause-stands
end_bound-requires-in-Ok-clause-stands g t c = (c.args.problem.machine.now, (c.place_rest.ensures.back c.if-place_rest.false).stands c.in-Ok.ensures.stands)

pub end_bound-requires-in-Ok-clause-open : goal.end_bound-requires-in-Ok-clause-open
end_bound-requires-in-Ok-clause-open g t c =
    let tried = trying-here g t (goal.at.end_bound-requires-in-Ok-clause-open g t c).After-mark-mark in
    placed-open g.N.Network.reading g.N.Undo.untouched c.args.problem.machine.now c.args.problem.ask.now c.args.child.now.first c.args.child.now.act c.args.opening.now c.loop-place.opening c.args.store.now c.loop-place.store c.args.board.now c.loop-place.board c.mark-mark.new.self c.mark-mark.result.0
    (take c.args.hold c.args.child.now.choice.places) c.loop-place.place c.get-2.result.now tried c.try_place.new.self c.place_rest.new.board c.in-Ok.ensures.suffix (c.place_rest.ensures.back c.if-place_rest.false)

-- and all places up to it are tested
pub is_all_beyond-requires-clause-stands : goal.is_all_beyond-requires-clause-stands
is_all_beyond-requires-clause-stands g t c =
    let k = goal.at.is_all_beyond-requires-clause-stands g t c in
    (back-here g t k.After-undo_to-in-loop-place (trying-here g t k.After-mark-mark)).stands c.requires.laid.stands

pub is_all_beyond-requires-clause-next : goal.is_all_beyond-requires-clause-next
is_all_beyond-requires-clause-next g t c =
    let known = ap length (ap holds_of_act c.get.ensures) in
    let count : length (take c.args.hold c.args.child.now.choice.places) ≡ c.args.hold = length-take-le c.args.hold c.args.child.now.choice.places (omega arith) in
    let k = goal.at.is_all_beyond-requires-clause-next g t c in
    let tried = trying-here g t k.After-mark-mark in
    let b = c.undo_to-in-loop-place.new.self in
    subst (λ n. IsSomeAnd (suffix_of b) (λ x. CanPlace c.args.problem.machine.now b.plans x n c.loop-place.place)) count
    (may-again g.N.Network.reading g.N.Undo.untouched c.args.problem.machine.now c.args.problem.ask.now c.args.child.now.first c.args.child.now.act c.args.opening.now c.loop-place.opening c.args.store.now c.loop-place.store c.args.board.now c.loop-place.board c.mark-mark.new.self c.mark-mark.result.0
    (take c.args.hold c.args.child.now.choice.places) c.loop-place.place c.get-2.result.now tried c.match-try_place.board b c.match-try_place.opening c.match-try_place.store (tried-here g t k.After-undo_to-in-loop-place tried) (back-here g t k.After-undo_to-in-loop-place tried))

pub is_all_beyond-requires-clause-marks : goal.is_all_beyond-requires-clause-marks
is_all_beyond-requires-clause-marks g t c =
    let known = ap length (ap holds_of_act c.get.ensures) in
    let four = holds-four c.args.problem.machine.now c.args.child.now.act.0 in
    let k = goal.at.is_all_beyond-requires-clause-marks g t c in
    let back = back-here g t k.After-undo_to-in-loop-place (trying-here g t k.After-mark-mark) in
    let marks = c.requires.marks in
    omega (arith, ap length back.same_past, back.marks)

pub returns-then-is_all_beyond-clause-progress : goal.returns-then-is_all_beyond-clause-progress
returns-then-is_all_beyond-clause-progress g t c none =
    let known = ap length (ap holds_of_act c.get.ensures) in
    let count : length (take c.args.hold c.args.child.now.choice.places) ≡ c.args.hold = length-take-le c.args.hold c.args.child.now.choice.places (omega arith) in
    let k = goal.at.returns-then-is_all_beyond-clause-progress g t c in
    let tried = trying-here g t k.After-mark-mark in
    let beyond = c.is_all_beyond.ensures.beyond c.if-is_all_beyond.true in
    crowded-now g.N.Network.reading g.N.Undo.untouched c.args.problem.machine.now c.args.problem.ask.now c.args.child.now.first c.args.child.now.act c.args.opening.now c.loop-place.opening c.args.store.now c.loop-place.store c.args.board.now c.loop-place.board c.mark-mark.new.self c.mark-mark.result.0
    (take c.args.hold c.args.child.now.choice.places) c.loop-place.place c.get-2.result.now tried c.match-try_place.board c.undo_to-in-loop-place.new.self c.match-try_place.opening c.match-try_place.store (tried-here g t k.After-undo_to-in-loop-place tried)
    beyond.0 (back-here g t k.After-undo_to-in-loop-place tried) beyond.1 beyond.2 (omega arith)

pub returns-then-is_all_beyond-clause-same : goal.returns-then-is_all_beyond-clause-same
returns-then-is_all_beyond-clause-same g t c =
    let k = goal.at.returns-then-is_all_beyond-clause-same g t c in
    let tried = trying-here g t k.After-mark-mark in
    same-now g.N.Network.reading g.N.Undo.untouched c.args.problem.machine.now c.args.problem.ask.now c.args.child.now.first c.args.child.now.act c.args.opening.now c.loop-place.opening c.args.store.now c.loop-place.store c.args.board.now c.loop-place.board c.mark-mark.new.self c.mark-mark.result.0
    (take c.args.hold c.args.child.now.choice.places) c.loop-place.place c.get-2.result.now tried c.match-try_place.board c.undo_to-in-loop-place.new.self c.match-try_place.opening c.match-try_place.store (tried-here g t k.After-undo_to-in-loop-place tried)

pub returns-then-is_all_beyond-clause-back : goal.returns-then-is_all_beyond-clause-back
returns-then-is_all_beyond-clause-back g t c none =
    let k = goal.at.returns-then-is_all_beyond-clause-back g t c in
    back-trans g.N.Network.reading c.args.board.now c.undo_to-in-loop-place.new.self c.is_all_beyond.new.board c.args.problem.machine.now
    (back-here g t k.After-undo_to-in-loop-place (trying-here g t k.After-mark-mark)) c.is_all_beyond.ensures.back

pub returns-in-Err-UpToHere-clause-progress : goal.returns-in-Err-UpToHere-clause-progress
returns-in-Err-UpToHere-clause-progress g t c none =
    let known = ap length (ap holds_of_act c.get.ensures) in
    let count : length (take c.args.hold c.args.child.now.choice.places) ≡ c.args.hold = length-take-le c.args.hold c.args.child.now.choice.places (omega arith) in
    let tried = trying-here g t (goal.at.returns-in-Err-UpToHere-clause-progress g t c).After-mark-mark in
    shut-now g.N.Network.reading g.N.Undo.untouched c.args.problem.machine.now c.args.problem.ask.now c.args.child.now.first c.args.child.now.act c.args.opening.now c.loop-place.opening c.args.store.now c.loop-place.store c.args.board.now c.loop-place.board c.mark-mark.new.self c.mark-mark.result.0
    (take c.args.hold c.args.child.now.choice.places) c.loop-place.place c.get-2.result.now tried (omega arith) (c.in-Err-UpToHere.ensures.late_before c.in-Err-UpToHere.field-0-is)

pub returns-in-Err-UpToHere-clause-back : goal.returns-in-Err-UpToHere-clause-back
returns-in-Err-UpToHere-clause-back g t c none =
    let tried = trying-here g t (goal.at.returns-in-Err-UpToHere-clause-back g t c).After-mark-mark in
    let p = c.try_place.ensures in
    let u = c.undo_to.ensures in
    let after = tried-late g.N.Network.reading g.N.Undo.untouched c.args.problem.machine.now c.args.problem.ask.now c.args.child.now.first c.args.child.now.act c.args.opening.now c.loop-place.opening c.args.store.now c.loop-place.store c.args.board.now c.loop-place.board c.mark-mark.new.self c.mark-mark.result.0
    (take c.args.hold c.args.child.now.choice.places) c.loop-place.place c.get-2.result.now tried c.try_place.new.self
    (refused-since g.N.Network.reading g.N.Undo.untouched c.args.problem.machine.now c.args.problem.ask.now c.args.child.now.first c.args.child.now.act c.args.opening.now c.loop-place.opening c.args.store.now c.loop-place.store c.args.board.now c.loop-place.board c.mark-mark.new.self c.mark-mark.result.0
    (take c.args.hold c.args.child.now.choice.places) c.loop-place.place c.get-2.result.now tried c.try_place.new.self p.past p.loaded p.marks c.in-Err-UpToHere.ensures.back) c.in-Err-UpToHere.ensures.late in
    back-now g.N.Network.reading g.N.Undo.untouched c.args.problem.machine.now c.args.problem.ask.now c.args.child.now.first c.args.child.now.act c.args.opening.now c.loop-place.opening c.args.store.now c.loop-place.store c.args.board.now c.loop-place.board c.mark-mark.new.self c.mark-mark.result.0
    (take c.args.hold c.args.child.now.choice.places) c.loop-place.place c.get-2.result.now tried c.try_place.new.self c.undo_to.new.self c.loop-place.opening c.loop-place.store after
    (record { content_then = u.content; past_less = u.past; untouched_same = u.untouched; room_same = u.capacity })

-- an answer behind the place ends it
pub returns-then-place_rest-clause-found : goal.returns-then-place_rest-clause-found
returns-then-place_rest-clause-found g t c is =
    let tried = trying-here g t (goal.at.returns-then-place_rest-clause-found g t c).After-mark-mark in
    let p = c.try_place.ensures in
    found-now g.N.Network.reading g.N.Undo.untouched c.args.problem.machine.now c.args.problem.ask.now c.args.child.now.first c.args.child.now.act c.args.opening.now c.loop-place.opening c.args.store.now c.loop-place.store c.args.board.now c.loop-place.board c.mark-mark.new.self c.mark-mark.result.0
    (take c.args.hold c.args.child.now.choice.places) c.loop-place.place c.get-2.result.now tried c.try_place.new.self c.place_rest.new.board p.past p.loaded p.marks (c.place_rest.ensures.found c.if-place_rest.true)

pub returns-then-place_rest-clause-same : goal.returns-then-place_rest-clause-same
returns-then-place_rest-clause-same g t c = same-trans c.args.opening.now c.loop-place.opening c.place_rest.new.opening c.args.store.now c.loop-place.store c.place_rest.new.store c.loop-place.invariant.same c.place_rest.ensures.same
