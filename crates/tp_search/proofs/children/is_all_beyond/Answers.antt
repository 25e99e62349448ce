-- The board is marked, tried, and taken back.
use Rattle.std.proofs.Common.{◌≡◌, ℕ, ◌-◌, ◌<◌, ◌≤◌, IsSomeAnd, ap, subst, sym, ◌∙◌}
use Rattle.tp_machine.specs.declared.machine.Machine.{Machine}
use Rattle.tp_schedule.specs.Spots.{Ticks}
use Rattle.tp_schedule.specs.Spots.Spot.{own}
use Rattle.tp_constraints.specs.Suffixes.{SuffixTimes, with_place}
use Rattle.tp_placing.specs.Boards.{BoardValue, suffix_of}
use Rattle.tp_placing.specs.Calls.{CanPlace, IsSameLoad}
use Rattle.tp_placing.specs.RefusedPlace.{EndsAfterUpTo}
use Rattle.tp_search.proofs.BoardSteps.{IsMarked, load-of, mark-back, mark-known, suffix-back}
use Rattle.tp_search.proofs.children.is_all_beyond.Goals as goal
use Rattle.tp_search.proofs.children.is_all_beyond.Goals.{After-mark-mark}

-- the board was marked
marked : (g : _) (c : After-mark-mark g) → IsMarked g.N.Network.reading g.N.Undo.untouched c.args.board.now c.mark-mark.new.self c.mark-mark.result.0
marked g c = (let m = c.mark-mark.ensures in record { number = m.number; past_more = m.past; content_same = m.content; untouched_same = m.untouched; room_same = m.capacity })

-- what is known of the places of a board is known of those of one that carries the same
crowded-as : {N : Type 0} (machine : Machine) (b b' : BoardValue N) (place limit : ℕ) → suffix_of b' ≡ suffix_of b → IsSameLoad b b' → IsSomeAnd (suffix_of b') (EndsAfterUpTo machine b' place limit) → IsSomeAnd (suffix_of b) (EndsAfterUpTo machine b place limit)
crowded-as machine b b' place limit suffix load crowded =
    subst (λ o. IsSomeAnd o (EndsAfterUpTo machine b place limit)) suffix
    (subst (λ ks. IsSomeAnd (suffix_of b') (λ x. IsSomeAnd ks (λ k. (earlier : ℕ) → earlier ≤ place → (t : Ticks) → SuffixTimes machine b.plans k (with_place earlier x) t → limit < t (own 0)))) load.ask
    (subst (λ ps. IsSomeAnd (suffix_of b') (λ x. IsSomeAnd b'.ask (λ k. (earlier : ℕ) → earlier ≤ place → (t : Ticks) → SuffixTimes machine ps k (with_place earlier x) t → limit < t (own 0)))) load.plans crowded))

pub is_crowded-crowded-requires-clause-stands : goal.is_crowded-crowded-requires-clause-stands
is_crowded-crowded-requires-clause-stands g c =
    let m = marked g (goal.at.is_crowded-crowded-requires-clause-stands g c).After-mark-mark in
    c.marks_keep_boards.ensures.mark c.args.board.now c.mark-mark.new.self c.args.problem.machine.now m.content_same m.untouched_same m.past_more c.requires.stands

pub is_crowded-crowded-requires-clause-next : goal.is_crowded-crowded-requires-clause-next
is_crowded-crowded-requires-clause-next g c =
    let m = marked g (goal.at.is_crowded-crowded-requires-clause-next g c).After-mark-mark in
    let machine = c.args.problem.machine.now in
    let b = c.args.board.now in
    subst (λ ps. IsSomeAnd (suffix_of c.mark-mark.new.self) (λ x. CanPlace machine ps x c.args.hold c.args.place)) (sym (load-of g.N.Network.reading g.N.Undo.untouched b c.mark-mark.new.self m.untouched_same).plans)
    (subst (λ o. IsSomeAnd o (λ x. CanPlace machine b.plans x c.args.hold c.args.place)) (sym (suffix-back g.N.Network.reading b c.mark-mark.new.self m.content_same)) c.requires.next)

pub undo_to-requires : goal.undo_to-requires
undo_to-requires g c =
    let m = marked g (goal.at.undo_to-requires g c).After-mark-mark in
    mark-known g.N.Network.reading g.N.Undo.untouched c.args.board.now c.mark-mark.new.self c.is_crowded-crowded.new.self c.mark-mark.result.0 m c.is_crowded-crowded.ensures.past

pub returns-clause-beyond : goal.returns-clause-beyond
returns-clause-beyond g c is =
    let m = marked g (goal.at.returns-clause-beyond g c).After-mark-mark in
    let b = c.args.board.now in (
      c.in-By.limit,
      sym c.limit.ensures ∙ c.in-By.is,
      crowded-as c.args.problem.machine.now b c.mark-mark.new.self c.args.place c.in-By.limit (suffix-back g.N.Network.reading b c.mark-mark.new.self m.content_same)
          (load-of g.N.Network.reading g.N.Undo.untouched b c.mark-mark.new.self m.untouched_same) (c.is_crowded-crowded.ensures.crowded is),
    )

pub returns-clause-back : goal.returns-clause-back
returns-clause-back g c =
    let m = marked g (goal.at.returns-clause-back g c).After-mark-mark in
    let p = c.is_crowded-crowded.ensures in
    let u = c.undo_to.ensures in
    mark-back g.N.Network.reading g.N.Undo.untouched c.marks_keep_boards.ensures.mark c.args.board.now c.mark-mark.new.self c.is_crowded-crowded.new.self c.undo_to.new.self c.args.problem.machine.now c.mark-mark.result.0 m
    (record { past_same = p.past; load = p.loaded; room = ap (λ n. n - 1) p.marks; back = λ s. p.back })
    (record { content_then = u.content; past_less = u.past; untouched_same = u.untouched; room_same = u.capacity })
