use Rattle.std.proofs.Common.{◌≡◌, ◌<◌, ℕ, IsSomeAnd, Some, ◌∷◌, None, refl, [], length, sym, subst, ◌∙◌, true, arith}
use Rattle.std.proofs.lemmas.Bool.{both_ways}
use Rattle.tp_machine.specs.declared.parts.State.{State}
use Rattle.tp_machine.specs.declared.machine.Machine.{Machine}
use Rattle.tp_pool.specs.Entries.{choices_before}
use Rattle.tp_pool.specs.declared.choice.Choice.{Choice as Stored}
use Rattle.tp_schedule.specs.Spots.Spot.{own}
use Rattle.tp_constraints.specs.Suffixes.{with_stop}
use Rattle.tp_placing.specs.Boards.{suffix_of}
use Rattle.tp_placing.specs.LoadedBoard.{Stands}
use Rattle.tp_placing.specs.Ticks.{HasLeastTick}
use Rattle.tp_search.specs.Boards.{IsLaid}
use Rattle.tp_search.specs.OpenedLists.{IsAtProgress, IsSameOpening}
use Rattle.tp_search.specs.OpenedLists.Progress.{nothing, up_to}
use Rattle.tp_search.specs.Stored.{choices_by}
use Rattle.tp_search.specs.Stores.{IsInRange, after_keep}
use Rattle.tp_search.proofs.BoardSteps.{IsMarked, laid-marked, load-of, since-step, taken-back}
use Rattle.tp_search.proofs.FurtherFacts.{further-marked, further-step}
use Rattle.tp_search.proofs.OpeningSame.{barred-same, same-itself}
use Rattle.tp_search.proofs.StopSteps.{empty-going, late-going, new-going, other-going, stop-found, stop-looked, stopped-bound}
use Rattle.tp_search.proofs.StoreFacts.{grows-by_keep}
use Rattle.tp_search.proofs.children.open_stop.Goals as goal
use Rattle.tp_search.proofs.children.open_stop.Goals.{After-mark-mark, After-stop, in-Ok+else-bound-opening, in-Err, then-count-eq0-via-then-count-eq0, then-count-eq0-via-else-count-eq0+then-not-is_at}

-- the choice that stops
abbrev stop_to : State → Stored
stop_to goal = record { act = None; goal = goal; places = 0 ∷ 0 ∷ 0 ∷ 0 ∷ [] }

-- the board was marked
marked : (g : _) (c : After-mark-mark g) → IsMarked g.N.Network.reading g.N.Undo.untouched c.args.board.now c.mark-mark.new.self c.mark-mark.result.0
marked g c =
    let m = c.mark-mark.ensures in
    record { number = m.number; past_more = m.past; content_same = m.content; untouched_same = m.untouched; room_same = m.capacity }

-- it carries the list as before, with the same plans
laid : (g : _) (c : After-mark-mark g) → IsLaid g.N.Network.reading c.mark-mark.new.self c.args.problem.machine.now c.args.problem.ask.now c.args.opening.now.goal c.args.laid.first
    (choices_by c.args.problem.machine.now (choices_before c.args.store.now.entries c.args.opening.now.parent))
laid g c =
    laid-marked g.N.Network.reading g.N.Undo.untouched c.marks_keep_boards.ensures.mark c.args.board.now c.mark-mark.new.self c.mark-mark.result.0 c.args.problem.machine.now c.args.problem.ask.now
    c.args.opening.now.goal c.args.laid.first (choices_by c.args.problem.machine.now (choices_before c.args.store.now.entries c.args.opening.now.parent)) (marked g c) c.requires.opened.laid

plans : (g : _) (c : After-mark-mark g) → c.args.board.now.plans ≡ c.mark-mark.new.self.plans
plans g c = sym (load-of g.N.Network.reading g.N.Undo.untouched c.args.board.now c.mark-mark.new.self (marked g c).untouched_same).plans

progress : (g : _) (c : After-mark-mark g) → IsAtProgress c.args.problem.machine.now c.mark-mark.new.self.plans c.args.problem.ask.now c.args.opening.now c.args.store.now nothing
progress g c = subst (λ ps. IsAtProgress c.args.problem.machine.now ps c.args.problem.ask.now c.args.opening.now c.args.store.now nothing) (plans g c) c.requires.progress

-- where the list was stopped, it is looked at with its bound
looked : (g : _) (c : After-stop g) → IsLaid g.N.Network.reading c.mark-mark.new.self c.args.problem.machine.now c.args.problem.ask.now c.args.opening.now.goal c.args.laid.first
    (choices_by c.args.problem.machine.now (choices_before c.args.store.now.entries c.args.opening.now.parent))
    → IsAtProgress c.args.problem.machine.now c.mark-mark.new.self.plans c.args.problem.ask.now c.args.opening.now c.args.store.now nothing
    → IsSomeAnd (suffix_of c.mark-mark.new.self) (λ x. suffix_of c.stop.new.self ≡ Some (with_stop x)) → (tick : ℕ)
    → ((machine : Machine) → Stands g.N.Network.reading c.stop.new.self machine → HasLeastTick machine c.stop.new.self (own 0) tick)
    → (tick ≡ c.args.opening.now.bound → ⊥) → IsInRange c.args.store.now tick
    × IsAtProgress c.args.problem.machine.now c.mark-mark.new.self.plans c.args.problem.ask.now c.args.opening.now (after_keep c.args.opening.now.parent (stop_to c.args.opening.now.goal) tick true c.args.store.now) (up_to 0 [])
looked g c carries before put tick least other =
    let at : c.in-Front.state ≡ c.args.laid.first = c.is_at.ensures.0 c.if-not-is_at.false in
    let some : 0 < length (choices_by c.args.problem.machine.now (choices_before c.args.store.now.entries c.args.opening.now.parent)) = omega arith in
    stop-looked g.N.Network.reading c.args.problem.machine.now c.args.problem.ask.now c.args.laid.first c.args.opening.now c.args.store.now c.in-Front.state c.in-Front.end c.in-Front.kept c.in-Front.is
    c.mark-mark.new.self carries at some (stop_to c.args.opening.now.goal) tick
    (stopped-bound g.N.Network.reading c.args.problem.machine.now c.args.problem.ask.now c.args.laid.first c.args.opening.now c.args.store.now c.in-Front.state c.in-Front.end c.in-Front.kept c.in-Front.is
    c.mark-mark.new.self carries at some c.stop.new.self tick c.requires.opened.placed put c.stop.ensures.loaded (least c.args.problem.machine.now (c.stop.ensures.stands c.args.problem.machine.now carries.stands)))
    refl refl c.requires.opened.fresh c.requires.opened.bounds before other

pub returns-in_default-clause-progress : goal.returns-in_default-clause-progress
returns-in_default-clause-progress g c none = new-going c.args.problem.machine.now c.args.board.now.plans c.args.problem.ask.now c.args.opening.now c.args.store.now c.in_default.is c.requires.progress

pub returns-then-count-eq0-clause-progress : goal.returns-then-count-eq0-clause-progress
returns-then-count-eq0-clause-progress g c none = elim c.then-count-eq0.branch [
  | then-count-eq0-via-then-count-eq0 w ↦
      empty-going c.args.problem.machine.now c.args.board.now.plans c.args.problem.ask.now c.args.opening.now c.args.store.now c.in-Front.state c.in-Front.end c.in-Front.kept c.in-Front.is
      (omega arith) c.requires.progress
  | then-count-eq0-via-else-count-eq0+then-not-is_at w ↦
      other-going g.N.Network.reading c.args.problem.machine.now c.args.problem.ask.now c.args.laid.first c.args.opening.now c.args.store.now
      c.in-Front.state c.in-Front.end c.in-Front.kept c.in-Front.is c.args.board.now c.requires.opened.laid
      (λ same. both_ways w.is_at.result w.if-not-is_at.true (w.is_at.ensures.1 same)) c.requires.progress
]

pub stop-requires-clause-stands : goal.stop-requires-clause-stands
stop-requires-clause-stands g c = (c.args.problem.machine.now, (laid g (goal.at.stop-requires-clause-stands g c).After-mark-mark).stands)

pub end_bound-bound-requires-clause-stands : goal.end_bound-bound-requires-clause-stands
end_bound-bound-requires-clause-stands g c =
    (c.args.problem.machine.now, c.stop.ensures.stands c.args.problem.machine.now (laid g (goal.at.end_bound-bound-requires-clause-stands g c).After-mark-mark).stands)

-- it is not the answer, and is stored
pub keep-requires-clause-range : goal.keep-requires-clause-range
keep-requires-clause-range g c =
    let at = goal.at.keep-requires-clause-range g c in
    (looked g at.After-stop (laid g at.After-mark-mark) (progress g at.After-mark-mark) c.in-Ok.ensures.suffix c.end_bound-bound.result c.end_bound-bound.ensures c.if-bound-opening.false).0

pub returns-clause-progress : goal.returns-clause-progress
returns-clause-progress g c none =
    let at = goal.at.returns-clause-progress g c in
    let carries = laid g at.After-mark-mark in
    let before = progress g at.After-mark-mark in
    let all : IsAtProgress c.args.problem.machine.now c.mark-mark.new.self.plans c.args.problem.ask.now c.args.opening.now c.match-stop.store (up_to 0 []) = elim c.match-stop.branch [
      | in-Ok+else-bound-opening w ↦
          subst (λ s. IsAtProgress c.args.problem.machine.now c.mark-mark.new.self.plans c.args.problem.ask.now c.args.opening.now s (up_to 0 [])) (sym (w.store-is ∙ w.keep.ensures))
          (looked g at.After-stop carries before w.in-Ok.ensures.suffix w.end_bound-bound.result w.end_bound-bound.ensures w.if-bound-opening.false).1
      | in-Err w ↦
          subst (λ s. IsAtProgress c.args.problem.machine.now c.mark-mark.new.self.plans c.args.problem.ask.now c.args.opening.now s (up_to 0 [])) (sym w.store-is)
          (late-going g.N.Network.reading c.args.problem.machine.now c.args.problem.ask.now c.args.laid.first c.args.opening.now c.args.store.now
          c.in-Front.state c.in-Front.end c.in-Front.kept c.in-Front.is c.mark-mark.new.self carries
          (w.in-Err.ensures.late c.args.problem.machine.now carries.stands) before)
    ] in
    subst (λ ps. IsAtProgress c.args.problem.machine.now ps c.args.problem.ask.now c.args.opening.now c.match-stop.store (up_to 0 [])) (sym (plans g at.After-mark-mark)) all

pub returns-clause-same : goal.returns-clause-same
returns-clause-same g c = elim c.match-stop.branch [
  | in-Ok+else-bound-opening w ↦
      subst (λ s. IsSameOpening c.args.opening.now c.args.opening.now c.args.store.now s) (sym (w.store-is ∙ w.keep.ensures))
      (barred-same c.args.opening.now c.args.opening.now c.args.store.now _ refl (grows-by_keep c.args.opening.now.parent (stop_to c.args.opening.now.goal) w.end_bound-bound.result true c.args.store.now))
  | in-Err w ↦ subst (λ s. IsSameOpening c.args.opening.now c.args.opening.now c.args.store.now s) (sym w.store-is) (same-itself c.args.opening.now c.args.store.now)
]

-- the board carries the answer
pub returns-then-bound-opening-clause-found : goal.returns-then-bound-opening-clause-found
returns-then-bound-opening-clause-found g c is =
    let k = goal.at.returns-then-bound-opening-clause-found g c in
    let carries = laid g k.After-mark-mark in
    let p = c.stop.ensures in
    let stands = p.stands c.args.problem.machine.now carries.stands in
    let at : c.in-Front.state ≡ c.args.laid.first = c.is_at.ensures.0 c.if-not-is_at.false in
    let some : 0 < length (choices_by c.args.problem.machine.now (choices_before c.args.store.now.entries c.args.opening.now.parent)) = omega arith in
    stop-found g.N.Network.reading c.args.problem.machine.now c.args.problem.ask.now c.args.laid.first c.args.opening.now c.args.store.now c.in-Front.state c.in-Front.end c.in-Front.kept c.in-Front.is
    c.mark-mark.new.self carries at some c.args.board.now c.stop.new.self c.args.opening.now.bound c.end_bound-bound.result
    (further-step g.N.Network.reading c.args.board.now c.mark-mark.new.self c.stop.new.self (further-marked g.N.Network.reading g.N.Undo.untouched c.args.board.now c.mark-mark.new.self c.mark-mark.result.0 (marked g k.After-mark-mark)) p.past p.loaded p.marks)
    c.requires.opened.placed c.in-Ok.ensures.suffix stands p.loaded (c.end_bound-bound.ensures c.args.problem.machine.now stands) (omega (arith, c.if-bound-opening.true))

pub returns-clause-back : goal.returns-clause-back
returns-clause-back g c none =
    let keeps = c.marks_keep_boards.ensures in
    let p = c.stop.ensures in
    let u = c.undo_to.ensures in
    taken-back g.N.Network.reading g.N.Undo.untouched keeps.mark keeps.back c.args.board.now c.mark-mark.new.self c.stop.new.self c.undo_to.new.self c.args.problem.machine.now
    c.mark-mark.result.0 (marked g (goal.at.returns-clause-back g c).After-mark-mark)
    (since-step g.N.Network.reading c.mark-mark.new.self c.stop.new.self c.args.problem.machine.now p.past p.loaded p.marks (λ s. p.stands c.args.problem.machine.now s))
    (record { content_then = u.content; past_less = u.past; untouched_same = u.untouched; room_same = u.capacity })
