use Rattle.std.proofs.Common.{◌≡◌, [], sym, subst}
use Rattle.tp_pool.specs.Entries.{choices_before}
use Rattle.tp_search.specs.Boards.{IsLaid}
use Rattle.tp_search.specs.OpenedLists.{IsAtProgress}
use Rattle.tp_search.specs.OpenedLists.Progress.{through, up_to}
use Rattle.tp_search.specs.Stored.{choices_by}
use Rattle.tp_search.proofs.ActSteps.{IsActed, act-late, act-shut, acted-as, acted-late, acted-placed}
use Rattle.tp_search.proofs.BoardSteps.{IsMarked, laid-action, laid-marked, load-of, since-step, taken-back}
use Rattle.tp_search.proofs.FurtherFacts.{found-further, further-marked, further-step}
use Rattle.tp_search.proofs.PlaceFacts.{opening-next_act}
use Rattle.tp_search.proofs.children.open_act.Goals as goal
use Rattle.tp_search.proofs.children.open_act.Goals.{After-mark-mark, After-undo_to, in-Ok+else-place_rest, in-Err}

-- the board was marked
marked : (g : _) (c : After-mark-mark g) → IsMarked g.N.Network.reading g.N.Undo.untouched c.args.board.now c.mark-mark.new.self c.mark-mark.result.0
marked g c =
    let m = c.mark-mark.ensures in
    record { number = m.number; past_more = m.past; content_same = m.content; untouched_same = m.untouched; room_same = m.capacity }

-- it carries the list as before, with the same plans
laid : (g : _) (c : After-mark-mark g) → IsLaid g.N.Network.reading c.mark-mark.new.self c.args.problem.machine.now c.args.problem.ask.now c.args.opening.now.goal c.args.laid.first
    (choices_by c.args.problem.machine.now (choices_before c.args.store.now.entries c.args.opening.now.parent))
laid g c =
    laid-marked g.N.Network.reading g.N.Undo.untouched c.marks_keep_boards.ensures.mark c.args.board.now c.mark-mark.new.self c.mark-mark.result.0 c.args.problem.machine.now c.args.problem.ask.now
    c.args.opening.now.goal c.args.laid.first (choices_by c.args.problem.machine.now (choices_before c.args.store.now.entries c.args.opening.now.parent)) (marked g c) c.requires.opened.laid

plans : (g : _) (c : After-mark-mark g) → c.args.board.now.plans ≡ c.mark-mark.new.self.plans
plans g c = sym (load-of g.N.Network.reading g.N.Undo.untouched c.args.board.now c.mark-mark.new.self (marked g c).untouched_same).plans

-- the action was tried on it
acted : (g : _) (c : After-undo_to g)
    → IsActed g.N.Network.reading c.args.problem.machine.now c.args.problem.ask.now c.args.act c.args.opening.now c.args.store.now c.mark-mark.new.self
    c.match-open_action.board c.match-open_action.opening c.match-open_action.store
acted g c =
    let at = (goal.at.returns-clause-progress g c).After-mark-mark in
    let p = c.open_action.ensures in
    let since = since-step g.N.Network.reading c.mark-mark.new.self c.open_action.new.self c.args.problem.machine.now p.past p.loaded p.marks (λ s. p.stands) in
    elim c.match-open_action.branch [
      | in-Ok+else-place_rest w ↦
          acted-as g.N.Network.reading c.args.problem.machine.now c.args.problem.ask.now c.args.act c.args.opening.now c.args.store.now c.mark-mark.new.self
          w.place_rest.new.board c.match-open_action.board w.place_rest.new.opening c.match-open_action.opening w.place_rest.new.store c.match-open_action.store w.board-is w.opening-is w.store-is
          (acted-placed g.N.Network.reading c.args.problem.machine.now c.args.problem.ask.now c.args.act c.args.opening.now c.args.store.now c.mark-mark.new.self
          c.open_action.new.self w.place_rest.new.board w.place_rest.new.opening w.place_rest.new.store since w.place_rest.ensures.same (w.place_rest.ensures.back w.if-place_rest.false) (w.place_rest.ensures.progress w.if-place_rest.false))
      | in-Err w ↦
          let progress = subst (λ ps. IsAtProgress c.args.problem.machine.now ps c.args.problem.ask.now c.args.opening.now c.args.store.now (up_to c.args.act.0 [])) (plans g at) c.requires.progress in
          acted-as g.N.Network.reading c.args.problem.machine.now c.args.problem.ask.now c.args.act c.args.opening.now c.args.store.now c.mark-mark.new.self
          c.open_action.new.self c.match-open_action.board c.args.opening.now c.match-open_action.opening c.args.store.now c.match-open_action.store w.board-is w.opening-is w.store-is
          (acted-late g.N.Network.reading c.args.problem.machine.now c.args.problem.ask.now c.args.act c.args.opening.now c.args.store.now c.mark-mark.new.self c.open_action.new.self since
          (act-late g.N.Network.reading c.mark-mark.new.self c.args.problem.machine.now c.args.problem.ask.now c.args.laid.first c.args.act c.args.opening.now c.args.store.now (laid g at)
          c.in-Some.before.state c.in-Some.before.room c.requires.opened.placed c.in-Some.ensures.some c.requires.fewer w.in-Err.ensures.late progress))
    ]

pub returns-in_default-clause-progress : goal.returns-in_default-clause-progress
returns-in_default-clause-progress g c none =
    opening-next_act c.args.problem.machine.now c.args.board.now.plans c.args.problem.ask.now c.args.opening.now c.args.store.now c.args.act.0
    (act-shut g.N.Network.reading c.args.board.now c.args.problem.machine.now c.args.problem.ask.now c.args.laid.first c.args.act
    c.args.opening.now c.args.store.now c.requires.opened.laid c.in_default.ensures.none c.requires.progress)

pub open_action-requires-clause-stands : goal.open_action-requires-clause-stands
open_action-requires-clause-stands g c = (laid g (goal.at.open_action-requires-clause-stands g c).After-mark-mark).stands

pub place_rest-requires-clause-laid : goal.place_rest-requires-clause-laid
place_rest-requires-clause-laid g c =
    laid-action g.N.Network.reading c.mark-mark.new.self c.open_action.new.self c.args.problem.machine.now c.args.problem.ask.now c.args.opening.now.goal c.args.laid.first c.in-Some.before.state
    (choices_by c.args.problem.machine.now (choices_before c.args.store.now.entries c.args.opening.now.parent)) c.args.act c.in-Some.before.room (laid g (goal.at.place_rest-requires-clause-laid g c).After-mark-mark) c.requires.opened.placed
    c.in-Ok.ensures.suffix c.open_action.ensures.stands c.open_action.ensures.loaded c.in-Some.ensures.some c.requires.fewer

-- an answer with the action ends it
pub returns-then-place_rest-clause-found : goal.returns-then-place_rest-clause-found
returns-then-place_rest-clause-found g c is =
    let m = marked g (goal.at.returns-then-place_rest-clause-found g c).After-mark-mark in
    let p = c.open_action.ensures in
    found-further g.N.Network.reading c.args.board.now c.open_action.new.self c.place_rest.new.board c.args.problem.machine.now c.args.problem.ask.now c.args.opening.now.bound
    (further-step g.N.Network.reading c.args.board.now c.mark-mark.new.self c.open_action.new.self (further-marked g.N.Network.reading g.N.Undo.untouched c.args.board.now c.mark-mark.new.self c.mark-mark.result.0 m) p.past p.loaded p.marks) (c.place_rest.ensures.found c.if-place_rest.true)

pub returns-clause-progress : goal.returns-clause-progress
returns-clause-progress g c none =
    opening-next_act c.args.problem.machine.now c.args.board.now.plans c.args.problem.ask.now c.match-open_action.opening c.match-open_action.store c.args.act.0
    (subst (λ ps. IsAtProgress c.args.problem.machine.now ps c.args.problem.ask.now c.match-open_action.opening c.match-open_action.store (through c.args.act.0 []))
    (sym (plans g (goal.at.returns-clause-progress g c).After-mark-mark)) (acted g c).progress)

pub returns-clause-same : goal.returns-clause-same
returns-clause-same g c = (acted g c).same

pub returns-clause-back : goal.returns-clause-back
returns-clause-back g c none =
    let keeps = c.marks_keep_boards.ensures in
    let u = c.undo_to.ensures in
    taken-back g.N.Network.reading g.N.Undo.untouched keeps.mark keeps.back c.args.board.now c.mark-mark.new.self c.match-open_action.board c.undo_to.new.self
    c.args.problem.machine.now c.mark-mark.result.0 (marked g (goal.at.returns-clause-back g c).After-mark-mark) (acted g c).since
    (record { content_then = u.content; past_less = u.past; untouched_same = u.untouched; room_same = u.capacity })
