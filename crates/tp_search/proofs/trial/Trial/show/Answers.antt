-- The board is taken back to where the trial began, and what it carried is laid again.
use Rattle.std.proofs.Common.{◌≡◌, arith, length, refl, sym, ap, subst, ◌∙◌, Some}
use Rattle.tp_machine.proofs.MachineFacts.{is_machine}
use Rattle.tp_schedule.specs.Answers.{NoneBefore}
use Rattle.tp_placing.specs.Boards.{BoardValue, suffix_of}
use Rattle.tp_placing.specs.Commits.{IsLoadedFrom}
use Rattle.tp_placing.proofs.StandFacts.{and-some}
use Rattle.tp_search.specs.Again.{suffix_by}
use Rattle.tp_search.specs.Boards.{IsBack}
use Rattle.tp_search.specs.Trials.{IsTrial, board_in}
use Rattle.tp_search.proofs.BoardSteps.{IsMarked, IsUndone, back-trans, load-of, ready-back}
use Rattle.tp_search.proofs.HoldFacts.{ready-marked, since-mark, since-more}
use Rattle.tp_search.proofs.TrialFacts.{trial-back}
use Rattle.tp_search.proofs.TrialShows.{again-trial, base-ready, can-lay, changes-suffix, end-first, end-some}
use Rattle.tp_search.proofs.trial.Trial.show.Goals as goal
use Rattle.tp_search.proofs.trial.Trial.show.Goals.{After-mark-self, After-undo_to}

-- the ask of the board
asked : (g : _) (c : After-undo_to g) → (board_in c.args.self.now).ask ≡ Some c.in-Some.ask
asked g c = sym c.asked.ensures ∙ c.in-Some.is

-- the board without the choices
undone : (g : _) (c : After-undo_to g) → IsUndone g.N.Network.reading g.N.Undo.untouched (board_in c.args.self.now) c.undo_to.new.self c.args.self.now.base.0
undone g c = (let u = c.undo_to.ensures in record { content_then = u.content; past_less = u.past; untouched_same = u.untouched; room_same = u.capacity })

plans : (g : _) (c : After-undo_to g) → c.undo_to.new.self.plans ≡ (board_in c.args.self.now).plans
plans g c = (load-of g.N.Network.reading g.N.Undo.untouched (board_in c.args.self.now) c.undo_to.new.self (undone g c).untouched_same).plans

back : (g : _) (c : After-undo_to g) (b : BoardValue g.row.N.Denot) → IsTrial g.N.Network.reading b c.args.machine.now c.args.self.now
    → IsBack g.N.Network.reading b c.undo_to.new.self c.args.machine.now
back g c b t = trial-back g.N.Network.reading b c.args.machine.now c.args.self.now g.N.Undo.untouched c.marks_keep_boards.ensures.back c.undo_to.new.self t (undone g c)

pub show_earliest-tree-requires-clause-none : goal.show_earliest-tree-requires-clause-none
show_earliest-tree-requires-clause-none g c =
    let k = (goal.at.show_earliest-tree-requires-clause-none g c).After-undo_to in
    let first = end-first g.N.Network.reading c.requires.trial.0 c.args.machine.now c.args.self.now c.requires.trial.1 c.in-Some.ask (asked g k) in
    subst (λ ps. NoneBefore c.args.machine.now ps c.in-Some.ask c.args.self.now.end) (sym (plans g k)) first

pub show_earliest-tree-requires-clause-some : goal.show_earliest-tree-requires-clause-some
show_earliest-tree-requires-clause-some g c =
    let k = (goal.at.show_earliest-tree-requires-clause-some g c).After-undo_to in
    end-some g.N.Network.reading c.requires.trial.0 c.args.machine.now c.args.self.now c.requires.trial.1 c.in-Some.ask (asked g k) (is_machine c.args.machine.now)

pub show_earliest-tree-requires-clause-ready : goal.show_earliest-tree-requires-clause-ready
show_earliest-tree-requires-clause-ready g c =
    let k = (goal.at.show_earliest-tree-requires-clause-ready g c).After-undo_to in
    let b = c.requires.trial.0 in
    let t = c.requires.trial.1 in
    ready-back g.N.Network.reading b c.undo_to.new.self c.args.machine.now c.in-Some.ask (back g k b t)
    (base-ready g.N.Network.reading b c.args.machine.now c.args.self.now t c.in-Some.ask (asked g k))

-- the mark on the board that is back
marked : (g : _) (c : After-mark-self g) → IsMarked g.N.Network.reading g.N.Undo.untouched c.show_earliest-tree.new.board c.mark-self.new.self c.mark-self.result.0
marked g c = (let m = c.mark-self.ensures in record { number = m.number; past_more = m.past; content_same = m.content; untouched_same = m.untouched; room_same = m.capacity })

shown : (g : _) (c : After-mark-self g) (b : BoardValue g.row.N.Denot) → IsTrial g.N.Network.reading b c.args.machine.now c.args.self.now
    → IsBack g.N.Network.reading b c.show_earliest-tree.new.board c.args.machine.now
shown g c b t =
    back-trans g.N.Network.reading b c.undo_to.new.self c.show_earliest-tree.new.board c.args.machine.now (back g (goal.at.After-mark-self g c).After-undo_to b t) c.show_earliest-tree.ensures.back

pub lay_again-requires-clause-ready : goal.lay_again-requires-clause-ready
lay_again-requires-clause-ready g c =
    let k = goal.at.lay_again-requires-clause-ready g c in
    let b = c.requires.trial.0 in
    let t = c.requires.trial.1 in
    ready-marked g.N.Network.reading g.N.Undo.untouched c.marks_keep_boards.ensures.mark b c.show_earliest-tree.new.board c.mark-self.new.self c.args.machine.now c.in-Some.ask c.mark-self.result.0
    (base-ready g.N.Network.reading b c.args.machine.now c.args.self.now t c.in-Some.ask (asked g k.After-undo_to)) (shown g k.After-mark-self b t) (marked g k.After-mark-self)

pub lay_again-requires-clause-can : goal.lay_again-requires-clause-can
lay_again-requires-clause-can g c =
    let k = goal.at.lay_again-requires-clause-can g c in
    let b = c.requires.trial.0 in
    let t = c.requires.trial.1 in
    let marks = (load-of g.N.Network.reading g.N.Undo.untouched c.show_earliest-tree.new.board c.mark-self.new.self (marked g k.After-mark-self).untouched_same).plans in
    can-lay g.N.Network.reading b c.args.machine.now c.args.self.now t c.in-Some.ask (asked g k.After-undo_to) _ (marks ∙ (shown g k.After-mark-self b t).loaded.plans ∙ sym t.loaded.plans) _
    (ap suffix_by (c.as_slice.ensures.value ∙ c.in-Ok.ensures) ∙ changes-suffix (board_in c.args.self.now))

pub show_earliest-tree-requires-clause-unmarked : goal.show_earliest-tree-requires-clause-unmarked
show_earliest-tree-requires-clause-unmarked g c =
    let k = (goal.at.show_earliest-tree-requires-clause-unmarked g c).After-undo_to in
    let t = c.requires.trial.1 in
    (back g k c.requires.trial.0 t).same_past ∙ t.unmarked

pub mark-self-requires : goal.mark-self-requires
mark-self-requires g c =
    let k = (goal.at.mark-self-requires g c).After-undo_to in
    let b = c.requires.trial.0 in
    let t = c.requires.trial.1 in
    let shows = back-trans g.N.Network.reading b c.undo_to.new.self c.show_earliest-tree.new.board c.args.machine.now (back g k b t) c.show_earliest-tree.ensures.back in
    let none = ap length (shows.same_past ∙ t.unmarked) in
    let marks = c.boards_have_marks.ensures in
    omega (arith, none, marks)

pub returns-clause-rows : goal.returns-clause-rows
returns-clause-rows g c =
    let k = (goal.at.returns-clause-rows g c).After-undo_to in
    and-some (board_in c.args.self.now).ask c.in-Some.ask _ (asked g k) c.show_earliest-tree.ensures.rows

pub returns-clause-tree : goal.returns-clause-tree
returns-clause-tree g c =
    let k = (goal.at.returns-clause-tree g c).After-undo_to in
    and-some (board_in c.args.self.now).ask c.in-Some.ask _ (asked g k)
    (λ ps loaded. c.show_earliest-tree.ensures.tree ps (subst (IsLoadedFrom c.args.machine.now ps c.in-Some.ask) (sym (plans g k)) loaded))

pub returns-clause-trial : goal.returns-clause-trial
returns-clause-trial g c b t =
    let k = goal.at.returns-clause-trial g c in
    let since = since-mark g.N.Network.reading g.N.Undo.untouched c.marks_keep_boards.ensures.mark b c.show_earliest-tree.new.board c.mark-self.new.self c.args.machine.now t.ask c.mark-self.result.0 t.ready
    (shown g k.After-mark-self b t) (marked g k.After-mark-self) in
    let laid = since-more g.N.Network.reading b c.mark-self.new.self c.args.machine.now t.ask c.mark-self.result.0 _ since c.lay_again.new.board c.lay_again.ensures.same c.lay_again.ensures.stands in
    let carries : suffix_of c.lay_again.new.board ≡ suffix_of (board_in c.args.self.now) = c.lay_again.ensures.suffix ∙ ap suffix_by (c.as_slice.ensures.value ∙ c.in-Ok.ensures) ∙ changes-suffix (board_in c.args.self.now) in
    again-trial g.N.Network.reading b c.args.machine.now c.args.self.now t _ laid carries refl
