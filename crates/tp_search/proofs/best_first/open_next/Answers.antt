use Rattle.std.proofs.Common.{[], ap, subst, sym, ◌∙◌, length}
use Rattle.tp_pool.specs.Entries.{choices_before}
use Rattle.tp_search.specs.Children.{HasFound}
use Rattle.tp_search.specs.OpenedLists.Progress.{up_to}
use Rattle.tp_search.specs.SearchProgress.{opening_of}
use Rattle.tp_search.specs.Stored.{choices_by}
use Rattle.tp_search.specs.declared.opening.Opening.{Opening}
use Rattle.tp_search.proofs.OpenSteps.{next-many}
use Rattle.tp_search.proofs.OpeningSame.{progress-same}
use Rattle.tp_search.proofs.best_first.open_next.Goals as goal

pub open_list-found-requires-clause-count : goal.open_list-found-requires-clause-count
open_list-found-requires-clause-count g c =
    let parent = ap (λ (o : Opening). o.parent) (c.opening_of-opening.ensures c.args.problem.machine.now) in
    c.requires.count ∙ next-many c.args.problem.machine.now c.args.board.now.plans c.args.problem.ask.now c.args.store.now c.args.next.now c.requires.can
    ∙ ap (λ p. length (choices_by c.args.problem.machine.now (choices_before c.args.store.now.entries p))) (sym parent)

pub returns-clause-found : goal.returns-clause-found
returns-clause-found g c is =
    let bound = ap (λ (o : Opening). o.bound) (c.opening_of-opening.ensures c.args.problem.machine.now) in
    subst (HasFound g.N.Network.reading c.args.board.now c.open_list-found.new.board c.args.problem.machine.now c.args.problem.ask.now) bound (c.open_list-found.ensures.found is)

pub returns-clause-opened : goal.returns-clause-opened
returns-clause-opened g c none =
    let is = c.opening_of-opening.ensures c.args.problem.machine.now in
    let same = c.open_list-found.ensures.same in
    record {
      grows = same.grows;
      progress = progress-same c.args.problem.machine.now c.args.board.now.plans c.args.problem.ask.now c.open_list-found.new.opening (opening_of c.args.problem.machine.now c.args.store.now c.args.next.now) c.open_list-found.new.store (up_to (length c.args.problem.machine.now.actions) [])
          (sym (same.goal ∙ ap (λ (o : Opening). o.goal) is)) (sym (same.parent ∙ ap (λ (o : Opening). o.parent) is)) (sym (same.bound ∙ ap (λ (o : Opening). o.bound) is)) (sym (same.stored ∙ ap (λ (o : Opening). o.stored) is))
          (c.open_list-found.ensures.progress none);
    }
