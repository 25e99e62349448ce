-- A dive that comes to nothing leaves the board as it was.
use Rattle.std.proofs.Common.{length, ap, subst, sym, arith}
use Rattle.tp_pool.specs.Entries.{choices_before}
use Rattle.tp_search.specs.OpenedLists.{IsAtProgress}
use Rattle.tp_search.specs.OpenedLists.Progress.{nothing}
use Rattle.tp_search.specs.Stored.{choices_by}
use Rattle.tp_search.proofs.BoardSteps.{laid-back}
use Rattle.tp_search.proofs.children.open_list.Goals as goal

pub dive_nearest-requires-clause-carries : goal.dive_nearest-requires-clause-carries
dive_nearest-requires-clause-carries g c = record {
  goal = c.args.opening.now.goal;
  choices = choices_by c.args.problem.machine.now (choices_before c.args.store.now.entries c.args.opening.now.parent);
  laid = c.requires.opened.laid;
  placed = c.requires.opened.placed;
  count = c.requires.count;
}

pub open_all-requires-clause-opened : goal.open_all-requires-clause-opened
open_all-requires-clause-opened g c =
    let o = c.requires.opened in
    record {
      laid = laid-back g.N.Network.reading c.args.board.now c.dive_nearest.new.board c.args.problem.machine.now c.args.problem.ask.now c.args.opening.now.goal c.args.laid.first
          (choices_by c.args.problem.machine.now (choices_before c.args.store.now.entries c.args.opening.now.parent)) (c.dive_nearest.ensures.back c.if-dive_nearest.false) o.laid;
      placed = o.placed;
      fresh = o.fresh;
      bounds = o.bounds;
    }

pub open_all-requires-clause-marks : goal.open_all-requires-clause-marks
open_all-requires-clause-marks g c = (let b = c.dive_nearest.ensures.back c.if-dive_nearest.false in omega (arith, ap length b.same_past, b.marks, c.requires.marks))

pub open_all-requires-clause-progress : goal.open_all-requires-clause-progress
open_all-requires-clause-progress g c =
    subst (λ ps. IsAtProgress c.args.problem.machine.now ps c.args.problem.ask.now c.args.opening.now c.args.store.now nothing) (sym (c.dive_nearest.ensures.back c.if-dive_nearest.false).loaded.plans) c.requires.progress
