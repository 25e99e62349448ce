-- The choices of an open list can be laid one after another, over its goal.
use Rattle.std.proofs.Common.{◌≡◌, ◌+◌, ◌-◌, ◌<◌, [], length, drop, rules, sym, ap, ◌∙◌, arith, subst, Some}
use Rattle.std.proofs.Math.Seq.{drop-length}
use Rattle.std.specs.List.{slice_get}
use Rattle.tp_pool.specs.Entries.{choices_of as stored_at}
use Rattle.tp_schedule.specs.Choices.{going}
use Rattle.tp_search.specs.StoredLists.{HasList, list_from}
use Rattle.tp_search.specs.Stored.{list_by}
use Rattle.tp_search.proofs.FollowLists.{more-carried, next-laid, next-open, whole-list}
use Rattle.tp_search.proofs.stored_list.lay_choices.Goals as goal
use Rattle.tp_search.proofs.stored_list.lay_choices.Goals.{After-choice_at-choice}

pub depths-init : goal.depths-init
depths-init g c =
    let choices = stored_at c.args.store.now.entries c.args.node in
    let none : drop (length choices - 0) choices ≡ [] = ap (λ n. drop n choices) (omega arith) ∙ drop-length choices in
    record {
      laid = subst (λ ds. HasList g.N.Network.reading c.args.board.now c.args.problem.machine.now c.args.problem.ask.now c.args.goal (list_from c.args.problem.machine.now (list_by c.args.problem.machine.now choices).goal ds)) (sym none)
          (subst (λ s. HasList g.N.Network.reading c.args.board.now c.args.problem.machine.now c.args.problem.ask.now c.args.goal (going s [])) c.requires.goal c.requires.laid);
      same = search rules;
    }

-- the choice of this depth
read : (g : _) (c : After-choice_at-choice g) → (c.depths.at < length (stored_at c.args.store.now.entries c.args.node))
    × (slice_get (stored_at c.args.store.now.entries c.args.node) (length (stored_at c.args.store.now.entries c.args.node) - (c.depths.at + 1)) ≡ Some c.choice_at-choice.result)
read g c = (omega (arith, c.depth-at-end.ensures), c.choice_at-choice.ensures)

pub lay-first-requires-clause-laid : goal.lay-first-requires-clause-laid
lay-first-requires-clause-laid g k =
    let c = (goal.at.lay-first-requires-clause-laid g k).After-choice_at-choice in
    let choices = stored_at c.args.store.now.entries c.args.node in
    next-laid c.args.problem.machine.now c.args.board.now.plans c.args.problem.ask.now (list_by c.args.problem.machine.now choices).goal choices c.requires.stored c.requires.opens
    c.depths.at c.choice_at-choice.result (read g c).0 (read g c).1 g.N.Network.reading c.depths.board c.depths.first c.depths.invariant.laid

pub lay-first-requires-clause-opens : goal.lay-first-requires-clause-opens
lay-first-requires-clause-opens g k =
    let c = (goal.at.lay-first-requires-clause-opens g k).After-choice_at-choice in
    let choices = stored_at c.args.store.now.entries c.args.node in
    next-open c.args.problem.machine.now c.args.board.now.plans c.args.problem.ask.now (list_by c.args.problem.machine.now choices).goal choices c.requires.stored c.requires.opens
    c.depths.at c.choice_at-choice.result (read g c).0 (read g c).1 g.N.Network.reading c.depths.board c.depths.first c.depths.invariant.laid c.depths.invariant.same.loaded.plans

pub depths-preserved : goal.depths-preserved
depths-preserved g k =
    let c = (goal.at.depths-preserved g k).After-choice_at-choice in
    let choices = stored_at c.args.store.now.entries c.args.node in
    record {
      laid = more-carried c.args.problem.machine.now c.args.board.now.plans c.args.problem.ask.now (list_by c.args.problem.machine.now choices).goal choices c.requires.stored c.requires.opens
          c.depths.at c.choice_at-choice.result (read g c).0 (read g c).1 g.N.Network.reading c.depths.board c.depths.first c.depths.invariant.laid
          k.lay-first.new.board k.lay-first.result k.lay-first.ensures.laid;
      same = search rules;
    }

pub returns-clause-laid : goal.returns-clause-laid
returns-clause-laid g c =
    let choices = stored_at c.args.store.now.entries c.args.node in
    let goal = (list_by c.args.problem.machine.now choices).goal in
    let end : length choices - c.depths.at ≡ 0 = omega (arith, c.depth-at-end.ensures) in
    subst (λ l. HasList g.N.Network.reading c.depths.board c.args.problem.machine.now c.args.problem.ask.now c.depths.first l) (whole-list c.args.problem.machine.now goal choices c.requires.stored)
    (subst (λ n. HasList g.N.Network.reading c.depths.board c.args.problem.machine.now c.args.problem.ask.now c.depths.first (list_from c.args.problem.machine.now goal (drop n choices))) end c.depths.invariant.laid)
