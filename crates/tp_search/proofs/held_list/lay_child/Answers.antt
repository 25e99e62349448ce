-- The newest choice of a child of the held list can be laid, and makes it.
use Rattle.std.proofs.Common.{◌≡◌, ◌≤◌, Some, subst, sym}
use Rattle.tp_pool.specs.Entries.{choice_made, choices_of}
use Rattle.tp_search.specs.StoredLists.{HasList}
use Rattle.tp_search.proofs.HoldChildren.{child-laid, child-opens, child-some, child-whole}
use Rattle.tp_search.proofs.held_list.lay_child.Goals as goal

pub choice_at-choice-requires-clause-first : goal.choice_at-choice-requires-clause-first
choice_at-choice-requires-clause-first g c = subst (λ n. 1 ≤ n) (sym c.depth-depth.ensures) (child-some (c.requires.holds.children c.args.node c.requires.child c.requires.there))

pub lay-first-requires-clause-laid : goal.lay-first-requires-clause-laid
lay-first-requires-clause-laid g c =
    let h = c.requires.holds in
    child-laid g.N.Network.reading c.args.board.now c.args.problem.machine.now c.args.problem.ask.now c.args.held.laid.first h.goal h.before (choices_of c.args.store.now.entries c.args.node) h.laid (h.children c.args.node c.requires.child c.requires.there) c.choice_at-choice.result (subst (λ n. choice_made (choices_of c.args.store.now.entries c.args.node) n ≡ Some c.choice_at-choice.result) c.depth-depth.ensures c.choice_at-choice.ensures)

pub lay-first-requires-clause-opens : goal.lay-first-requires-clause-opens
lay-first-requires-clause-opens g c =
    let h = c.requires.holds in
    child-opens g.N.Network.reading c.args.board.now c.args.problem.machine.now c.args.problem.ask.now c.args.held.laid.first h.goal h.before (choices_of c.args.store.now.entries c.args.node) h.laid (h.children c.args.node c.requires.child c.requires.there) c.choice_at-choice.result (subst (λ n. choice_made (choices_of c.args.store.now.entries c.args.node) n ≡ Some c.choice_at-choice.result) c.depth-depth.ensures c.choice_at-choice.ensures) c.requires.opens

pub returns-clause-laid : goal.returns-clause-laid
returns-clause-laid g c =
    let h = c.requires.holds in
    subst (HasList g.N.Network.reading c.lay-first.new.board c.args.problem.machine.now c.args.problem.ask.now c.lay-first.result)
    (child-whole g.N.Network.reading c.args.board.now c.args.problem.machine.now c.args.problem.ask.now c.args.held.laid.first h.goal h.before (choices_of c.args.store.now.entries c.args.node) h.laid (h.children c.args.node c.requires.child c.requires.there) c.choice_at-choice.result (subst (λ n. choice_made (choices_of c.args.store.now.entries c.args.node) n ≡ Some c.choice_at-choice.result) c.depth-depth.ensures c.choice_at-choice.ensures)) c.lay-first.ensures.laid
