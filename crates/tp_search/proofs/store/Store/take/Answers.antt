use Rattle.std.proofs.Common.{length, ap, sym, subst, ◌∙◌}
use Rattle.std.proofs.lemmas.Option.{none-some}
use Rattle.tp_search.specs.Stores.{StoreValue, IsTaken, store_of}
use Rattle.tp_search.proofs.WaitFacts.{empty-waits, taken-kept, taken-out}
use Rattle.tp_search.proofs.store.Store.take.Goals as goal

pub invariant_of-self-2 : goal.invariant_of-self-2
invariant_of-self-2 c =
    let a = c.self.inside in
    let e = c.in_ok-node.ensures in
    taken-kept a.pool a.queue a.best a.full a.limit c.self.invariant c.in_ok-node.node c.take.new.self e.taken e.out e.base e.width e.nodes

pub returns-in_err-node-clause-none : goal.returns-in_err-node-clause-none
returns-in_err-node-clause-none c =
    let a = c.self.inside in
    let waits = empty-waits (length a.pool.entries) a.queue.queued c.self.invariant.known in
    let is = ap (λ (s : StoreValue). s.waits) c.self.view_is in
    ((λ none. sym is ∙ waits.0 (c.take.ensures.none.0 c.in_err-node.was)), (λ none. c.from_residual.ensures))

pub returns-clause-none : goal.returns-clause-none
returns-clause-none c =
    let a = c.self.inside in
    let waits = empty-waits (length a.pool.entries) a.queue.queued c.self.invariant.known in
    let is = ap (λ (s : StoreValue). s.waits) c.self.view_is in
    ((λ none. absurd (none-some c.in_ok-node.node (sym none))), (λ none. sym c.in_ok-node.was ∙ c.take.ensures.none.1 (waits.1 (is ∙ none))))

pub returns-clause-taken : goal.returns-clause-taken
returns-clause-taken c =
    let a = c.self.inside in
    let e = c.in_ok-node.ensures in
    subst (λ s. IsTaken s c.in_ok-node.node (store_of a.pool c.take.new.self a.best a.full a.limit)) c.self.view_is
    (taken-out a.pool a.queue a.best a.full a.limit c.self.invariant c.in_ok-node.node c.take.new.self e.taken e.out e.base e.width e.nodes)
