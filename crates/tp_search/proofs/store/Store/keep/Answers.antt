use Rattle.std.proofs.Common.{◌≡◌, ◌≢◌, ◌<◌, ◌∷◌, length, sym, ap, subst, ◌∙◌, arith, IsPermutation}
use Rattle.std.proofs.lemmas.Bool.{false≢true}
use Rattle.std.proofs.lemmas.List.Elements.{All-contains}
use Rattle.tp_pool.specs.Queues.{Queued}
use Rattle.tp_pool.proofs.CallerFacts.{queued-as}
use Rattle.tp_search.specs.Stores.{StoreValue, better, entry_of}
use Rattle.tp_search.proofs.WaitFacts.{better-known, more-kept, more-view, more-waits}
use Rattle.tp_search.proofs.store.Store.keep.Goals as goal

pub put_in_turn-requires-clause-out : goal.put_in_turn-requires-clause-out
put_in_turn-requires-clause-out c is =
    let a = c.self.inside in
    let there = queued-as c.in-Ok.node a.queue.queued is in
    let below = All-contains (λ (r : Queued). r.node < length a.pool.entries) a.queue.queued there.0 c.self.invariant.known there.1 in
    absurd (omega (arith, there.2, c.in-Ok.ensures.number))

space : (c : goal.After-best-1) → length c.self.inside.pool.entries ≢ c.self.inside.pool.capacity
space c full = absurd (false≢true (c.in-Ok.ensures.full.1 full))

best-is : (c : goal.After-best-1) → c.best_with-best.result ≡ better c.self.inside.pool.entries c.args.complete c.args.bound (length c.self.inside.pool.entries) c.self.inside.best
best-is c = c.best_with-best.ensures ∙ ap (λ (s : StoreValue). better s.entries c.args.complete c.args.bound (length s.entries) s.best) (sym c.self.view_is)

moved : (c : goal.After-best-1) → IsPermutation (record { node = length c.self.inside.pool.entries; bound = c.args.bound } ∷ c.self.inside.queue.queued) c.put_in_turn.new.self.queued
moved c = subst (λ n. IsPermutation (record { node = n; bound = c.args.bound } ∷ c.self.inside.queue.queued) c.put_in_turn.new.self.queued) c.in-Ok.ensures.number c.put_in_turn.ensures.queued

pub invariant_of-self : goal.invariant_of-self
invariant_of-self c =
    let a = c.self.inside in
    let e = entry_of a.pool.entries c.args.parent c.args.choice c.args.bound in
    more-kept a.pool c.add.new.self a.queue c.put_in_turn.new.self a.best c.best_with-best.result e c.self.invariant c.in-Ok.ensures.ok (moved c)
    (space c) c.put_in_turn.ensures.nodes (better-known a.pool c.add.new.self a.queue c.put_in_turn.new.self a.best c.best_with-best.result e c.self.invariant c.in-Ok.ensures.ok (moved c) c.args.complete c.args.bound (best-is c))

pub returns-in-Ok : goal.returns-in-Ok
returns-in-Ok c =
    let a = c.self.inside in
    let e = entry_of a.pool.entries c.args.parent c.args.choice c.args.bound in
    more-view a.pool c.add.new.self a.queue c.put_in_turn.new.self a.best c.best_with-best.result a.full a.limit c.args.self.now c.args.parent c.args.choice c.args.bound c.args.complete c.self.view_is c.in-Ok.ensures.ok (space c)
    (more-waits a.pool c.add.new.self a.queue c.put_in_turn.new.self a.best c.best_with-best.result e c.self.invariant c.in-Ok.ensures.ok (moved c)) c.put_in_turn.ensures.base c.put_in_turn.ensures.width (best-is c)
