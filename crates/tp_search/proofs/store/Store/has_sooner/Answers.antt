use Rattle.std.proofs.Common.{◌↔◌, sym, subst, ◌∙◌, IsTrue}
use Rattle.std.proofs.lemmas.Bool.{false≢true}
use Rattle.tp_search.specs.Stores.{HasSooner}
use Rattle.tp_search.proofs.WaitFacts.{sooner-here, sooner-none}
use Rattle.tp_search.proofs.store.Store.has_sooner.Goals as goal
use Rattle.tp_search.proofs.store.Store.has_sooner.Goals.{in-Some, in-None}

pub returns-clause-sooner : goal.returns-clause-sooner
returns-clause-sooner c =
    let a = c.self.inside in
    subst (λ s. IsTrue c.match-first.result ↔ HasSooner s c.args.bound) c.self.view_is (elim c.match-first.branch [
      | in-Some w ↦ sooner-here a.pool a.queue a.best a.full a.limit c.self.invariant c.match-first.result w.in-Some.node w.bound.result c.args.bound w.in-Some.ensures.first w.bound.ensures w.result-is
      | in-None w ↦ ((λ sooner. absurd (false≢true (sym w.result-is ∙ sooner))), (λ sooner. absurd (sooner-none a.pool a.queue a.best a.full a.limit c.self.invariant c.args.bound (c.first.ensures.none.0 w.in-None.is) sooner)))
    ])
