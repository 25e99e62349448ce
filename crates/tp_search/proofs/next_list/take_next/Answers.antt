use Rattle.std.proofs.Common.{sym, subst, ◌∙◌}
use Rattle.std.proofs.lemmas.Bool.{true≢false}
use Rattle.tp_search.specs.SearchProgress.{IsNext}
use Rattle.tp_search.specs.declared.next_list.Next.TheVariants.{Node}
use Rattle.tp_search.specs.Stores.{HasSooner}
use Rattle.tp_search.proofs.TakeFacts.{first-least, goal-next, node-next, only-node-next}
use Rattle.tp_search.proofs.next_list.take_next.Goals as goal
use Rattle.tp_search.proofs.next_list.take_next.Goals.{in-Some+else-not-has_sooner, in_default}

pub returns-then-not-has_sooner-clause-next : goal.returns-then-not-has_sooner-clause-next
returns-then-not-has_sooner-clause-next c =
    let goals = c.args.goals.now.items in
    let known = first-least goals c.as_slice.result.now c.in-Some.place c.index-goal.result.now c.as_slice.ensures.value c.in-Some.ensures.within c.index-goal.ensures c.in-Some.ensures.first in
    goal-next goals c.args.store.now c.has_sooner.new.self c.in-Some.place c.index-goal.result.now c.remove.new.self.items known.0 c.index-goal.ensures known.1 c.remove.ensures.items c.has_sooner.ensures.stays
    (λ sooner. absurd (true≢false (sym (c.has_sooner.ensures.sooner.1 sooner) ∙ c.if-not-has_sooner.true)))

pub returns-clause-next : goal.returns-clause-next
returns-clause-next c =
    let goals = c.args.goals.now.items in
    elim c.match-first_goal.branch [
      | in-Some+else-not-has_sooner w ↦
          let known = first-least goals c.as_slice.result.now w.in-Some.place w.index-goal.result.now c.as_slice.ensures.value w.in-Some.ensures.within w.index-goal.ensures w.in-Some.ensures.first in
          let same = w.store-is ∙ w.has_sooner.ensures.stays in
          subst (λ s. IsNext goals s goals c.take.new.self (Node c.in_ok-node.node)) same
          (node-next goals c.match-first_goal.store c.take.new.self c.in_ok-node.node w.index-goal.result.now.bound c.in_ok-node.ensures.taken (subst (λ s. HasSooner s w.index-goal.result.now.bound) (sym same) (w.has_sooner.ensures.sooner.0 w.if-not-has_sooner.false)) known.1)
      | in_default w ↦
          subst (λ s. IsNext goals s goals c.take.new.self (Node c.in_ok-node.node)) w.store-is
          (only-node-next goals c.match-first_goal.store c.take.new.self c.in_ok-node.node c.in_ok-node.ensures.taken (sym c.as_slice.ensures.value ∙ c.first_goal.ensures.none.0 w.in_default.is))
    ]
