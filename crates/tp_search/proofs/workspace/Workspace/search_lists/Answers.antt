use Rattle.std.proofs.Common.{ap, subst}
use Rattle.tp_search.specs.Outcomes.{IsOutcome}
use Rattle.tp_search.specs.Workspaces.{WorkspaceValue}
use Rattle.tp_search.proofs.OutcomeFacts.{outcome-back}
use Rattle.tp_search.proofs.workspace.Workspace.search_lists.Goals as goal

pub returns-in-Again-clause-outcome : goal.returns-in-Again-clause-outcome
returns-in-Again-clause-outcome g c =
    let b1 = c.search_to.new.board in
    let b2 = c.search_to-in-Again.new.board in
    subst (λ n. IsOutcome g.N.Network.reading c.args.board.now b2 c.args.machine.now c.args.ask.now n c.search_to-in-Again.result) (ap (λ (w : WorkspaceValue). w.nodes) c.search_to.ensures.same)
    (outcome-back g.N.Network.reading c.args.board.now b1 b2 c.args.machine.now c.args.ask.now c.in-Again.ensures.outcome c.search_to.new.self.nodes c.search_to-in-Again.result c.search_to-in-Again.ensures.outcome)
