use Rattle.std.proofs.Common.{ap, subst}
use Rattle.tp_search.specs.Outcomes.{IsOutcome}
use Rattle.tp_search.specs.Workspaces.{WorkspaceValue}
use Rattle.tp_search.proofs.OutcomeFacts.{outcome-back}
use Rattle.tp_search.proofs.workspace.Workspace.search_whole.Goals as goal

pub returns-in-Spent-clause-outcome : goal.returns-in-Spent-clause-outcome
returns-in-Spent-clause-outcome g c =
    let b1 = c.search_lists.new.board in
    let b2 = c.search_last.new.board in
    subst (λ n. IsOutcome g.N.Network.reading c.args.board.now b2 c.args.machine.now c.args.ask.now n c.search_last.result) (ap (λ (w : WorkspaceValue). w.nodes) c.search_lists.ensures.same)
    (outcome-back g.N.Network.reading c.args.board.now b1 b2 c.args.machine.now c.args.ask.now c.in-Spent.ensures.outcome.1 c.search_lists.new.self.nodes c.search_last.result c.search_last.ensures.outcome)
