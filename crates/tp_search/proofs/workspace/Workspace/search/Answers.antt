use Rattle.std.proofs.Common.{ap, subst, ◌∙◌}
use Rattle.tp_search.specs.Outcomes.{IsOutcome}
use Rattle.tp_search.specs.Workspaces.{WorkspaceValue}
use Rattle.tp_search.proofs.AskedFacts.{asked-known}
use Rattle.tp_search.proofs.OutcomeFacts.{outcome-back}
use Rattle.tp_search.proofs.workspace.Workspace.search.Goals as goal

pub renew-requires-clause-origin : goal.renew-requires-clause-origin
renew-requires-clause-origin g c = asked-known c.args.machine.now c.requires.held.0 c.args.ask.now c.requires.held.1.can_ask.asked

pub returns-in-Again-clause-outcome : goal.returns-in-Again-clause-outcome
returns-in-Again-clause-outcome g c =
    let same = ap (λ (w : WorkspaceValue). w.nodes) c.search_briefly.ensures.same ∙ ap (λ (w : WorkspaceValue). w.nodes) c.self.view_is in
    let b1 = c.search_briefly.new.board in
    let b2 = c.search_whole.new.board in
    subst (λ n. IsOutcome g.N.Network.reading c.args.board.now b2 c.args.machine.now c.args.ask.now n c.search_whole.result) same
    (outcome-back g.N.Network.reading c.args.board.now b1 b2 c.args.machine.now c.args.ask.now c.in-Again.ensures.outcome c.search_briefly.new.self.nodes c.search_whole.result c.search_whole.ensures.outcome)
