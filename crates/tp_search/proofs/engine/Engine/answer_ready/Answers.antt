-- The answer was given on the same plans, and the engine has the nodes of its workspace.
use Rattle.std.proofs.Common.{ap, subst}
use Rattle.tp_schedule.specs.SpentBudget.{FewListsOpen}
use Rattle.tp_search.proofs.EngineFacts.{few-told}
use Rattle.tp_search.proofs.engine.Engine.answer_ready.Goals as goal

pub returns-else-self-clause-few : goal.returns-else-self-clause-few
returns-else-self-clause-few g c =
    let machine = c.args.machine.now in
    let ask = c.args.ask.now in
    let nodes = ap (λ e. e.work.nodes) c.self.view_is in
    few-told c.args.self.now.work.nodes machine c.args.schedule.now.plans ask c.answer_loaded.result.reply
    (λ is. subst (FewListsOpen machine c.args.schedule.now.plans ask) nodes (c.answer_loaded.ensures.few is))
