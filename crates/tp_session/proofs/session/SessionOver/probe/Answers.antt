-- What was found of the live part, with the engine's nodes, is found of the session.
use Rattle.std.proofs.Common.{ℕ, ◌+◌, arith, subst}
use Rattle.tp_event_rules.specs.LiveStates.{seen}
use Rattle.tp_session.specs.Probes.{Probes}
use Rattle.tp_session.proofs.ProbeFacts.{probes-behind}
use Rattle.tp_session.proofs.session.SessionOver.probe.Goals as goal
use Rattle.tp_event_rules.specs.Ready.{last_copy}
use Rattle.tp_event_rules.proofs.StockKept.{stock-more}

pub returns-in-Ok-clause-told : goal.returns-in-Ok-clause-told
returns-in-Ok-clause-told g c =
    let i = c.self.inside in
    subst (λ v. Probes v.standing c.args.event.now c.try_ask-given.result) c.self.view_is
    (subst (λ (nodes : ℕ). Probes (record { machine = i.machine; budget = nodes; bounds = i.bounds; state = seen i.state }) c.args.event.now c.try_ask-given.result) c.self.invariant.nodes
    (probes-behind i.machine i.engine.work.nodes i.bounds (seen i.state) c.args.event.now c.try_ask-given.result (c.in-Ok.ensures.asked i.engine.work.nodes c.try_ask-given.result c.try_ask-given.ensures.gives)))

pub returns-in-Err-clause-told : goal.returns-in-Err-clause-told
returns-in-Err-clause-told g c =
    let i = c.self.inside in
    subst (λ v. Probes v.standing c.args.event.now c.in-Err.told) c.self.view_is
    (probes-behind i.machine i.budget i.bounds (seen i.state) c.args.event.now c.in-Err.told (c.in-Err.ensures.told i.budget))

pub first_ask-requires-clause-stocked : goal.first_ask-requires-clause-stocked
first_ask-requires-clause-stocked g c = stock-more c.self.inside.machine (2 + c.self.inside.answered) last_copy (seen c.self.inside.state) (omega (arith, c.self.invariant.within)) c.self.invariant.stocked
