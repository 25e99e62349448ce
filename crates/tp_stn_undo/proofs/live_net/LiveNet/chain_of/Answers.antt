use Rattle.std.proofs.Common.{subst}
use Rattle.std.specs.Prelude.{IfOk, IsErr, ◌↔◌}
use Rattle.std.proofs.lemmas.Result.{IfOk-weaker}
use Rattle.tp_base.specs.declared.edges.PointId.{PointId}
use Rattle.tp_base.specs.Refute.{IsCauseChain}
use Rattle.tp_stn_undo.specs.States.{net_of_core, edges_of, causes_of}
use Rattle.tp_stn_undo.specs.Live.{core_in}
use Rattle.tp_stn_undo.specs.LiveState.{LiveState}
use Rattle.tp_stn_undo.specs.Chains.{IsSupport, HasMoreCauses}
use Rattle.tp_stn_undo.proofs.ChainFacts.{sound_causes, sound_never_round, sound_support}
use Rattle.tp_stn_undo.proofs.live_net.LiveNet.chain_of.Goals as goal

pub write_causes-requires-clause-causes : goal.write_causes-requires-clause-causes
write_causes-requires-clause-causes c = rw (c.deref.ensures.value, c.deref-2.ensures.value) (sound_causes (core_in c.self.inside) c.self.invariant.sound)

pub write_causes-requires-clause-ends : goal.write_causes-requires-clause-ends
write_causes-requires-clause-ends c = rw (c.deref.ensures.value, c.deref-2.ensures.value) (sound_never_round (core_in c.self.inside) c.self.invariant.sound)

pub returns-clause-support : goal.returns-clause-support
returns-clause-support c =
    let a = c.self.inside in
    let chain = rw (c.deref.ensures.value, c.deref-2.ensures.value) at c.write_causes.ensures.chain in
    subst (λ (s : LiveState). IfOk c.write_causes.result (λ (first : PointId). IsSupport s.net first.0 c.write_causes.new.into.items c.args.point.0)) c.self.view_is
    (IfOk-weaker c.write_causes.result (λ (first : PointId). IsCauseChain (causes_of (edges_of a.links.items) a.states.items) first.0 c.write_causes.new.into.items c.args.point.0)
    (λ (first : PointId). IsSupport (net_of_core (core_in a)) first.0 c.write_causes.new.into.items c.args.point.0)
    (λ first h. sound_support (core_in a) c.self.invariant.sound first.0 c.args.point.0 c.write_causes.new.into.items h) chain)

pub returns-clause-causes : goal.returns-clause-causes
returns-clause-causes c =
    subst (λ (s : LiveState). IfOk c.write_causes.result (λ (first : PointId). IsCauseChain s.causes first.0 c.write_causes.new.into.items c.args.point.0)) c.self.view_is
    (rw (c.deref.ensures.value, c.deref-2.ensures.value) at c.write_causes.ensures.chain)

pub returns-clause-full : goal.returns-clause-full
returns-clause-full c =
    subst (λ (s : LiveState). IsErr c.write_causes.result ↔ HasMoreCauses s.causes c.args.point.0 c.args.into.now.capacity) c.self.view_is
    (rw (c.deref.ensures.value, c.deref-2.ensures.value) at c.write_causes.ensures.full)
