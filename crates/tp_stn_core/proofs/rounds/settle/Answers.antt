use Rattle.std.proofs.Common.{Ok, arith, ◌∙◌, ap}
use Rattle.tp_base.specs.Grows.{Rises, PassesCap}
use Rattle.tp_base.proofs.GrowsFacts.{Rises-trans, PassesCap-after}
use Rattle.tp_base.proofs.LeastFacts.{settled_least}
use Rattle.tp_base.specs.Kept.{net_of}
use Rattle.tp_base.proofs.RisenFacts.{risen_causes, risen_circle, passed_causes, passed_chain, passed_circle}
use Rattle.tp_stn_core.proofs.RoundFacts.{none_of}
use Rattle.tp_stn_core.proofs.rounds.settle.Goals as goal
use Rattle.tp_stn_core.proofs.rounds.settle.Goals.{In-Ok-Some, In-Err}

-- the times have risen from the lower bounds
risen : (c : In-Ok-Some) → Rises c.args.edges.now c.args.times.now c.args.causes.now c.round.new.times c.round.new.causes
risen c =
    Rises-trans c.args.edges.now c.args.times.now c.rounds.times c.round.new.times c.args.causes.now c.rounds.causes c.round.new.causes c.rounds.auto.times c.rounds.invariant.rises c.in-Ok-Some.ensures.rises

passed : (c : In-Err) → PassesCap c.args.caps.now c.args.edges.now c.args.times.now c.args.causes.now c.round.new.causes c.in-Err.point.0
passed c =
    PassesCap-after c.args.caps.now c.args.edges.now c.args.times.now c.rounds.times c.args.causes.now c.rounds.causes c.round.new.causes c.in-Err.point.0 c.rounds.auto.times c.rounds.invariant.rises c.in-Err.ensures.late

pub returns-in-Ok-None-clause-least : goal.returns-in-Ok-None-clause-least
returns-in-Ok-None-clause-least c =
    let rises = Rises-trans c.args.edges.now c.args.times.now c.rounds.times c.round.new.times c.args.causes.now c.rounds.causes c.round.new.causes c.rounds.auto.times c.rounds.invariant.rises c.in-Ok-None.ensures.rises in
    settled_least (net_of c.args.times.now c.args.caps.now c.args.edges.now) c.args.causes.now c.round.new.causes c.round.new.times
    (c.round.auto.times ∙ c.rounds.auto.times) rises
    c.in-Ok-None.ensures.within (c.in-Ok-None.ensures.keeps (ap Ok c.in-Ok-None.field-0-is))

pub trace_causes-requires-clause-causes : goal.trace_causes-requires-clause-causes
trace_causes-requires-clause-causes k =
    let c = (goal.at.trace_causes-requires-clause-causes k).In-Ok-Some in
    risen_causes c.args.times.now c.args.edges.now c.args.causes.now c.round.new.causes c.round.new.times c.requires.causeless (c.round.auto.causes ∙ c.rounds.auto.causes ∙ c.requires.causes) (risen c)

pub returns-then-is_none-clause-refuted : goal.returns-then-is_none-clause-refuted
returns-then-is_none-clause-refuted k =
    let c = (goal.at.returns-then-is_none-clause-refuted k).In-Ok-Some in
    risen_circle c.args.times.now c.args.edges.now c.args.causes.now c.round.new.causes c.round.new.times c.requires.causeless (c.round.auto.causes ∙ c.rounds.auto.causes ∙ c.requires.causes)
    c.args.caps.now k.trace_causes.new.path.items (risen c) (none_of k.trace_causes.result _ k.trace_causes.ensures.circle k.if-is_none.ensures)

pub rounds-preserved : goal.rounds-preserved
rounds-preserved c = record {
  rises = Rises-trans c.args.edges.now c.args.times.now c.rounds.times c.round.new.times c.args.causes.now c.rounds.causes c.round.new.causes c.rounds.auto.times c.rounds.invariant.rises c.in-Ok-Some.ensures.rises;
  within = c.in-Ok-Some.ensures.within;
  path_kept = omega (arith, c.trace_causes.ensures.path_kept, c.rounds.invariant.path_kept);
  places_kept = omega (arith, c.trace_causes.ensures.places_kept, c.rounds.invariant.places_kept);
}

pub trace_causes-requires-in-Err-clause-causes : goal.trace_causes-requires-in-Err-clause-causes
trace_causes-requires-in-Err-clause-causes k =
    let c = (goal.at.trace_causes-requires-in-Err-clause-causes k).In-Err in
    passed_causes c.args.times.now c.args.caps.now c.args.edges.now c.args.causes.now c.round.new.causes c.in-Err.point.0 c.requires.causeless (c.round.auto.causes ∙ c.rounds.auto.causes ∙ c.requires.causes) (passed c)

pub returns-in-Some-clause-refuted : goal.returns-in-Some-clause-refuted
returns-in-Some-clause-refuted k =
    let c = (goal.at.returns-in-Some-clause-refuted k).In-Err in
    passed_chain c.args.times.now c.args.caps.now c.args.edges.now c.args.causes.now c.round.new.causes c.in-Err.point.0 c.requires.causeless (c.round.auto.causes ∙ c.rounds.auto.causes ∙ c.requires.causes) (passed c) _ _ k.in-Some.ensures.chain

pub returns-in-None-clause-refuted : goal.returns-in-None-clause-refuted
returns-in-None-clause-refuted k =
    let c = (goal.at.returns-in-None-clause-refuted k).In-Err in
    passed_circle c.args.times.now c.args.caps.now c.args.edges.now c.args.causes.now c.round.new.causes c.in-Err.point.0 c.requires.causeless (c.round.auto.causes ∙ c.rounds.auto.causes ∙ c.requires.causes) (passed c) _ k.in-None.ensures.circle
