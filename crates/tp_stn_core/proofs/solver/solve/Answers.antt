use Rattle.std.proofs.Common.{◌∙◌, subst}
use Rattle.std.specs.Result.{IfErr}
use Rattle.tp_base.specs.Kept.{net_of, KeptRefutes}
use Rattle.tp_base.proofs.RisenFacts.{refuted_none}
use Rattle.tp_stn_core.proofs.solver.solve.Goals as goal

pub returns-clause-refuted : goal.returns-clause-refuted
returns-clause-refuted c = subst (λ ls. IfErr c.settle.result (λ kept. KeptRefutes (net_of ls c.args.caps.now c.args.edges.now) kept c.settle.new.path.items)) (c.deref_mut.ensures.value ∙ c.fill.ensures.times) c.settle.ensures.refuted

pub returns-clause-none : goal.returns-clause-none
returns-clause-none c = refuted_none (net_of c.args.lows.now c.args.caps.now c.args.edges.now) c.settle.result c.settle.new.path.items (returns-clause-refuted c)
