use Rattle.std.proofs.Common.{length, ap, ◌∙◌}
use Rattle.tp_soak.proofs.ScriptFacts.{length-script}
use Rattle.tp_soak.proofs.case.soak_case.Goals as goal

pub returns-clause-count : goal.returns-clause-count
returns-clause-count c = ap length c.in_ok-events.ensures.events ∙ length-script _
