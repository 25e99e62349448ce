-- A plan of the copy is found where there is one.
use Rattle.std.proofs.Common.{arith}
use Rattle.std.proofs.lemmas.Grind.{common_steps}
use Rattle.tp_schedule.specs.Plans.{is_same_copy}
use Rattle.tp_event_turn.proofs.ClockFacts.{some-position}
use Rattle.tp_event_turn.proofs.clock_turn.has_plan.Goals as goal

pub returns : goal.returns
returns c = grind (arith, common_steps, some-position (λ p. is_same_copy p.sheet c.args.copy) c.args.schedule.now.plans)
