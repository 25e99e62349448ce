use Rattle.tp_event_rules.proofs.LoopFacts.{state-after_one_more, told-after_one_more, in_turn-one_more}
use Rattle.tp_event_rules.specs.Planners.{right_steps}
use Rattle.tp_event_rules.proofs.laws.loop_goes_on.Goals as goal

pub returns-clause-state : goal.returns-clause-state
returns-clause-state g c = state-after_one_more

pub returns-clause-records : goal.returns-clause-records
returns-clause-records g c = told-after_one_more

pub returns-clause-in_turn : goal.returns-clause-in_turn
returns-clause-in_turn g c machine = in_turn-one_more (right_steps g.P.Planner.rules machine) machine
