use Rattle.std.proofs.Common.{◌≡◌, find, take, None}
use Rattle.tp_event_rules.specs.LiveStates.{seen}
use Rattle.tp_event_rules.specs.Loops.{is_loose}
use Rattle.tp_replan.proofs.loose_ask.first_loose.Given as goal

abbrev pub invariant-loop-at : goal.invariant-loop-at
invariant-loop-at l = find (is_loose (seen l.state)) (take l.at l.state.schedule.plans) ≡ None
