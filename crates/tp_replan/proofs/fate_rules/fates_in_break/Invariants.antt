use Rattle.std.proofs.Common.{take}
use Rattle.tp_event_rules.specs.FallBacks.{fate_in_break}
use Rattle.tp_event_rules.specs.LiveStates.{seen}
use Rattle.tp_replan.specs.Meanings.{AreFates}
use Rattle.tp_replan.proofs.fate_rules.fates_in_break.Given as goal

abbrev pub invariant-loop-at : goal.invariant-loop-at
invariant-loop-at l = AreFates (fate_in_break (seen l.state) l.job) (take l.at l.state.schedule.plans) l.fates.items
