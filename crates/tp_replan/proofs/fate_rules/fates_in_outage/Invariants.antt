use Rattle.std.proofs.Common.{take}
use Rattle.tp_event_rules.specs.LiveStates.{seen}
use Rattle.tp_event_rules.specs.Outages.{fate_in_outage}
use Rattle.tp_replan.specs.Meanings.{AreFates}
use Rattle.tp_replan.proofs.fate_rules.fates_in_outage.Given as goal

abbrev pub invariant-loop-at : goal.invariant-loop-at
invariant-loop-at l =
    AreFates (fate_in_outage l.machine l.event.module.0 l.event.jammed (seen l.state))
    (take l.at l.state.schedule.plans) l.fates.items
