use Rattle.std.proofs.Common.{◌≡◌, ◌≤◌, length}
use Rattle.tp_event_rules.specs.LiveStates.{seen}
use Rattle.tp_event_rules.specs.Planners.{right_steps}
use Rattle.tp_event_turn.specs.KeptPoints.{IsLeft}
use Rattle.tp_event_turn.proofs.LeftFacts.{left}
use Rattle.tp_event_turn.proofs.PhaseFacts.{IsUnderWay}
use Rattle.tp_event_turn.proofs.ask_phase.ask_waiting.Given as goal

abbrev pub invariant-asks : goal.invariant-asks
invariant-asks g l = record {
  under_way : IsUnderWay (right_steps g.P.Planner.rules l.machine) l.machine
      (seen l.fn.state) l.fn.planner l.fn.notes.items (seen l.state) l.planner l.notes.items l.last l.blocked;
  kept : IsLeft (g.P.Planner.follows l.planner l.machine) l.state.schedule.plans l.carry.left;
  counted : g.P.Planner.stops l.fn.planner ≤ g.P.Planner.stops l.planner;
  serves : g.P.Planner.serves l.planner l.machine;
  marked : l.state.lines.kept ≡ l.fn.state.lines.kept;
  refills : l.state.refills ≡ l.fn.state.refills;
  lasts : g.P.Planner.lasting l.planner ≡ g.P.Planner.lasting l.fn.planner;
}

abbrev pub decreases-asks : goal.decreases-asks
decreases-asks g l = length (left l.last l.state.lines.waiting)
