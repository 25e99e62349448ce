use Rattle.std.proofs.Common.{◌≡◌, ◌≤◌, ◌+◌}
use Rattle.tp_event_rules.specs.LiveStates.{seen}
use Rattle.tp_event_rules.specs.Planners.{right_steps}
use Rattle.tp_replan.specs.Answered.{IsInLoop}
use Rattle.tp_replan.specs.LooseLoop.{copies_left}
use Rattle.tp_replan.proofs.LoopSteps.{work}
use Rattle.tp_replan.proofs.loose_loop.run_loop.Given as goal

abbrev pub invariant-loose : goal.invariant-loose
invariant-loose g l = record {
  under_way : IsInLoop (right_steps g.P.Planner.rules l.machine) l.machine
      (seen l.fn.state) l.fn.planner l.fn.notes.items (seen l.state) l.planner l.notes.items;
  few : copies_left (seen l.state) ≤ copies_left (seen l.fn.state);
  counted : g.P.Planner.stops l.fn.planner ≤ g.P.Planner.stops l.planner;
  serves : g.P.Planner.serves l.planner l.machine;
  marked : l.state.lines.kept ≡ l.fn.state.lines.kept;
  lasts : g.P.Planner.lasting l.planner ≡ g.P.Planner.lasting l.fn.planner;
}

abbrev pub decreases-loose : goal.decreases-loose
decreases-loose g l = work (copies_left (seen l.fn.state) + 1) (seen l.state)
