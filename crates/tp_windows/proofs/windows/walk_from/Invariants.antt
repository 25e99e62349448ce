use Rattle.std.proofs.Common.{◌-◌, ◌<◌, ◌≤◌, List}
use Rattle.tp_base.specs.Net.{Net}
use Rattle.tp_schedule.specs.PlannerAnswers.{IsKnownGoal}
use Rattle.tp_schedule.specs.declared.parts.Plan.{Plan}
use Rattle.tp_constraints.specs.Numbers.{table_of}
use Rattle.tp_windows.specs.Halves.{AreLeft}
use Rattle.tp_windows.specs.KeptRows.{HaveOrders}
use Rattle.tp_windows.specs.Roots.{IsRootBy}
use Rattle.tp_windows.specs.Walks.{waiting_at}
use Rattle.tp_windows.proofs.windows.walk_from.Given as goal

abbrev pub invariant-halves : goal.invariant-halves
invariant-halves l = record {
  some : 0 < l.bound;
  sooner : l.bound ≤ l.end;
  orders : (plans : List Plan) → HaveOrders l.machine plans l.fn.node.rows.rows → HaveOrders l.machine plans l.node.rows.rows;
  left : (plans : List Plan) (net : Net) → IsKnownGoal l.machine l.ask.goal → IsRootBy l.machine plans l.ask net (l.end - 1) l.root → HaveOrders l.machine plans l.fn.node.rows.rows
      → AreLeft l.machine plans l.ask (waiting_at (table_of plans) l.node.path.items) (l.bound - 1);
}

abbrev pub decreases-halves : goal.decreases-halves
decreases-halves l = l.steps
