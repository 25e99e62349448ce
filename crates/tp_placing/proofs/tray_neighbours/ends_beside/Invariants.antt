use Rattle.std.proofs.Common.{◌≡◌, ◌≤◌, drop, length, None}
use Rattle.tp_placing.specs.Edges.{first_end, is_ahead, is_behind, last_end}
use Rattle.tp_placing.proofs.tray_neighbours.ends_beside.Given as goal

abbrev pub invariant-back : goal.invariant-back
invariant-back l = record {
  ahead : last_end (is_ahead l.ask) (drop l.left l.plans) (drop l.left l.firsts) ≡ None;
  behind : l.behind ≡ first_end (is_behind l.ask) (drop l.left l.plans) (drop l.left l.firsts);
  within : l.left ≤ length l.plans;
}

abbrev pub decreases-back : goal.decreases-back
decreases-back l = l.left
