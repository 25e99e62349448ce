use Rattle.std.proofs.Common.{◌≡◌, ◌≤◌, false, All, Some, drop, slice_get, take}
use Rattle.tp_constraints.specs.Gaps.{is_same_line}
use Rattle.tp_schedule.specs.declared.parts.Plan.{Plan}
use Rattle.tp_placing.proofs.live_match.line_end.Given as goal

abbrev pub invariant-back : goal.invariant-back
invariant-back l = record {
  others : (p : Plan) → slice_get l.plans l.at ≡ Some p → All (λ q. is_same_line q p ≡ false) (drop l.left (take l.at l.plans));
  within : l.left ≤ l.at;
}

abbrev pub decreases-back : goal.decreases-back
decreases-back l = l.left
