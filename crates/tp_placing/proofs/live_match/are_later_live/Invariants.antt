use Rattle.std.proofs.Common.{◌≡◌, ◌≤◌, true, length}
use Rattle.std.specs.List.{AllWithin}
use Rattle.tp_schedule.specs.LivePlans.{is_live}
use Rattle.tp_placing.proofs.live_match.are_later_live.Given as goal

abbrev pub invariant-back : goal.invariant-back
invariant-back l = record {
  live : AllWithin (λ p. is_live l.machine l.now p ≡ true) l.plans l.left (length l.plans);
  within : l.left ≤ length l.plans;
}

abbrev pub decreases-back : goal.decreases-back
decreases-back l = l.left
