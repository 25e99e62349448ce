use Rattle.std.proofs.Common.{length}
use Rattle.tp_schedule.proofs.holders.+is_any_held_after.Given as goal

abbrev pub decreases-is_any_held_after : goal.decreases-is_any_held_after
decreases-is_any_held_after l = length l.acts.now
