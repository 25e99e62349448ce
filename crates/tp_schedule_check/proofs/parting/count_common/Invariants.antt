use Rattle.std.proofs.Common.{◌≡◌, ◌-◌, ◌≤◌, length, map, take}
use Rattle.tp_schedule_check.specs.Holds.{slot_of}
use Rattle.tp_schedule_check.proofs.parting.count_common.Given as goal

abbrev pub invariant-holds : goal.invariant-holds
invariant-holds l = record {
  before : l.at ≤ length l.before;
  after : l.at ≤ length l.after;
  alike : map slot_of (take l.at l.after) ≡ map slot_of (take l.at l.before);
}

abbrev pub decreases-holds : goal.decreases-holds
decreases-holds l = length l.before - l.at
