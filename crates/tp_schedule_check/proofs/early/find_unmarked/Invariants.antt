use Rattle.std.proofs.Common.{◌≡◌, ◌+◌, drop}
use Rattle.tp_schedule_check.specs.Early.{AreMarked, IsUnmarkedAt}
use Rattle.tp_schedule_check.specs.Lines.{point_count}
use Rattle.tp_schedule_check.specs.declared.early.Early.{Early}
use Rattle.tp_schedule_check.proofs.early.find_unmarked.Given as goal

abbrev pub invariant-plans : goal.invariant-plans
invariant-plans l = record {
  number : l.number + point_count (drop l.at l.schedule.plans) ≡ point_count l.schedule.plans;
  marked : AreMarked l.marks l.number (drop l.at l.schedule.plans) → AreMarked l.marks 0 l.schedule.plans;
  bare : (early : Early) → IsUnmarkedAt l.marks l.number (drop l.at l.schedule.plans) early → IsUnmarkedAt l.marks 0 l.schedule.plans early;
}
