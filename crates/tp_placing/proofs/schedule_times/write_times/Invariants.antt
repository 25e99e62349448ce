use Rattle.std.proofs.Common.{◌≡◌, Bool, false, filter, map, take}
use Rattle.tp_schedule.specs.Spots.{Ticks}
use Rattle.tp_constraints.specs.Numbers.{table_of}
use Rattle.tp_schedule.specs.declared.parts.Plan.{Plan}
use Rattle.tp_placing.specs.Settled.{AreOfSchedule}
use Rattle.tp_placing.specs.Commits.{AreLeastTicks, retimed_in}
use Rattle.tp_placing.proofs.schedule_times.write_times.Given as goal

abbrev pub invariant-loop-at : goal.invariant-loop-at
invariant-loop-at g l = record {
  times : (mine : Plan → Bool) → AreOfSchedule (g.N.Network.reading.net l.net) l.plans l.fn.schedule.plans mine → (t : Ticks) → AreLeastTicks (g.N.Network.reading.net l.net) (table_of l.plans) t → l.schedule.plans ≡ map (retimed_in (filter mine (take l.at l.plans)) t) l.fn.schedule.plans;
  unmoved : l.moved ≡ false → l.schedule.plans ≡ l.fn.schedule.plans;
  spare : l.schedule.spare ≡ l.fn.schedule.spare;
}
