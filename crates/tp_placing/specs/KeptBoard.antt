-- What a board holds of the schedule that its last ask left.
use Rattle.std.specs.Prelude.{◌≡◌, ◌≤◌, ◌+◌, ◌⊎◌, List, filter, Contains, IsFalse, IsTrue}
use Rattle.tp_machine.specs.declared.machine.Machine.{Machine}
use Rattle.tp_schedule.specs.LivePlans.{is_live}
use Rattle.tp_schedule.specs.Limits.{most_plan_points}
use Rattle.tp_schedule.specs.Plans.{is_before, without}
use Rattle.tp_placing.specs.LoadedNet.{point_count}
use Rattle.tp_schedule.specs.declared.parts.Ask.{Ask}
use Rattle.tp_schedule.specs.declared.parts.Origin.TheVariants.{Feeder}
use Rattle.tp_schedule.specs.declared.parts.Plan.{Plan}

-- if the ask was one for a new copy, those of these plans that are live at its moment are all other ones that are
abbrev pub HoldsOthers : Machine → Ask → List Plan → List Plan → Type 0
HoldsOthers machine ask plans held = ask.origin ≡ Feeder → filter (is_live machine ask.now) (without ask.sheet plans) ≡ filter (is_live machine ask.now) held

-- the ask can be put on the held plans: none is over; or those that are over are of earlier copies, and there is room for the points
-- of a plan more
abbrev pub AreFit : Machine → Ask → List Plan → Type 0
AreFit machine ask held = (filter (is_live machine ask.now) held ≡ held)
    ⊎ ((point_count held + most_plan_points ≤ 16641) × ((p : Plan) → Contains held p → IsFalse (is_live machine ask.now p) → IsTrue (is_before p.sheet ask.sheet)))
