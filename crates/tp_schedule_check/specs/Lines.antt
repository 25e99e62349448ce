-- The lines of trays, as their ends are paired.
use Rattle.std.specs.Prelude.{ℕ, ◌+◌, List, [], ◌∷◌, ◌++◌, length, Option, Some, None, if◌then◌else◌}
use Rattle.tp_machine.specs.declared.parts.LocId.{LocId}
use Rattle.tp_schedule.specs.Plans.{end_of_plan, is_delivered_to}
use Rattle.tp_schedule.specs.declared.parts.Goal.{Goal}
use Rattle.tp_schedule.specs.declared.parts.Goal.TheVariants.{Tray, Purge}
use Rattle.tp_schedule.specs.declared.parts.Kind.{Kind}
use Rattle.tp_schedule.specs.declared.parts.Kind.TheVariants.{Whole, Front}
use Rattle.tp_schedule.specs.declared.parts.Plan.{Plan}
use Rattle.tp_schedule_check.specs.declared.line_ends.PlanEnd.{PlanEnd}

-- the tray of a whole plan that goes to one
abbrev pub line_of : Kind → Goal → Option LocId
line_of Front goal = None
line_of Whole Purge = None
line_of Whole (Tray t) = Some t

-- the end of a plan, of which the first point has this number
abbrev pub end_of : ℕ → Plan → PlanEnd
end_of number p = record { sheet = p.sheet; number = number + length p.acts; tick = end_of_plan p }

-- the first end of a line among plans, of which the first has this number for its first point
abbrev pub next_to : ℕ → ℕ → List Plan → Option PlanEnd
next_to tray number [] = None
next_to tray number (p ∷ plans) = if is_delivered_to p tray then Some (end_of number p) else next_to tray (number + (length p.acts + 1)) plans

abbrev pub next_in : Option LocId → ℕ → List Plan → Option PlanEnd
next_in None number plans = None
next_in (Some t) number plans = next_to t.0 number plans

abbrev pub pair_with : PlanEnd → Option PlanEnd → List (PlanEnd × PlanEnd)
pair_with end None = []
pair_with end (Some later) = (end, later) ∷ []

-- each end of a line with the next one, the last ones first
abbrev pub line_pairs : ℕ → List Plan → List (PlanEnd × PlanEnd)
line_pairs number [] = []
line_pairs number (p ∷ plans) =
    line_pairs (number + (length p.acts + 1)) plans ++ pair_with (end_of number p) (next_in (line_of p.kind p.goal) (number + (length p.acts + 1)) plans)

-- how many points plans have
abbrev pub point_count : List Plan → ℕ
point_count [] = 0
point_count (p ∷ plans) = (length p.acts + 1) + point_count plans
