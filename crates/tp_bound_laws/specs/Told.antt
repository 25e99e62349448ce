-- How a hop of a board's reason is named in a tree.
use Rattle.std.specs.Prelude.{◌≡◌, ◌+◌, ◌<◌, length, List, map, Option, Some, None, option_map, option_and_then, slice_get, ℤ}
use Rattle.tp_bounds.specs.declared.hops.Hop.{Hop as TreeHop}
use Rattle.tp_bounds.specs.declared.hops.Hop.TheVariants.{Duration, Line, «Resource» as Res}
use Rattle.tp_bounds.specs.declared.hops.TreeHold.{TreeHold}
use Rattle.tp_bounds.specs.declared.hops.TreeHold.TheVariants.{Own as OwnHold, Kept as KeptHold}
use Rattle.tp_bounds.specs.declared.hops.TreePoint.{TreePoint}
use Rattle.tp_bounds.specs.declared.hops.TreePoint.TheVariants.{Own as OwnPoint, Kept as KeptPoint}
use Rattle.tp_machine.specs.Machines.{AreDifferent}
use Rattle.tp_machine.specs.declared.parts.Resource.{Resource}
use Rattle.tp_machine.specs.declared.machine.Machine.{Machine}
use Rattle.tp_schedule.specs.Legality.{IsLegal}
use Rattle.tp_schedule.specs.Plans.{AreNamed, plan_of}
use Rattle.tp_schedule.specs.Spots.{Spot}
use Rattle.tp_schedule.specs.Spots.Spot.{kept, own}
use Rattle.tp_schedule.specs.declared.parts.Ask.{Ask}
use Rattle.tp_schedule.specs.declared.parts.Plan.{Plan}
use Rattle.tp_schedule.specs.declared.records.SheetName.{SheetName}
use Rattle.tp_constraints.specs.Hops.{Hop, HopKind, IsHop}
use Rattle.tp_constraints.specs.Hops.HopKind.{forward, back, line, order, stop, limit}
use Rattle.tp_bound_laws.specs.Chains.{gap_of}
use Rattle.tp_bound_laws.specs.Places.{Branch}

abbrev pub sheet_name : Plan → SheetName
sheet_name p = record { job = p.name; number = p.sheet.number; copy = p.sheet.copy }

abbrev pub point_name : List Plan → Spot → Option TreePoint
point_name plans (kept copy i) = option_map (λ p. KeptPoint (sheet_name p) i) (plan_of copy plans)
point_name plans (own n) = Some (OwnPoint n)

abbrev pub hold_name : List Plan → Spot → Option TreeHold
hold_name plans (kept copy i) = option_map (λ p. KeptHold (sheet_name p) (i + 1)) (plan_of copy plans)
hold_name plans (own n) = Some (OwnHold n)

abbrev pub resource_hop : List Plan → Spot → Spot → Resource → Option TreeHop
resource_hop plans before after r = option_and_then (λ x. option_map (λ y. Res r.name x y) (hold_name plans after)) (hold_name plans before)

abbrev pub told_by : Machine → List Plan → HopKind → Spot → Option TreeHop
told_by machine plans forward to = option_map (λ p. Duration p) (point_name plans to)
told_by machine plans back to = option_map (λ p. Duration p) (point_name plans to)
told_by machine plans line to = option_map (λ p. Line p) (point_name plans to)
told_by machine plans (order resource before after) to = option_and_then (resource_hop plans before after) (slice_get machine.resources resource)
told_by machine plans stop to = None
told_by machine plans limit to = None

-- what a tree tells of the hop, if it isn't a stop or a limit
abbrev pub told : Machine → List Plan → Hop → Option TreeHop
told machine plans h = told_by machine plans h.kind h.gap.to

-- a hop that a tree can tell: no stop, no limit, and on a resource of the machine
abbrev pub CanBeTold : Machine → HopKind → Type 0
CanBeTold machine (order resource before after) = resource < length machine.resources
CanBeTold machine stop = ⊥
CanBeTold machine limit = ⊥
CanBeTold machine _ = Unit {0}

-- where a branch is the board's suffix, each such hop of a reason is named
abbrev pub HopsAreTold : Type 0
HopsAreTold = (machine : Machine) (plans : List Plan) (ask : Ask) (b : Branch) (h : Hop) → IsLegal machine plans → AreNamed plans → IsHop machine plans ask b.x h → CanBeTold machine h.kind
    → (k : TreeHop) × (told machine plans h ≡ Some k)

-- it is allowed as it is named, and says the same
abbrev pub HopsAreAllowed : Type 0
HopsAreAllowed = (machine : Machine) (plans : List Plan) (ask : Ask) (limit : ℤ) (b : Branch) (h : Hop) (k : TreeHop) → IsLegal machine plans → AreNamed plans → AreDifferent (map (λ r. r.name) machine.resources)
    → IsHop machine plans ask b.x h → told machine plans h ≡ Some k → gap_of machine plans ask limit (record { branch = b; span = None }) h.gap.from k ≡ Some h.gap
