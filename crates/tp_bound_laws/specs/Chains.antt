-- Chains and loops: hops from point to point, each of which takes at least so long wherever the node's branch leads.
use Rattle.std.specs.Prelude.{ℕ, zero, suc, ◌+◌, ◌-◌, Bool, false, ◌&&◌, not, nat_le, nat_lt, ◌==◌, List, [], ◌∷◌, ◌++◌, length, find, drop, take, reverse, slice_get, position, Option, Some, None, option_map, ℤ, pos, neg_ℤ, ◌+ℤ◌, if◌then◌else◌}
use Rattle.std.specs.Str.{bytes_eq}
use Rattle.tp_bounds.specs.declared.hops.Hop.{Hop}
use Rattle.tp_bounds.specs.declared.hops.Hop.TheVariants.{Duration, Line, «Resource» as Res}
use Rattle.tp_bounds.specs.declared.hops.TreeHold.{TreeHold}
use Rattle.tp_bounds.specs.declared.hops.TreeHold.TheVariants.{Own as OwnHold, Kept as KeptHold}
use Rattle.tp_bounds.specs.declared.hops.TreePoint.{TreePoint}
use Rattle.tp_bounds.specs.declared.hops.TreePoint.TheVariants.{Own as OwnPoint, Kept as KeptPoint}
use Rattle.tp_machine.specs.Modes.{gap_at}
use Rattle.tp_machine.specs.ModuleUse.{action_at}
use Rattle.tp_machine.specs.declared.parts.ActId.{ActId}
use Rattle.tp_machine.specs.declared.parts.Action.{Action}
use Rattle.tp_machine.specs.declared.machine.Machine.{Machine}
use Rattle.tp_schedule.specs.Choices.{Choice, start_floor}
use Rattle.tp_schedule.specs.Plans.{plan_of, is_before, is_same_copy, is_front}
use Rattle.tp_schedule.specs.Spots.{Spot, Slot}
use Rattle.tp_schedule.specs.Spots.Spot.{kept, own}
use Rattle.tp_schedule.specs.declared.parts.Ask.{Ask}
use Rattle.tp_schedule.specs.declared.parts.Goal.{Goal}
use Rattle.tp_schedule.specs.declared.parts.Goal.TheVariants.{Tray, Purge}
use Rattle.tp_schedule.specs.declared.parts.Plan.{Plan}
use Rattle.tp_schedule.specs.declared.parts.SheetId.{SheetId}
use Rattle.tp_schedule.specs.declared.records.SheetName.{SheetName}
use Rattle.tp_constraints.specs.Gaps.{Gap, gap, slot_gap}
use Rattle.tp_constraints.specs.Numbers.{is_same_spot}
use Rattle.tp_constraints.specs.Suffixes.{Suffix, order_in, suffix_low, suffix_cap, choice_slot}
use Rattle.tp_bound_laws.specs.Places.{Span, Stand}

-- ---- names

-- the plan of a copy by the name of its job
abbrev pub is_plan_of : SheetName → Plan → Bool
is_plan_of name p = bytes_eq name.job p.name && (p.sheet.number == name.number) && (p.sheet.copy == name.copy)

abbrev pub plan_named : SheetName → List Plan → Option Plan
plan_named name plans = find (is_plan_of name) plans

-- point i of a plan, if it has so many
abbrev pub point_in : ℕ → Option Plan → Option Spot
point_in i None = None
point_in i (Some p) = if nat_le i (length p.acts) then Some (kept p.sheet i) else None

-- the point where action i of a plan starts, the first being action 1
abbrev pub start_in : ℕ → Option Plan → Option Spot
start_in zero o = None
start_in (suc i) None = None
start_in (suc i) (Some p) = if nat_lt i (length p.acts) then Some (kept p.sheet i) else None

-- a named point, where so many choices were made
abbrev pub spot_of : List Plan → ℕ → TreePoint → Option Spot
spot_of plans count (OwnPoint n) = if nat_le n count then Some (own n) else None
spot_of plans count (KeptPoint name i) = point_in i (plan_named name plans)

-- the point where a named action starts
abbrev pub own_start : ℕ → ℕ → Option Spot
own_start count zero = None
own_start count (suc n) = if nat_le (suc n) count then Some (own (suc n)) else None

abbrev pub start_of : List Plan → ℕ → TreeHold → Option Spot
start_of plans count (OwnHold n) = own_start count n
start_of plans count (KeptHold name i) = start_in i (plan_named name plans)

-- ---- durations

abbrev pub act_in : Machine → Option ActId → Option Action
act_in machine None = None
act_in machine (Some act) = action_at machine act.0

abbrev pub acts_in : Option Plan → List ActId
acts_in None = []
acts_in (Some p) = p.acts

-- the action that runs from point i of a copy's plan, and the one that runs to own point n
abbrev pub kept_act : Machine → List Plan → SheetId → ℕ → Option Action
kept_act machine plans copy i = act_in machine (slice_get (acts_in (plan_of copy plans)) i)

abbrev pub choice_act : Option Choice → Option ActId
choice_act None = None
choice_act (Some c) = Some c.act

abbrev pub own_act : Machine → List Choice → ℕ → Option Action
own_act machine choices n = act_in machine (choice_act (slice_get (reverse choices) n))

abbrev pub least_gap : Spot → Spot → Option Action → Option Gap
least_gap from to o = option_map (λ a. gap from to (pos a.least)) o

abbrev pub most_gap : Spot → Spot → Option Action → Option Gap
most_gap from to o = option_map (λ a. gap from to (neg_ℤ (pos a.most))) o

-- from a point to the next of the same plan an action takes at least its least, and back at most its most
abbrev pub duration_gap : Machine → List Plan → List Choice → Spot → Spot → Option Gap
duration_gap machine plans choices (kept c i) (kept d j) =
    if is_same_copy c d && (j == suc i) then least_gap (kept c i) (kept c (suc i)) (kept_act machine plans c i) else (if is_same_copy c d && (i == suc j) then most_gap (kept c (suc j)) (kept c j) (kept_act machine plans c j) else None)
duration_gap machine plans choices (own m) (own n) =
    if m == suc n then least_gap (own (suc n)) (own n) (own_act machine choices n) else (if n == suc m then most_gap (own m) (own (suc m)) (own_act machine choices m) else None)
duration_gap machine plans choices (kept c i) (own n) = None
duration_gap machine plans choices (own m) (kept d j) = None

-- ---- lines

-- a copy that ends at a tray
pub record Arrival : Type 0 where
  pub copy : SheetId
  pub tray : ℕ

abbrev pub arrival_at : SheetId → Goal → Option Arrival
arrival_at copy (Tray t) = Some (record { copy = copy; tray = t.0 })
arrival_at copy Purge = None

abbrev pub arrival_in : ℕ → Option Plan → Option Arrival
arrival_in i None = None
arrival_in i (Some p) = if not (is_front p.kind) && (i == length p.acts) then arrival_at p.sheet p.goal else None

-- the copy that ends at this point, if it is the end of a whole plan to a tray or of the asked copy with a tray as goal
abbrev pub own_arrival : Ask → ℕ → Option Arrival
own_arrival ask zero = arrival_at ask.sheet ask.goal
own_arrival ask (suc n) = None

abbrev pub arrival_of : Ask → List Plan → Spot → Option Arrival
arrival_of ask plans (kept c i) = arrival_in i (plan_of c plans)
arrival_of ask plans (own n) = own_arrival ask n

abbrev pub is_next_arrival : Option Arrival → Option Arrival → Bool
is_next_arrival None other = false
is_next_arrival (Some a) None = false
is_next_arrival (Some a) (Some b) = (a.tray == b.tray) && is_before a.copy b.copy

-- on one line a later copy ends at least a tick later
abbrev pub line_gap : Ask → List Plan → Spot → Spot → Option Gap
line_gap ask plans from to = if is_next_arrival (arrival_of ask plans from) (arrival_of ask plans to) then Some (gap from to (pos 1)) else None

-- ---- resources

-- where the action that starts at the one point stands before the one that starts at the other, what is between their holds
-- on a resource with this changeover gap
abbrev pub gap_behind : ℕ → Slot → Spot → List Slot → Option Gap
gap_behind apart a after slots = option_map (slot_gap apart a) (find (λ b. is_same_spot b.from after) slots)

abbrev pub gap_in : ℕ → Spot → Spot → List Slot → Option Gap
gap_in apart before after [] = None
gap_in apart before after (a ∷ slots) = if is_same_spot a.from before then gap_behind apart a after slots else gap_in apart before after slots

abbrev pub or_else : Option Gap → Option Gap → Option Gap
or_else None other = other
or_else (Some g) other = Some g

-- the order of the resource; and for a hold with several places on it those below its first, the hold, and those from its
-- last on
abbrev pub spanned : Suffix → Span → List Slot → List Slot
spanned x span order = take span.lo order ++ choice_slot span.rule (length x.choices - 1) ∷ drop span.hi order

abbrev pub span_gap : Machine → Suffix → Option Span → ℕ → Spot → Spot → List Slot → Option Gap
span_gap machine x None resource before after order = None
span_gap machine x (Some span) resource before after order =
    if span.rule.resource.0 == resource then gap_in (gap_at machine resource) before after (spanned x span order) else None

abbrev pub from_here : Spot → Option Gap → Option Gap
from_here from None = None
from_here from (Some g) = if is_same_spot g.from from then Some g else None

-- hops lead to a point with a sum, or one of them isn't allowed, told by its number
pub data Led : Type 0 where
  lost : ℕ → Led
  led : Spot → ℤ → Led

abbrev pub led_on : ℕ → (Gap → Led) → Option Gap → Led
led_on k next None = lost k
led_on k next (Some g) = next g

module _ (machine : Machine) (plans : List Plan) (ask : Ask) (limit : ℤ) (s : Stand) where
  abbrev pub x : Suffix
  x = s.branch.x

  abbrev pub resource_gap : ℕ → Spot → Spot → Option Gap
  resource_gap resource before after =
      or_else (gap_in (gap_at machine resource) before after (order_in machine plans x resource)) (span_gap machine x s.span resource before after (order_in machine plans x resource))

  -- ---- hops

  abbrev pub point_gap : (Spot → Spot → Option Gap) → Spot → Option Spot → Option Gap
  point_gap f from None = None
  point_gap f from (Some to) = f from to

  abbrev pub hold_gap : Option ℕ → Option Spot → Option Spot → Option Gap
  hold_gap None before after = None
  hold_gap (Some resource) None after = None
  hold_gap (Some resource) (Some before) None = None
  hold_gap (Some resource) (Some before) (Some after) = resource_gap resource before after

  -- what a hop from a point says, if it is allowed there
  abbrev pub gap_of : Spot → Hop → Option Gap
  gap_of from (Duration to) = point_gap (duration_gap machine plans x.choices) from (spot_of plans (length x.choices) to)
  gap_of from (Line to) = point_gap (line_gap ask plans) from (spot_of plans (length x.choices) to)
  gap_of from (Res name before after) =
      from_here from (hold_gap (position (λ r. bytes_eq r.name name) machine.resources) (start_of plans (length x.choices) before) (start_of plans (length x.choices) after))

  -- where hops lead from a point, with the sum of what they take
  abbrev pub follow : ℕ → Spot → ℤ → List Hop → Led
  follow k from sum [] = led from sum
  follow k from sum (h ∷ hops) = led_on k (λ g. follow (suc k) g.to (sum +ℤ g.weight) hops) (gap_of from h)

  -- ---- least and greatest ticks

  abbrev pub low : Spot → ℕ
  low p = suffix_low machine plans ask x p

  -- the end is to come by the limit, and the first point of a stopped branch by the front's end
  abbrev pub own_cap : ℕ → ℤ
  own_cap zero = limit
  own_cap (suc n) = if x.stopped && (suc n == length x.choices) then pos (start_floor machine ask.now ask.origin) else pos (ask.now + machine.window)

  abbrev pub cap : Spot → ℤ
  cap (kept c i) = pos (suffix_cap machine plans ask (kept c i))
  cap (own n) = own_cap n
