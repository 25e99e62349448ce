-- Why the edges of a board's network stand: the table of causes, and the names of points and causes.
use Rattle.std.specs.Prelude.{◌≡◌, ℕ, ◌+◌, ◌*◌, ◌-◌, ◌<◌, ◌≤◌, ◌==◌, ◌⊎◌, List, length, slice_get, slice_set, Option, Some, None, option_map, option_and_then, unwrap_or, Vec, vec_capacity, if◌then◌else◌}
use Rattle.std.specs.declared.alloc.Global.{Global}
use Rattle.tp_base.specs.declared.edges.Edge.{Edge}
use Rattle.tp_base.specs.declared.edges.PointId.{PointId}
use Rattle.tp_machine.specs.declared.machine.Machine.{Machine}
use Rattle.tp_schedule.specs.Plans.{plan_of}
use Rattle.tp_schedule.specs.Spots.{Spot}
use Rattle.tp_schedule.specs.Spots.Spot.{kept, own}
use Rattle.tp_schedule.specs.declared.parts.Ask.{Ask}
use Rattle.tp_schedule.specs.declared.parts.Plan.{Plan}
use Rattle.tp_schedule.specs.declared.records.SheetName.{SheetName}
use Rattle.tp_constraints.specs.Gaps.{gap}
use Rattle.tp_constraints.specs.Hops.{HopKind, Hop, hop, IsHop}
use Rattle.tp_constraints.specs.Hops.HopKind.{forward, back, line, order, stop, limit}
use Rattle.tp_constraints.specs.Numbers.{table_of}
use Rattle.tp_constraints.specs.Suffixes.{Suffix}
use Rattle.tp_placing.specs.declared.causes.EdgeCause.{EdgeCause}
use Rattle.tp_placing.specs.declared.causes.EdgeCause.TheVariants.{Forward, Back, Line, Stop, Limit, Resource}
use Rattle.tp_placing.specs.declared.reason_names.Grip.{Grip}
use Rattle.tp_placing.specs.declared.reason_names.Grip.TheVariants.{Own as OwnGrip, Kept as KeptGrip}
use Rattle.tp_placing.specs.declared.reason_names.Spot.{Spot as SpotName}
use Rattle.tp_placing.specs.declared.reason_names.Spot.TheVariants.{Own as OwnSpot, Kept as KeptSpot, Limit as LimitSpot}
use Rattle.tp_placing.specs.declared.reason_names.Why.{Why}
use Rattle.tp_placing.specs.declared.reason_names.Why.TheVariants.{Forward as WhyForward, Back as WhyBack, Line as WhyLine, Resource as WhyResource, Stop as WhyStop, Limit as WhyLimit}
use Rattle.tp_placing.specs.declared.parts.Held.{Held}

-- the tags of the causes without a resource. Behind them stand two causes for each step, and then those of loaded orders
abbrev pub forward_tag : ℕ
forward_tag = 0

abbrev pub back_tag : ℕ
back_tag = 1

abbrev pub line_tag : ℕ
line_tag = 2

abbrev pub stop_tag : ℕ
stop_tag = 3

abbrev pub limit_tag : ℕ
limit_tag = 4

abbrev pub step_tag : ℕ → ℕ
step_tag steps = 5 + 2 * steps

abbrev pub step_causes : ℕ
step_causes = 665

abbrev pub most_causes : ℕ
most_causes = 66665

-- the most causes of a plan: two of each hold
abbrev pub most_plan_causes : ℕ
most_plan_causes = 512

-- the causes without a resource stand first
pub record ArePlain (causes : List EdgeCause) : Type 0 where
  pub forward : slice_get causes forward_tag ≡ Some Forward
  pub back : slice_get causes back_tag ≡ Some Back
  pub line : slice_get causes line_tag ≡ Some Line
  pub stop : slice_get causes stop_tag ≡ Some Stop
  pub limit : slice_get causes limit_tag ≡ Some Limit
  pub slots : step_causes ≤ length causes

pub record IsCauseTable (causes : Vec EdgeCause Global) : Type 0 where
  pub plain : ArePlain causes.items
  pub few : length causes.items ≤ most_causes
  pub space : most_causes ≤ vec_capacity causes

abbrev pub cause_between : Held → Held → EdgeCause
cause_between x y = Resource x.rule.resource x.start y.start

-- the causes of a hold's neighbours, where there are any
abbrev pub cause_after : Option Held → Held → ℕ → List EdgeCause → List EdgeCause
cause_after None h tag causes = causes
cause_after (Some x) h tag causes = slice_set causes tag (cause_between x h)

abbrev pub cause_until : Held → Option Held → ℕ → List EdgeCause → List EdgeCause
cause_until h None tag causes = causes
cause_until h (Some y) tag causes = slice_set causes tag (cause_between h y)

abbrev pub causes_around : Option Held → Held → Option Held → ℕ → List EdgeCause → List EdgeCause
causes_around before h behind tag causes = cause_until h behind (tag + 1) (cause_after before h tag causes)

-- the point of a number: those of the plans first, and then the own ones from the end on
abbrev pub numbered : List Plan → ℕ → Spot
numbered plans i = unwrap_or (slice_get (table_of plans) i) (own (i - length (table_of plans)))

-- what a cause tells
abbrev pub kind_of : List Plan → Option EdgeCause → HopKind
kind_of plans None = limit
kind_of plans (Some Forward) = forward
kind_of plans (Some Back) = back
kind_of plans (Some Line) = line
kind_of plans (Some Stop) = stop
kind_of plans (Some Limit) = limit
kind_of plans (Some (Resource resource before after)) = order resource.0 (numbered plans before.0) (numbered plans after.0)

-- the hop of an edge with its cause
abbrev pub hop_by : List Plan → List EdgeCause → Edge → Hop
hop_by plans causes e = hop (kind_of plans (slice_get causes e.tag)) (gap (numbered plans e.from.0) (numbered plans e.to.0) e.weight)

-- an edge whose cause is kept, and which is a hop with it
pub record IsNamedHop (machine : Machine) (plans : List Plan) (ask : Ask) (x : Suffix) (causes : List EdgeCause) (e : Edge) : Type 0 where
  pub tag : e.tag < length causes
  pub is_hop : IsHop machine plans ask x (hop_by plans causes e)

-- no later step writes over its cause
abbrev pub IsSafe : ℕ → Edge → Type 0
IsSafe steps e = (e.tag < step_tag steps) ⊎ (step_causes ≤ e.tag)

-- the name of a copy: that of its job, with its numbers
abbrev pub name_of_plan : Plan → SheetName
name_of_plan p = record { job = p.name; number = p.sheet.number; copy = p.sheet.copy }

-- the name of a point: an own one by its number, and one of a plan by the copy's name and its number
abbrev pub spot_name : List Plan → Spot → Option SpotName
spot_name plans (kept copy i) = option_map (λ p. KeptSpot (name_of_plan p) i) (plan_of copy plans)
spot_name plans (own n) = Some (OwnSpot n)

-- the name of an action by the point where it starts: an own one has that point's number, and the actions of a plan are
-- counted from 1 on
abbrev pub grip_name : List Plan → Spot → Option Grip
grip_name plans (kept copy i) = option_map (λ p. KeptGrip (name_of_plan p) (i + 1)) (plan_of copy plans)
grip_name plans (own n) = Some (OwnGrip n)

-- the name of what a hop stands for
abbrev pub why_name : List Plan → HopKind → Option Why
why_name plans forward = Some WhyForward
why_name plans back = Some WhyBack
why_name plans line = Some WhyLine
why_name plans (order resource before after) =
    option_and_then (λ x. option_map (λ y. WhyResource (record { 0 = resource }) x y) (grip_name plans after)) (grip_name plans before)
why_name plans stop = Some WhyStop
why_name plans limit = Some WhyLimit

-- the name of a point by its number, where one may be the limit of a claimed end
abbrev pub named_point : List Plan → Option PointId → PointId → Option SpotName
named_point plans None point = spot_name plans (numbered plans point.0)
named_point plans (Some l) point = if l.0 == point.0 then Some LimitSpot else spot_name plans (numbered plans point.0)
