-- Copies in flight: the front that is left of a plan, and the ask for what comes behind it.
use Rattle.std.specs.Prelude.{◌≡◌, ℕ, ◌+◌, ◌<◌, ◌≤◌, length, take}
use Rattle.tp_schedule.specs.LocationSets.{nowhere}
use Rattle.tp_schedule.specs.declared.parts.Ask.{Ask}
use Rattle.tp_schedule.specs.declared.parts.Goal.{Goal}
use Rattle.tp_schedule.specs.declared.parts.Kind.TheVariants.{Front}
use Rattle.tp_schedule.specs.declared.parts.Origin.{Origin}
use Rattle.tp_schedule.specs.declared.parts.Plan.{Plan}

-- a plan that is cut after so many actions, all of them released
abbrev pub front_plan : ℕ → Plan → Plan
front_plan count p = record p { kind = Front; acts = take count p.acts; points = take (count + 1) p.points; released = count }

-- the ask at the moment 0 for the copy of a plan, where no module is out
abbrev pub ask_after : Plan → Goal → Origin → Ask
ask_after p goal origin = record { sheet = p.sheet; name = p.name; want = p.want; goal = goal; origin = origin; outs = record { 0 = 0 }; empty = nowhere; now = 0 }

-- a front of so many actions, all of them released, and at most ten
pub record IsFrontOfFew (kept : ℕ) (p : Plan) : Type 0 where
  pub front : p.kind ≡ Front
  pub acts : length p.acts ≡ kept
  pub released : p.released ≡ kept
  pub some : 0 < kept
  pub few : kept ≤ 10
