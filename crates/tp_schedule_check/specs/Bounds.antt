-- Floors and horizon of a schedule, as they are looked at.
use Rattle.std.specs.Prelude.{◌≡◌, ℕ, ◌+◌, ◌<◌, ◌≤◌, Bool, List, length, Contains, IsFalse}
use Rattle.tp_machine.specs.declared.machine.Machine.{Machine}
use Rattle.tp_schedule.specs.Plans.{is_fixed, point}
use Rattle.tp_schedule.specs.declared.parts.Plan.{Plan}
use Rattle.tp_schedule_check.specs.declared.bounds.PlanPoint.{PlanPoint}

-- each unreleased start is above the floor
abbrev pub StartsAbove : ℕ → Plan → Type 0
StartsAbove floor p = (i : ℕ) → p.released ≤ i → i < length p.acts → floor < point p i

-- the point is an unreleased start that is not
pub record IsLowStart (floor : ℕ) (p : Plan) (at : ℕ) : Type 0 where
  pub unreleased : p.released ≤ at
  pub start : at < length p.acts
  pub low : point p at ≤ floor

-- each point that is not fixed is at most the horizon
abbrev pub EndsWithin : ℕ → Plan → Type 0
EndsWithin horizon p = (i : ℕ) → i ≤ length p.acts → IsFalse (is_fixed p i) → point p i ≤ horizon

-- the point is not fixed and past the horizon
pub record IsPast (horizon : ℕ) (p : Plan) (at : ℕ) : Type 0 where
  pub within : at ≤ length p.acts
  pub free : IsFalse (is_fixed p at)
  pub past : horizon < point p at

-- the point of a schedule's plan, at its tick
pub record IsPointOf (plans : List Plan) (p : Plan) (x : PlanPoint) : Type 0 where
  pub planned : Contains plans p
  pub of : p.sheet ≡ x.sheet
  pub tick : point p x.at ≡ x.tick

-- the point is an unreleased start of a plan that is not exempt, and not above now + lead
pub record IsBelowFloor (machine : Machine) (now : ℕ) (exempt : Plan → Bool) (plans : List Plan) (x : PlanPoint) : Type 0 where
  pub plan : Plan
  pub point_of : IsPointOf plans plan x
  pub bound : IsFalse (exempt plan)
  pub low : IsLowStart (now + machine.lead) plan x.at

-- the point is not fixed and past the horizon, now + window
pub record IsPastHorizon (machine : Machine) (now : ℕ) (plans : List Plan) (x : PlanPoint) : Type 0 where
  pub plan : Plan
  pub point_of : IsPointOf plans plan x
  pub past : IsPast (now + machine.window) plan x.at
