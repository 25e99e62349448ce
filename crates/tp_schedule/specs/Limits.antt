-- How many actions, points and holds a plan may have, and how many copies may be live.
use Rattle.std.specs.Prelude.{ℕ}

-- the most actions of a plan
abbrev pub most_acts : ℕ
most_acts = 64

-- the most points of a plan: one more than actions
abbrev pub most_plan_points : ℕ
most_plan_points = 65

-- the most holds of a plan: four of each action
abbrev pub most_plan_holds : ℕ
most_plan_holds = 256

-- the most copies that are live at once
abbrev pub most_live : ℕ
most_live = 256
