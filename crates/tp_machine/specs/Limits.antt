-- How large a machine and its numbers may be.
use Rattle.std.specs.Prelude.{ℕ}

-- the most locations of a machine
abbrev pub most_locations : ℕ
most_locations = 256

-- the most modules
abbrev pub most_modules : ℕ
most_modules = 64

-- the most resources
abbrev pub most_resources : ℕ
most_resources = 256

-- the most actions
abbrev pub most_actions : ℕ
most_actions = 512

-- the longest lead, gap and duration, in ticks
abbrev pub longest : ℕ
longest = 4096

-- the longest window, in ticks
abbrev pub most_window : ℕ
most_window = 32768

-- the greatest budget
abbrev pub most_budget : ℕ
most_budget = 200000

-- the greatest stock of a feeder
abbrev pub most_stock : ℕ
most_stock = 1000000

-- the most holds of an action
abbrev pub most_act_holds : ℕ
most_act_holds = 4

-- the greatest mode of a hold
abbrev pub most_mode : ℕ
most_mode = 255
