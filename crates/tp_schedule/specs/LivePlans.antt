-- Which plans are live at a moment.
use Rattle.std.specs.Prelude.{ℕ, Bool, ◌||◌, nat_lt, List, count_by, pos, ◌+ℤ◌, int_lt}
use Rattle.tp_machine.specs.Modes.{gap_at}
use Rattle.std.specs.List.{list_any}
use Rattle.tp_machine.specs.ModuleUse.{action_at, end_of}
use Rattle.tp_machine.specs.declared.parts.HoldRule.{HoldRule}
use Rattle.tp_machine.specs.declared.machine.Machine.{Machine}
use Rattle.tp_schedule.specs.Holders.{Run, runs_of, holds_of_act}
use Rattle.tp_schedule.specs.declared.parts.Plan.{Plan}

-- a hold of an action that runs from start to end, with the gap of its resource behind it, ends after the moment
abbrev pub ends_after : Machine → ℕ → ℕ → ℕ → HoldRule → Bool
ends_after machine now start end h = int_lt (pos now) (end_of h start end +ℤ pos (gap_at machine h.resource.0))

abbrev pub is_held_after : Machine → ℕ → Run → Bool
is_held_after machine now run = list_any (ends_after machine now run.start run.end) (holds_of_act (action_at machine run.act.0))

-- a plan is live where a point of it is above the moment, or the end of a hold with the gap behind it
abbrev pub is_live : Machine → ℕ → Plan → Bool
is_live machine now p = list_any (nat_lt now) p.points || list_any (is_held_after machine now) (runs_of p)

-- the number of copies that are live
abbrev pub live_count : Machine → ℕ → List Plan → ℕ
live_count machine now plans = count_by (is_live machine now) plans
