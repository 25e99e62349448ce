-- The bars of a picture: the holds of a schedule, or its actions, from the first tick of the picture on.
use Rattle.std.specs.Prelude.{ℕ, ◌+◌, ◌-◌, Bool, true, max, nat_le, nat_lt, int_lt, pos, List, [], ◌∷◌, ◌++◌, map, filter, flat_map, find, fold, Option, Some, None, if◌then◌else◌}
use Rattle.std.specs.List.{list_any}
use Rattle.std.specs.Str.{bytes_eq}
use Rattle.tp_machine.specs.ModuleUse.{begin_of, end_of}
use Rattle.tp_machine.specs.declared.parts.Action.{Action}
use Rattle.tp_machine.specs.declared.parts.HoldRule.{HoldRule}
use Rattle.tp_machine.specs.declared.machine.Machine.{Machine}
use Rattle.tp_schedule.specs.Holders.{holds_of_act}
use Rattle.tp_chart.specs.Courses.{Way}
use Rattle.tp_chart.specs.Rows.{row_of, rows_of}
use Rattle.tp_chart.specs.Scenes.{Sight}
use Rattle.tp_chart.specs.declared.bars.Bar.{Bar}
use Rattle.tp_chart.specs.declared.action_runs.Run.{Run}
use Rattle.tp_chart.specs.declared.row.Row.{Row}
use Rattle.tp_chart.specs.declared.view.Scope.{Scope}
use Rattle.tp_chart.specs.declared.view.View.{View}

-- ---- the first tick

-- so many ticks are drawn, if nothing else is asked for
abbrev pub most_ticks : ℕ
most_ticks = 5000

-- the last point of the ways
abbrev pub latest : List Way → ℕ
latest ways = fold (λ last w. fold max last w.points) 0 ways

-- the tick that is asked for, or the one from which the last stretch fits; none if all of it fits
abbrev pub first_tick : Option ℕ → List Way → Option ℕ
first_tick (Some first) ways = Some first
first_tick None ways = if nat_le (latest ways) most_ticks then None else Some (latest ways - most_ticks)

abbrev pub scope_of : View → List Way → Scope
scope_of view ways = record { by_copies = view.by_copies; first = first_tick view.from ways }

-- a part of the bar is behind the first tick
abbrev pub is_in : Option ℕ → Bar → Bool
is_in None b = true
is_in (Some first) b = int_lt (pos first) b.end

-- a point of the way is behind the first tick
abbrev pub has_row : Option ℕ → Way → Bool
has_row None w = true
has_row (Some first) w = list_any (λ p. nat_lt first p) w.points

-- ---- the bars of a way

-- the actions with their starts and ends, the first of this number
abbrev pub runs_from : ℕ → List (List ℕ) → List ℕ → List Run
runs_from n [] points = []
runs_from n (act ∷ acts) [] = []
runs_from n (act ∷ acts) (start ∷ []) = []
runs_from n (act ∷ acts) (start ∷ end ∷ points) =
    record { number = n; act = act; start = start; end = end } ∷ runs_from (n + 1) acts (end ∷ points)

-- the actions of a way with their starts and ends, counted from 1
abbrev pub runs_of : Way → List Run
runs_of w = runs_from 1 w.acts w.points

-- an action of a way, on this row
abbrev pub action_bar : ℕ → Way → Run → Bar
action_bar row w run = record {
  row = row;
  begin = pos run.start;
  end = pos run.end;
  resource = None;
  mode = 0;
  sheet = w.sheet;
  act = run.act;
  start = run.start;
  stop = run.end;
  released = nat_le run.number w.released;
  is_lost = w.is_lost;
}

-- a hold of the action, on the row of its resource, half open
abbrev pub hold_bar : List Row → Way → Run → HoldRule → Bar
hold_bar rows w run h = record (action_bar (row_of rows h.resource.0) w run) {
  begin = begin_of h run.start run.end;
  end = end_of h run.start run.end;
  resource = Some h.resource.0;
  mode = h.mode;
}

abbrev pub action_named : Machine → List ℕ → Option Action
action_named machine name = find (λ a. bytes_eq a.name name) machine.actions

abbrev pub holds_named : Machine → List ℕ → List HoldRule
holds_named machine name = holds_of_act (action_named machine name)

-- the bars of the holds of an action
abbrev pub hold_bars_in : Option ℕ → Machine → List Row → Way → Run → List Bar
hold_bars_in first machine rows w run = filter (is_in first) (map (hold_bar rows w run) (holds_named machine run.act))

-- a bar for each hold of each action
abbrev pub hold_bars : Option ℕ → Machine → List Row → Way → List Bar
hold_bars first machine rows w = flat_map (hold_bars_in first machine rows w) (runs_of w)

-- a bar for each action
abbrev pub action_bars : Option ℕ → ℕ → Way → List Bar
action_bars first row w = filter (is_in first) (map (action_bar row w) (runs_of w))

abbrev pub way_bars : Scope → Machine → List Row → ℕ → Way → List Bar
way_bars scope machine rows row w = if scope.by_copies then action_bars scope.first row w else hold_bars scope.first machine rows w

-- ---- the bars of all ways

-- the row behind that of the way, if it has one
abbrev pub row_behind : Option ℕ → ℕ → Way → ℕ
row_behind first row w = if has_row first w then row + 1 else row

-- the bars of all ways in the scope: of their actions, a row for each copy, or else of their holds, on the rows of resources. The
-- first way has this row
abbrev pub bars_from : Scope → Machine → List Row → ℕ → List Way → List Bar
bars_from scope machine rows row [] = []
bars_from scope machine rows row (w ∷ ways) =
    way_bars scope machine rows row w ++ bars_from scope machine rows (row_behind scope.first row w) ways

-- the bars of a picture of this schedule
abbrev pub bars_seen : Scope → Machine → Sight → List Bar
bars_seen scope machine s = bars_from scope machine (rows_of scope.first machine s.outages) 0 s.courses
