-- The way of a copy in time, and what the records of a log change of it.
use Rattle.std.specs.Prelude.{ℕ, ◌+◌, ◌-◌, Bool, true, false, ◌&&◌, ◌==◌, nat_le, min, List, ◌++◌, length, take, drop, count_by, Option, Some, None}
use Rattle.std.specs.Str.{bytes_eq}
use Rattle.tp_schedule.specs.declared.records.Record.{Record}
use Rattle.tp_schedule.specs.declared.records.Record.TheVariants.{Plan, Move, Release, Done, Lost, Recall, Cut, Purge}
use Rattle.tp_schedule.specs.declared.records.SheetName.{SheetName}
use Rattle.tp_chart.specs.declared.copy_key.CopyKey.{CopyKey}

-- action i runs from point i - 1 to point i; the first `released` actions are released; `done` is when the copy was
-- delivered
pub record Way : Type 0 where
  pub sheet : SheetName
  pub location : List ℕ
  pub points : List ℕ
  pub acts : List (List ℕ)
  pub released : ℕ
  pub is_lost : Bool
  pub done : Option ℕ

abbrev pub is_same_copy : SheetName → SheetName → Bool
is_same_copy a b = bytes_eq b.job a.job && ((b.number == a.number) && (b.copy == a.copy))

-- what a copy is looked up by
abbrev pub key_of : SheetName → CopyKey
key_of sheet = record { job = sheet.job; number = sheet.number; copy = sheet.copy }

-- the way of a plan
abbrev pub fresh : SheetName → List ℕ → List ℕ → List (List ℕ) → Way
fresh sheet location points acts = record { sheet = sheet; location = location; points = points; acts = acts; released = 0; is_lost = false; done = None }

-- how many actions have started at the moment
abbrev pub kept_count : ℕ → Way → ℕ
kept_count moment w = min (count_by (λ p. nat_le p moment) w.points) (length w.acts)

-- the front of the first so many actions, all of them released
abbrev pub front : ℕ → Way → Way
front kept w = record w { points = take (kept + 1) w.points; acts = take kept w.acts; released = kept }

-- the front of the actions that have started at the moment
abbrev pub cut_course : ℕ → Way → Way
cut_course moment w = front (kept_count moment w) w

-- a front that goes on by a plan, whose first point is the end of the front
abbrev pub joined : List ℕ → List ℕ → List (List ℕ) → Way → Way
joined location points acts w = record w { location = location; points = w.points ++ drop 1 points; acts = w.acts ++ acts }

-- what a record of the copy changes, told at the moment
abbrev pub tell_course : ℕ → Record → Way → Way
tell_course moment (Plan sheet place points acts) w = joined place points acts w
tell_course moment (Move sheet points) w = record w { points = points }
tell_course moment (Release sheet act name start end) w = record w { released = act }
tell_course moment (Recall sheet act) w = record w { released = min w.released (act - 1) }
tell_course moment (Done sheet place at) w = record w { done = Some at }
tell_course moment (Lost sheet) w = record (cut_course moment w) { is_lost = true }
tell_course moment (Cut sheet) w = cut_course moment w
tell_course moment (Purge sheet) w = cut_course moment w
tell_course moment _ w = w
