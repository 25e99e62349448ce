-- The schedule that a log tells up to a moment: the ways of its copies, and the times in which modules were out.
use Rattle.std.specs.Prelude.{ℕ, ◌+◌, ◌-◌, ◌^◌, min, fold, Bool, false, ◌&&◌, ◌==◌, nat_le, nat_lt, List, [], ◌∷◌, ◌++◌, map, position, Option, Some, None, is_none, is_some, if◌then◌else◌}
use Rattle.std.specs.List.{list_any}
use Rattle.std.specs.Str.{bytes_eq}
use Rattle.tp_machine.specs.declared.machine.Machine.{Machine}
use Rattle.tp_schedule.specs.PlannerAnswers.{last_tick}
use Rattle.tp_schedule.specs.declared.records.Record.{Record}
use Rattle.tp_schedule.specs.declared.records.Record.TheVariants.{Plan, Move, Release, Done, Lost, Recall, Withdraw, Cut, Purge, Again, Stuck, Drop, Refused}
use Rattle.tp_schedule.specs.declared.records.SheetName.{SheetName}
use Rattle.tp_script.specs.declared.event.Event.{Event as AnyEvent}
use Rattle.tp_script.specs.declared.event.Event.TheVariants.{Bad, Job, Clock, Jam, Off, On, Refill}
use Rattle.tp_log.specs.declared.item.Item.{Item}
use Rattle.tp_log.specs.declared.item.Item.TheVariants.{Event, Note, Tree}
use Rattle.tp_chart.specs.Courses.{Way, fresh, is_same_copy, tell_course}
use Rattle.tp_chart.specs.declared.out_span.OutKind.{OutKind}
use Rattle.tp_chart.specs.declared.out_span.OutKind.TheVariants as why
use Rattle.tp_chart.specs.declared.out_span.OutSpan.{OutSpan}

-- `waiting` is how many copies wait, and `before` how many waited before the last event
pub record Sight : Type 0 where
  pub moment : ℕ
  pub courses : List Way
  pub outages : List OutSpan
  pub waiting : ℕ
  pub before : ℕ

abbrev pub nothing : Sight
nothing = record { moment = 0; courses = []; outages = []; waiting = 0; before = 0 }

-- ---- modules that go out and come back

abbrev pub is_out_in : ℕ → OutSpan → Bool
is_out_in number o = (o.number == number) && is_none o.end

abbrev pub is_out : ℕ → List OutSpan → Bool
is_out number outages = list_any (is_out_in number) outages

abbrev pub ended : ℕ → ℕ → OutSpan → OutSpan
ended number moment o = if is_out_in number o then record { number = number; kind = o.kind; begin = o.begin; end = Some moment } else o

abbrev pub begun : OutKind → ℕ → ℕ → OutSpan
begun kind number moment = record { number = number; kind = kind; begin = moment; end = None }

-- a module that is out already, or unknown, does not go out
abbrev pub out_by : OutKind → Option ℕ → Sight → Sight
out_by kind None s = s
out_by kind (Some number) s = if is_out number s.outages then s else record s { outages = s.outages ++ begun kind number s.moment ∷ [] }

abbrev pub back_by : Option ℕ → Sight → Sight
back_by None s = s
back_by (Some number) s = record s { outages = map (ended number s.moment) s.outages }

abbrev pub place_of_module : Machine → List ℕ → Option ℕ
place_of_module machine name = position (bytes_eq name) machine.modules

abbrev pub goes_out : Machine → OutKind → List ℕ → Sight → Sight
goes_out machine kind name s = out_by kind (place_of_module machine name) s

abbrev pub comes_back : Machine → List ℕ → Sight → Sight
comes_back machine name s = back_by (place_of_module machine name) s

-- ---- copies

-- the ways, with that of the copy changed
abbrev pub changed : SheetName → (Way → Way) → List Way → List Way
changed copy f [] = []
changed copy f (w ∷ ways) = if is_same_copy w.sheet copy then f w ∷ ways else (w ∷ changed copy f ways)

-- the ways with a plan: that of the copy goes on by it, or else it is a new one, last
abbrev pub planned : SheetName → (Way → Way) → Way → List Way → List Way
planned copy f new [] = new ∷ []
planned copy f new (w ∷ ways) = if is_same_copy w.sheet copy then f w ∷ ways else (w ∷ planned copy f new ways)

-- the ways without that of the copy
abbrev pub without : SheetName → List Way → List Way
without copy [] = []
without copy (w ∷ ways) = if is_same_copy w.sheet copy then ways else (w ∷ without copy ways)

abbrev pub gone : SheetName → Sight → Sight
gone copy s = record s { courses = without copy s.courses }

abbrev pub with_changed : SheetName → Record → Sight → Sight
with_changed copy told s = record s { courses = changed copy (tell_course s.moment told) s.courses }

abbrev pub with_plan : SheetName → List ℕ → List ℕ → List (List ℕ) → Sight → Sight
with_plan copy place points acts s =
    record s { courses = planned copy (tell_course s.moment (Plan copy place points acts)) (fresh copy place points acts) s.courses }

-- ---- copies that wait

-- the count stops at its end
abbrev pub more : ℕ → ℕ → ℕ
more waiting count = min (waiting + count) (2 ^ 64 - 1)

-- each sheet of a job waits
abbrev pub asked_by : AnyEvent → ℕ → ℕ
asked_by (Job name tray media groups) waiting = fold (λ n g. more n g.count) waiting groups
asked_by _ waiting = waiting

abbrev pub has_way : SheetName → List Way → Bool
has_way copy ways = is_some (position (λ w. is_same_copy w.sheet copy) ways)

-- a copy that is planned anew waits no more, and one that is withdrawn waits again
abbrev pub with_more : ℕ → Sight → Sight
with_more count s = record s { waiting = more s.waiting count }

abbrev pub with_less : SheetName → Sight → Sight
with_less copy s = if has_way copy s.courses then s else record s { waiting = s.waiting - 1 }

-- ---- what the lines of a log tell

abbrev pub tell_record : Machine → Record → Sight → Sight
tell_record machine (Plan sheet place points acts) s = with_plan sheet place points acts (with_less sheet s)
tell_record machine (Move sheet points) s = with_changed sheet (Move sheet points) s
tell_record machine (Release sheet act name start end) s = with_changed sheet (Release sheet act name start end) s
tell_record machine (Done sheet place at) s = with_changed sheet (Done sheet place at) s
tell_record machine (Lost sheet) s = with_changed sheet (Lost sheet) s
tell_record machine (Recall sheet act) s = with_changed sheet (Recall sheet act) s
tell_record machine (Cut sheet) s = with_changed sheet (Cut sheet) s
tell_record machine (Purge sheet) s = with_changed sheet (Purge sheet) s
tell_record machine (Withdraw sheet) s = with_more 1 (gone sheet s)
tell_record machine (Drop sheet) s = gone sheet (with_less sheet s)
tell_record machine (Again sheet) s = with_more 1 s
tell_record machine (Refused cause) s = record s { waiting = s.before }
tell_record machine (Stuck sheet name) s = goes_out machine why.Stuck name s
tell_record machine _ s = s

-- the clock does not go back, nor beyond its last tick
abbrev pub moved_to : ℕ → Sight → Sight
moved_to to s = if nat_le s.moment to && nat_le to last_tick then record s { moment = to } else s

abbrev pub tell_event : Machine → AnyEvent → Sight → Sight
tell_event machine Bad s = s
tell_event machine (Job name tray media groups) s = s
tell_event machine (Clock to) s = moved_to to s
tell_event machine (Jam name) s = goes_out machine why.Jam name s
tell_event machine (Off name) s = goes_out machine why.Off name s
tell_event machine (On name) s = comes_back machine name s
tell_event machine (Refill name count) s = s

abbrev pub tell : Machine → Item → Sight → Sight
tell machine (Event event) s = tell_event machine event (record s { waiting = asked_by event s.waiting; before = s.waiting })
tell machine (Note told) s = tell_record machine told s
tell machine (Tree tree) s = s

-- ---- up to a moment

-- the event moves the clock beyond the moment
abbrev pub moves_past : ℕ → AnyEvent → Bool
moves_past last (Clock to) = nat_lt last to && nat_le to last_tick
moves_past last _ = false

abbrev pub is_past : Option ℕ → Item → Bool
is_past (Some last) (Event event) = moves_past last event
is_past _ _ = false

-- what is reported by the lines before the first event that moves the clock beyond the moment, or by all lines
abbrev pub sight_from : Machine → Option ℕ → Sight → List Item → Sight
sight_from machine until s [] = s
sight_from machine until s (item ∷ items) = if is_past until item then s else sight_from machine until (tell machine item s) items
