-- What a checker of logs is seen as, and what it has read.
use Rattle.std.specs.Prelude.{◌≡◌, ℕ, ◌+◌, ◌<◌, ◌≤◌, ◌^◌, true, List, [], ◌∷◌, ◌++◌, length, map, flat_map, All, Option, Some, None, IfSome, if◌then◌else◌}
use Rattle.tp_bounds.specs.declared.tree.BoundTree.{BoundTree}
use Rattle.tp_log_check.specs.LogCounts.{counts_of}
use Rattle.tp_log_check.specs.Gathered.{ArePlain, IsPending}
use Rattle.tp_log_check.specs.declared.counts.Counts.{Counts}
use Rattle.tp_log_check.specs.declared.pending.Pending.{Pending}
use Rattle.tp_log.specs.GatheredItems.{lines_with, log_lines}
use Rattle.tp_log.specs.LogLines.{is_event}
use Rattle.tp_log.specs.Logs.{IsLog}
use Rattle.tp_log.specs.declared.item.Item.{Item}
use Rattle.tp_log.specs.declared.item.Item.TheVariants.{Event}
use Rattle.tp_log.specs.declared.log_line.LogLine.{LogLine}
use Rattle.tp_log_laws.specs.AcceptedEntries.{AreAccepted, bound_claims}
use Rattle.tp_machine.specs.declared.machine.Machine.{Machine}
use Rattle.tp_script.specs.declared.event.Event.{Event as AnEvent}
use Rattle.tp_event_rules.specs.Logs.{Entry, IsLawful, spent_on_trust}
use Rattle.tp_event_rules.specs.Ready.{CanTakeEvents, KeepsStock}
use Rattle.tp_event_rules.specs.States.{SessionState, empty_state}
use Rattle.tp_log_check.specs.EventEntry.{entry}
use Rattle.tp_log_check.specs.Lawful.{AreInPlaces, IsLawfulLog, LeadsTo}
use Rattle.tp_log_check.specs.declared.flaw.Flaw.{Flaw}

-- the event that is under way: the number of its line, the items behind it, and the tree to which lines may still come
pub record Underway : Type 0 where
  pub line : ℕ
  pub event : AnEvent
  pub items : List Item
  pub tree : BoundTree

abbrev pub underway : Pending → Underway
underway p = record { line = p.line; event = p.event; items = p.items.items; tree = p.tree }

-- the live part of the state after the events that were looked at, the event that is under way, how many events and lines were fed, what
-- is counted of them, and what is wrong with them
pub record CheckerValue : Type 0 where
  pub machine : Machine
  pub state : SessionState
  pub under : Option Underway
  pub events : ℕ
  pub lines : ℕ
  pub counts : Counts
  pub flaw : Option Flaw

abbrev pub most_events : ℕ
most_events = 100000000

-- ---- what holds between calls

abbrev pub is_open : Option Pending → ℕ
is_open None = 0
is_open (Some p) = 1

-- any event can be taken, and it is known which lines may stand behind the event that is under way
pub record CanGoOn (machine : Machine) (state : SessionState) (pending : Option Pending) (events : ℕ) : Type 0 where
  pub under : IfSome pending IsPending
  pub taken : ℕ
  pub behind : taken + is_open pending ≤ events
  pub few : events ≤ most_events
  pub can : CanTakeEvents machine taken state
  pub stocked : KeepsStock machine taken state

-- no count is beyond the lines, and the line behind them has a number
pub record AreWithin (lines : ℕ) (counts : Counts) : Type 0 where
  pub numbered : lines + 1 < 2 ^ 64
  pub events : counts.events ≤ lines
  pub plans : counts.plans ≤ lines
  pub nones : counts.nones ≤ lines
  pub budgets : counts.budgets ≤ lines

-- how many lines of events a line is
abbrev pub events_in : LogLine → ℕ
events_in told = if is_event told then 1 else 0

-- ---- what was read

-- an event, and the items behind it
pub record Section : Type 0 where
  pub event : AnEvent
  pub items : List Item

abbrev pub section_items : Section → List Item
section_items s = Event s.event ∷ s.items

abbrev pub items_of : List Section → List Item
items_of sections = flat_map section_items sections

abbrev pub entries_of : List Section → List (Entry BoundTree)
entries_of sections = map (λ s. entry s.event s.items) sections

-- each turn by the items of these events leads from the one live state to the other
abbrev pub LeadOn : Machine → SessionState → List Section → SessionState → Type 0
LeadOn machine s [] s' = s' ≡ s
LeadOn machine s (section ∷ sections) s' = (mid : SessionState) × LeadsTo machine s section.event section.items mid × LeadOn machine mid sections s'

-- the lines of the event that is under way
abbrev pub lines_under : Option Underway → List LogLine
lines_under None = []
lines_under (Some u) = lines_with (Event u.event ∷ u.items) u.tree

-- these lines were taken: those of events that were accepted one after another, and those of the event that is under way
pub record HasTaken (c : CheckerValue) (told : List LogLine) : Type 0 where
  pub sections : List Section
  pub logs : All (λ s. IsLog (section_items s)) sections
  pub plain : All (λ s. ArePlain s.items) sections
  pub places : All (λ s. AreInPlaces s.items) sections
  pub accepted : AreAccepted c.machine empty_state (entries_of sections) c.state
  pub only : LeadOn c.machine empty_state sections c.state
  pub lines : told ≡ log_lines (items_of sections) ++ lines_under c.under
  pub number : IfSome c.under (λ u. u.line ≡ length (log_lines (items_of sections)) + 1)

-- these lines were fed, and they are counted. Nothing is wrong with them, and the last event is under way
pub record HasRead (c : CheckerValue) (told : List LogLine) : Type 0 where
  pub taken : HasTaken c told
  pub fed : c.lines ≡ length told
  pub counted : c.counts ≡ counts_of told
  pub flawless : c.flaw ≡ None
  pub begun : c.under ≡ None → told ≡ []

-- the lines are those of a log that is lawful with bounds, but for the causes of its budgets, and has these counts. Each tree is in its place
pub record IsAcceptedLog (machine : Machine) (told : List LogLine) (counts : Counts) : Type 0 where
  pub sections : List Section
  pub log : IsLog (items_of sections)
  pub lines : told ≡ log_lines (items_of sections)
  pub lawful : IsLawful bound_claims true spent_on_trust machine (map (λ e. e.event) (entries_of sections)) (entries_of sections)
  pub counted : counts ≡ counts_of told
  pub places : IsLawfulLog machine told
