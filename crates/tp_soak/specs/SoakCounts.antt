-- What is counted of a log, and the line that tells it.
use Rattle.std.specs.Prelude.{ℕ, ◌+◌, ◌<◌, ◌^◌, Bool, true, false, List, ◌++◌, codes, count_by, decimal}
use Rattle.tp_log.specs.declared.item.Item.{Item}
use Rattle.tp_log.specs.declared.item.Item.TheVariants.{Event, Note, Tree}
use Rattle.tp_log.specs.declared.log_line.LogLine.{LogLine}
use Rattle.tp_log.specs.declared.log_line.LogLine.TheVariants as line
use Rattle.tp_schedule.specs.declared.records.Record.{Record}
use Rattle.tp_schedule.specs.declared.records.Record.TheVariants.{Plan, Move, Never, Budget, Release, Done, Lost}
use Rattle.tp_soak.specs.declared.record_counts.RecordCounts.{RecordCounts}
use Rattle.tp_soak.specs.declared.record_counts.ItemKind.{ItemKind}
use Rattle.tp_soak.specs.declared.record_counts.ItemKind.TheVariants as kind

-- ---- counts

-- whether it is events that are counted
abbrev pub is_event : ItemKind → Bool
is_event kind.Event = true
is_event kind = false

-- whether a record is of a kind
abbrev pub is_of : ItemKind → Record → Bool
is_of kind.Plan (Plan sheet place points acts) = true
is_of kind.Move (Move sheet points) = true
is_of kind.Release (Release sheet act name start end) = true
is_of kind.Done (Done sheet place at) = true
is_of kind.Lost (Lost sheet) = true
is_of kind.Never (Never sheet goal) = true
is_of kind.Budget (Budget sheet goal bound) = true
is_of _ told = false

-- whether an item is counted by a kind
abbrev pub tells : ItemKind → Item → Bool
tells kind (Note told) = is_of kind told
tells kind (Event event) = is_event kind
tells kind (Tree tree) = false

-- the events of a log, and its records of each kind
abbrev pub counts_of : List Item → RecordCounts
counts_of items = record {
  events = count_by (tells kind.Event) items;
  plans = count_by (tells kind.Plan) items;
  moves = count_by (tells kind.Move) items;
  releases = count_by (tells kind.Release) items;
  dones = count_by (tells kind.Done) items;
  lost = count_by (tells kind.Lost) items;
  nones = count_by (tells kind.Never) items;
  budgets = count_by (tells kind.Budget) items;
}

-- ---- counts by lines

-- whether a line of a log is counted by a kind
abbrev pub tells_line : ItemKind → LogLine → Bool
tells_line kind (line.Note told) = is_of kind told
tells_line kind (line.Event event) = is_event kind
tells_line kind _ = false

-- the counts of these lines
abbrev pub line_counts : List LogLine → RecordCounts
line_counts lines = record {
  events = count_by (tells_line kind.Event) lines;
  plans = count_by (tells_line kind.Plan) lines;
  moves = count_by (tells_line kind.Move) lines;
  releases = count_by (tells_line kind.Release) lines;
  dones = count_by (tells_line kind.Done) lines;
  lost = count_by (tells_line kind.Lost) lines;
  nones = count_by (tells_line kind.Never) lines;
  budgets = count_by (tells_line kind.Budget) lines;
}

-- each count can be one more
pub record CanGrow (c : RecordCounts) : Type 0 where
  pub events : c.events + 1 < 2 ^ 64
  pub plans : c.plans + 1 < 2 ^ 64
  pub moves : c.moves + 1 < 2 ^ 64
  pub releases : c.releases + 1 < 2 ^ 64
  pub dones : c.dones + 1 < 2 ^ 64
  pub lost : c.lost + 1 < 2 ^ 64
  pub nones : c.nones + 1 < 2 ^ 64
  pub budgets : c.budgets + 1 < 2 ^ 64

-- ---- the line that tells them, with its LF

unfoldable pub head_text : ℕ → RecordCounts → List ℕ
head_text arg c =
    (codes "soak " ++ decimal arg) ++ (codes " events " ++ decimal c.events) ++ (codes " plans " ++ decimal c.plans)
    ++ (codes " moves " ++ decimal c.moves) ++ (codes " releases " ++ decimal c.releases)

unfoldable pub tail_text : RecordCounts → List ℕ
tail_text c =
    (codes " dones " ++ decimal c.dones) ++ (codes " lost " ++ decimal c.lost) ++ (codes " nones " ++ decimal c.nones)
    ++ (codes " budgets " ++ decimal c.budgets) ++ codes "\n"

abbrev pub summary_text : ℕ → RecordCounts → List ℕ
summary_text arg c = head_text arg c ++ tail_text c
