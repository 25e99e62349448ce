-- The lines of a log: events, records, and the lines of bound trees; and in which order they may stand.
use Rattle.std.specs.Prelude.{◌≡◌, ◌≢◌, ℕ, Bool, true, false, List, [], ◌∷◌, IsTrue, Result, Ok, Err}
use Rattle.tp_bounds.specs.Lines.{IsNode, IsRow, node_text, row_text}
use Rattle.tp_schedule.specs.declared.records.Record.{Record}
use Rattle.tp_schedule.specs.declared.records.Record.TheVariants.{Plan, Move, Never}
use Rattle.tp_script.specs.Printed.{IsEchoed}
use Rattle.tp_script.specs.declared.fault.LineFault.{LineFault}
use Rattle.tp_script.specs.declared.fault.LineFault.TheVariants.{Memory, Syntax}
use Rattle.tp_log.specs.declared.log_line.LogLine.{LogLine}
use Rattle.tp_log.specs.declared.log_line.LogLine.TheVariants.{Event, Note, Room, Node}
use Rattle.tp_log.specs.Grammar.{IsRecord, echo_text}
use Rattle.tp_log.specs.Records.{record_text}

abbrev pub IsLogLine : LogLine → Type 0
IsLogLine (Event event) = IsEchoed event
IsLogLine (Note told) = IsRecord told
IsLogLine (Room row) = IsRow row
IsLogLine (Node node) = IsNode node

-- the line, with its LF
abbrev pub log_line_text : LogLine → List ℕ
log_line_text (Event event) = echo_text event
log_line_text (Note told) = record_text told
log_line_text (Room row) = row_text row
log_line_text (Node node) = node_text node

-- what reading a line answers
abbrev pub ReadsLogLine : List ℕ → Result LogLine LineFault → Type 0
ReadsLogLine line (Ok told) = IsLogLine told × (line ≡ log_line_text told)
ReadsLogLine line (Err Syntax) = (told : LogLine) → IsLogLine told → line ≢ log_line_text told
ReadsLogLine line (Err Memory) = Unit {0}

-- an event's line or a record's
abbrev pub is_plain : LogLine → Bool
is_plain (Event event) = true
is_plain (Note told) = true
is_plain _ = false

-- what reading such a line answers
abbrev pub ReadsPlain : List ℕ → Result LogLine LineFault → Type 0
ReadsPlain line (Ok told) = IsLogLine told × (line ≡ log_line_text told)
ReadsPlain line (Err Syntax) = (told : LogLine) → IsTrue (is_plain told) → IsLogLine told → line ≢ log_line_text told
ReadsPlain line (Err Memory) = Unit {0}

-- ---- the order of lines

-- a record that a tree may stand behind: a plan, the move of another one, or a none
abbrev pub takes_tree : Record → Bool
takes_tree (Plan sheet place points acts) = true
takes_tree (Move sheet points) = true
takes_tree (Never sheet goal) = true
takes_tree _ = false

-- whether a room row may stand directly behind a line: no row stands behind a node
abbrev pub takes_row : LogLine → Bool
takes_row (Event event) = false
takes_row (Note told) = takes_tree told
takes_row (Room row) = true
takes_row (Node node) = false

-- whether a node may
abbrev pub takes_node : LogLine → Bool
takes_node (Event event) = false
takes_node (Note told) = takes_tree told
takes_node (Room row) = true
takes_node (Node node) = true

abbrev pub may_follow : LogLine → LogLine → Bool
may_follow before (Event event) = true
may_follow before (Note told) = true
may_follow before (Room row) = takes_row before
may_follow before (Node node) = takes_node before

abbrev pub FollowEach : LogLine → List LogLine → Type 0
FollowEach before [] = Unit {0}
FollowEach before (line ∷ lines) = IsTrue (may_follow before line) × FollowEach line lines

abbrev pub is_event : LogLine → Bool
is_event (Event event) = true
is_event _ = false

-- the first line is an event's, and each other one may stand behind the one before it
abbrev pub AreInOrder : List LogLine → Type 0
AreInOrder [] = Unit {0}
AreInOrder (first ∷ lines) = IsTrue (is_event first) × FollowEach first lines
