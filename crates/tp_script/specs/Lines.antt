-- A whole script: the events that its lines give.
use Rattle.std.specs.Prelude.{ℕ, List, Option, Some, None, unwrap_or, if◌then◌else◌}
use Rattle.std.specs.List.{filter_map}
use Rattle.tp_words.specs.Texts.{lines_of}
use Rattle.tp_script.specs.declared.event.Event.{Event}
use Rattle.tp_script.specs.declared.event.Event.TheVariants.{Bad}
use Rattle.tp_script.specs.EventReaders.{event_of}
use Rattle.tp_script.specs.Script.{is_passed, words_of_line}

-- the event of a line: none for a blank line or a comment, and `Bad` off the grammar
abbrev pub line_event : List ℕ → Option Event
line_event line = if is_passed (words_of_line line) then None else Some (unwrap_or (event_of (words_of_line line)) Bad)

-- the events of a script, in the order of its lines
abbrev pub events_of : List ℕ → List Event
events_of script = filter_map line_event (lines_of script)
