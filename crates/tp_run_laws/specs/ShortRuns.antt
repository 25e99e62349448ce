-- How long the lines are that a run with bounds writes.
use Rattle.std.specs.Prelude.{ℕ, ◌≤◌, true, List, length}
use Rattle.std.specs.List.{All}
use Rattle.tp_bound_laws.specs.Short.{most_bytes}
use Rattle.tp_event_rules.specs.States.{SessionState}
use Rattle.tp_machine.specs.declared.machine.Machine.{Machine}
use Rattle.tp_run_laws.specs.Wholes.{IsRunOver}
use Rattle.tp_stream.specs.Scripts.{line_bytes}
use Rattle.tp_stream.specs.Takes.{FitsIn}
use Rattle.tp_words.specs.Texts.{lines_of}

-- if each line of the script keeps its length limit, no line of the run's text has more than 4,194,304 bytes
abbrev pub BoundRunsAreShort : Machine → ℕ → Type 0
BoundRunsAreShort machine nodes = (start : SessionState) (script text : List ℕ) → All (FitsIn line_bytes) (lines_of script)
    → IsRunOver machine nodes true start (lines_of script) text → All (λ line. length line ≤ most_bytes) (lines_of text)
