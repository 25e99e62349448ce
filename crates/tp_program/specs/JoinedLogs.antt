-- A log that was saved, and one that was resumed from its snapshot, as one.
use Rattle.std.specs.Prelude.{ℕ, Bool, List, ◌++◌, Option}
use Rattle.std.specs.List.{filter_map}
use Rattle.tp_machine.specs.declared.machine.Machine.{Machine}
use Rattle.tp_jobs.specs.declared.standing.Standing as kept
use Rattle.tp_script.specs.Lines.{line_event}
use Rattle.tp_snapshot.specs.Rules.{IsSnapshot}
use Rattle.tp_session_standing.specs.StandingStates.{standing_state}
use Rattle.tp_stream.specs.Takes.{IsWritten}
use Rattle.tp_event_rules.specs.States.{SessionState}
use Rattle.tp_words.specs.Texts.{lines_of}
use Rattle.tp_run_laws.specs.Ends.{IsAnswered}
use Rattle.tp_run_laws.specs.EventRuns.{IsRunOf}
use Rattle.tp_run_laws.specs.Wholes.{IsWhole}
use Rattle.tp_program.specs.SaveEnds.{HasSavedLine}

-- where a run was saved, and from what its snapshot tells another script was answered with the same budget and bounds, the text that
-- was written then stands behind the first as that of one lawful run over the events of both scripts
abbrev pub ResumedLogsJoin : Type 0
ResumedLogsJoin = (machine told_machine : Machine) (standing : kept.Standing) (budget : ℕ) (bounds : Bool) (script more : List ℕ) (taken taken' : Option (List ℕ))
    → (saved : HasSavedLine machine budget bounds script) → IsSnapshot saved.saved.snapshot told_machine standing
    → ((start : SessionState) → IsWhole told_machine start (standing_state told_machine standing) → IsAnswered told_machine budget bounds start more taken taken')
    → (text : List ℕ) × IsWritten taken text taken'
    × IsRunOf machine budget bounds (filter_map line_event (lines_of script) ++ filter_map line_event (lines_of more)) (saved.ends.text ++ text)
