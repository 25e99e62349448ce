-- What is resumed goes on behind the whole last state of what was saved.
use Rattle.std.proofs.Common.{◌≡◌, ℕ, Bool, List, ◌++◌, Option, sym, ap₂, subst, ◌∙◌}
use Rattle.std.specs.List.{filter_map}
use Rattle.tp_machine.specs.declared.machine.Machine.{Machine}
use Rattle.tp_jobs.specs.declared.standing.Standing as kept
use Rattle.tp_script.specs.Lines.{line_event}
use Rattle.tp_snapshot.specs.Laws.{OneIsRead}
use Rattle.tp_session_standing.specs.StandingStates.{standing_of, standing_state}
use Rattle.tp_stream.specs.Takes.{IsWritten}
use Rattle.tp_event_rules.specs.States.{SessionState, empty_state}
use Rattle.tp_words.specs.Texts.{lines_of}
use Rattle.tp_run_laws.proofs.Lawful.{run_text-append}
use Rattle.tp_run_laws.specs.Ends.{IsAnswered}
use Rattle.tp_run_laws.specs.EventRuns.{IsRunOf}
use Rattle.tp_run_laws.specs.Continuations.{FirstRunsAreLawful, RunsJoin}
use Rattle.tp_run_laws.specs.Wholes.{IsWhole}
use Rattle.tp_program.specs.JoinedLogs.{ResumedLogsJoin}
use Rattle.tp_program.specs.SaveEnds.{HasSavedLine}

module _ (machine : Machine) (budget : ℕ) (bounds : Bool) (join : RunsJoin machine budget bounds) (lawful : FirstRunsAreLawful machine budget bounds)
    (script more : List ℕ) (taken taken' : Option (List ℕ)) (saved : HasSavedLine machine budget bounds script) where
  -- the run that was saved, and the next one from its last state
  joined : IsAnswered machine budget bounds saved.ends.run.last more taken taken'
      → (text : List ℕ) × IsWritten taken text taken'
      × IsRunOf machine budget bounds (filter_map line_event (lines_of script) ++ filter_map line_event (lines_of more)) (saved.ends.text ++ text)
  joined answered =
      let first = saved.ends.run in
      let next = answered.run in
      let both = join empty_state first.last next.last (filter_map line_event (lines_of script)) (filter_map line_event (lines_of more)) first.log next.log first.run next.run in (
        answered.text,
        answered.written,
        record {
          log = first.log ++ next.log;
          lawful = lawful (filter_map line_event (lines_of script) ++ filter_map line_event (lines_of more)) (first.log ++ next.log) next.last both;
          is_text = ap₂ (λ a b. a ++ b) first.is_text next.is_text ∙ sym (run_text-append first.log next.log);
        },
      )

  -- what the snapshot tells is the live part of the last state
  behind : IsWhole machine saved.ends.run.last (standing_state machine (standing_of machine saved.live))
  behind = subst (IsWhole machine saved.ends.run.last) (sym saved.ends.as_told) saved.ends.run.behind

  told-joined : (told_machine : Machine) (standing : kept.Standing) → machine ≡ told_machine → standing_of machine saved.live ≡ standing
      → ((start : SessionState) → IsWhole told_machine start (standing_state told_machine standing) → IsAnswered told_machine budget bounds start more taken taken')
      → IsAnswered machine budget bounds saved.ends.run.last more taken taken'
  told-joined told_machine standing same_machine same_standing answered =
      subst (λ m. ((start : SessionState) → IsWhole m start (standing_state m standing) → IsAnswered m budget bounds start more taken taken')) (sym same_machine) answered saved.ends.run.last
      (subst (λ t. IsWhole machine saved.ends.run.last (standing_state machine t)) same_standing behind)

pub resumed-join : OneIsRead → ((machine : Machine) (budget : ℕ) (bounds : Bool) → RunsJoin machine budget bounds) → ((machine : Machine) (budget : ℕ) (bounds : Bool) → FirstRunsAreLawful machine budget bounds)
    → ResumedLogsJoin
resumed-join one join lawful machine told_machine standing budget bounds script more taken taken' saved is_snapshot answered =
    let same = one saved.saved.snapshot machine told_machine (standing_of machine saved.live) standing saved.saved.of_standing is_snapshot in
    joined machine budget bounds (join machine budget bounds) (lawful machine budget bounds) script more taken taken' saved
    (told-joined machine budget bounds (join machine budget bounds) (lawful machine budget bounds) script more taken taken' saved told_machine standing same.0 same.1 answered)
