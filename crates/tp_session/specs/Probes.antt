-- What a probe of an event tells.
use Rattle.std.specs.Prelude.{◌≡◌, ℕ, List, Option, length, slice_get, IsSomeAnd}
use Rattle.std.specs.Bool.{MatchBool}
use Rattle.std.specs.Option.{MatchOption}
use Rattle.tp_machine.specs.declared.machine.Machine.{Machine}
use Rattle.tp_schedule.specs.Answers.{IsAlternative}
use Rattle.tp_schedule.specs.SpentBudget.{IsSpent}
use Rattle.tp_schedule.specs.declared.parts.Ask.{Ask}
use Rattle.tp_schedule.specs.declared.parts.Plan.{Plan}
use Rattle.tp_jobs.specs.JobRefusals.{tray_named}
use Rattle.tp_jobs.specs.WaitingCopies.{first_copies, given_tray, has_waiting, sheets_of}
use Rattle.tp_jobs.specs.declared.parts.WaitingCopy.{WaitingCopy}
use Rattle.tp_script.specs.Form.{GroupForm}
use Rattle.tp_script.specs.declared.event.Event.{Event}
use Rattle.tp_script.specs.declared.event.Event.TheVariants.{Job as NewJob}
use Rattle.tp_search.specs.Trials.{EndsEarliest}
use Rattle.tp_event_rules.specs.AskPhase.{ask_waiting, is_full}
use Rattle.tp_event_rules.specs.Refusals.{refusal}
use Rattle.tp_event_rules.specs.States.{SessionState}
use Rattle.tp_event_rules.specs.Turns.{with_job}
use Rattle.tp_run_laws.specs.Wholes.{IsWhole}
use Rattle.tp_session.specs.Sessions.{Standing}
use Rattle.tp_stream.specs.declared.probe.Probe.{Probe}
use Rattle.tp_stream.specs.declared.probe.Probe.TheVariants.{Ends, Never, Spent, Full, Waits, Refused}

-- what an ask gives: the end of the earliest plans, that there is no alternative, or that the budget of so many lists of
-- choices is spent
abbrev pub AskGives : ℕ → Machine → List Plan → Ask → Probe → Type 0
AskGives nodes machine plans ask (Ends end) = EndsEarliest machine plans ask end
AskGives nodes machine plans ask Never = (plans' : List Plan) → ¬ IsAlternative machine plans ask plans'
AskGives nodes machine plans ask (Spent bound) = IsSpent machine plans ask nodes bound
AskGives nodes machine plans ask Full = ⊥
AskGives nodes machine plans ask Waits = ⊥
AskGives nodes machine plans ask Refused = ⊥

-- the first copy of the first sheet of a job that comes now
abbrev pub first_copy : SessionState → List ℕ → List GroupForm → Option WaitingCopy
first_copy s media groups = slice_get (first_copies (length s.jobs) 1 (sheets_of media groups)) 0

module _ (machine : Machine) (nodes : ℕ) where
  -- of a job that would be accepted: a copy waits in its line, too many copies are live, or what the ask for that copy gives on
  -- the schedule as it stands
  abbrev pub ProbesJob : SessionState → List ℕ → List ℕ → List ℕ → List GroupForm → Probe → Type 0
  ProbesJob s name tray media groups answer =
      MatchBool (has_waiting s.jobs s.waiting (given_tray (tray_named machine tray))) (answer ≡ Waits)
      (MatchBool (is_full machine s) (answer ≡ Full)
      (IsSomeAnd (first_copy s media groups) (λ w. AskGives nodes machine s.plans (ask_waiting machine (with_job machine name tray media groups s) w) answer)))

  -- any other event, and a job that would be refused, is reported refused
  abbrev pub IsProbe : Event → SessionState → Probe → Type 0
  IsProbe (NewJob name tray media groups) s answer =
      MatchOption (refusal machine s (NewJob name tray media groups)) (ProbesJob s name tray media groups answer) (λ cause. answer ≡ Refused)
  IsProbe event s answer = answer ≡ Refused

  -- what the ask gives is what a probe of the event tells
  abbrev pub GivesProbe : Event → SessionState → Ask → Type 0
  GivesProbe event s ask = (answer : Probe) → AskGives nodes machine s.plans ask answer → IsProbe event s answer

-- it is so in the session's state, and in every whole state behind it
pub record Probes (s : Standing) (event : Event) (answer : Probe) : Type 0 where
  pub here : IsProbe s.machine s.budget event s.state answer
  pub on_whole : (whole : SessionState) → IsWhole s.machine whole s.state → IsProbe s.machine s.budget event whole answer
