-- What the phase of asks does with the first copy that waits, where it is not passed over: it is reported full, or it is asked.
use Rattle.std.proofs.Common.{◌≡◌, ℕ, List, ◌∷◌, ◌++◌}
use Rattle.tp_machine.specs.declared.machine.Machine.{Machine}
use Rattle.tp_jobs.specs.Backlogs.{tray_of}
use Rattle.tp_jobs.specs.declared.parts.WaitingCopy.{WaitingCopy}
use Rattle.tp_schedule.specs.PlannerAnswers.Deed.{replied}
use Rattle.tp_schedule.specs.declared.parts.Plan.{Plan}
use Rattle.tp_schedule.specs.declared.parts.Reply.{Reply}
use Rattle.tp_schedule.specs.declared.records.Record.{Record}
use Rattle.tp_schedule.specs.declared.records.Record.TheVariants.{FullUp}
use Rattle.tp_event_rules.specs.AnswerRecords.{told_of_reply}
use Rattle.tp_event_rules.specs.AskPhase.{AsksInTurn, ask_waiting, passed_after, state_after_reply}
use Rattle.tp_event_rules.specs.Labels.{label}
use Rattle.tp_event_rules.specs.Planners.{PlannerSteps}
use Rattle.tp_event_rules.specs.States.{SessionState}

module _ {P : Type 0} (steps : PlannerSteps P) (machine : Machine) where
  abbrev pub TellsFull : WaitingCopy → List WaitingCopy → List ℕ → SessionState → P → List Record → SessionState → P → Type 0
  TellsFull w waiting passed s p records s' p' = (rest : List Record) × (records ≡ FullUp (label s.jobs w.sheet) ∷ rest)
      × AsksInTurn steps machine waiting ((tray_of s.jobs w.sheet).0 ∷ passed) s p rest s' p'

  abbrev pub AsksFirst : WaitingCopy → List WaitingCopy → List ℕ → SessionState → P → List Record → SessionState → P → Type 0
  AsksFirst w waiting passed s p records s' p' = (reply : Reply) × ((plans : List Plan) × ((mid : P) × ((rest : List Record)
      × steps.does p s.plans (replied (ask_waiting machine s w) reply) plans mid
      × (records ≡ told_of_reply machine s.plans (ask_waiting machine s w) reply plans ++ rest)
      × AsksInTurn steps machine waiting (passed_after reply (tray_of s.jobs w.sheet).0 passed) (state_after_reply s w reply plans) mid rest s' p')))
