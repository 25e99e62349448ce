-- The state of a session, and what a part of an event gives: records, and the next state.
use Rattle.std.specs.Prelude.{ℕ, ℤ, List, [], ◌∷◌, ◌++◌}
use Rattle.tp_machine.specs.declared.parts.Outs.{Outs}
use Rattle.tp_schedule.specs.declared.parts.Plan.{Plan}
use Rattle.tp_schedule.specs.declared.parts.SheetId.{SheetId}
use Rattle.tp_schedule.specs.declared.records.Record.{Record}
use Rattle.tp_stock.specs.Stock.{no_refills}
use Rattle.tp_jobs.specs.declared.parts.Job.{Job}
use Rattle.tp_jobs.specs.declared.parts.WaitingCopy.{WaitingCopy}

-- the moment, the whole schedule with all that is past, the copies that were lost, the jobs in the order of arrival,
-- the copies that wait, the modules that are out, and for each location the sum of its feeder's accepted refills. Plans,
-- lost and waiting copies stand in the order of copies
pub record SessionState : Type 0 where
  pub now : ℕ
  pub plans : List Plan
  pub lost : List SheetId
  pub jobs : List Job
  pub waiting : List WaitingCopy
  pub outs : Outs
  pub refills : List ℤ

abbrev pub none_out : Outs
none_out = record { 0 = 0 }

abbrev pub empty_state : SessionState
empty_state = record { now = 0; plans = []; lost = []; jobs = []; waiting = []; outs = none_out; refills = no_refills }

-- what is reported, and the state after it
pub record Outcome : Type 0 where
  pub records : List Record
  pub state : SessionState

abbrev pub nothing_told : SessionState → Outcome
nothing_told s = record { records = []; state = s }

-- the records stand before those of the outcome
abbrev pub told_before : List Record → Outcome → Outcome
told_before records o = record { records = records ++ o.records; state = o.state }

-- one part after another
abbrev pub and_then : Outcome → (SessionState → Outcome) → Outcome
and_then o next = told_before o.records (next o.state)

-- a part for each of the things, in their order
abbrev pub for_each : {X : Type 0} → (SessionState → X → Outcome) → List X → SessionState → Outcome
for_each part [] s = nothing_told s
for_each part (x ∷ xs) s = and_then (part s x) (for_each part xs)
