-- What is counted of a log: its events, and the plans, nones and budgets that are reported in it.
use Rattle.std.specs.Prelude.{◌+◌, ◌<◌, ◌≤◌, ◌^◌, Bool, true, false, List, count_by}
use Rattle.tp_log.specs.declared.log_line.LogLine.{LogLine}
use Rattle.tp_log.specs.declared.log_line.LogLine.TheVariants.{Event, Note}
use Rattle.tp_schedule.specs.declared.records.Record.TheVariants.{Plan, Never, Budget}
use Rattle.tp_log_check.specs.declared.counts.Counts.{Counts}

abbrev pub is_event : LogLine → Bool
is_event (Event event) = true
is_event _ = false

abbrev pub is_plan : LogLine → Bool
is_plan (Note (Plan sheet place points acts)) = true
is_plan _ = false

abbrev pub is_none : LogLine → Bool
is_none (Note (Never sheet goal)) = true
is_none _ = false

abbrev pub is_budget : LogLine → Bool
is_budget (Note (Budget sheet goal bound)) = true
is_budget _ = false

-- of the lines of a log
abbrev pub counts_of : List LogLine → Counts
counts_of lines = record {
  events = count_by is_event lines;
  plans = count_by is_plan lines;
  nones = count_by is_none lines;
  budgets = count_by is_budget lines;
}

-- each count can be one more
pub record CanGrow (c : Counts) : Type 0 where
  pub events : c.events + 1 < 2 ^ 64
  pub plans : c.plans + 1 < 2 ^ 64
  pub nones : c.nones + 1 < 2 ^ 64
  pub budgets : c.budgets + 1 < 2 ^ 64

-- no count grew by more than one
pub record AreOneMore (c c' : Counts) : Type 0 where
  pub events : c'.events ≤ c.events + 1
  pub plans : c'.plans ≤ c.plans + 1
  pub nones : c'.nones ≤ c.nones + 1
  pub budgets : c'.budgets ≤ c.budgets + 1
