-- What a state keeps through outages, be it whole or live.
use Rattle.std.specs.Prelude.{ℕ, List, All}
use Rattle.tp_machine.specs.declared.machine.Machine.{Machine}
use Rattle.tp_event_rules.specs.StateInvariants.{KeepsJobs, KeepsLines, KeepsSheets, IsOlder, open_copies}
use Rattle.tp_event_rules.specs.Laws.{IsPlannable}
use Rattle.tp_event_rules.specs.Ready.{KeepsBroken}
use Rattle.tp_event_rules.specs.Seen.{HasStarted}
use Rattle.tp_event_rules.specs.States.{SessionState}

-- the schedule can be planned on, lines are kept, no copy of a broken job is still on its way, no planned copy is older than an open
-- one of its sheet, and what is purged has started
pub record KeepsCopies (machine : Machine) (s : SessionState) : Type 0 where
  pub plans : IsPlannable machine s
  pub lines : KeepsLines s
  pub broken : KeepsBroken s
  pub older : All (λ p. All (IsOlder p) (open_copies s)) s.plans
  pub purges : All (HasStarted s.now) s.plans

-- jobs and lines are kept, the schedule can be planned on, no copy of a broken job is still on its way, no planned copy is
-- older than an open one of its sheet, and what is purged has started
pub record KeepsThrough (machine : Machine) (s : SessionState) : Type 0 where
  pub jobs : KeepsJobs machine s.jobs
  pub plans : IsPlannable machine s
  pub lines : KeepsLines s
  pub broken : KeepsBroken s
  pub older : All (λ p. All (IsOlder p) (open_copies s)) s.plans
  pub purges : All (HasStarted s.now) s.plans

-- and of a whole state that its sheets are kept, of which each job has so many
pub record KeepsOrder (machine : Machine) (totals : List ℕ) (s : SessionState) : Type 0 where
  pub jobs : KeepsJobs machine s.jobs
  pub plans : IsPlannable machine s
  pub lines : KeepsLines s
  pub sheets : KeepsSheets totals s
  pub broken : KeepsBroken s
  pub purges : All (HasStarted s.now) s.plans
