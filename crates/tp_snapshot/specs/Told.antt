-- The standing that a snapshot's value tells.
use Rattle.std.specs.Prelude.{◌≡◌, ℕ, List, Some}
use Rattle.serde_json.specs.Data.{Data}
use Rattle.tp_machine.specs.declared.machine.Machine.{Machine}
use Rattle.tp_jobs.specs.Backlogs.{names_of}
use Rattle.tp_jobs.specs.declared.standing.Standing.{Standing}
use Rattle.tp_snapshot.specs.Jobs.{DoNamesDiffer, jobs_of}
use Rattle.tp_snapshot.specs.Moments.{now_of, outs_of, stock_of}
use Rattle.tp_snapshot.specs.Plans.{plans_of}
use Rattle.tp_snapshot.specs.Texts.{IsJson}
use Rattle.tp_snapshot.specs.WaitingCopies.{waiting_of}

-- each part of the standing is read from the value, and no two jobs have one name
pub record IsToldBy (machine : Machine) (d : Data) (t : Standing) : Type 0 where
  pub now : now_of d ≡ Some t.now
  pub outs : outs_of machine d ≡ Some t.outs
  pub stock : stock_of machine d ≡ Some t.stock
  pub jobs : jobs_of machine d ≡ Some t.jobs
  pub differ : DoNamesDiffer t.jobs
  pub plans : plans_of machine t.now t.jobs d ≡ Some t.plans
  pub waiting : waiting_of (names_of t.jobs) d ≡ Some t.waiting

-- the value tells no standing
abbrev pub TellsNone : Machine → Data → Type 0
TellsNone machine d = (t : Standing) → ¬ IsToldBy machine d t

-- the bytes are JSON, and their value tells the standing; or they are JSON, and it tells none
abbrev pub Tells : List ℕ → Machine → Standing → Type 0
Tells bytes machine t = (d : Data) × IsJson bytes d × IsToldBy machine d t

abbrev pub TellsNothing : List ℕ → Machine → Type 0
TellsNothing bytes machine = (d : Data) × IsJson bytes d × TellsNone machine d
