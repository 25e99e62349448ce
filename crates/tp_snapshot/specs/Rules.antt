-- The ten rules of a snapshot, which of them is broken first, and what a snapshot is.
use Rattle.std.specs.Prelude.{◌≡◌, ◌⊎◌, ℕ, ◌-◌, ◌≤◌, Bool, ◌&&◌, List, [], ◌∷◌, Option, Some, IsTrue, codes, is_some}
use Rattle.std.specs.List.{list_all}
use Rattle.serde_json.specs.Data.{Data}
use Rattle.serde_json.specs.Find.{as_str, get}
use Rattle.tp_machine.specs.declared.machine.Machine.{Machine}
use Rattle.tp_machine.specs.declared.parts.Outs.{Outs}
use Rattle.tp_machine_text.specs.Texts.{IsMachineText}
use Rattle.tp_jobs.specs.Backlogs.{names_of}
use Rattle.tp_jobs.specs.declared.parts.Job.{Job}
use Rattle.tp_jobs.specs.declared.parts.WaitingCopy.{WaitingCopy}
use Rattle.tp_jobs.specs.declared.standing.Standing.{Standing}
use Rattle.tp_schedule.specs.declared.parts.Plan.{Plan}
use Rattle.tp_snapshot_rules.specs.Rules.{AreInOrder, AreKeptTo, KeepsWaiting}
use Rattle.tp_snapshot.specs.Jobs.{DoNamesDiffer, jobs_of}
use Rattle.tp_snapshot.specs.Moments.{now_of, outs_of, stock_of}
use Rattle.tp_snapshot.specs.Plans.{plans_of}
use Rattle.tp_snapshot.specs.Texts.{IsJson}
use Rattle.tp_snapshot.specs.Values.{field_of, has_members, whole_of}
use Rattle.tp_snapshot.specs.WaitingCopies.{waiting_of}

-- 1. The value is an object of just these keys.
abbrev pub top_keys : List (List ℕ)
top_keys = codes "format" ∷ codes "jobs" ∷ codes "machine" ∷ codes "now" ∷ codes "out" ∷ codes "plans" ∷ codes "stock" ∷ codes "waiting" ∷ []

unfoldable pub has_keys : Data → Bool
has_keys d = has_members 8 d && list_all (λ key. is_some (get key d)) top_keys

abbrev pub HasKeys : Data → Type 0
HasKeys d = IsTrue (has_keys d)

-- 2. Its format is 1, and its machine the text of one.
pub record HasMachine (d : Data) (machine : Machine) : Type 0 where
  pub format : field_of (codes "format") (whole_of 1) d ≡ Some 1
  pub text : List ℕ
  pub at : field_of (codes "machine") as_str d ≡ Some text
  pub of_machine : IsMachineText text machine

-- 3. The moment, the modules that are out and what is free at the feeders are given.
pub record TellsMoment (machine : Machine) (d : Data) (t : Standing) : Type 0 where
  pub now : now_of d ≡ Some t.now
  pub outs : outs_of machine d ≡ Some t.outs
  pub stock : stock_of machine d ≡ Some t.stock

-- 4. The jobs are given, of different names.
pub record TellsJobs (machine : Machine) (d : Data) (t : Standing) : Type 0 where
  pub jobs : jobs_of machine d ≡ Some t.jobs
  pub differ : DoNamesDiffer t.jobs

-- 5. The plans are given, in the order of copies.
pub record TellsPlans (machine : Machine) (d : Data) (t : Standing) : Type 0 where
  pub plans : plans_of machine t.now t.jobs d ≡ Some t.plans
  pub in_order : AreInOrder t.plans

-- 6. The copies that wait are given, in the order of copies. They can wait, and not too many are open.
pub record TellsWaiting (machine : Machine) (d : Data) (t : Standing) : Type 0 where
  pub waiting : waiting_of (names_of t.jobs) d ≡ Some t.waiting
  pub keeps : KeepsWaiting machine t

-- The copies of these jobs are given at this moment: those with a plan in the order of copies, and those that wait. The jobs' names differ.
pub record TellsCopies (machine : Machine) (now : ℕ) (jobs : List Job) (d : Data) (planned : List Plan) (held : List WaitingCopy) : Type 0 where
  pub differ : DoNamesDiffer jobs
  pub plans : plans_of machine now jobs d ≡ Some planned
  pub in_order : AreInOrder planned
  pub waiting : waiting_of (names_of jobs) d ≡ Some held

-- the rules from 3 to this one are kept, with the machine and what the value tells of the standing; what a later rule tells is free
pub record KeepsTo (n : ℕ) (machine : Machine) (d : Data) (t : Standing) : Type 0 where
  pub moment : 3 ≤ n → TellsMoment machine d t
  pub jobs : 4 ≤ n → TellsJobs machine d t
  pub plans : 5 ≤ n → TellsPlans machine d t
  pub waiting : 6 ≤ n → TellsWaiting machine d t
  pub later : AreKeptTo n machine t

-- ---- the rule of this number is the first that is broken

pub record BreaksKeys (n : ℕ) (d : Data) : Type 0 where
  pub first : n ≡ 1
  pub broken : ¬ HasKeys d

pub record BreaksMachine (n : ℕ) (d : Data) : Type 0 where
  pub second : n ≡ 2
  pub keys : HasKeys d
  pub broken : (machine : Machine) → ¬ HasMachine d machine

-- the rules before it are kept with some standing, and with it by none
pub record BreaksOf (n : ℕ) (machine : Machine) (d : Data) : Type 0 where
  pub from : 3 ≤ n
  pub to : n ≤ 10
  pub before : (t : Standing) × KeepsTo (n - 1) machine d t
  pub broken : (t : Standing) → ¬ KeepsTo n machine d t

-- a standing with these jobs and without copies
abbrev pub without_copies : ℕ → Outs → List (Option ℕ) → List Job → Standing
without_copies now outs stock jobs = record { now = now; outs = outs; stock = stock; jobs = jobs; waiting = []; plans = [] }

-- the rule of this number is the first that is broken, if the value tells this moment and these jobs
abbrev pub BreaksFrom : ℕ → Machine → ℕ → List Job → Data → Type 0
BreaksFrom n machine now jobs d = (outs : Outs) (stock : List (Option ℕ))
    → TellsMoment machine d (without_copies now outs stock jobs) → jobs_of machine d ≡ Some jobs → BreaksOf n machine d

pub record BreaksStanding (n : ℕ) (d : Data) : Type 0 where
  pub keys : HasKeys d
  pub machine : Machine
  pub has : HasMachine d machine
  pub breaks : BreaksOf n machine d

abbrev pub Breaks : ℕ → Data → Type 0
Breaks n d = BreaksKeys n d ⊎ (BreaksMachine n d ⊎ BreaksStanding n d)

-- the bytes are JSON, and this rule is the first that their value breaks
abbrev pub IsBrokenAt : ℕ → List ℕ → Type 0
IsBrokenAt n bytes = (d : Data) × IsJson bytes d × Breaks n d

-- the value keeps the ten rules with the machine and the standing
pub record KeepsRules (d : Data) (machine : Machine) (t : Standing) : Type 0 where
  pub keys : HasKeys d
  pub has : HasMachine d machine
  pub kept : KeepsTo 10 machine d t

-- the bytes are JSON, and their value keeps the ten rules with the machine and the standing
abbrev pub IsSnapshot : List ℕ → Machine → Standing → Type 0
IsSnapshot bytes machine t = (d : Data) × IsJson bytes d × KeepsRules d machine t
