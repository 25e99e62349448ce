-- What the bytes of a snapshot are.
use Rattle.std.specs.Prelude.{◌≡◌, ℕ, List, length, Some, true, IsUtf8}
use Rattle.std.specs.List.{list_all}
use Rattle.serde_json.specs.Data.{Data}
use Rattle.serde_json.specs.Read.{read}
use Rattle.tp_machine.specs.declared.machine.Machine.{Machine}
use Rattle.tp_machine_text.specs.Texts.{IsMachineText}
use Rattle.tp_jobs.specs.declared.standing.Standing.{Standing}
use Rattle.tp_snapshot.specs.Written.{has_location, is_of_jobs, is_plan_known, snapshot_data}

-- the bytes are the JSON text of the value
pub record IsJson (bytes : List ℕ) (d : Data) : Type 0 where
  pub utf8 : IsUtf8 bytes
  pub reads : read bytes ≡ Some d

-- the bytes are no JSON
abbrev pub IsNotJson : List ℕ → Type 0
IsNotJson bytes = (d : Data) → ¬ IsJson bytes d

-- all that the standing tells of has a name
pub record HasNames (machine : Machine) (t : Standing) : Type 0 where
  pub jobs : list_all (has_location machine) t.jobs ≡ true
  pub plans : list_all (is_plan_known machine) t.plans ≡ true
  pub waiting : list_all (is_of_jobs (length t.jobs)) t.waiting ≡ true

-- the bytes are the JSON of a text of the machine, and of the standing
pub record IsWritten (bytes : List ℕ) (machine : Machine) (t : Standing) : Type 0 where
  pub text : List ℕ
  pub of_machine : IsMachineText text machine
  pub json : IsJson bytes (snapshot_data text machine t)
