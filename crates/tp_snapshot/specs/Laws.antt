-- What is written is read back, and bytes tell one standing at most.
use Rattle.std.specs.Prelude.{◌≡◌, ℕ, ◌<◌, ◌^◌, List, All}
use Rattle.tp_machine.specs.declared.machine.Machine.{Machine}
use Rattle.tp_words.specs.Fields.{IsName}
use Rattle.tp_jobs.specs.declared.standing.Standing.{Standing}
use Rattle.tp_session_standing.specs.Sound.{IsSound}
use Rattle.tp_snapshot.specs.Rules.{IsBrokenAt, IsSnapshot}
use Rattle.tp_snapshot.specs.Texts.{IsNotJson, IsWritten}
use Rattle.tp_snapshot.specs.Told.{Tells}

-- what every value of a standing keeps: the names of its jobs are names, and its modules that are out fit in 64 bits
pub record IsSpelled (t : Standing) : Type 0 where
  pub names : All (λ j. IsName j.name) t.jobs
  pub outs : t.outs.0 < 2 ^ 64

abbrev pub WrittenIsTold : Type 0
WrittenIsTold = (bytes : List ℕ) (machine : Machine) (t : Standing) → IsSound machine t → IsSpelled t → IsWritten bytes machine t → Tells bytes machine t

abbrev pub OneIsTold : Type 0
OneIsTold = (bytes : List ℕ) (machine : Machine) (t t' : Standing) → Tells bytes machine t → Tells bytes machine t' → t ≡ t'

abbrev pub WrittenIsRead : Type 0
WrittenIsRead = (bytes : List ℕ) (machine : Machine) (t : Standing) → IsSound machine t → IsSpelled t → IsWritten bytes machine t → IsSnapshot bytes machine t

abbrev pub SnapshotIsSound : Type 0
SnapshotIsSound = (bytes : List ℕ) (machine : Machine) (t : Standing) → IsSnapshot bytes machine t → IsSound machine t

abbrev pub OneIsRead : Type 0
OneIsRead = (bytes : List ℕ) (m n : Machine) (t u : Standing) → IsSnapshot bytes m t → IsSnapshot bytes n u → (m ≡ n) × (t ≡ u)

-- the bytes are a snapshot, or no JSON, or break this rule first: of these at most one holds, and for at most one rule
pub record HasOneVerdict (bytes : List ℕ) : Type 0 where
  pub json : (machine : Machine) (t : Standing) → IsSnapshot bytes machine t → ¬ IsNotJson bytes
  pub kept : (machine : Machine) (t : Standing) (n : ℕ) → IsSnapshot bytes machine t → ¬ IsBrokenAt n bytes
  pub text : (n : ℕ) → IsBrokenAt n bytes → ¬ IsNotJson bytes
  pub first : (n k : ℕ) → IsBrokenAt n bytes → IsBrokenAt k bytes → n ≡ k

abbrev pub OneVerdict : Type 0
OneVerdict = (bytes : List ℕ) → HasOneVerdict bytes
