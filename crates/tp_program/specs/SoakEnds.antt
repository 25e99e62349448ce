-- How soaking ends, by its status.
use Rattle.std.specs.Prelude.{◌≡◌, ◌⊎◌, ℕ, List, Option, Some}
use Rattle.tp_command.specs.Form.{Asked, seed_in}
use Rattle.tp_soak.specs.Summaries.{IsSummary}
use Rattle.tp_program.specs.WrittenText.{WritesOne}
use Rattle.tp_program.specs.declared.status.Status.{Status}
use Rattle.tp_program.specs.declared.status.Status.TheVariants.{Memory}

-- the words give a number, and the line of its case was written, or cut short
abbrev pub WritesSummary : Asked → Option (List ℕ) → Option (List ℕ) → Status → Type 0
WritesSummary asked taken taken' status = (arg : ℕ) × (seed_in asked.arg ≡ Some arg) × WritesOne (IsSummary arg asked.budget) taken taken' status

-- how soaking ends: memory ran out, and nothing is written; or the line is. The source is never read
module _ {S K : Type 0} (taken : K → Option (List ℕ)) (source source' : S) (sink sink' : K) where
  abbrev pub SoakEnds : Asked → Status → Type 0
  SoakEnds asked status = (source' ≡ source) × (((status ≡ Memory) × (sink' ≡ sink)) ⊎ WritesSummary asked (taken sink) (taken sink') status)
