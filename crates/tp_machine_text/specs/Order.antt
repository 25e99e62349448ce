-- The first of some rules that is broken.
use Rattle.std.specs.Prelude.{ℕ, suc, Bool, if◌then◌else◌, List, [], ◌∷◌, Option, Some, None}

-- the number of the first rule that is broken, where the first of the list has the number n
abbrev pub first_from : ℕ → List Bool → Option ℕ
first_from n [] = None
first_from n (kept ∷ more) = if kept then first_from (suc n) more else Some n

abbrev pub or_else : Option ℕ → Option ℕ → Option ℕ
or_else None later = later
or_else (Some n) later = Some n
