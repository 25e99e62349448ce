-- A text that grows at its end.
use Rattle.std.specs.Prelude.{◌≡◌, ℕ, List, ◌++◌}

abbrev pub IsLonger : List ℕ → List ℕ → Type 0
IsLonger text text' = (more : List ℕ) × (text' ≡ text ++ more)
