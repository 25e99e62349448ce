-- What a trail is seen as.
use Rattle.std.specs.Prelude.{ℕ, List}

-- its items, and how many there can be
pub record Trailed (T : Type 0) : Type 0 where
  pub items : List T
  pub capacity : ℕ
