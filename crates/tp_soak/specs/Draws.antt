-- The numbers that a case is made by.
use Rattle.std.specs.Prelude.{ℕ, ◌+◌, ◌*◌, ◌/◌, ◌%◌}

-- the state that a case begins with
abbrev pub first_state : ℕ → ℕ
first_state arg = arg % 2147483648

-- the state after a draw
unfoldable pub next : ℕ → ℕ
next x = (1103515245 * x + 12345) % 2147483648

-- the number below n that the draw gives which led to this state
unfoldable pub drawn : ℕ → ℕ → ℕ
drawn n x = (x / 65536) % n
