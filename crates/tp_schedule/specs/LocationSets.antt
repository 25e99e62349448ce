-- Sets of locations.
use Rattle.std.specs.Prelude.{ℕ, ◌/◌, ◌%◌, ◌^◌, ◌==◌, Bool, List, [], ◌∷◌, bit_or, slice_index, if◌then◌else◌}
use Rattle.std.specs.Int.{bit_at}
use Rattle.tp_machine.specs.declared.parts.LocId.{LocId}
use Rattle.tp_schedule.specs.declared.parts.Empties.{Empties}

-- no location
abbrev pub nowhere : Empties
nowhere = record { w0 = 0; w1 = 0; w2 = 0; w3 = 0 }

abbrev pub words : Empties → List ℕ
words set = set.w0 ∷ set.w1 ∷ set.w2 ∷ set.w3 ∷ []

-- location n is in the set where bit n mod 64 of word n / 64 is set
abbrev pub has : Empties → LocId → Bool
has set loc = bit_at (slice_index (words set) (loc.0 / 64)) (loc.0 % 64) == 1

-- the word of a number with the location's bit, if it stands there
abbrev pub word_with : LocId → ℕ → ℕ → ℕ
word_with loc number word = if (loc.0 / 64) == number then bit_or word (2 ^ (loc.0 % 64)) else word

-- the set with one location more
abbrev pub with : Empties → LocId → Empties
with set loc = record { w0 = word_with loc 0 set.w0; w1 = word_with loc 1 set.w1; w2 = word_with loc 2 set.w2; w3 = word_with loc 3 set.w3 }
