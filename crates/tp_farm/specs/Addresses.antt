-- The event of a farm's line, and the machine that the line names.
use Rattle.std.specs.Prelude.{◌≡◌, ◌⊎◌, ℕ, ◌+◌, ◌-◌, Bool, true, false, ◌&&◌, nat_le, List, [], ◌∷◌, codes, Option, Some, None, IfSome, if◌then◌else◌}
use Rattle.std.specs.Str.{bytes_eq}
use Rattle.tp_script.specs.Printed.{IsEchoed}
use Rattle.tp_script.specs.EventReaders.{event_of}
use Rattle.tp_script.specs.Script.{is_passed, words_of_line}
use Rattle.tp_script.specs.declared.event.Event.{Event}
use Rattle.tp_script.specs.declared.event.Event.TheVariants.{Bad, Jam, Off, On, Refill}
use Rattle.tp_farm.specs.declared.address.Addressed.{Addressed}

-- the events before which `at K` stands: those of one machine's modules and feeders
abbrev pub is_of_one : Event → Bool
is_of_one (Jam name) = true
is_of_one (Off name) = true
is_of_one (On name) = true
is_of_one (Refill name count) = true
is_of_one event = false

-- a line off the grammar goes to machine 1
abbrev pub bad_line : Addressed
bad_line = record { event = Bad; number = 1 }

-- K: one digit, from 1 to the number of machines
abbrev pub number_of : ℕ → List ℕ → Option ℕ
number_of count (digit ∷ []) = if nat_le 49 digit && nat_le digit (48 + count) then Some (digit - 48) else None
number_of count _ = None

-- the event of a line with `at K` before it, and that of one without
abbrev pub with_number : Option Event → Option ℕ → Addressed
with_number None number = bad_line
with_number (Some event) None = bad_line
with_number (Some event) (Some number) = if is_of_one event then record { event = event; number = number } else bad_line

abbrev pub without_number : Option Event → Addressed
without_number (Some event) = if is_of_one event then bad_line else record { event = event; number = 1 }
without_number None = bad_line

abbrev pub at_words : ℕ → List (List ℕ) → Addressed
at_words count [] = bad_line
at_words count (number ∷ words) = with_number (event_of words) (number_of count number)

abbrev pub address_of : ℕ → List (List ℕ) → Addressed
address_of count [] = bad_line
address_of count (first ∷ words) = if bytes_eq first (codes "at") then at_words count words else without_number (event_of (first ∷ words))

-- a blank line and a comment are passed over
abbrev pub line_address : ℕ → List ℕ → Option Addressed
line_address count line = if is_passed (words_of_line line) then None else Some (address_of count (words_of_line line))

-- the address of a line that doesn't begin with `at`
abbrev pub plain_address : List ℕ → Option Addressed
plain_address line = if is_passed (words_of_line line) then None else Some (without_number (event_of (words_of_line line)))

-- the words don't begin with `at`, or nothing stands behind it
abbrev pub IsPlain : List (List ℕ) → Type 0
IsPlain [] = Unit {0}
IsPlain (first ∷ words) = (words ≡ []) ⊎ (bytes_eq first (codes "at") ≡ false)

-- an address whose event can be answered
abbrev pub IsRead : Option Addressed → Type 0
IsRead address = IfSome address (λ a. IsEchoed a.event)
