-- The grammar of a script's lines, and how an event is printed.
use Rattle.std.specs.Prelude.{◌≡◌, ◌⊎◌, ℕ, ◌<◌, ◌≤◌, ◌^◌, ◌-◌, Bool, ◌==◌, true, false, List, Result, Ok, Err, Option, Some, None, [], ◌∷◌, ◌++◌, length, map, take, slice_index, decimal, codes, if◌then◌else◌}
use Rattle.std.specs.List.{AllZip}
use Rattle.std.specs.Str.Parse.{digits_value}
use Rattle.tp_words.specs.Numbers.{is_digits}
use Rattle.tp_words.specs.Fields.{IsName}
use Rattle.tp_words.specs.Parts.{words_in}
use Rattle.tp_words.specs.Texts.{spaced}
use Rattle.tp_machine.specs.declared.parts.Want.{Want}
use Rattle.tp_machine.specs.declared.parts.Want.TheVariants.{Blank, Mono, Colour}
use Rattle.tp_machine.specs.declared.parts.Face.{Face}
use Rattle.tp_machine.specs.declared.parts.Face.TheVariants.{Front, Back}
use Rattle.tp_script.specs.Form.{GroupForm, most_sheets}
use Rattle.tp_script.specs.declared.fault.LineFault.{LineFault}
use Rattle.tp_script.specs.declared.fault.LineFault.TheVariants.{Memory, Syntax}
use Rattle.tp_script.specs.declared.event.Event.{Event}
use Rattle.tp_script.specs.declared.event.Event.TheVariants.{Bad, Job, Clock, Jam, Off, On, Refill}

-- 1 to `most` digits, zeros in front among them, that write n
abbrev pub Writes : ℕ → List ℕ → ℕ → Type 0
Writes most text n = (is_digits most text ≡ true) × (digits_value 10 text ≡ n)

abbrev pub want_byte : Want → ℕ
want_byte Blank = 45
want_byte Mono = 77
want_byte Colour = 67

abbrev pub face_byte : Face → ℕ
face_byte Front = 70
face_byte Back = 66

-- SPEC: the front's want, the back's want, `:`, the face
abbrev pub spec_text : GroupForm → List ℕ
spec_text g = want_byte g.front ∷ want_byte g.back ∷ 58 ∷ face_byte g.face ∷ []

-- GROUP: `SPEC`, or `COUNT*SPEC` with a COUNT of 1 to 4 digits
abbrev pub IsGroup : List ℕ → GroupForm → Type 0
IsGroup word g =
    ((g.count ≡ 1) × (word ≡ spec_text g))
    ⊎ ((count : List ℕ) × Writes 4 count g.count × (1 ≤ g.count) × (g.count ≤ most_sheets) × (word ≡ count ++ 42 ∷ spec_text g))

-- the words of a line that gives the event
abbrev pub IsEvent : List (List ℕ) → Event → Type 0
IsEvent words Bad = ⊥
IsEvent words (Job name tray media groups) =
    (texts : List (List ℕ)) × (words ≡ codes "job" ∷ name ∷ tray ∷ media ∷ texts)
    × IsName name × IsName tray × IsName media × (0 < length texts) × AllZip IsGroup texts groups
IsEvent words (Clock to) = (digits : List ℕ) × (words ≡ codes "clock" ∷ digits ∷ []) × Writes 10 digits to × (to < 2 ^ 32)
IsEvent words (Jam name) = (words ≡ codes "jam" ∷ name ∷ []) × IsName name
IsEvent words (Off name) = (words ≡ codes "off" ∷ name ∷ []) × IsName name
IsEvent words (On name) = (words ≡ codes "on" ∷ name ∷ []) × IsName name
IsEvent words (Refill name count) =
    (digits : List ℕ) × (words ≡ codes "refill" ∷ name ∷ digits ∷ []) × IsName name × Writes 10 digits count × (count < 2 ^ 32)

-- blank, or a comment
abbrev pub is_passed : List (List ℕ) → Bool
is_passed [] = true
is_passed (first ∷ others) = slice_index first 0 == 35

-- whether the text ends with the byte
abbrev pub ends_with_byte : ℕ → List ℕ → Bool
ends_with_byte c text = slice_index text (length text - 1) == c

abbrev pub without_last : List ℕ → List ℕ
without_last text = take (length text - 1) text

-- without one CR at the end
abbrev pub without_return : List ℕ → List ℕ
without_return text = if ends_with_byte 13 text then without_last text else text

-- a line without its LF, and one CR before it
unfoldable pub bare : List ℕ → List ℕ
bare line = if ends_with_byte 10 line then without_return (without_last line) else line

abbrev pub words_of_line : List ℕ → List (List ℕ)
words_of_line line = words_in (bare line)

-- off the grammar
abbrev pub IsOff : List (List ℕ) → Type 0
IsOff words = (is_passed words ≡ false) × ((event : Event) → IsEvent words event → ⊥)

-- what reading answers of the words of a line
abbrev pub Reads : List (List ℕ) → Result (Option Event) LineFault → Type 0
Reads words (Ok (Some event)) = IsEvent words event
Reads words (Ok None) = is_passed words ≡ true
Reads words (Err Syntax) = IsOff words
Reads words (Err Memory) = Unit {0}

-- ---- printing

abbrev pub group_text : GroupForm → List ℕ
group_text g = if g.count == 1 then spec_text g else decimal g.count ++ 42 ∷ spec_text g

abbrev pub event_words : Event → List (List ℕ)
event_words Bad = codes "?" ∷ []
event_words (Job name tray media groups) = codes "job" ∷ name ∷ tray ∷ media ∷ map group_text groups
event_words (Clock to) = codes "clock" ∷ decimal to ∷ []
event_words (Jam name) = codes "jam" ∷ name ∷ []
event_words (Off name) = codes "off" ∷ name ∷ []
event_words (On name) = codes "on" ∷ name ∷ []
event_words (Refill name count) = codes "refill" ∷ name ∷ decimal count ∷ []

abbrev pub event_text : Event → List ℕ
event_text event = spaced (event_words event)
