-- Reading the words of a line; `None` off the grammar.
use Rattle.std.specs.Prelude.{◌≡◌, ℕ, ◌^◌, nat_le, nat_lt, ◌==◌, ◌&&◌, List, [], ◌∷◌, Option, Some, None, Result, Ok, Err, if◌then◌else◌}
use Rattle.tp_words.specs.Numbers.{digits_of}
use Rattle.tp_words.specs.Fields.{◌>>=◌, name_of}
use Rattle.tp_words.specs.Parts.{cut_at}
use Rattle.tp_words.specs.Each.{each_read}
use Rattle.tp_machine.specs.declared.parts.Want.{Want}
use Rattle.tp_machine.specs.declared.parts.Want.TheVariants.{Blank, Mono, Colour}
use Rattle.tp_machine.specs.declared.parts.Face.{Face}
use Rattle.tp_machine.specs.declared.parts.Face.TheVariants.{Front, Back}
use Rattle.tp_script.specs.Form.{GroupForm, most_sheets}
use Rattle.tp_script.specs.declared.event.Event.{Event}
use Rattle.tp_script.specs.declared.event.Event.TheVariants.{Job, Clock, Jam, Off, On, Refill}
use Rattle.tp_script.specs.declared.fault.LineFault.{LineFault}
use Rattle.tp_script.specs.declared.fault.LineFault.TheVariants.{Memory, Syntax}
use Rattle.tp_script.specs.declared.verb.Verb.{Verb}
use Rattle.tp_script.specs.declared.verb.Verb.TheVariants as verbs
use Rattle.tp_script.specs.Verbs.{verb_of}

-- a function's answer is what reading gives, unless memory ran out
abbrev pub Gives : {X : Type 0} → Result X LineFault → Option X → Type 0
Gives (Ok x) read = read ≡ Some x
Gives (Err Syntax) read = read ≡ None
Gives (Err Memory) read = Unit {0}

abbrev pub want_of : ℕ → Option Want
want_of byte = if byte == 45 then Some Blank else (if byte == 77 then Some Mono else (if byte == 67 then Some Colour else None))

abbrev pub face_of : ℕ → Option Face
face_of byte = if byte == 70 then Some Front else (if byte == 66 then Some Back else None)

unfoldable pub group_with : ℕ → List ℕ → Option GroupForm
group_with count (f ∷ b ∷ colon ∷ u ∷ []) = do
  front ← want_of f
  back ← want_of b
  face ← face_of u
  if colon == 58 then Some (record { count = count; front = front; back = back; face = face }) else None
group_with count _ = None

abbrev pub count_of : List ℕ → Option ℕ
count_of text = do
  n ← digits_of 4 text
  if nat_le 1 n && nat_le n most_sheets then Some n else None

abbrev pub group_from : List ℕ → Option (List ℕ × List ℕ) → Option GroupForm
group_from word None = group_with 1 word
group_from word (Some sides) = do
  count ← count_of sides.0
  group_with count sides.1

unfoldable pub group_of : List ℕ → Option GroupForm
group_of word = group_from word (cut_at 42 word)

abbrev pub groups_of : List (List ℕ) → Option (List GroupForm)
groups_of words = each_read group_of words

-- what follows each first word
unfoldable pub job_of : List ℕ → List ℕ → List ℕ → List (List ℕ) → Option Event
job_of name tray media groups = do
  n ← name_of name
  t ← name_of tray
  m ← name_of media
  gs ← groups_of groups
  Some (Job n t m gs)

unfoldable pub after_job : List (List ℕ) → Option Event
after_job (name ∷ tray ∷ media ∷ first ∷ others) = job_of name tray media (first ∷ others)
after_job _ = None

-- a number of 1 to 10 digits that 32 bits hold
unfoldable pub number_of : List ℕ → Option ℕ
number_of digits = do
  n ← digits_of 10 digits
  if nat_lt n (2 ^ 32) then Some n else None

unfoldable pub after_clock : List (List ℕ) → Option Event
after_clock (digits ∷ []) = do
  to ← number_of digits
  Some (Clock to)
after_clock _ = None

unfoldable pub after_refill : List (List ℕ) → Option Event
after_refill (name ∷ digits ∷ []) = do
  n ← name_of name
  count ← number_of digits
  Some (Refill n count)
after_refill _ = None

unfoldable pub one_name : List (List ℕ) → Option (List ℕ)
one_name (name ∷ []) = name_of name
one_name _ = None

unfoldable pub event_after : Verb → List (List ℕ) → Option Event
event_after verbs.Job words = after_job words
event_after verbs.Clock words = after_clock words
event_after verbs.Jam words = one_name words >>= λ n. Some (Jam n)
event_after verbs.Off words = one_name words >>= λ n. Some (Off n)
event_after verbs.On words = one_name words >>= λ n. Some (On n)
event_after verbs.Refill words = after_refill words

unfoldable pub event_of : List (List ℕ) → Option Event
event_of [] = None
event_of (first ∷ others) = do
  verb ← verb_of first
  event_after verb others
