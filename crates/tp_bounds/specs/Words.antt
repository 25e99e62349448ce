-- The words of bound lines, written and read: states, points, holds and hops.
use Rattle.std.specs.Prelude.{ℕ, Bool, true, false, ◌==◌, List, [], ◌∷◌, ◌++◌, Option, Some, None, option_map, decimal, if◌then◌else◌}
use Rattle.tp_bounds.specs.declared.hops.Hop.{Hop}
use Rattle.tp_bounds.specs.declared.hops.Hop.TheVariants.{Duration, Line, «Resource» as Res}
use Rattle.tp_bounds.specs.declared.hops.TreeHold.{TreeHold}
use Rattle.tp_bounds.specs.declared.hops.TreeHold.TheVariants.{Own as OwnHold, Kept as KeptHold}
use Rattle.tp_bounds.specs.declared.hops.TreePoint.{TreePoint}
use Rattle.tp_bounds.specs.declared.hops.TreePoint.TheVariants.{Own as OwnPoint, Kept as KeptPoint}
use Rattle.tp_bounds.specs.declared.tree.NamedState.{NamedState}
use Rattle.tp_bounds.specs.declared.word_reader.Flags.{Flags}
use Rattle.tp_bounds.specs.declared.word_reader.Holders.{Holders}
use Rattle.tp_schedule.specs.declared.records.SheetName.{SheetName}
use Rattle.tp_script.specs.EventReaders.{face_of}
use Rattle.tp_script.specs.Script.{face_byte}
use Rattle.tp_words.specs.Fields.{IsName, after_of, begins_with, name_of, pair_of, ◌>>=◌}
use Rattle.tp_words.specs.Numbers.{IsNumber, number_of}
use Rattle.tp_words.specs.Parts.{lacks}
use Rattle.tp_bounds.specs.Sheets.{IsSheet, sheet_of, sheet_text}

-- ---- states: `NAME:F01`

abbrev pub bit_byte : Bool → ℕ
bit_byte false = 48
bit_byte true = 49

abbrev pub flags_text : Flags → List ℕ
flags_text f = face_byte f.up ∷ bit_byte f.front_done ∷ bit_byte f.back_done ∷ []

abbrev pub state_text : NamedState → List ℕ
state_text s = s.place ++ 58 ∷ flags_text (record { up = s.up; front_done = s.front_done; back_done = s.back_done })

abbrev pub bit_of : ℕ → Option Bool
bit_of b = if b == 48 then Some false else (if b == 49 then Some true else None)

unfoldable pub flags_of : List ℕ → Option Flags
flags_of (a ∷ b ∷ c ∷ []) = do
  up ← face_of a
  front ← bit_of b
  back ← bit_of c
  Some (record { up = up; front_done = front; back_done = back })
flags_of _ = None

abbrev pub state_from : List ℕ → Flags → NamedState
state_from place f = record { place = place; up = f.up; front_done = f.front_done; back_done = f.back_done }

unfoldable pub state_of : List ℕ → Option NamedState
state_of word = pair_of 58 name_of flags_of state_from word

-- a copy and a number, with the byte c between
abbrev pub numbered_of : ℕ → List ℕ → Option (SheetName × ℕ)
numbered_of c word = pair_of c sheet_of number_of (λ sheet n. (sheet, n)) word

-- ---- points: `*NUMBER` or `SHEET@NUMBER`

abbrev pub point_text : TreePoint → List ℕ
point_text (OwnPoint n) = 42 ∷ decimal n
point_text (KeptPoint sheet at) = sheet_text sheet ++ 64 ∷ decimal at

abbrev pub own_point_of : List ℕ → Option TreePoint
own_point_of word = option_map (λ n. OwnPoint n) (after_of 42 number_of word)

unfoldable pub point_of : List ℕ → Option TreePoint
point_of word = if begins_with 42 word then own_point_of word else option_map (λ k. KeptPoint k.0 k.1) (numbered_of 64 word)

-- ---- holds: `*/NUMBER` or `SHEET/NUMBER`

abbrev pub hold_text : TreeHold → List ℕ
hold_text (OwnHold n) = 42 ∷ 47 ∷ decimal n
hold_text (KeptHold sheet act) = sheet_text sheet ++ 47 ∷ decimal act

abbrev pub own_hold_of : List ℕ → Option TreeHold
own_hold_of word = option_map (λ n. OwnHold n) (after_of 42 (after_of 47 number_of) word)

unfoldable pub hold_of : List ℕ → Option TreeHold
hold_of word = if begins_with 42 word then own_hold_of word else option_map (λ k. KeptHold k.0 k.1) (numbered_of 47 word)

-- ---- hops: `d:POINT`, `l:POINT` or `NAME:HOLD>HOLD`. A resource may be named d or l: the arrow tells

abbrev pub holders_text : Holders → List ℕ
holders_text h = hold_text h.before ++ 62 ∷ hold_text h.after

abbrev pub hop_text : Hop → List ℕ
hop_text (Duration to) = 100 ∷ 58 ∷ point_text to
hop_text (Line to) = 108 ∷ 58 ∷ point_text to
hop_text (Res name before after) = name ++ 58 ∷ holders_text (record { before = before; after = after })

unfoldable pub holders_of : List ℕ → Option Holders
holders_of word = pair_of 62 hold_of hold_of (λ before after. record { before = before; after = after }) word

abbrev pub named_holders_of : List ℕ → Option (List ℕ × Holders)
named_holders_of word = pair_of 58 name_of holders_of (λ name h. (name, h)) word

abbrev pub resource_hop_from : List ℕ × Holders → Hop
resource_hop_from k = Res k.0 k.1.before k.1.after

abbrev pub resource_hop_of : List ℕ → Option Hop
resource_hop_of word = option_map resource_hop_from (named_holders_of word)

abbrev pub duration_hop_of : List ℕ → Option Hop
duration_hop_of word = option_map (λ to. Duration to) (after_of 100 (after_of 58 point_of) word)

abbrev pub line_hop_of : List ℕ → Option Hop
line_hop_of word = option_map (λ to. Line to) (after_of 108 (after_of 58 point_of) word)

unfoldable pub hop_of : List ℕ → Option Hop
hop_of word = if lacks 62 word then (if begins_with 100 word then duration_hop_of word else line_hop_of word) else resource_hop_of word

-- ---- what has a text: names are names, and numbers fit in 32 bits

abbrev pub IsPoint : TreePoint → Type 0
IsPoint (OwnPoint n) = IsNumber n
IsPoint (KeptPoint sheet at) = IsSheet sheet × IsNumber at

abbrev pub IsHold : TreeHold → Type 0
IsHold (OwnHold n) = IsNumber n
IsHold (KeptHold sheet act) = IsSheet sheet × IsNumber act

abbrev pub IsHop : Hop → Type 0
IsHop (Duration to) = IsPoint to
IsHop (Line to) = IsPoint to
IsHop (Res name before after) = IsName name × (IsHold before × IsHold after)
