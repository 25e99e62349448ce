-- The texts of copies and of what is wanted are UTF-8.
use Rattle.std.proofs.Common.{◌≡◌, ℕ, ◌<◌, Bool, true, List, [], ◌∷◌, ◌++◌, IsTrue, append_assoc, arith, lit<}
use Rattle.std.specs.List.{list_all}
use Rattle.std.specs.Str.{IsAscii, IsUtf8}
use Rattle.std.proofs.lemmas.Bool.{and_parts}
use Rattle.std.proofs.lemmas.Bool.Decides.{nat_tests}
use Rattle.std.proofs.lemmas.Str.{IsUtf8-append, IsUtf8-from_ascii}
use Rattle.std.proofs.lemmas.Str.Ascii.{IsAscii-nil, IsAscii-cons}
use Rattle.tp_base.specs.NameText.{is_name_text}
use Rattle.tp_machine.specs.declared.parts.Face.{Face}
use Rattle.tp_machine.specs.declared.parts.Face.TheVariants.{Front, Back}
use Rattle.tp_machine.specs.declared.parts.Sheet.{Sheet}
use Rattle.tp_machine.specs.declared.parts.Want.{Want}
use Rattle.tp_machine.specs.declared.parts.Want.TheVariants.{Blank, Mono, Colour}
use Rattle.tp_machine_text.proofs.NameBytes.{name_utf8}
use Rattle.tp_schedule.specs.declared.records.SheetName.{SheetName}
use Rattle.tp_script.specs.Script.{face_byte, spec_text, want_byte}
use Rattle.tp_bounds.proofs.SheetFacts.{sheet_byte, sheet_spells}
use Rattle.tp_bounds.specs.Sheets.{IsSheet, sheet_text}
use Rattle.tp_snapshot.specs.Written.{one_sheet, want_text}

ascii_by : (p : ℕ → Bool) → ((b : ℕ) → p b ≡ true → b < 128) → (bs : List ℕ) → list_all p bs ≡ true → IsAscii bs
ascii_by p below [] test = IsAscii-nil
ascii_by p below (b ∷ bs) test =
    let (here, rest) = and_parts (p b) (list_all p bs) test in
    IsAscii-cons b bs (below b here) (ascii_by p below bs rest)

byte_below : (b : ℕ) → sheet_byte b ≡ true → b < 128
byte_below b test = grind (arith, nat_tests)

pub sheet_utf8 : (s : SheetName) → IsSheet s → IsUtf8 (sheet_text s)
sheet_utf8 s is = IsUtf8-from_ascii (sheet_text s) (ascii_by sheet_byte byte_below (sheet_text s) (sheet_spells.bytes s is))

want_below : (w : Want) → want_byte w < 128
want_below Blank = lit< tt
want_below Mono = lit< tt
want_below Colour = lit< tt

face_below : (f : Face) → face_byte f < 128
face_below Front = lit< tt
face_below Back = lit< tt

pub want_utf8 : (want : Sheet) → IsTrue (is_name_text want.media) → IsUtf8 (want_text want)
want_utf8 want named =
    IsUtf8-append want.media (32 ∷ spec_text (one_sheet want)) (name_utf8 want.media named)
    (IsUtf8-from_ascii (32 ∷ spec_text (one_sheet want))
    (IsAscii-cons 32 (spec_text (one_sheet want)) (lit< tt)
    (IsAscii-cons (want_byte want.front) (want_byte want.back ∷ 58 ∷ face_byte want.face ∷ []) (want_below want.front)
    (IsAscii-cons (want_byte want.back) (58 ∷ face_byte want.face ∷ []) (want_below want.back)
    (IsAscii-cons 58 (face_byte want.face ∷ []) (lit< tt)
    (IsAscii-cons (face_byte want.face) [] (face_below want.face) IsAscii-nil))))))

pub want_bytes : (want : Sheet) → IsTrue (is_name_text want.media) → IsUtf8 ((want.media ++ 32 ∷ []) ++ spec_text (one_sheet want))
want_bytes want named = rw (append_assoc want.media (32 ∷ []) (spec_text (one_sheet want))) (want_utf8 want named)
