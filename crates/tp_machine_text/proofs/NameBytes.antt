-- The bytes of a name are ASCII.
use Rattle.std.proofs.Common.{◌≡◌, ℕ, ◌<◌, true, ◌&&◌, List, [], ◌∷◌, length, IsTrue, arith}
use Rattle.std.specs.Prelude.{nat_le}
use Rattle.std.specs.List.{list_all}
use Rattle.std.specs.Str.{IsAscii, IsUtf8}
use Rattle.std.proofs.lemmas.Bool.{and_parts}
use Rattle.std.proofs.lemmas.Bool.Decides.{nat_tests}
use Rattle.std.proofs.lemmas.Str.{IsUtf8-from_ascii}
use Rattle.std.proofs.lemmas.Str.Ascii.{IsAscii-nil, IsAscii-cons}
use Rattle.tp_base.specs.NameText.{is_name_byte, is_name_text}

byte_below : (b : ℕ) → is_name_byte b ≡ true → b < 128
byte_below b test = grind (arith, nat_tests)

ascii : (bs : List ℕ) → list_all is_name_byte bs ≡ true → IsAscii bs
ascii [] test = IsAscii-nil
ascii (b ∷ bs) test =
    let (here, rest) = and_parts (is_name_byte b) (list_all is_name_byte bs) test in
    IsAscii-cons b bs (byte_below b here) (ascii bs rest)

pub name_utf8 : (text : List ℕ) → IsTrue (is_name_text text) → IsUtf8 text
name_utf8 text valid = IsUtf8-from_ascii text (ascii text (and_parts (nat_le 1 (length text) && nat_le (length text) 32) (list_all is_name_byte text) valid).1)
