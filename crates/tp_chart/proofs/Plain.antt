-- No byte of a name has a meaning in SVG.
use Rattle.std.proofs.Common.{◌≡◌, ℕ, true, ◌&&◌, List, [], ◌∷◌, length, refl, arith}
use Rattle.std.specs.List.{list_all}
use Rattle.std.specs.Prelude.{nat_le}
use Rattle.std.proofs.lemmas.Bool.{and_parts, and_from}
use Rattle.std.proofs.lemmas.Bool.Decides.{nat_tests}
use Rattle.tp_base.specs.NameText.{is_name_byte}
use Rattle.tp_words.specs.Fields.{IsName}
use Rattle.tp_chart.specs.Pictures.{NeedsNoEscape, is_plain}

plain_byte : (b : ℕ) → is_name_byte b ≡ true → is_plain b ≡ true
plain_byte b h = grind (arith, nat_tests)

plain_bytes : (text : List ℕ) → list_all is_name_byte text ≡ true → list_all is_plain text ≡ true
plain_bytes [] h = refl
plain_bytes (b ∷ text) h =
    let parts = and_parts (is_name_byte b) (list_all is_name_byte text) h in
    and_from (is_plain b) (list_all is_plain text) (plain_byte b parts.0) (plain_bytes text parts.1)

pub name_plain : (name : List ℕ) → IsName name → NeedsNoEscape name
name_plain name h =
    let parts = and_parts (nat_le 1 (length name) && nat_le (length name) 32) (list_all is_name_byte name) h in
    plain_bytes name parts.1
