-- Names, copies and what is wanted, written and read back.
use Rattle.std.proofs.Common.{◌≡◌, ◌≢◌, ℕ, suc, ◌<◌, ◌≤◌, Bool, true, false, List, [], ◌∷◌, length, get_or, map, All, AllPairs, Option, Some, refl, sym, arith}
use Rattle.std.specs.Prelude.{position}
use Rattle.std.specs.List.{position_or_len}
use Rattle.std.specs.Str.{bytes_eq}
use Rattle.std.proofs.lemmas.Bool.{le-leb, lt-ltb}
use Rattle.std.proofs.lemmas.List.Sums.{position_or_len_is}
use Rattle.std.proofs.lemmas.Slice.Eq.{bytes_eq-Decides}
use Rattle.serde_json.specs.Data.{Data}
use Rattle.tp_base.specs.NameText.{is_name_byte}
use Rattle.tp_machine.specs.declared.parts.Face.{Face}
use Rattle.tp_machine.specs.declared.parts.Face.TheVariants.{Front, Back}
use Rattle.tp_machine.specs.declared.parts.Sheet.{Sheet}
use Rattle.tp_machine.specs.declared.parts.Want.{Want}
use Rattle.tp_machine.specs.declared.parts.Want.TheVariants.{Blank, Mono, Colour}
use Rattle.tp_schedule.specs.declared.parts.SheetId.{SheetId}
use Rattle.tp_script.specs.Form.{GroupForm}
use Rattle.tp_script.specs.EventReaders.{face_of, group_with, want_of as side_of}
use Rattle.tp_script.specs.Script.{face_byte, spec_text, want_byte}
use Rattle.tp_words.proofs.PartFacts.{cut_again, lacks_from}
use Rattle.tp_words.proofs.SpelledWords.{name_spells}
use Rattle.tp_words.specs.Each.{each_read}
use Rattle.tp_words.specs.Fields.{IsName, pair_of}
use Rattle.tp_bounds.proofs.SheetFacts.{sheet_spells}
use Rattle.tp_bounds.specs.Sheets.{sheet_text}
use Rattle.tp_event_rules.specs.Labels.{label_by}
use Rattle.tp_snapshot.specs.Copies.{copy_of, want_of}
use Rattle.tp_snapshot.specs.Written.{one_sheet, want_text}

pub unequal : (a b : List ℕ) → a ≢ b → bytes_eq a b ≡ false
unequal a b differ = go (bytes_eq a b) refl where
  go : (r : Bool) → bytes_eq a b ≡ r → r ≡ false
  go true e = absurd (differ ((bytes_eq-Decides a b).0 e))
  go false e = refl

-- the place of a name among different names
pub position-at : (names : List (List ℕ)) (n : ℕ) (d : List ℕ) → n < length names → AllPairs (λ a b. a ≢ b) names → position (bytes_eq (get_or names n d)) names ≡ Some n
position-at names n d within apart =
    let place : position_or_len (bytes_eq (get_or names n d)) names ≡ n =
    position_or_len_is (bytes_eq (get_or names n d)) names n d (omega arith) (λ k low. unequal (get_or names n d) (get_or names k d) (λ same. apart k n d low within (sym same)))
    (λ low. (bytes_eq-Decides (get_or names n d) (get_or names n d)).1 refl) in
    rw (place, lt-ltb n (length names) within) refl

side-back : (w : Want) → side_of (want_byte w) ≡ Some w
side-back Blank = refl
side-back Mono = refl
side-back Colour = refl

face-back : (f : Face) → face_of (face_byte f) ≡ Some f
face-back Front = refl
face-back Back = refl

sides-back : (g : GroupForm) → group_with g.count (spec_text g) ≡ Some g
unfolding group_with
sides-back g = rw (side-back g.front, side-back g.back, face-back g.face) refl

-- what is wanted of a sheet is read back
pub want-back : (want : Sheet) → IsName want.media → want_of (want_text want) ≡ Some want
unfolding want_of pair_of
want-back want named =
    let lacks = lacks_from is_name_byte 32 want.media refl (name_spells.bytes want.media named) in
    rw (cut_again 32 want.media (spec_text (one_sheet want)) lacks, name_spells.again want.media named, sides-back (one_sheet want)) refl

-- a copy is read back where its job has its name's place
pub copy-back : (names : List (List ℕ)) (name : List ℕ) (copy : SheetId) → IsName name → position (bytes_eq name) names ≡ Some copy.job → (1 ≤ copy.number) × (copy.number ≤ 4096) → (1 ≤ copy.copy) × (copy.copy ≤ 4000000000)
    → copy_of names (sheet_text (label_by name copy)) ≡ Some copy
unfolding copy_of
copy-back names name copy named at sheets copies =
    let again = sheet_spells.again (label_by name copy) (named, (omega (arith, sheets.1), omega (arith, copies.1))) in
    rw (again, at, le-leb 1 copy.number sheets.0, le-leb copy.number 4096 sheets.1, le-leb 1 copy.copy copies.0, le-leb copy.copy 4000000000 copies.1) refl

-- a list is read back where each of it is
pub each-back : {X : Type 0} (show : X → Data) (read : Data → Option X) (xs : List X) → All (λ x. read (show x) ≡ Some x) xs → each_read read (map show xs) ≡ Some xs
unfolding each_read
each-back show read [] all = refl
each-back show read (x ∷ xs) all =
    let here : read (show x) ≡ Some x = all 0 x (omega arith) in
    let rest : each_read read (map show xs) ≡ Some xs = each-back show read xs (λ k d low. all (suc k) d (omega (arith, low))) in
    rw (here, rest) refl
