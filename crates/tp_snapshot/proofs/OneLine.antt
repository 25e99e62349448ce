-- What is written is one line: its text has no LF.
use Rattle.std.proofs.Common.{◌≡◌, ℕ, ◌+◌, ◌<◌, ◌≤◌, ◌^◌, ◌/◌, ◌%◌, cond, Bool, true, false, List, [], ◌∷◌, ◌++◌, map, All, refl, ◌∙◌, arith, nat_lt}
use Rattle.std.specs.Prelude.{⊤}
use Rattle.std.specs.Char.{digit_char, is_ascii_digit}
use Rattle.std.proofs.lemmas.Bool.Decides.{nat_tests}
use Rattle.std.proofs.lemmas.List.Elements.{All-head, All-tail}
use Rattle.json.specs.Print.{escape, escape_byte, escape_letter, quoted}
use Rattle.serde_json.specs.Data.{Data, null, boolean, number, unsigned, negative, float, string, array, object, Items, no_items, item, Members, no_members, member}
use Rattle.serde_json.specs.View.{items_of}
use Rattle.serde_json.specs.Written.{comma_if, compact_text, has_float, items_have_float, items_text, members_have_float, members_text}
use Rattle.tp_words.proofs.PartFacts.{lacks-append, lacks_from}
use Rattle.tp_words.proofs.SpelledWords.{number_spells}
use Rattle.tp_words.specs.Parts.{lacks}

-- a value whose numbers are whole and fit in 32 bits
abbrev mutual
  pub IsPlain : Data → Type 0
  IsPlain null = ⊤
  IsPlain (boolean b) = ⊤
  IsPlain (number (unsigned n)) = n < 2 ^ 32
  IsPlain (number (negative z)) = ⊥
  IsPlain (number (float x)) = ⊥
  IsPlain (string s) = ⊤
  IsPlain (array ds) = AreItemsPlain ds
  IsPlain (object ms) = AreMembersPlain ms

  pub AreItemsPlain : Items → Type 0
  AreItemsPlain no_items = ⊤
  AreItemsPlain (item d ds) = IsPlain d × AreItemsPlain ds

  pub AreMembersPlain : Members → Type 0
  AreMembersPlain no_members = ⊤
  AreMembersPlain (member k d ms) = IsPlain d × AreMembersPlain ms

mutual
  pub no-float : (d : Data) → IsPlain d → has_float d ≡ false
  no-float null plain = refl
  no-float (boolean b) plain = refl
  no-float (number (unsigned n)) plain = refl
  no-float (number (negative z)) plain = absurd plain
  no-float (number (float x)) plain = absurd plain
  no-float (string s) plain = refl
  no-float (array ds) plain = no-floats ds plain
  no-float (object ms) plain = no-members ms plain

  no-floats : (ds : Items) → AreItemsPlain ds → items_have_float ds ≡ false
  no-floats no_items plain = refl
  no-floats (item d ds) plain = rw (no-float d plain.0) (no-floats ds plain.1)

  no-members : (ms : Members) → AreMembersPlain ms → members_have_float ms ≡ false
  no-members no_members plain = refl
  no-members (member k d ms) plain = rw (no-float d plain.0) (no-members ms plain.1)

-- ---- a string is written with no LF

letter-other : (x : ℕ) → nat_lt 0 (escape_letter x) ≡ true → lacks 10 (escape_letter x ∷ []) ≡ true
letter-other x some = grind (arith, nat_tests)

digit-other : (n : ℕ) → lacks 10 (digit_char n ∷ []) ≡ true
digit-other n = grind (arith, nat_tests)

byte-lacks : (x : ℕ) → lacks 10 (escape_byte x) ≡ true
unfolding escape_byte
byte-lacks x = go (nat_lt 0 (escape_letter x)) (nat_lt x 32) refl refl where
  go : (short low : Bool) → nat_lt 0 (escape_letter x) ≡ short → nat_lt x 32 ≡ low
      → lacks 10 (cond short (92 ∷ escape_letter x ∷ []) (cond low (92 ∷ 117 ∷ 48 ∷ 48 ∷ digit_char (x / 16) ∷ digit_char (x % 16) ∷ []) (x ∷ []))) ≡ true
  go true low is at = lacks-append 10 (92 ∷ []) (escape_letter x ∷ []) refl (letter-other x is)
  go false true is at = lacks-append 10 (92 ∷ 117 ∷ 48 ∷ 48 ∷ digit_char (x / 16) ∷ []) (digit_char (x % 16) ∷ []) (lacks-append 10 (92 ∷ 117 ∷ 48 ∷ 48 ∷ []) (digit_char (x / 16) ∷ []) refl (digit-other (x / 16))) (digit-other (x % 16))
  go false false is at = grind (arith, nat_tests)

escape-lacks : (s : List ℕ) → lacks 10 (escape s) ≡ true
escape-lacks [] = refl
escape-lacks (x ∷ s) = lacks-append 10 (escape_byte x) (escape s) (byte-lacks x) (escape-lacks s)

quoted-lacks : (s : List ℕ) → lacks 10 (quoted s) ≡ true
quoted-lacks s = lacks-append 10 (34 ∷ []) (escape s ++ 34 ∷ []) refl (lacks-append 10 (escape s) (34 ∷ []) (escape-lacks s) refl)

comma-lacks : (later : Bool) → lacks 10 (comma_if later) ≡ true
comma-lacks true = refl
comma-lacks false = refl

mutual
  pub text-lacks : (d : Data) → IsPlain d → lacks 10 (compact_text d) ≡ true
  text-lacks null plain = refl
  text-lacks (boolean true) plain = refl
  text-lacks (boolean false) plain = refl
  text-lacks (number (unsigned n)) plain = lacks_from is_ascii_digit 10 (compact_text (number (unsigned n))) refl (number_spells.bytes n plain)
  text-lacks (number (negative z)) plain = absurd plain
  text-lacks (number (float x)) plain = absurd plain
  text-lacks (string s) plain = quoted-lacks s
  text-lacks (array ds) plain = lacks-append 10 (91 ∷ []) (items_text false ds) refl (items-lack false ds plain)
  text-lacks (object ms) plain = lacks-append 10 (123 ∷ []) (members_text false ms) refl (members-lack false ms plain)

  items-lack : (later : Bool) (ds : Items) → AreItemsPlain ds → lacks 10 (items_text later ds) ≡ true
  items-lack later no_items plain = refl
  items-lack later (item d ds) plain = lacks-append 10 (comma_if later) (compact_text d ++ items_text true ds) (comma-lacks later) (lacks-append 10 (compact_text d) (items_text true ds) (text-lacks d plain.0) (items-lack true ds plain.1))

  members-lack : (later : Bool) (ms : Members) → AreMembersPlain ms → lacks 10 (members_text later ms) ≡ true
  members-lack later no_members plain = refl
  members-lack later (member k d ms) plain =
      lacks-append 10 (comma_if later) (quoted k ++ 58 ∷ (compact_text d ++ members_text true ms)) (comma-lacks later)
      (lacks-append 10 (quoted k) (58 ∷ (compact_text d ++ members_text true ms)) (quoted-lacks k)
      (lacks-append 10 (58 ∷ []) (compact_text d ++ members_text true ms) refl
      (lacks-append 10 (compact_text d) (members_text true ms) (text-lacks d plain.0) (members-lack true ms plain.1))))

-- an array of plain values is plain
pub all-plain : {X : Type 0} (show : X → Data) (xs : List X) → All (λ x. IsPlain (show x)) xs → AreItemsPlain (items_of (map show xs))
all-plain show [] all = tt
all-plain show (x ∷ xs) all = (All-head (λ y. IsPlain (show y)) x xs all, all-plain show xs (All-tail (λ y. IsPlain (show y)) x xs all))
