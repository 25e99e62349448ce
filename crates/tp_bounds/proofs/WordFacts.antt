-- What is read of a word of a bound line is spelled so, and what is spelled so is read.
use Rattle.std.proofs.Common.{◌≡◌, ◌⊎◌, inl, inr, ℕ, Bool, true, false, cond, not, ◌&&◌, ◌||◌, eqb, List, [], ◌∷◌, ◌++◌, Some, None, refl, subst, arith, decimal}
use Rattle.std.specs.Prelude.{option_map}
use Rattle.std.specs.List.{list_all}
use Rattle.std.specs.Char.{is_ascii_digit}
use Rattle.std.proofs.lemmas.Bool.{eqb-true}
use Rattle.std.proofs.lemmas.Option.{same_Some}
use Rattle.tp_base.specs.NameText.{is_name_byte}
use Rattle.tp_bounds.specs.declared.hops.Hop.{Hop}
use Rattle.tp_bounds.specs.declared.hops.Hop.TheVariants.{Duration, Line, «Resource» as Res}
use Rattle.tp_bounds.specs.declared.hops.TreeHold.{TreeHold}
use Rattle.tp_bounds.specs.declared.hops.TreeHold.TheVariants.{Own as OwnHold, Kept as KeptHold}
use Rattle.tp_bounds.specs.declared.hops.TreePoint.{TreePoint}
use Rattle.tp_bounds.specs.declared.hops.TreePoint.TheVariants.{Own as OwnPoint, Kept as KeptPoint}
use Rattle.tp_bounds.specs.declared.word_reader.Flags.{Flags}
use Rattle.tp_bounds.specs.declared.word_reader.Holders.{Holders}
use Rattle.tp_machine.specs.declared.parts.Face.{Face}
use Rattle.tp_machine.specs.declared.parts.Face.TheVariants.{Front, Back}
use Rattle.tp_schedule.specs.declared.records.SheetName.{SheetName}
use Rattle.tp_words.specs.Fields.{IsName, begins_with}
use Rattle.tp_words.specs.Numbers.{IsNumber}
use Rattle.tp_words.specs.Parts.{lacks}
use Rattle.tp_words.proofs.Choices.{after_spells, begins-not, choice_spells, mapped_spells, refit, with_byte}
use Rattle.tp_words.proofs.PartFacts.{lacks_from}
use Rattle.tp_words.proofs.SpelledWords.{Spells, either, name_spells, number_spells, pair_spells}
use Rattle.tp_words.proofs.Steps.{and_then_some}
use Rattle.tp_script.specs.EventReaders.{face_of}
use Rattle.tp_script.specs.Script.{face_byte}
use Rattle.tp_bounds.specs.Sheets.{IsSheet, sheet_text}
use Rattle.tp_bounds.specs.Words.{IsHold, IsHop, IsPoint, bit_byte, bit_of, duration_hop_of, flags_of, flags_text, hold_of, hold_text, holders_of, holders_text, hop_of, hop_text, line_hop_of, named_holders_of, resource_hop_from, own_hold_of, own_point_of, point_of, point_text, numbered_of, resource_hop_of, state_from, state_of, state_text}
use Rattle.tp_bounds.proofs.SheetFacts.{sheet_byte, sheet_spells}

-- ---- states
abbrev pub flag_byte : ℕ → Bool
flag_byte b = eqb b 70 || eqb b 66 || eqb b 48 || eqb b 49

face_takes : (b : ℕ) (f : Face) → face_of b ≡ Some f → b ≡ face_byte f
face_takes b f e = go (eqb b 70) (eqb b 66) refl refl e where
  go : (x y : Bool) → eqb b 70 ≡ x → eqb b 66 ≡ y → cond x (Some Front) (cond y (Some Back) None) ≡ Some f → b ≡ face_byte f
  go true y u v h = subst (λ k. b ≡ face_byte k) (same_Some Front f h) (eqb-true b 70 u)
  go false true u v h = subst (λ k. b ≡ face_byte k) (same_Some Back f h) (eqb-true b 66 v)
  go false false u v h = absurd cc

bit_takes : (b : ℕ) (d : Bool) → bit_of b ≡ Some d → b ≡ bit_byte d
bit_takes b d e = go (eqb b 48) (eqb b 49) refl refl e where
  go : (x y : Bool) → eqb b 48 ≡ x → eqb b 49 ≡ y → cond x (Some false) (cond y (Some true) None) ≡ Some d → b ≡ bit_byte d
  go true y u v h = subst (λ k. b ≡ bit_byte k) (same_Some false d h) (eqb-true b 48 u)
  go false true u v h = subst (λ k. b ≡ bit_byte k) (same_Some true d h) (eqb-true b 49 v)
  go false false u v h = absurd cc

flags_takes : (word : List ℕ) (f : Flags) → flags_of word ≡ Some f → (word ≡ flags_text f) × Unit {0}
unfolding flags_of
flags_takes [] f e = absurd cc
flags_takes (a ∷ []) f e = absurd cc
flags_takes (a ∷ b ∷ []) f e = absurd cc
flags_takes (a ∷ b ∷ c ∷ d ∷ word) f e = absurd cc
flags_takes (a ∷ b ∷ c ∷ []) f e =
    let x = and_then_some (face_of a) _ f e in
    let y = and_then_some (bit_of b) _ f x.2 in
    let z = and_then_some (bit_of c) _ f y.2 in
    subst (λ (k : Flags). (a ∷ b ∷ c ∷ [] ≡ flags_text k) × Unit {0}) (same_Some _ f z.2) (same a b c (face_byte x.0) (bit_byte y.0) (bit_byte z.0) (face_takes a x.0 x.1) (bit_takes b y.0 y.1) (bit_takes c z.0 z.1), tt) where
      same : (a b c a' b' c' : ℕ) → a ≡ a' → b ≡ b' → c ≡ c' → a ∷ b ∷ c ∷ [] ≡ a' ∷ b' ∷ c' ∷ []
      same a b c a' b' c' u v w = cc

flags_again : (up : Face) (front back : Bool) → flags_of (flags_text (record { up = up; front_done = front; back_done = back })) ≡ Some (record { up = up; front_done = front; back_done = back })
unfolding flags_of
flags_again Front false false = refl
flags_again Front false true = refl
flags_again Front true false = refl
flags_again Front true true = refl
flags_again Back false false = refl
flags_again Back false true = refl
flags_again Back true false = refl
flags_again Back true true = refl

flags_bytes : (up : Face) (front back : Bool) → list_all flag_byte (flags_text (record { up = up; front_done = front; back_done = back })) ≡ true
flags_bytes Front false false = refl
flags_bytes Front false true = refl
flags_bytes Front true false = refl
flags_bytes Front true true = refl
flags_bytes Back false false = refl
flags_bytes Back false true = refl
flags_bytes Back true false = refl
flags_bytes Back true true = refl

flags_spell : Spells flags_of flags_text (λ _. Unit {0}) flag_byte
flags_spell = record {
  takes = flags_takes;
  again = λ f _. flags_again f.up f.front_done f.back_done;
  bytes = λ f _. flags_bytes f.up f.front_done f.back_done;
  filled = λ f _. omega arith;
}

abbrev pub state_byte : ℕ → Bool
state_byte = either 58 is_name_byte flag_byte

pub state_spells : Spells state_of state_text (λ s. IsName s.place × Unit {0}) state_byte
unfolding state_of
state_spells =
    pair_spells 58 name_spells flags_spell state_from (λ s. s.place) (λ s. record { up = s.up; front_done = s.front_done; back_done = s.back_done }) (λ s. refl) (λ p f. refl) (λ p f. refl) refl

-- ---- a copy and a number
abbrev numbered_text : ℕ → SheetName × ℕ → List ℕ
numbered_text c k = sheet_text k.0 ++ c ∷ decimal k.1

abbrev IsNumbered : SheetName × ℕ → Type 0
IsNumbered k = IsSheet k.0 × IsNumber k.1

abbrev pub numbered_byte : ℕ → ℕ → Bool
numbered_byte c = either c sheet_byte is_ascii_digit

numbered_spells : (c : ℕ) → sheet_byte c ≡ false → Spells (numbered_of c) (numbered_text c) IsNumbered (numbered_byte c)
numbered_spells c outside = pair_spells c sheet_spells number_spells (λ s n. (s, n)) (λ k. k.0) (λ k. k.1) (λ k. refl) (λ s n. refl) (λ s n. refl) outside

-- ---- points
abbrev IsOwnPoint : TreePoint → Type 0
IsOwnPoint x = (n : ℕ) × (OwnPoint n ≡ x) × IsNumber n

abbrev IsKeptPoint : TreePoint → Type 0
IsKeptPoint x = (k : SheetName × ℕ) × (KeptPoint k.0 k.1 ≡ x) × IsNumbered k

own_point_spells : Spells own_point_of point_text IsOwnPoint (with_byte 42 is_ascii_digit)
own_point_spells = mapped_spells (after_spells 42 number_spells) (λ n. OwnPoint n) point_text (λ n. refl)

kept_point_spells : Spells (λ w. option_map (λ k. KeptPoint k.0 k.1) (numbered_of 64 w)) point_text IsKeptPoint (numbered_byte 64)
kept_point_spells = mapped_spells (numbered_spells 64 refl) (λ k. KeptPoint k.0 k.1) point_text (λ k. refl)

point-to : (x : TreePoint) → IsOwnPoint x ⊎ IsKeptPoint x → IsPoint x
point-to x (inl (n, is, f)) = subst IsPoint is f
point-to x (inr (k, is, f)) = subst IsPoint is f

point-from : (x : TreePoint) → IsPoint x → IsOwnPoint x ⊎ IsKeptPoint x
point-from (OwnPoint n) f = inl (n, refl, f)
point-from (KeptPoint sheet at) f = inr ((sheet, at), refl, f)

abbrev pub point_byte : ℕ → Bool
point_byte b = with_byte 42 is_ascii_digit b || numbered_byte 64 b

pub point_spells : Spells point_of point_text IsPoint point_byte
unfolding point_of
point_spells = refit (choice_spells (begins_with 42) own_point_spells kept_point_spells
    (λ x (n, is, f). subst (λ y. begins_with 42 (point_text y) ≡ true) is refl)
    (λ x (k, is, f). begins-not 42 (numbered_byte 64) (point_text x) refl (kept_point_spells.bytes x (k, is, f)) (kept_point_spells.filled x (k, is, f)))) point-to point-from

-- ---- holds
abbrev IsOwnHold : TreeHold → Type 0
IsOwnHold x = (n : ℕ) × (OwnHold n ≡ x) × IsNumber n

abbrev IsKeptHold : TreeHold → Type 0
IsKeptHold x = (k : SheetName × ℕ) × (KeptHold k.0 k.1 ≡ x) × IsNumbered k

own_hold_spells : Spells own_hold_of hold_text IsOwnHold (with_byte 42 (with_byte 47 is_ascii_digit))
own_hold_spells = mapped_spells (after_spells 42 (after_spells 47 number_spells)) (λ n. OwnHold n) hold_text (λ n. refl)

kept_hold_spells : Spells (λ w. option_map (λ k. KeptHold k.0 k.1) (numbered_of 47 w)) hold_text IsKeptHold (numbered_byte 47)
kept_hold_spells = mapped_spells (numbered_spells 47 refl) (λ k. KeptHold k.0 k.1) hold_text (λ k. refl)

hold-to : (x : TreeHold) → IsOwnHold x ⊎ IsKeptHold x → IsHold x
hold-to x (inl (n, is, f)) = subst IsHold is f
hold-to x (inr (k, is, f)) = subst IsHold is f

hold-from : (x : TreeHold) → IsHold x → IsOwnHold x ⊎ IsKeptHold x
hold-from (OwnHold n) f = inl (n, refl, f)
hold-from (KeptHold sheet at) f = inr ((sheet, at), refl, f)

abbrev pub hold_byte : ℕ → Bool
hold_byte b = with_byte 42 (with_byte 47 is_ascii_digit) b || numbered_byte 47 b

pub hold_spells : Spells hold_of hold_text IsHold hold_byte
unfolding hold_of
hold_spells = refit (choice_spells (begins_with 42) own_hold_spells kept_hold_spells
    (λ x (n, is, f). subst (λ y. begins_with 42 (hold_text y) ≡ true) is refl)
    (λ x (k, is, f). begins-not 42 (numbered_byte 47) (hold_text x) refl (kept_hold_spells.bytes x (k, is, f)) (kept_hold_spells.filled x (k, is, f)))) hold-to hold-from

-- ---- hops
holders_spell : Spells holders_of holders_text (λ h. IsHold h.before × IsHold h.after) (either 62 hold_byte hold_byte)
unfolding holders_of
holders_spell = pair_spells 62 hold_spells hold_spells (λ before after. record { before = before; after = after }) (λ h. h.before) (λ h. h.after) (λ h. refl) (λ b a. refl) (λ b a. refl) refl

abbrev IsDurationHop : Hop → Type 0
IsDurationHop x = (p : TreePoint) × (Duration p ≡ x) × IsPoint p

abbrev IsLineHop : Hop → Type 0
IsLineHop x = (p : TreePoint) × (Line p ≡ x) × IsPoint p

abbrev IsResourceHop : Hop → Type 0
IsResourceHop x = (k : List ℕ × Holders) × (Res k.0 k.1.before k.1.after ≡ x) × (IsName k.0 × (IsHold k.1.before × IsHold k.1.after))

duration_hop_spells : Spells duration_hop_of hop_text IsDurationHop (with_byte 100 (with_byte 58 point_byte))
duration_hop_spells = mapped_spells (after_spells 100 (after_spells 58 point_spells)) (λ p. Duration p) hop_text (λ p. refl)

line_hop_spells : Spells line_hop_of hop_text IsLineHop (with_byte 108 (with_byte 58 point_byte))
line_hop_spells = mapped_spells (after_spells 108 (after_spells 58 point_spells)) (λ p. Line p) hop_text (λ p. refl)

abbrev named_holders_text : List ℕ × Holders → List ℕ
named_holders_text k = k.0 ++ 58 ∷ holders_text k.1

abbrev AreNamedHolders : List ℕ × Holders → Type 0
AreNamedHolders k = IsName k.0 × (IsHold k.1.before × IsHold k.1.after)

resource_pair : Spells named_holders_of named_holders_text AreNamedHolders (either 58 is_name_byte (either 62 hold_byte hold_byte))
resource_pair = pair_spells 58 name_spells holders_spell (λ name h. (name, h)) (λ k. k.0) (λ k. k.1) (λ k. refl) (λ n h. refl) (λ n h. refl) refl

resource_hop_spells : Spells resource_hop_of hop_text IsResourceHop (either 58 is_name_byte (either 62 hold_byte hold_byte))
resource_hop_spells = mapped_spells resource_pair resource_hop_from hop_text (λ k. refl)

point_hop_spells : Spells (λ w. cond (begins_with 100 w) (duration_hop_of w) (line_hop_of w)) hop_text (λ x. IsDurationHop x ⊎ IsLineHop x) (λ b. with_byte 100 (with_byte 58 point_byte) b || with_byte 108 (with_byte 58 point_byte) b)
point_hop_spells = choice_spells (begins_with 100) duration_hop_spells line_hop_spells
    (λ x (p, is, f). subst (λ y. begins_with 100 (hop_text y) ≡ true) is refl)
    (λ x (p, is, f). subst (λ y. begins_with 100 (hop_text y) ≡ false) is refl)

-- an arrow stands in the hop of a resource
arrow-in : (xs after : List ℕ) → lacks 62 (xs ++ 62 ∷ after) ≡ false
arrow-in [] after = refl
arrow-in (b ∷ xs) after = let rest = arrow-in xs after in rw rest (and-none (not (eqb b 62))) where
  and-none : (x : Bool) → (x && false) ≡ false
  and-none true = refl
  and-none false = refl

arrow-behind : (xs before after : List ℕ) → lacks 62 (xs ++ 58 ∷ (before ++ 62 ∷ after)) ≡ false
arrow-behind [] before after = arrow-in before after
arrow-behind (b ∷ xs) before after = let rest = arrow-behind xs before after in rw rest (and-none (not (eqb b 62))) where
  and-none : (x : Bool) → (x && false) ≡ false
  and-none true = refl
  and-none false = refl

hop-to : (x : Hop) → (IsDurationHop x ⊎ IsLineHop x) ⊎ IsResourceHop x → IsHop x
hop-to x (inl (inl (p, is, f))) = subst IsHop is f
hop-to x (inl (inr (p, is, f))) = subst IsHop is f
hop-to x (inr (k, is, f)) = subst IsHop is f

hop-from : (x : Hop) → IsHop x → (IsDurationHop x ⊎ IsLineHop x) ⊎ IsResourceHop x
hop-from (Duration to) f = inl (inl (to, refl, f))
hop-from (Line to) f = inl (inr (to, refl, f))
hop-from (Res name before after) f = inr ((name, record { before = before; after = after }), refl, f)

abbrev pub hop_byte : ℕ → Bool
hop_byte b = (with_byte 100 (with_byte 58 point_byte) b || with_byte 108 (with_byte 58 point_byte) b) || either 58 is_name_byte (either 62 hold_byte hold_byte) b

pub hop_spells : Spells hop_of hop_text IsHop hop_byte
unfolding hop_of
hop_spells = refit (choice_spells (lacks 62) point_hop_spells resource_hop_spells
    (λ x fits. lacks_from (λ b. with_byte 100 (with_byte 58 point_byte) b || with_byte 108 (with_byte 58 point_byte) b) 62 (hop_text x) refl (point_hop_spells.bytes x fits))
    (λ x (k, is, f). subst (λ y. lacks 62 (hop_text y) ≡ false) is (arrow-behind k.0 (hold_text k.1.before) (hold_text k.1.after)))) hop-to hop-from
