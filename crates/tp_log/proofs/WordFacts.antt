-- Goals: what is read is spelled so, and what is spelled so is read.
use Rattle.std.proofs.Common.{◌≡◌, inl, inr, ℕ, ◌<◌, Bool, true, ◌||◌, eqb, List, length, Option, Some, None, refl, subst, arith}
use Rattle.std.specs.Prelude.{option_map, codes}
use Rattle.std.specs.List.{list_all}
use Rattle.std.specs.Str.{bytes_eq}
use Rattle.std.proofs.lemmas.Slice.Eq.{bytes_eq-Decides}
use Rattle.std.proofs.lemmas.Bool.{cases_Bool, or_right}
use Rattle.std.proofs.lemmas.Option.{same_Some}
use Rattle.tp_base.specs.NameText.{is_name_byte}
use Rattle.tp_words.specs.Fields.{IsName, name_of}
use Rattle.tp_words.proofs.Steps.{map_some}
use Rattle.tp_words.proofs.SpelledWords.{Spells, name_spells, weaker}
use Rattle.tp_words.proofs.Texts.{IsVisible, visible}
use Rattle.tp_log.specs.Records.{goal_text}
use Rattle.tp_log.specs.Grammar.{IsGoal}
use Rattle.tp_log.specs.RecordReaders.{goal_of}

-- ---- a goal
abbrev pub goal_byte : ℕ → Bool
goal_byte b = eqb b 42 || is_name_byte b

goal_byte_from : (b : ℕ) → is_name_byte b ≡ true → goal_byte b ≡ true
goal_byte_from b h = or_right (eqb b 42) (is_name_byte b) h

goal_takes : (word : List ℕ) (g : Option (List ℕ)) → goal_of word ≡ Some g → (word ≡ goal_text g) × IsGoal g
unfolding goal_of
goal_takes word g e =
    elim (cases_Bool (bytes_eq word (codes "*"))) [
      | inl h ↦
          let k : Some None ≡ Some g = rw h at e in
          subst (λ g. (word ≡ goal_text g) × IsGoal g) (same_Some None g k) ((bytes_eq-Decides word (codes "*")).0 h, tt)
      | inr h ↦
          let k : option_map (λ tray. Some tray) (name_of word) ≡ Some g = rw h at e in
          let m = map_some (λ tray. Some tray) (name_of word) g k in
          subst (λ g. (word ≡ goal_text g) × IsGoal g) m.2 (name_spells.takes word m.0 m.1)
    ]

goal_again : (g : Option (List ℕ)) → IsGoal g → goal_of (goal_text g) ≡ Some g
unfolding goal_of
goal_again None h = refl
goal_again (Some tray) h =
    elim (cases_Bool (bytes_eq tray (codes "*"))) [
      | inl star ↦ (let k : IsName (codes "*") = subst IsName ((bytes_eq-Decides tray (codes "*")).0 star) h in absurd cc)
      | inr other ↦ rw (other, name_spells.again tray h) refl
    ]

goal_bytes : (g : Option (List ℕ)) → IsGoal g → list_all goal_byte (goal_text g) ≡ true
goal_bytes None h = refl
goal_bytes (Some tray) h = weaker is_name_byte goal_byte goal_byte_from tray (name_spells.bytes tray h)

goal_filled : (g : Option (List ℕ)) → IsGoal g → 0 < length (goal_text g)
goal_filled None h = omega arith
goal_filled (Some tray) h = name_spells.filled tray h

pub goal_spells : Spells goal_of goal_text IsGoal goal_byte
goal_spells = record { takes = goal_takes; again = goal_again; bytes = goal_bytes; filled = goal_filled }

-- ---- words have neither a space nor a line end in them
pub goal_visible : (g : Option (List ℕ)) → IsGoal g → IsVisible (goal_text g)
goal_visible = visible goal_spells refl refl
