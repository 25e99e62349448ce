-- Copies: what is read is spelled so, and what is spelled so is read.
use Rattle.std.proofs.Common.{ℕ, Bool, ◌∷◌, ◌++◌, refl, decimal}
use Rattle.std.specs.Char.{is_ascii_digit}
use Rattle.tp_base.specs.NameText.{is_name_byte}
use Rattle.tp_schedule.specs.declared.records.SheetName.{SheetName}
use Rattle.tp_words.specs.Numbers.{IsNumber}
use Rattle.tp_words.proofs.SpelledWords.{Spells, either, name_spells, number_spells, pair_spells}
use Rattle.tp_words.proofs.Texts.{IsVisible, visible}
use Rattle.tp_bounds.specs.Sheets.{IsSheet, numbers_of, sheet_from, sheet_of, sheet_text}

numbers_spell : Spells numbers_of (λ nc. decimal nc.0 ++ 46 ∷ decimal nc.1) (λ nc. IsNumber nc.0 × IsNumber nc.1) (either 46 is_ascii_digit is_ascii_digit)
numbers_spell = pair_spells 46 number_spells number_spells (λ n c. (n, c)) (λ nc. nc.0) (λ nc. nc.1) (λ nc. refl) (λ n c. refl) (λ n c. refl) refl

abbrev pub sheet_byte : ℕ → Bool
sheet_byte = either 46 is_name_byte (either 46 is_ascii_digit is_ascii_digit)

pub sheet_spells : Spells sheet_of sheet_text IsSheet sheet_byte
unfolding sheet_of
sheet_spells = pair_spells 46 name_spells numbers_spell sheet_from (λ s. s.job) (λ s. (s.number, s.copy)) (λ s. refl) (λ j nc. refl) (λ j nc. refl) refl

pub sheet_visible : (s : SheetName) → IsSheet s → IsVisible (sheet_text s)
sheet_visible = visible sheet_spells refl refl
