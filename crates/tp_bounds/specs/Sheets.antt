-- A copy as a word: `NAME.NUMBER.COPY`.
use Rattle.std.specs.Prelude.{ℕ, List, ◌∷◌, ◌++◌, Option, decimal}
use Rattle.tp_schedule.specs.declared.records.SheetName.{SheetName}
use Rattle.tp_words.specs.Fields.{IsName, name_of, pair_of}
use Rattle.tp_words.specs.Numbers.{IsNumber, number_of}

abbrev pub sheet_text : SheetName → List ℕ
sheet_text s = s.job ++ 46 ∷ (decimal s.number ++ 46 ∷ decimal s.copy)

abbrev pub numbers_of : List ℕ → Option (ℕ × ℕ)
numbers_of word = pair_of 46 number_of number_of (λ number copy. (number, copy)) word

abbrev pub sheet_from : List ℕ → ℕ × ℕ → SheetName
sheet_from job numbers = record { job = job; number = numbers.0; copy = numbers.1 }

unfoldable pub sheet_of : List ℕ → Option SheetName
sheet_of word = pair_of 46 name_of numbers_of sheet_from word

-- what has a text: a name that is one, and numbers that fit in 32 bits
abbrev pub IsSheet : SheetName → Type 0
IsSheet s = IsName s.job × (IsNumber s.number × IsNumber s.copy)
