-- Reading the words of a record; `None` off the grammar.
use Rattle.std.specs.Prelude.{ℕ, List, [], ◌∷◌, length, nat_lt, Option, Some, None, option_map, codes, if◌then◌else◌}
use Rattle.std.specs.Str.{bytes_eq}
use Rattle.tp_words.specs.Numbers.{number_of}
use Rattle.tp_words.specs.Each.{each_read}
use Rattle.tp_words.specs.Fields.{◌>>=◌, name_of, two_of, five_of}
use Rattle.tp_schedule.specs.declared.records.Cause.{Cause}
use Rattle.tp_schedule.specs.declared.records.Cause.TheVariants as causes
use Rattle.tp_schedule.specs.declared.records.Record.{Record}
use Rattle.tp_schedule.specs.declared.records.Record.TheVariants.{Plan, Move, Never, Budget, FullUp, Release, Done, Lost, Recall, Withdraw, Cut, Purge, Again, Stuck, Broken, Drop, Refused}
use Rattle.tp_bounds.specs.Sheets.{sheet_of}
use Rattle.tp_log.specs.declared.heading.Heading.{Heading}
use Rattle.tp_log.specs.declared.heading.Heading.TheVariants as headings
use Rattle.tp_log.specs.declared.cause_word.CauseWord.{CauseWord}
use Rattle.tp_log.specs.declared.cause_word.CauseWord.TheVariants as reasons
use Rattle.tp_log.specs.Headings.{heading_of, reason_of}

-- ---- words

unfoldable pub goal_of : List ℕ → Option (Option (List ℕ))
goal_of word = if bytes_eq word (codes "*") then Some None else option_map (λ tray. Some tray) (name_of word)

-- ---- the words behind a heading

-- one field
unfoldable pub one_of : {A : Type 0} → (List ℕ → Option A) → List (List ℕ) → Option A
one_of a_of (a ∷ []) = a_of a
one_of a_of _ = None

-- three fields
unfoldable pub three_of : {A B C X : Type 0} → (List ℕ → Option A) → (List ℕ → Option B) → (List ℕ → Option C) → (A → B → C → X) → List (List ℕ) → Option X
three_of a_of b_of c_of make (a ∷ b ∷ c ∷ []) = do
  x ← a_of a
  y ← b_of b
  z ← c_of c
  Some (make x y z)
three_of a_of b_of c_of make _ = None

-- points and actions in turn
unfoldable pub turns_of : List (List ℕ) → Option (List ℕ × List (List ℕ))
turns_of [] = None
turns_of (point ∷ []) = number_of point >>= λ x. Some (x ∷ [], [])
turns_of (point ∷ act ∷ words) = do
  x ← number_of point
  n ← name_of act
  others ← turns_of words
  Some (x ∷ others.0, n ∷ others.1)

unfoldable pub plan_with : List ℕ → List ℕ → List (List ℕ) → Option Record
plan_with sheet place turns = do
  s ← sheet_of sheet
  l ← name_of place
  t ← turns_of turns
  if nat_lt 0 (length t.1) then Some (Plan s l t.0 t.1) else None

unfoldable pub plan_of : List (List ℕ) → Option Record
plan_of (sheet ∷ place ∷ turns) = plan_with sheet place turns
plan_of _ = None

unfoldable pub move_with : List ℕ → List (List ℕ) → Option Record
move_with sheet words = do
  s ← sheet_of sheet
  points ← each_read number_of words
  Some (Move s points)

-- a move has at least two points
unfoldable pub move_of : List (List ℕ) → Option Record
move_of (sheet ∷ points) = if nat_lt 1 (length points) then move_with sheet points else None
move_of _ = None

-- ---- causes

unfoldable pub bare_of : Cause → List (List ℕ) → Option Cause
bare_of cause [] = Some cause
bare_of cause _ = None

unfoldable pub cause_after : CauseWord → List (List ℕ) → Option Cause
cause_after reasons.Syntax words = bare_of causes.Syntax words
cause_after reasons.Tray words = option_map (λ n. causes.Tray n) (one_of name_of words)
cause_after reasons.Media words = option_map (λ n. causes.Media n) (one_of name_of words)
cause_after reasons.Named words = option_map (λ n. causes.Named n) (one_of name_of words)
cause_after reasons.Waiting words = bare_of causes.Waiting words
cause_after reasons.Back words = option_map (λ n. causes.Back n) (one_of number_of words)
cause_after reasons.End words = bare_of causes.End words
cause_after reasons.«Module» words = option_map (λ n. causes.«Module» n) (one_of name_of words)
cause_after reasons.Out words = option_map (λ n. causes.Out n) (one_of name_of words)
cause_after reasons.NotOn words = option_map (λ n. causes.NotOn n) (one_of name_of words)
cause_after reasons.Feeder words = option_map (λ n. causes.Feeder n) (one_of name_of words)
cause_after reasons.Endless words = option_map (λ n. causes.Endless n) (one_of name_of words)
cause_after reasons.Stock words = option_map (λ n. causes.Stock n) (one_of name_of words)

unfoldable pub cause_of : List (List ℕ) → Option Cause
cause_of [] = None
cause_of (first ∷ words) = do
  reason ← reason_of first
  cause_after reason words

-- ---- records

unfoldable pub record_after : Heading → List (List ℕ) → Option Record
record_after headings.Plan words = plan_of words
record_after headings.Move words = move_of words
record_after headings.Never words = two_of sheet_of goal_of (λ s g. Never s g) words
record_after headings.Budget words = three_of sheet_of goal_of number_of (λ s g n. Budget s g n) words
record_after headings.FullUp words = option_map (λ s. FullUp s) (one_of sheet_of words)
record_after headings.Release words = five_of sheet_of number_of name_of number_of number_of (λ s i a p q. Release s i a p q) words
record_after headings.Done words = three_of sheet_of name_of number_of (λ s l n. Done s l n) words
record_after headings.Lost words = option_map (λ s. Lost s) (one_of sheet_of words)
record_after headings.Recall words = two_of sheet_of number_of (λ s i. Recall s i) words
record_after headings.Withdraw words = option_map (λ s. Withdraw s) (one_of sheet_of words)
record_after headings.Cut words = option_map (λ s. Cut s) (one_of sheet_of words)
record_after headings.Purge words = option_map (λ s. Purge s) (one_of sheet_of words)
record_after headings.Again words = option_map (λ s. Again s) (one_of sheet_of words)
record_after headings.Stuck words = two_of sheet_of name_of (λ s m. Stuck s m) words
record_after headings.Broken words = option_map (λ j. Broken j) (one_of name_of words)
record_after headings.Drop words = option_map (λ s. Drop s) (one_of sheet_of words)
record_after headings.Refused words = option_map (λ c. Refused c) (cause_of words)

unfoldable pub record_of : List (List ℕ) → Option Record
record_of [] = None
record_of (first ∷ words) = do
  heading ← heading_of first
  record_after heading words
