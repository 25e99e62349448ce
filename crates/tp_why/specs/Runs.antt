-- What the words ask for, what a run wrote, and when each status comes.
use Rattle.std.specs.Prelude.{◌≡◌, ℕ, ◌<◌, ◌≤◌, Bool, true, false, ◌==◌, List, [], ◌∷◌, ◌++◌, length, codes, Option, Some, None, IfSome, if◌then◌else◌}
use Rattle.std.specs.Option.{IsSomeAnd}
use Rattle.std.specs.Str.{bytes_eq}
use Rattle.tp_outside.specs.Outside.{Files, file_at}
use Rattle.tp_why.specs.Answers.{TellsMachine}
use Rattle.tp_why.specs.declared.top.WhyMode.{WhyMode}
use Rattle.tp_why.specs.declared.top.WhyMode.TheVariants as mode
use Rattle.tp_why.specs.declared.why_status.WhyStatus.{WhyStatus}
use Rattle.tp_why.specs.declared.why_status.WhyStatus.TheVariants as status

-- ---- the words

-- a word of at least two bytes that begins with `-`
abbrev pub is_option : List ℕ → Bool
is_option (b ∷ c ∷ word) = b == 45
is_option _ = false

abbrev pub mode_of : List ℕ → Option WhyMode
mode_of word = if bytes_eq word (codes "machine") then Some mode.Machine else None

-- the text that the words name, and what it is to be
abbrev pub asked_of : Option WhyMode → List ℕ → Option (WhyMode × List ℕ)
asked_of None name = None
asked_of (Some m) name = if is_option name then None else Some (m, name)

-- a mode and a name that is no option
abbrev pub asked : List (List ℕ) → Option (WhyMode × List ℕ)
asked (mode ∷ name ∷ []) = asked_of (mode_of mode) name
asked _ = None

-- ---- the run

abbrev pub most_text : ℕ
most_text = 1048576

-- the answer to a text of the mode
abbrev pub Tells : WhyMode → List ℕ → List ℕ → Type 0
Tells mode.Machine text answer = TellsMachine text answer

-- a text of at most 1,048,576 bytes, which is the one of this name where the shelf tells it, was answered
pub record IsTold (known : Option Files) (m : WhyMode) (name answer : List ℕ) : Type 0 where
  pub text : List ℕ
  pub is_known : IfSome known (λ files. file_at files name ≡ Some text)
  pub fits : length text ≤ most_text
  pub tells : Tells m text answer

-- the text that the words name was answered, and the sink took the answer
pub record IsAnswered (words : List (List ℕ)) (known : Option Files) (taken taken' : Option (List ℕ)) : Type 0 where
  pub mode : WhyMode
  pub name : List ℕ
  pub named : asked words ≡ Some (mode, name)
  pub answer : List ℕ
  pub told : IsTold known mode name answer
  pub written : IfSome taken (λ before. taken' ≡ Some (before ++ answer))

-- the words name a text that has more bytes
abbrev pub NamesLongText : List (List ℕ) → Option Files → Type 0
NamesLongText words known = IsSomeAnd (asked words) (λ a. IfSome known (λ files. IsSomeAnd (file_at files a.1) (λ text. most_text < length text)))

-- something may have been written
abbrev pub may_have_written : WhyStatus → Bool
may_have_written status.Done = true
may_have_written status.Sink = true
may_have_written _ = false
