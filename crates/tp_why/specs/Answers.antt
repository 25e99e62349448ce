-- What is answered to a text.
use Rattle.std.specs.Prelude.{◌≡◌, ◌⊎◌, ℕ, ◌≤◌, List, [], ◌∷◌, ◌++◌, take, length, codes, Option, Some, None, suc, if◌then◌else◌, ◌==◌, ◌&&◌, nat_le}
use Rattle.std.specs.Fmt.{decimal}
use Rattle.toml.specs.Data.{Members}
use Rattle.tp_machine_text.specs.Broken.{first_broken}
use Rattle.tp_machine_text.specs.Texts.{IsToml, IsNotToml, IsSound}
use Rattle.tp_machine_text.specs.MachineSlips.{first_slip}
use Rattle.tp_why.specs.Sentences.{rule_text}
use Rattle.tp_machine_text.specs.declared.slip.Slip.{Slip}

-- the line and the column, both from 1, to which the byte leads; a column counts characters
abbrev pub step : ℕ × ℕ → ℕ → ℕ × ℕ
step at byte = if byte == 10 then (suc at.0, 1) else (if nat_le 128 byte && nat_le byte 191 then at else (at.0, suc at.1))

abbrev pub place_from : ℕ × ℕ → List ℕ → ℕ × ℕ
place_from at [] = at
place_from at (byte ∷ bytes) = place_from (step at byte) bytes

abbrev pub place_after : List ℕ → ℕ × ℕ
place_after bytes = place_from (1, 1) bytes

-- the answer with a place and a cause
abbrev pub position_text : ℕ → ℕ → List ℕ
position_text line column = (codes "not TOML: line " ++ decimal line) ++ (codes ", column " ++ decimal column)

abbrev pub cause_text : List ℕ → List ℕ
cause_text cause = codes ": " ++ cause ++ codes "\n"

abbrev pub place_text : ℕ × ℕ → List ℕ → List ℕ
place_text at cause = position_text at.0 at.1 ++ cause_text cause

abbrev pub not_toml_text : List ℕ → List ℕ → List ℕ
not_toml_text before cause = place_text (place_after before) cause

-- an answer that names a place of the text, at which it can't be read
pub record NamesPlace (text answer : List ℕ) : Type 0 where
  pub before : ℕ
  pub within : before ≤ length text
  pub cause : List ℕ
  pub answer_is : answer ≡ not_toml_text (take before text) cause

-- the answer on a table: no rule is broken, or the first place of the first one that is
abbrev pub told : Members → Option Slip → List ℕ
told t None = codes "no rule is broken\n"
told t (Some s) = rule_text t s ++ codes "\n"

-- the text is not TOML, and the answer names a place of it
pub record TellsNotToml (text answer : List ℕ) : Type 0 where
  pub is_not_toml : IsNotToml text
  pub place : NamesPlace text answer

-- the text keeps all rules, and the answer says so
pub record TellsKept (text answer : List ℕ) : Type 0 where
  pub kept : IsSound text
  pub answer_is : answer ≡ codes "no rule is broken\n"

-- the text breaks a rule, and the answer names the first one that it breaks with its first place
pub record TellsRule (text answer : List ℕ) : Type 0 where
  pub table : Members
  pub toml : IsToml text table
  pub slip : Slip
  pub first : first_slip table ≡ Some slip
  pub rule : first_broken table ≡ Some slip.rule
  pub answer_is : answer ≡ rule_text table slip ++ codes "\n"

abbrev pub TellsMachine : List ℕ → List ℕ → Type 0
TellsMachine text answer = TellsNotToml text answer ⊎ (TellsKept text answer ⊎ TellsRule text answer)
