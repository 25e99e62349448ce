-- What a table's answer says of its text.
use Rattle.std.proofs.Common.{◌≡◌, inl, inr, ℕ, List, Option, Some, None, ap, sym, ◌∙◌}
use Rattle.toml.specs.Data.{Members}
use Rattle.tp_machine_text.specs.Texts.{IsToml}
use Rattle.tp_machine_text.proofs.OneTable.{sound}
use Rattle.tp_why.specs.Answers.{told, TellsMachine}
use Rattle.tp_machine_text.specs.MachineSlips.{first_slip}
use Rattle.tp_machine_text.specs.declared.slip.Slip.{Slip}
use Rattle.tp_machine_text.proofs.Clear.{rule_of}
use Rattle.tp_machine_text.proofs.RuleLaw.{broken_rule}

pub tells : (text answer : List ℕ) (t : Members) → IsToml text t → (s : Option Slip) → first_slip t ≡ s → answer ≡ told t s → TellsMachine text answer
tells text answer t toml None none same = inr (inl (record { kept = sound text t toml (sym (broken_rule t) ∙ ap rule_of none); answer_is = same }))
tells text answer t toml (Some s) some same = inr (inr (record {
  table = t;
  toml = toml;
  slip = s;
  first = some;
  rule = sym (broken_rule t) ∙ ap rule_of some;
  answer_is = same;
}))
