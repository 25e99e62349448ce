-- The text of the table that is printed for a machine is a text of the machine.
use Rattle.std.proofs.Common.{◌≡◌, ℕ, ◌≤◌, false, List, Some, ap, subst, ◌∙◌}
use Rattle.std.specs.Prelude.{IsUtf8}
use Rattle.toml.specs.Data.{Members, members_depth}
use Rattle.toml.specs.Parse.{parse_document}
use Rattle.toml.specs.Text.{IsDocumentText}
use Rattle.tp_machine.specs.declared.machine.Machine.{Machine}
use Rattle.tp_machine_text.specs.Printed.{table_of}
use Rattle.tp_machine_text.specs.Texts.{IsMachineText, IsPrintedText, IsToml}
use Rattle.tp_machine_text.proofs.Depth.{table_depth}
use Rattle.tp_machine_text.proofs.PrintedBack.{kept_back}
use Rattle.tp_machine_text.proofs.PrintedRules.{none_broken, rules_printed}

module _ (m : Machine) (t : Members) (bytes items : List ℕ) (made : t ≡ table_of m) (utf8 : IsUtf8 bytes) (reads : members_depth t ≤ 80 → parse_document bytes ≡ Some t) where
  back : IsToml bytes (table_of m)
  back = record { utf8 = utf8; parses = reads (rw made (table_depth m)) ∙ ap Some made }

  pub reads-back : items ≡ bytes → IsMachineText items m
  reads-back same = rw same (table_of m, back, none_broken m, kept_back m (rules_printed m))

  pub printed : IsDocumentText false t bytes → items ≡ bytes → IsPrintedText items m
  printed document same = rw same (record { document = subst (λ t. IsDocumentText false t bytes) made document; toml = back })
