-- The rule of the first slip is the first one that is broken.
use Rattle.std.proofs.Common.{ap, sym, ◌∙◌}
use Rattle.toml.specs.View.{table_view}
use Rattle.tp_machine_text.proofs.Clear.{rule_of}
use Rattle.tp_machine_text.proofs.RuleLaw.{broken_rule}
use Rattle.tp_machine_text.proofs.rules.first_broken.Goals as goal

pub returns-in-Some : goal.returns-in-Some
returns-in-Some c = sym (ap rule_of c.in-Some.is) ∙ ap rule_of c.first_slip.ensures ∙ broken_rule (table_view c.args.table.now)

pub returns-in-None : goal.returns-in-None
returns-in-None c = sym (ap rule_of c.in-None.is) ∙ ap rule_of c.first_slip.ensures ∙ broken_rule (table_view c.args.table.now)
