use Rattle.std.proofs.Common.{not, ◌∙◌}
use Rattle.toml.specs.View.{table_view}
use Rattle.tp_machine_text.specs.Wants.{is_noun}
use Rattle.tp_machine_text.proofs.Found.{keys_found}
use Rattle.tp_machine_text.proofs.looks.first_other.Goals as goal

pub returns : goal.returns
returns c = c.position_of_other.ensures ∙ keys_found (λ k. not (is_noun (table_view c.args.table.now) c.args.noun k)) c.args.members.now
