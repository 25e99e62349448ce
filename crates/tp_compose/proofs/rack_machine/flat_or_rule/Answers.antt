use Rattle.std.proofs.Common.{◌≡◌, Some, None, sym, ◌∙◌}
use Rattle.toml.specs.View.{table_view}
use Rattle.tp_machine_text.specs.Order.{first_from}
use Rattle.tp_compose.specs.TypeRules.{type_rules}
use Rattle.tp_compose.specs.EndRules.{end_rules}
use Rattle.tp_compose.proofs.OneRack.{told_late, flat_made}
use Rattle.tp_compose.proofs.rack_machine.flat_or_rule.Goals as goal

pub returns-in-Some-2-clause-rule : goal.returns-in-Some-2-clause-rule
returns-in-Some-2-clause-rule c =
    let r = table_view c.args.table.now in
    let own = table_view c.in_ok-own.own in
    let firsts = table_view c.in_ok-firsts.firsts in
    let types : first_from 1 (type_rules (table_view c.args.table.now)) ≡ None = cc in
    let is : c.in_ok-rule.field-0 ≡ Some c.in-Some-2.rule = cc in
    let told : first_from 8 (end_rules (table_view c.in_ok-own.own) (table_view c.in_ok-firsts.firsts) (table_view c.args.table.now)) ≡ Some c.in-Some-2.rule = sym c.in_ok-rule.ensures ∙ is in
    told_late own firsts r c.in-Some-2.rule c.in_ok-own.ensures c.in_ok-firsts.ensures types told

pub returns-clause-flat : goal.returns-clause-flat
returns-clause-flat c =
    let r = table_view c.args.table.now in
    let own = table_view c.in_ok-own.own in
    let firsts = table_view c.in_ok-firsts.firsts in
    let types : first_from 1 (type_rules (table_view c.args.table.now)) ≡ None = cc in
    let is : c.in_ok-rule.field-0 ≡ None = cc in
    let ends : first_from 8 (end_rules (table_view c.in_ok-own.own) (table_view c.in_ok-firsts.firsts) (table_view c.args.table.now)) ≡ None = sym c.in_ok-rule.ensures ∙ is in
    flat_made own firsts r (table_view c.in_ok-flat_of.field-0) c.in_ok-own.ensures c.in_ok-firsts.ensures types ends c.in_ok-flat_of.ensures
