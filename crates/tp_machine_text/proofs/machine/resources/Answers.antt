use Rattle.std.proofs.Common.{◌≡◌, pos, true, Some, ap, sym, subst, ◌∙◌}
use Rattle.std.specs.Prelude.{codes}
use Rattle.toml.specs.Data.{get_member}
use Rattle.std.specs.List.{list_all}
use Rattle.toml.specs.View.{table_view}
use Rattle.tp_machine_text.specs.Words.{table_in, members_of, data_of, is_whole}
use Rattle.tp_machine_text.specs.Keys.{gaps}
use Rattle.tp_machine_text.proofs.AmountFacts.{all_wider}
use Rattle.tp_machine_text.proofs.KeptFacts.{few_modules, gaps_whole}
use Rattle.tp_machine_text.proofs.Given.{few_seen, resources_given}
use Rattle.tp_machine_text.proofs.machine.resources.Goals as goal

pub resources_of-requires : goal.resources_of-requires
resources_of-requires c =
    let t = table_view c.args.table.now in
    let ms = table_view c.in-Some.resources.now in
    let some : Some ms ≡ table_in (get_member (codes "resources") t) = c.in-Some.ensures ∙ ap table_in c.value_at.ensures in
    let given = resources_given t c.requires ms some in
    record {
      few = few_seen _ _ 64 c.values_at.ensures (few_modules t c.requires);
      counted = given.0;
      named = given.1;
      spaced = subst (λ o. list_all (is_whole (pos 0) (pos 1000000)) (data_of (members_of o)) ≡ true) (sym (c.table_in-gaps.ensures ∙ ap table_in c.value_at-in-Some.ensures)) (all_wider (data_of (gaps t)) (gaps_whole t c.requires));
    }
