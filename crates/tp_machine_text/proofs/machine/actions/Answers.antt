use Rattle.std.proofs.Common.{◌≡◌, ◌≤◌, true, length, option_map, ap, sym, subst, ◌∙◌}
use Rattle.std.specs.Prelude.{codes}
use Rattle.std.specs.List.{list_all}
use Rattle.toml.specs.Data.{get_member}
use Rattle.toml.specs.View.{table_view}
use Rattle.tp_machine_text.specs.Words.{table_in, members_of, keys_of}
use Rattle.tp_machine_text.specs.ActionRules.{is_named, has_durations}
use Rattle.tp_machine_text.proofs.KeptFacts.{few_locations, few_modules, few_resources, few_actions, actions_named, holds_kept}
use Rattle.tp_machine_text.proofs.Given.{few_seen}
use Rattle.tp_machine_text.proofs.machine.actions.Goals as goal

pub actions_of-requires : goal.actions_of-requires
actions_of-requires c =
    let t = table_view c.args.table.now in
    let k = c.requires in
    let seen = c.values_at-3.ensures in
    let members : option_map (λ m. table_view m.now) c.table_in.result ≡ table_in (get_member (codes "resources") t) = c.table_in.ensures ∙ ap table_in c.value_at.ensures in
    record {
      few_locations = few_seen _ _ 256 c.values_at.ensures (few_locations t k);
      few_modules = few_seen _ _ 64 c.values_at-2.ensures (few_modules t k);
      few = subst (λ o. length (keys_of (members_of o)) ≤ 256) (sym members) (few_resources t k);
      counted = few_seen _ _ 512 seen (few_actions t k);
      named = subst (λ ds. list_all is_named ds ≡ true) (sym seen) (actions_named t k);
      lasting = subst (λ ds. list_all has_durations ds ≡ true) (sym seen) k.durations;
      held = rw (members, seen) (holds_kept t k);
    }
