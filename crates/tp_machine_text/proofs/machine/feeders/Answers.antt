use Rattle.std.proofs.Common.{◌≡◌, pos, true, Some, ap, sym, subst, ◌∙◌}
use Rattle.std.specs.Prelude.{codes}
use Rattle.toml.specs.Data.{get_member}
use Rattle.toml.specs.View.{table_view}
use Rattle.std.specs.List.{list_all}
use Rattle.tp_machine_text.specs.Words.{table_in, members_of, data_of, is_whole}
use Rattle.tp_machine_text.proofs.KeptFacts.{few_locations, stocks_whole}
use Rattle.tp_machine_text.proofs.Given.{few_seen, feeders_given, media_given}
use Rattle.tp_machine_text.proofs.machine.feeders.Goals as goal

pub feeders_of-requires : goal.feeders_of-requires
feeders_of-requires c =
    let t = table_view c.args.table.now in
    let ms = table_view c.in-Some.feeders.now in
    let some : Some ms ≡ table_in (get_member (codes "feeders") t) = c.in-Some.ensures ∙ ap table_in c.value_at.ensures in
    record {
      few = few_seen _ _ 256 c.values_at.ensures (few_locations t c.requires);
      known = feeders_given t c.requires ms _ some c.values_at.ensures;
      named = media_given t c.requires ms some;
      stocked = subst (λ o. list_all (is_whole (pos 0) (pos 1000000)) (data_of (members_of o)) ≡ true) (sym (c.table_in-stocks.ensures ∙ ap table_in c.value_at-in-Some.ensures)) (stocks_whole t c.requires);
    }
