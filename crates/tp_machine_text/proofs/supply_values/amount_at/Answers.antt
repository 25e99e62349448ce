use Rattle.std.proofs.Common.{◌≡◌, pos, true, option_map, subst}
use Rattle.std.specs.List.{list_all}
use Rattle.toml.specs.View.{table_view}
use Rattle.tp_machine_text.specs.Words.{is_whole, data_of, members_of}
use Rattle.tp_machine_text.proofs.AmountFacts.{at_key}
use Rattle.tp_machine_text.proofs.supply_values.amount_at.Goals as goal

pub amount_in-requires : goal.amount_in-requires
amount_in-requires c =
    at_key (is_whole (pos 0) (pos 1000000)) c.args.key.now (table_view c.in-Some.amounts.now)
    (subst (λ o. list_all (is_whole (pos 0) (pos 1000000)) (data_of (members_of (option_map (λ m. table_view m.now) o))) ≡ true) c.in-Some.is c.requires)
