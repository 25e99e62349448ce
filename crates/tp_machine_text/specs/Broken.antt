-- The first broken rule of a table.
use Rattle.std.specs.Prelude.{ℕ, Option}
use Rattle.toml.specs.Data.{Members}
use Rattle.tp_machine_text.specs.Order.{first_from, or_else}
use Rattle.tp_machine_text.specs.TopRules.{number_rules, location_rules}
use Rattle.tp_machine_text.specs.SupplyRules.{supply_rules}
use Rattle.tp_machine_text.specs.ActionRules.{action_rules}
use Rattle.tp_machine_text.specs.HoldRules.{hold_rules}
use Rattle.tp_machine_text.specs.AmountRules.{amount_rules}

abbrev pub first_broken : Members → Option ℕ
first_broken t =
    or_else (first_from 1 (number_rules t))
    (or_else (first_from 6 (location_rules t))
    (or_else (first_from 10 (supply_rules t))
    (or_else (first_from 14 (action_rules t))
    (or_else (first_from 22 (hold_rules t)) (first_from 25 (amount_rules t))))))
