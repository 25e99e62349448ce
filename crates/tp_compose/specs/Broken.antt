-- The first rule that a rack text breaks.
use Rattle.std.specs.Prelude.{ℕ, Option}
use Rattle.toml.specs.Data.{Members}
use Rattle.tp_machine_text.specs.Order.{first_from, or_else}
use Rattle.tp_compose.specs.Racks.{own_names, first_ends}
use Rattle.tp_compose.specs.TypeRules.{type_rules}
use Rattle.tp_compose.specs.EndRules.{end_rules}

unfoldable pub first_broken : Members → Option ℕ
first_broken r = or_else (first_from 1 (type_rules r)) (first_from 8 (end_rules (own_names r) (first_ends r) r))
