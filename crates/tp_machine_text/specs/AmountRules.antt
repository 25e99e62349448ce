-- The rules on gaps and stock, which texts of format 2 may have.
use Rattle.std.specs.Prelude.{ℕ, ℤ, pos, Bool, not, is_some, ◌&&◌, ◌||◌, List, [], ◌∷◌, Option, codes}
use Rattle.std.specs.List.{list_all}
use Rattle.toml.specs.Data.{Data, Members, get_member}
use Rattle.tp_machine.specs.Limits.{longest, most_stock}
use Rattle.tp_machine_text.specs.Words.{keys_of, data_of, members_of, table_in, is_fit, is_table, is_whole, is_among}
use Rattle.tp_machine_text.specs.Keys.{resources, feeders}
use Rattle.tp_machine_text.specs.TopRules.{is_second}

-- a table whose keys are among these names and whose values are whole numbers up to this one
abbrev pub are_amounts : List (List ℕ) → ℤ → Members → Bool
are_amounts names most ms = list_all (is_among names) (keys_of ms) && list_all (is_whole (pos 0) most) (data_of ms)

-- the same of a value, where it is there
abbrev pub is_amount_table : List (List ℕ) → ℤ → Option Data → Bool
is_amount_table names most value = is_fit is_table value && are_amounts names most (members_of (table_in value))

-- the same of the value at a key, which is there in a text of format 2 alone
abbrev pub has_amounts : List ℕ → List (List ℕ) → ℤ → Members → Bool
has_amounts key names most t = (is_second t || not (is_some (get_member key t))) && is_amount_table names most (get_member key t)

-- rule 25: `gaps`, where it is there, stands in a text of format 2 and is a table from resources to whole numbers from 0 to 4,096
abbrev pub has_gaps : Members → Bool
has_gaps t = has_amounts (codes "gaps") (resources t) (pos longest) t

-- rule 26: `stock`, where it is there, stands in a text of format 2 and is a table from feeders to whole numbers from 0 to 1,000,000
abbrev pub has_stock : Members → Bool
has_stock t = has_amounts (codes "stock") (feeders t) (pos most_stock) t

abbrev pub amount_rules : Members → List Bool
amount_rules t = has_gaps t ∷ has_stock t ∷ []
