-- The rules on feeders and resources.
use Rattle.std.specs.Prelude.{ℕ, Bool, not, ◌&&◌, nat_le, List, [], ◌∷◌, length, codes}
use Rattle.std.specs.List.{list_all}
use Rattle.toml.specs.Data.{Members, get_member}
use Rattle.tp_base.specs.NameText.{is_name_text}
use Rattle.tp_machine.specs.Limits.{most_resources}
use Rattle.tp_machine_text.specs.Words.{data_of, members_at, is_fit, is_table, is_name, is_among, is_one_of}
use Rattle.tp_machine_text.specs.Keys.{locations, modules, trays, purges, feeders, resources}

-- a location that is neither tray nor purge tray
abbrev pub is_open_location : List (List ℕ) → List (List ℕ) → List (List ℕ) → List ℕ → Bool
is_open_location locations trays purges text = is_among locations text && not (is_among trays text) && not (is_among purges text)

-- rule 10: `feeders` is there and is a table with at least one key, each a location that is neither tray nor purge tray
abbrev pub has_feeders : Members → Bool
has_feeders t = nat_le 1 (length (feeders t)) && list_all (is_open_location (locations t) (trays t) (purges t)) (feeders t)

-- rule 11: each value of `feeders` is a name
abbrev pub has_media : Members → Bool
has_media t = list_all is_name (data_of (members_at (codes "feeders") t))

-- rule 12: `resources`, where it is there, is a table of at most 256 keys, each a name
abbrev pub has_resources : Members → Bool
has_resources t = is_fit is_table (get_member (codes "resources") t) && nat_le (length (resources t)) most_resources && list_all is_name_text (resources t)

-- rule 13: each value of `resources` is a module
abbrev pub has_resource_modules : Members → Bool
has_resource_modules t = list_all (is_one_of (modules t)) (data_of (members_at (codes "resources") t))

abbrev pub supply_rules : Members → List Bool
supply_rules t = has_feeders t ∷ has_media t ∷ has_resources t ∷ has_resource_modules t ∷ []
