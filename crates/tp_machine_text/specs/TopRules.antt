-- The rules on the keys, the format and the three numbers, and on locations, modules, trays and purge trays.
use Rattle.std.specs.Prelude.{pos, Bool, ◌&&◌, nat_le, List, [], ◌∷◌, length, codes}
use Rattle.std.specs.List.{list_all}
use Rattle.toml.specs.Data.{Members, get_member}
use Rattle.tp_machine.specs.Limits.{longest, most_budget, most_locations, most_modules, most_window}
use Rattle.tp_machine_text.specs.Words.{keys_of, elements_at, is_there, is_fit, is_array, is_whole, is_among, is_apart, are_names, are_from}
use Rattle.tp_machine_text.specs.Keys.{top_keys, locations, trays}

-- rule 1: every key of the top table is known
abbrev pub has_known_keys : Members → Bool
has_known_keys t = list_all (is_among top_keys) (keys_of t)

-- rule 2: `format` is there and is the whole number 1 or 2
abbrev pub has_format : Members → Bool
has_format t = is_there (is_whole (pos 1) (pos 2)) (get_member (codes "format") t)

-- the text is of format 2
abbrev pub is_second : Members → Bool
is_second t = is_there (is_whole (pos 2) (pos 2)) (get_member (codes "format") t)

-- rule 3: `lead`, where it is there, is a whole number from 0 to 4,096
abbrev pub has_lead : Members → Bool
has_lead t = is_fit (is_whole (pos 0) (pos longest)) (get_member (codes "lead") t)

-- rule 4: `window`, where it is there, is a whole number from 1 to 32,768
abbrev pub has_window : Members → Bool
has_window t = is_fit (is_whole (pos 1) (pos most_window)) (get_member (codes "window") t)

-- rule 5: `budget`, where it is there, is a whole number from 1 to 200,000
abbrev pub has_budget : Members → Bool
has_budget t = is_fit (is_whole (pos 1) (pos most_budget)) (get_member (codes "budget") t)

-- rule 6: `locations` is there and is an array of 1 to 256 different names
abbrev pub has_locations : Members → Bool
has_locations t = are_names most_locations (elements_at (codes "locations") t)

-- rule 7: `modules` is there and is an array of 1 to 64 different names
abbrev pub has_modules : Members → Bool
has_modules t = are_names most_modules (elements_at (codes "modules") t)

-- rule 8: `trays` is there and is an array of at least one location, all different
abbrev pub has_trays : Members → Bool
has_trays t = nat_le 1 (length (elements_at (codes "trays") t)) && are_from (locations t) (elements_at (codes "trays") t)

-- rule 9: `purge`, where it is there, is an array of different locations that are no trays
abbrev pub has_purges : Members → Bool
has_purges t =
    is_fit is_array (get_member (codes "purge") t) && are_from (locations t) (elements_at (codes "purge") t)
    && list_all (is_apart (trays t)) (elements_at (codes "purge") t)

abbrev pub number_rules : Members → List Bool
number_rules t = has_known_keys t ∷ has_format t ∷ has_lead t ∷ has_window t ∷ has_budget t ∷ []

abbrev pub location_rules : Members → List Bool
location_rules t = has_locations t ∷ has_modules t ∷ has_trays t ∷ has_purges t ∷ []
