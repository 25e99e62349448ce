-- The rules on actions, but for their holds. `is_..` and `has_..` of one value speak of one action.
use Rattle.std.specs.Prelude.{ℕ, pos, Bool, not, ◌&&◌, List, [], ◌∷◌, length, map, codes, int_le}
use Rattle.std.specs.List.{list_all}
use Rattle.toml.specs.Data.{Data, Members, get, as_table}
use Rattle.tp_machine.specs.Limits.{longest, most_actions}
use Rattle.tp_machine_text.specs.Words.{keys_of, members_of, elements_in, text_at, whole_at, is_there, is_fit, is_array, is_table, is_truth_value, is_name, is_among, is_one_of, is_count, are_from, are_different}
use Rattle.tp_machine_text.specs.Keys.{action_keys, kinds, locations, modules, trays, purges, feeders, actions}

-- rule 14: `actions` is there and is an array of 1 to 512 tables
abbrev pub has_actions : Members → Bool
has_actions t = is_count 1 most_actions (length (actions t)) && list_all is_table (actions t)

abbrev pub are_keys_among : List (List ℕ) → Data → Bool
are_keys_among known d = list_all (is_among known) (keys_of (members_of (as_table d)))

-- rule 15: every key of an action is known
abbrev pub has_known_action_keys : Members → Bool
has_known_action_keys t = list_all (are_keys_among action_keys) (actions t)

-- each action has a `name` that is a name, and they differ
unfoldable pub is_named : Data → Bool
is_named a = is_there is_name (get (codes "name") a)

-- rule 16: each action has a name, and the names differ
abbrev pub has_action_names : Members → Bool
has_action_names t = list_all is_named (actions t) && are_different (map (text_at (codes "name")) (actions t))

-- each action has a `module` that is a module
unfoldable pub is_of_module : List (List ℕ) → Data → Bool
is_of_module modules a = is_there (is_one_of modules) (get (codes "module") a)

-- rule 17: each action is of a module
abbrev pub has_action_modules : Members → Bool
has_action_modules t = list_all (is_of_module (modules t)) (actions t)

-- each action has `from` and `to` that are locations
unfoldable pub has_ends : List (List ℕ) → Data → Bool
has_ends locations a = is_there (is_one_of locations) (get (codes "from") a) && is_there (is_one_of locations) (get (codes "to") a)

-- rule 18: each action leads from a location to a location
abbrev pub has_action_ends : Members → Bool
has_action_ends t = list_all (has_ends (locations t)) (actions t)

-- no `from` is a tray or purge tray, and no `to` is a feeder
unfoldable pub is_way : List (List ℕ) → List (List ℕ) → List (List ℕ) → Data → Bool
is_way trays purges feeders a =
    not (is_among trays (text_at (codes "from") a)) && not (is_among purges (text_at (codes "from") a))
    && not (is_among feeders (text_at (codes "to") a))

-- rule 19: no action leads from a tray or to a feeder
abbrev pub has_ways : Members → Bool
has_ways t = list_all (is_way (trays t) (purges t) (feeders t)) (actions t)

-- each action has whole numbers `least` and `most` with 1 <= least <= most <= 4,096
unfoldable pub has_durations : Data → Bool
has_durations a =
    int_le (pos 1) (whole_at (codes "least") a) && int_le (whole_at (codes "least") a) (whole_at (codes "most") a)
    && int_le (whole_at (codes "most") a) (pos longest)

-- rule 20: each action has a least and a most duration
abbrev pub has_action_durations : Members → Bool
has_action_durations t = list_all has_durations (actions t)

-- `prints` is an array of different words among mono and colour, and `flip` is a truth value, where they are there
unfoldable pub has_prints : Data → Bool
has_prints a =
    is_fit is_array (get (codes "prints") a) && are_from kinds (elements_in (get (codes "prints") a))
    && is_fit is_truth_value (get (codes "flip") a)

-- rule 21: what an action prints is known, and whether it flips
abbrev pub has_action_prints : Members → Bool
has_action_prints t = list_all has_prints (actions t)

abbrev pub action_rules : Members → List Bool
action_rules t =
    has_actions t ∷ has_known_action_keys t ∷ has_action_names t ∷ has_action_modules t ∷ has_action_ends t ∷ has_ways t
    ∷ has_action_durations t ∷ has_action_prints t ∷ []
