-- The rules on the keys, the format, the types and the parts of a rack text.
use Rattle.std.specs.Prelude.{ℕ, pos, Bool, false, not, is_some, ◌&&◌, ◌||◌, ◌==◌, nat_le, List, [], ◌∷◌, length, map, codes}
use Rattle.std.specs.List.{list_all}
use Rattle.tp_base.specs.NameText.{is_between}
use Rattle.toml.specs.Data.{Data, string, Members, get_member, get}
use Rattle.tp_machine.specs.Limits.{most_act_holds, most_actions, most_modules, most_resources}
use Rattle.tp_machine_text.specs.Words.{keys_of, data_of, elements_in, text_of, text_at, is_there, is_fit, is_array, is_table, is_whole, is_among, is_one_of, is_count, are_different}
use Rattle.tp_machine_text.specs.ActionRules.{are_keys_among}
use Rattle.tp_compose.specs.Racks.{rack_keys, type_keys, types, parts, ports, type_resources, type_actions, most_ports}

-- 1 to 15 letters, digits or `_`
abbrev pub is_short_byte : ℕ → Bool
is_short_byte byte = is_between 65 90 byte || is_between 97 122 byte || is_between 48 57 byte || (byte == 95)

abbrev pub is_short_text : List ℕ → Bool
is_short_text text = nat_le 1 (length text) && nat_le (length text) 15 && list_all is_short_byte text

abbrev pub is_short : Data → Bool
is_short (string text) = is_short_text text
is_short _ = false

-- rule 1: every key of the top table is known
abbrev pub has_known_keys : Members → Bool
has_known_keys r = list_all (is_among rack_keys) (keys_of r)

-- rule 2: `format` is there and is the whole number 1
abbrev pub has_format : Members → Bool
has_format r = is_there (is_whole (pos 1) (pos 1)) (get_member (codes "format") r)

-- a table with `ports`, `actions` and perhaps `resources`
unfoldable pub is_type : Data → Bool
is_type t = is_table t && are_keys_among type_keys t && is_some (get (codes "ports") t) && is_some (get (codes "actions") t)

-- rule 3: `types` is there and is a table with at least one key, each short, each value a type
abbrev pub has_types : Members → Bool
has_types r = nat_le 1 (length (keys_of (types r))) && list_all is_short_text (keys_of (types r)) && list_all is_type (data_of (types r))

-- so many different short texts
abbrev pub are_shorts : ℕ → ℕ → List Data → Bool
are_shorts least most ds = is_count least most (length ds) && list_all is_short ds && are_different (map text_of ds)

-- `ports` is an array of 1 to 256 different short texts, and `resources`, where it is there, one of at most 256
unfoldable pub has_ports : Data → Bool
has_ports t =
    are_shorts 1 most_ports (elements_in (get (codes "ports") t))
    && is_fit is_array (get (codes "resources") t) && are_shorts 0 most_resources (elements_in (get (codes "resources") t))

-- rule 4: each type has its ports, and perhaps resources
abbrev pub have_ports : Members → Bool
have_ports r = list_all has_ports (data_of (types r))

-- a table without `module`, with a short `name`, and with `from` and `to` among the ports
unfoldable pub is_deed : List (List ℕ) → Data → Bool
is_deed ports a =
    is_table a && not (is_some (get (codes "module") a)) && is_there is_short (get (codes "name") a)
    && is_there (is_one_of ports) (get (codes "from") a) && is_there (is_one_of ports) (get (codes "to") a)

-- `actions` is an array of at most 512 such tables, and their names differ within the type
unfoldable pub has_deeds : Data → Bool
has_deeds t =
    is_there is_array (get (codes "actions") t) && nat_le (length (type_actions t)) most_actions
    && list_all (is_deed (ports t)) (type_actions t) && are_different (map (text_at (codes "name")) (type_actions t))

-- rule 5: each type has its actions
abbrev pub have_deeds : Members → Bool
have_deeds r = list_all has_deeds (data_of (types r))

-- a table with a resource of the type
unfoldable pub is_grip : List (List ℕ) → Data → Bool
is_grip resources h = is_table h && is_there (is_one_of resources) (get (codes "resource") h)

-- `holds`, where it is there, is an array of at most 4 such tables
unfoldable pub has_grips : List (List ℕ) → Data → Bool
has_grips resources a =
    is_fit is_array (get (codes "holds") a) && nat_le (length (elements_in (get (codes "holds") a))) most_act_holds
    && list_all (is_grip resources) (elements_in (get (codes "holds") a))

unfoldable pub has_all_grips : Data → Bool
has_all_grips t = list_all (has_grips (type_resources t)) (type_actions t)

-- rule 6: the holds of each type name resources of it
abbrev pub have_grips : Members → Bool
have_grips r = list_all has_all_grips (data_of (types r))

-- rule 7: `parts` is there and is a table of 1 to 64 keys, each short, each value a type
abbrev pub has_parts : Members → Bool
has_parts r =
    is_count 1 most_modules (length (keys_of (parts r))) && list_all is_short_text (keys_of (parts r))
    && list_all (is_one_of (keys_of (types r))) (data_of (parts r))

abbrev pub type_rules : Members → List Bool
type_rules r = has_known_keys r ∷ has_format r ∷ has_types r ∷ have_ports r ∷ have_deeds r ∷ have_grips r ∷ has_parts r ∷ []
