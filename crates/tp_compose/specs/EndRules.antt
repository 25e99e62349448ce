-- The rules on the joins, the trays and the feeders of a rack text, which name ENDs.
use Rattle.std.specs.Prelude.{ℕ, Bool, false, is_some, ◌&&◌, List, [], ◌∷◌, map, codes}
use Rattle.std.specs.List.{list_all, flat_map}
use Rattle.toml.specs.Data.{Data, string, Members, get_member}
use Rattle.tp_machine_text.specs.Words.{keys_of, elements, elements_at, text_of, is_there, is_fit, is_array, is_table, are_different}
use Rattle.tp_compose.specs.Racks.{joins, feeders, location_by}

-- a part and a port of its type, by the names that ENDs have of their own
abbrev pub is_end_text : Members → List ℕ → Bool
is_end_text own text = is_some (get_member text own)

abbrev pub is_end : Members → Data → Bool
is_end own (string text) = is_end_text own text
is_end own _ = false

-- two ENDs
abbrev pub are_two_ends : Members → List Data → Bool
are_two_ends own (first ∷ second ∷ []) = is_end own first && is_end own second
are_two_ends own _ = false

unfoldable pub is_join : Members → Data → Bool
is_join own j = are_two_ends own (elements j)

-- all ENDs of joins
abbrev pub joined : List Data → List (List ℕ)
joined js = flat_map (λ j. map text_of (elements j)) js

-- rule 8: `joins`, where it is there, is an array of arrays of two ENDs, and no END stands in it twice
abbrev pub has_joins : Members → Members → Bool
has_joins own r =
    is_fit is_array (get_member (codes "joins") r) && list_all (is_join own) (joins r)
    && are_different (joined (joins r))

-- `trays` is there and is an array of ENDs
abbrev pub has_trays : Members → Members → Bool
has_trays own r = is_there is_array (get_member (codes "trays") r) && list_all (is_end own) (elements_at (codes "trays") r)

-- `purge`, where it is there, is an array of ENDs
abbrev pub has_purges : Members → Members → Bool
has_purges own r = is_fit is_array (get_member (codes "purge") r) && list_all (is_end own) (elements_at (codes "purge") r)

-- `feeders` is there and is a table whose keys are ENDs
abbrev pub has_feeders : Members → Members → Bool
has_feeders own r = is_there is_table (get_member (codes "feeders") r) && list_all (is_end_text own) (keys_of (feeders r))

-- rule 9: trays, purge trays and feeders are ENDs
abbrev pub has_ends : Members → Members → Bool
has_ends own r = has_trays own r && has_purges own r && has_feeders own r

-- rule 10: no two feeders have the same location
abbrev pub has_feeders_apart : Members → Members → Members → Bool
has_feeders_apart own firsts r = are_different (map (location_by own firsts) (keys_of (feeders r)))

-- the rules by the names that ENDs have of their own and the first ENDs of joins
abbrev pub end_rules : Members → Members → Members → List Bool
end_rules own firsts r = has_joins own r ∷ has_ends own r ∷ has_feeders_apart own firsts r ∷ []
