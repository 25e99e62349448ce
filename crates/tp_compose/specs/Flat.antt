-- The table of a machine text that a rack comes to: a location for each END that is not the second one of a join, a
-- module for each part, and the resources and actions of its type for each part.
use Rattle.std.specs.Prelude.{ℕ, pos, is_some, if◌then◌else◌, List, [], ◌∷◌, map, codes, Option, Some, None}
use Rattle.std.specs.List.{flat_map}
use Rattle.toml.specs.Data.{Data, string, integer, array, table, Members, no_members, member, get_member, get, as_table}
use Rattle.toml.specs.View.{items_of}
use Rattle.tp_machine_text.specs.Words.{elements_in, keys_of, members_of, text_at}
use Rattle.tp_machine_text.specs.Keys.{texts_at}
use Rattle.tp_machine_text.specs.Printed.{put_member, texts_data}
use Rattle.tp_compose.specs.Racks.{parts, feeders, entries, typed_parts, type_resources, type_actions, ports, dotted, hyphened, put_all, first_ends, own_names, location_by}

-- the members with the value put at the key, where there is one
abbrev pub put_found : List ℕ → Option Data → Members → Members
put_found key None ms = ms
put_found key (Some d) ms = put_member key d ms

-- the name of a port's own location, where its END is no second END of a join
unfoldable pub port_location : Members → List ℕ → List ℕ → List Data
port_location firsts p q = if is_some (get_member (dotted p q) firsts) then [] else string (hyphened p q) ∷ []

abbrev pub part_locations : Members → List ℕ × Data → List Data
part_locations firsts p = flat_map (port_location firsts p.0) (ports p.1)

abbrev pub locations : Members → Members → List Data
locations firsts r = flat_map (part_locations firsts) (typed_parts r)

-- the locations of the ENDs of an array
abbrev pub end_locations : Members → Members → List ℕ → Members → List (List ℕ)
end_locations own firsts key r = map (location_by own firsts) (texts_at key r)

-- each feeder's medium at its location
abbrev pub placed_feeders : Members → Members → Members → List (List ℕ × Data)
placed_feeders own firsts ms = map (λ f. (location_by own firsts f.0, f.1)) (entries ms)

abbrev pub feeder_table : Members → Members → Members → Members
feeder_table own firsts r = put_all (placed_feeders own firsts (feeders r)) no_members

-- each resource of a part, with the part as its module
abbrev pub part_resources : List ℕ × Data → List (List ℕ × Data)
part_resources p = map (λ s. (hyphened p.0 s, string p.0)) (type_resources p.1)

abbrev pub resource_table : Members → Members
resource_table r = put_all (flat_map part_resources (typed_parts r)) no_members

-- a hold of a part's resource
unfoldable pub flat_hold : List ℕ → Data → Data
flat_hold p h = table (put_member (codes "resource") (string (hyphened p (text_at (codes "resource") h))) (members_of (as_table h)))

abbrev pub put_holds : List ℕ → Option Data → Members → Members
put_holds p None ms = ms
put_holds p (Some holds) ms = put_member (codes "holds") (array (items_of (map (flat_hold p) (elements_in (Some holds))))) ms

-- an action of a part: its name after the part's, the part as module, the locations of its ports, and all else as it is
unfoldable pub flat_action : Members → Members → List ℕ → Data → Data
flat_action own firsts p a =
    table (put_holds p (get (codes "holds") a)
    (put_member (codes "to") (string (location_by own firsts (dotted p (text_at (codes "to") a))))
    (put_member (codes "from") (string (location_by own firsts (dotted p (text_at (codes "from") a))))
    (put_member (codes "module") (string p)
    (put_member (codes "name") (string (hyphened p (text_at (codes "name") a))) (members_of (as_table a)))))))

abbrev pub part_actions : Members → Members → List ℕ × Data → List Data
part_actions own firsts p = map (flat_action own firsts p.0) (type_actions p.1)

abbrev pub actions : Members → Members → Members → List Data
actions own firsts r = flat_map (part_actions own firsts) (typed_parts r)

-- what each flat table has
unfoldable pub flat_parts : Members → Members → Members → Members
flat_parts own firsts r =
    member (codes "actions") (array (items_of (actions own firsts r)))
    (member (codes "feeders") (table (feeder_table own firsts r))
    (member (codes "format") (integer (pos 2))
    (member (codes "locations") (array (items_of (locations firsts r)))
    (member (codes "modules") (texts_data (keys_of (parts r)))
    (member (codes "purge") (texts_data (end_locations own firsts (codes "purge") r))
    (member (codes "resources") (table (resource_table r))
    (member (codes "trays") (texts_data (end_locations own firsts (codes "trays") r)) no_members)))))))

-- and lead, window and budget as they are
abbrev pub flat_by : Members → Members → Members → Members
flat_by own firsts r =
    put_found (codes "budget") (get_member (codes "budget") r)
    (put_found (codes "window") (get_member (codes "window") r)
    (put_found (codes "lead") (get_member (codes "lead") r) (flat_parts own firsts r)))

-- all by the names that ENDs have of their own and the first ENDs of joins
unfoldable pub flat : Members → Members
flat r = flat_by (own_names r) (first_ends r) r
