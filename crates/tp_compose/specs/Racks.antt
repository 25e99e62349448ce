-- What stands in a rack text: types with ports, resources and actions, parts of these types, and joins of their ports.
use Rattle.std.specs.Prelude.{ℕ, false, List, [], ◌∷◌, ◌++◌, map, codes, Option, Some, None}
use Rattle.std.specs.List.{flat_map}
use Rattle.toml.specs.Data.{Data, string, boolean, Members, no_members, member, get_member, get}
use Rattle.tp_machine_text.specs.Words.{elements, elements_at, elements_in, members_at, text_of, text_in}
use Rattle.tp_machine_text.specs.Printed.{put_member}

abbrev pub rack_keys : List (List ℕ)
rack_keys = codes "format" ∷ codes "lead" ∷ codes "window" ∷ codes "budget" ∷ codes "types" ∷ codes "parts" ∷ codes "joins" ∷ codes "trays" ∷ codes "purge" ∷ codes "feeders" ∷ []

abbrev pub type_keys : List (List ℕ)
type_keys = codes "ports" ∷ codes "actions" ∷ codes "resources" ∷ []

abbrev pub types : Members → Members
types r = members_at (codes "types") r

abbrev pub parts : Members → Members
parts r = members_at (codes "parts") r

abbrev pub joins : Members → List Data
joins r = elements_at (codes "joins") r

abbrev pub feeders : Members → Members
feeders r = members_at (codes "feeders") r

-- the most ports of a type
abbrev pub most_ports : ℕ
most_ports = 256

-- the ports, the resources and the actions of a type
abbrev pub ports : Data → List (List ℕ)
ports t = map text_of (elements_in (get (codes "ports") t))

abbrev pub type_resources : Data → List (List ℕ)
type_resources t = map text_of (elements_in (get (codes "resources") t))

abbrev pub type_actions : Data → List Data
type_actions t = elements_in (get (codes "actions") t)

-- the members of a table as a list of keys and values
abbrev pub entries : Members → List (List ℕ × Data)
entries no_members = []
entries (member k d ms) = (k, d) ∷ entries ms

-- the type that there is; what stands here for none is never used
abbrev pub type_in : Option Data → Data
type_in None = boolean false
type_in (Some t) = t

-- each part with its type, in the byte order of the parts
abbrev pub typed : Members → Members → List (List ℕ × Data)
typed ts no_members = []
typed ts (member p d ms) = (p, type_in (get_member (text_of d) ts)) ∷ typed ts ms

abbrev pub typed_parts : Members → List (List ℕ × Data)
typed_parts r = typed (types r) (parts r)

-- the END `p.q`, and the name `p-q`
abbrev pub dotted : List ℕ → List ℕ → List ℕ
dotted p q = p ++ 46 ∷ q

abbrev pub hyphened : List ℕ → List ℕ → List ℕ
hyphened p q = p ++ 45 ∷ q

-- the ENDs of a part in the order of its type, each with the name of a location of its own
abbrev pub part_ends : List ℕ × Data → List (List ℕ × Data)
part_ends p = map (λ q. (dotted p.0 q, string (hyphened p.0 q))) (ports p.1)

abbrev pub ends : Members → List (List ℕ × Data)
ends r = flat_map part_ends (typed_parts r)

-- the members with each of these values put at its key, one after another
abbrev pub put_all : List (List ℕ × Data) → Members → Members
put_all [] ms = ms
put_all (e ∷ es) ms = put_all es (put_member e.0 e.1 ms)

-- the name of its own at each END
abbrev pub own_names : Members → Members
own_names r = put_all (ends r) no_members

-- the first END of a join at its second one
abbrev pub join_entry : List Data → List (List ℕ × Data)
join_entry (first ∷ second ∷ []) = (text_of second, string (text_of first)) ∷ []
join_entry _ = []

abbrev pub join_entries : Data → List (List ℕ × Data)
join_entries j = join_entry (elements j)

abbrev pub first_ends : Members → Members
first_ends r = put_all (flat_map join_entries (joins r)) no_members

-- the first END of the END's join where it is the second one, else the END itself
abbrev pub first_in : List ℕ → Option Data → List ℕ
first_in e None = e
first_in e (Some d) = text_of d

abbrev pub location_by : Members → Members → List ℕ → List ℕ
location_by own firsts e = text_in (get_member (first_in e (get_member e firsts)) own)

-- the name of an END's location
abbrev pub location_of : Members → List ℕ → List ℕ
location_of r e = location_by (own_names r) (first_ends r) e
