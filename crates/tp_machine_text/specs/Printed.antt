-- The table that is printed for a machine.
use Rattle.std.specs.Prelude.{ℕ, pos, ℤ, Bool, if◌then◌else◌, List, [], ◌∷◌, ◌++◌, ◌&&◌, map, slice_get, Option, Some, None, codes, nat_lt}
use Rattle.std.specs.List.{list_all}
use Rattle.std.specs.Ordering.{match_ordering, nat_cmp}
use Rattle.std.specs.Cmp.Lexicographic.{slice_cmp}
use Rattle.toml.specs.Data.{Data, string, integer, boolean, array, table, no_items, item, Members, no_members, member}
use Rattle.toml.specs.View.{items_of}
use Rattle.tp_machine.specs.Rules.{name_in}
use Rattle.tp_machine.specs.declared.parts.Action.{Action}
use Rattle.tp_machine.specs.declared.parts.Anchor.{Anchor}
use Rattle.tp_machine.specs.declared.parts.Anchor.TheVariants.{Start, End}
use Rattle.tp_machine.specs.declared.parts.Feeder.{Feeder}
use Rattle.tp_machine.specs.declared.parts.HoldRule.{HoldRule}
use Rattle.tp_machine.specs.declared.parts.LocId.{LocId}
use Rattle.tp_machine.specs.declared.parts.Resource.{Resource}
use Rattle.tp_machine.specs.declared.machine.Machine.{Machine}

-- the members with the value at the key, in its place in the order
abbrev pub put_member : List ℕ → Data → Members → Members
put_member k d no_members = member k d no_members
put_member k d (member l e ms) = match_ordering (slice_cmp nat_cmp k l) (member k d (member l e ms)) (member l d ms) (member l e (put_member k d ms))

-- a location among n names
unfoldable pub is_location : ℕ → LocId → Bool
is_location n loc = nat_lt loc.0 n

-- a hold of one of n resources
unfoldable pub is_of_resource : ℕ → HoldRule → Bool
is_of_resource n h = nat_lt h.resource.0 n

-- an action that knows its module, its locations and its resources, of which there are so many
unfoldable pub is_known : ℕ → ℕ → ℕ → Action → Bool
is_known locations modules resources a =
    nat_lt a.module.0 modules && nat_lt a.from.0 locations && nat_lt a.to.0 locations && list_all (is_of_resource resources) a.holds

-- the name at a place
abbrev pub name_at : List (List ℕ) → ℕ → List ℕ
name_at names n = name_in (slice_get names n)

-- an array of texts
abbrev pub texts_data : List (List ℕ) → Data
texts_data texts = array (items_of (map string texts))

abbrev pub loc_names : List (List ℕ) → List LocId → List (List ℕ)
loc_names locations locs = map (λ l. name_at locations l.0) locs

abbrev pub feeder_members : List (List ℕ) → List Feeder → Members
feeder_members locations [] = no_members
feeder_members locations (f ∷ fs) = member (name_at locations f.loc.0) (string f.media) (feeder_members locations fs)

abbrev pub resource_members : List (List ℕ) → List Resource → Members
resource_members modules [] = no_members
resource_members modules (r ∷ rs) = member r.name (string (name_at modules r.module.0)) (resource_members modules rs)

abbrev pub amount_first : List ℕ → Option ℕ → Members → Members
amount_first key None ms = ms
amount_first key (Some n) ms = member key (integer (pos n)) ms

abbrev pub put_amount : List ℕ → Option ℕ → Members → Members
put_amount key None ms = ms
put_amount key (Some n) ms = put_member key (integer (pos n)) ms

-- the numbers of those keys that have one
abbrev pub amount_members : List (List ℕ × Option ℕ) → Members
amount_members [] = no_members
amount_members (a ∷ amounts) = amount_first a.0 a.1 (amount_members amounts)

-- the gap of each resource
abbrev pub gaps_of : List Resource → List (List ℕ × Option ℕ)
gaps_of rs = map (λ r. (r.name, Some r.gap)) rs

abbrev pub gap_members : List Resource → Members
gap_members rs = amount_members (gaps_of rs)

-- the stock of each feeder that has one
abbrev pub stocks_of : List (List ℕ) → List Feeder → List (List ℕ × Option ℕ)
stocks_of locations fs = map (λ f. (name_at locations f.loc.0, f.stock)) fs

abbrev pub stock_members : List (List ℕ) → List Feeder → Members
stock_members locations fs = amount_members (stocks_of locations fs)

abbrev pub resource_names : List Resource → List (List ℕ)
resource_names rs = map (λ r. r.name) rs

abbrev pub anchor_text : Anchor → List ℕ
anchor_text Start = codes "start"
anchor_text End = codes "end"

abbrev pub point_data : Anchor → ℤ → Data
point_data anchor offset = array (item (string (anchor_text anchor)) (item (integer offset) no_items))

unfoldable pub hold_data : List (List ℕ) → HoldRule → Data
hold_data resources h =
    table (member (codes "begin") (point_data h.begin h.begin_off)
    (member (codes "end") (point_data h.end h.end_off)
    (member (codes "mode") (integer (pos h.mode))
    (member (codes "resource") (string (name_at resources h.resource.0)) no_members))))

-- the words for what an action prints
abbrev pub kind_words : Bool → Bool → List (List ℕ)
kind_words mono colour = (if mono then codes "mono" ∷ [] else []) ++ (if colour then codes "colour" ∷ [] else [])

unfoldable pub action_data : List (List ℕ) → List (List ℕ) → List (List ℕ) → Action → Data
action_data locations modules resources a =
    table (member (codes "flip") (boolean a.flip)
    (member (codes "from") (string (name_at locations a.from.0))
    (member (codes "holds") (array (items_of (map (hold_data resources) a.holds)))
    (member (codes "least") (integer (pos a.least))
    (member (codes "module") (string (name_at modules a.module.0))
    (member (codes "most") (integer (pos a.most))
    (member (codes "name") (string a.name)
    (member (codes "prints") (texts_data (kind_words a.mono a.colour))
    (member (codes "to") (string (name_at locations a.to.0)) no_members)))))))))

unfoldable pub table_of : Machine → Members
table_of m =
    member (codes "actions") (array (items_of (map (action_data m.locations m.modules (resource_names m.resources)) m.actions)))
    (member (codes "budget") (integer (pos m.budget))
    (member (codes "feeders") (table (feeder_members m.locations m.feeders))
    (member (codes "format") (integer (pos 2))
    (member (codes "gaps") (table (gap_members m.resources))
    (member (codes "lead") (integer (pos m.lead))
    (member (codes "locations") (texts_data m.locations)
    (member (codes "modules") (texts_data m.modules)
    (member (codes "purge") (texts_data (loc_names m.locations m.purges))
    (member (codes "resources") (table (resource_members m.modules m.resources))
    (member (codes "stock") (table (stock_members m.locations m.feeders))
    (member (codes "trays") (texts_data (loc_names m.locations m.trays))
    (member (codes "window") (integer (pos m.window)) no_members))))))))))))
