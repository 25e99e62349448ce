-- The table of a machine is not deep.
use Rattle.std.proofs.Common.{ℕ, max, ◌≤◌, Option, Some, None, List, [], ◌∷◌, map, arith}
use Rattle.toml.specs.Data.{string, depth, items_depth, members_depth}
use Rattle.toml.specs.View.{items_of}
use Rattle.tp_machine.specs.declared.parts.Action.{Action}
use Rattle.tp_machine.specs.declared.parts.Feeder.{Feeder}
use Rattle.tp_machine.specs.declared.parts.HoldRule.{HoldRule}
use Rattle.tp_machine.specs.declared.parts.Resource.{Resource}
use Rattle.tp_machine.specs.declared.machine.Machine.{Machine}
use Rattle.tp_machine_text.specs.Printed.{feeder_members, resource_members, amount_members, gaps_of, stocks_of, resource_names, loc_names, kind_words, hold_data, action_data, table_of}

max_le : (a b n : ℕ) → a ≤ n → b ≤ n → max a b ≤ n
max_le a b n p q = omega arith

texts_depth : (xs : List (List ℕ)) → items_depth (items_of (map string xs)) ≤ 0
texts_depth [] = omega arith
texts_depth (x ∷ xs) = max_le 0 (items_depth (items_of (map string xs))) 0 (omega arith) (texts_depth xs)

feeders_depth : (names : List (List ℕ)) (fs : List Feeder) → members_depth (feeder_members names fs) ≤ 0
feeders_depth names [] = omega arith
feeders_depth names (f ∷ fs) = max_le 0 (members_depth (feeder_members names fs)) 0 (omega arith) (feeders_depth names fs)

resources_depth : (modules : List (List ℕ)) (rs : List Resource) → members_depth (resource_members modules rs) ≤ 0
resources_depth modules [] = omega arith
resources_depth modules (r ∷ rs) = max_le 0 (members_depth (resource_members modules rs)) 0 (omega arith) (resources_depth modules rs)

amounts_depth : (amounts : List (List ℕ × Option ℕ)) → members_depth (amount_members amounts) ≤ 0
amounts_depth [] = omega arith
amounts_depth ((k, None) ∷ amounts) = amounts_depth amounts
amounts_depth ((k, Some n) ∷ amounts) = max_le 0 (members_depth (amount_members amounts)) 0 (omega arith) (amounts_depth amounts)

hold_depth : (rs : List (List ℕ)) (h : HoldRule) → depth (hold_data rs h) ≤ 2
unfolding hold_data
hold_depth rs h = omega arith

holds_depth : (rs : List (List ℕ)) (hs : List HoldRule) → items_depth (items_of (map (hold_data rs) hs)) ≤ 2
holds_depth rs [] = omega arith
holds_depth rs (h ∷ hs) = max_le (depth (hold_data rs h)) (items_depth (items_of (map (hold_data rs) hs))) 2 (hold_depth rs h) (holds_depth rs hs)

action_depth : (ls ms rs : List (List ℕ)) (a : Action) → depth (action_data ls ms rs a) ≤ 4
unfolding action_data
action_depth ls ms rs a =
    let holds = holds_depth rs a.holds in
    let prints = texts_depth (kind_words a.mono a.colour) in
    omega arith

actions_depth : (ls ms rs : List (List ℕ)) (deeds : List Action) → items_depth (items_of (map (action_data ls ms rs) deeds)) ≤ 4
actions_depth ls ms rs [] = omega arith
actions_depth ls ms rs (a ∷ deeds) = max_le (depth (action_data ls ms rs a)) (items_depth (items_of (map (action_data ls ms rs) deeds))) 4 (action_depth ls ms rs a) (actions_depth ls ms rs deeds)

pub table_depth : (m : Machine) → members_depth (table_of m) ≤ 80
unfolding table_of
table_depth m =
    let deeds = actions_depth m.locations m.modules (resource_names m.resources) m.actions in
    let feeders = feeders_depth m.locations m.feeders in
    let resources = resources_depth m.modules m.resources in
    let gaps = amounts_depth (gaps_of m.resources) in
    let stocks = amounts_depth (stocks_of m.locations m.feeders) in
    let locations = texts_depth m.locations in
    let modules = texts_depth m.modules in
    let trays = texts_depth (loc_names m.locations m.trays) in
    let purges = texts_depth (loc_names m.locations m.purges) in
    omega arith
