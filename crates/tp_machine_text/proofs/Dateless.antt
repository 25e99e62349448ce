-- The table of a machine holds no date.
use Rattle.std.proofs.Common.{◌≡◌, ℕ, true, false, Option, Some, None, List, [], ◌∷◌, map, refl, ap, ◌∙◌}
use Rattle.toml.specs.Data.{Members, string, has_valid_dates, items_have_valid_dates, members_have_valid_dates}
use Rattle.toml.specs.View.{items_of}
use Rattle.tp_machine.specs.declared.parts.Action.{Action}
use Rattle.tp_machine.specs.declared.parts.Feeder.{Feeder}
use Rattle.tp_machine.specs.declared.parts.HoldRule.{HoldRule}
use Rattle.tp_machine.specs.declared.parts.Resource.{Resource}
use Rattle.tp_machine.specs.declared.machine.Machine.{Machine}
use Rattle.tp_machine_text.specs.Printed.{feeder_members, resource_members, amount_members, gaps_of, stocks_of, resource_names, loc_names, kind_words, hold_data, action_data, table_of}

texts_dateless : (xs : List (List ℕ)) → items_have_valid_dates (items_of (map string xs)) ≡ true
texts_dateless [] = refl
texts_dateless (x ∷ xs) = texts_dateless xs

feeders_dateless : (names : List (List ℕ)) (fs : List Feeder) → members_have_valid_dates (feeder_members names fs) ≡ true
feeders_dateless names [] = refl
feeders_dateless names (f ∷ fs) = feeders_dateless names fs

resources_dateless : (modules : List (List ℕ)) (rs : List Resource) → members_have_valid_dates (resource_members modules rs) ≡ true
resources_dateless modules [] = refl
resources_dateless modules (r ∷ rs) = resources_dateless modules rs

amounts_dateless : (amounts : List (List ℕ × Option ℕ)) → members_have_valid_dates (amount_members amounts) ≡ true
amounts_dateless [] = refl
amounts_dateless ((k, None) ∷ amounts) = amounts_dateless amounts
amounts_dateless ((k, Some n) ∷ amounts) = amounts_dateless amounts

holds_dateless : (rs : List (List ℕ)) (hs : List HoldRule) → items_have_valid_dates (items_of (map (hold_data rs) hs)) ≡ true
unfolding hold_data
holds_dateless rs [] = refl
holds_dateless rs (h ∷ hs) = holds_dateless rs hs

action_dateless : (ls ms rs : List (List ℕ)) (a : Action) → has_valid_dates (action_data ls ms rs a) ≡ true
unfolding action_data
action_dateless ls ms rs a = rw (holds_dateless rs a.holds, texts_dateless (kind_words a.mono a.colour))

actions_dateless : (ls ms rs : List (List ℕ)) (deeds : List Action) → items_have_valid_dates (items_of (map (action_data ls ms rs) deeds)) ≡ true
actions_dateless ls ms rs [] = refl
actions_dateless ls ms rs (a ∷ deeds) = rw (action_dateless ls ms rs a, actions_dateless ls ms rs deeds)

pub table_dateless : (m : Machine) → members_have_valid_dates (table_of m) ≡ true
unfolding table_of
table_dateless m =
    rw (
      actions_dateless m.locations m.modules (resource_names m.resources) m.actions,
      feeders_dateless m.locations m.feeders,
      amounts_dateless (gaps_of m.resources),
      texts_dateless m.locations,
      texts_dateless m.modules,
      texts_dateless (loc_names m.locations m.purges),
      resources_dateless m.modules m.resources,
      amounts_dateless (stocks_of m.locations m.feeders),
      texts_dateless (loc_names m.locations m.trays),
    )

pub no_date : (m : Machine) (t : Members) → t ≡ table_of m → members_have_valid_dates t ≡ false → ⊥
no_date m t made dated = let none = ap members_have_valid_dates made ∙ table_dateless m in cc
