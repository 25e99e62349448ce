-- The numbers in a machine are those of its own locations, modules and resources.
use Rattle.std.proofs.Common.{◌≡◌, ℕ, ◌<◌, true, not, ◌&&◌, List, [], ◌∷◌, length, refl, arith}
use Rattle.std.specs.Prelude.{nat_lt, nat_le}
use Rattle.std.specs.List.{list_all}
use Rattle.std.proofs.lemmas.Bool.{and_parts}
use Rattle.std.proofs.lemmas.Bool.Decides.{nat_tests}
use Rattle.tp_machine.specs.Rules as machine
use Rattle.tp_machine.specs.declared.parts.Action.{Action}
use Rattle.tp_machine.specs.declared.parts.Feeder.{Feeder}
use Rattle.tp_machine.specs.declared.parts.HoldRule.{HoldRule}
use Rattle.tp_machine.specs.declared.parts.LocId.{LocId}
use Rattle.tp_machine.specs.declared.parts.Resource.{Resource}
use Rattle.tp_machine_text.specs.Printed.{is_location, is_of_resource, is_known}

locations_fit : (names : List (List ℕ)) (locs : List LocId) → machine.are_locations names locs ≡ true → list_all (is_location (length names)) locs ≡ true
unfolding is_location
locations_fit names locs test = test

pub trays_fit : (names : List (List ℕ)) (locs : List LocId) → machine.are_trays names locs ≡ true → list_all (is_location (length names)) locs ≡ true
trays_fit names locs test =
    let (first, differ) = and_parts (nat_le 1 (length locs) && machine.are_locations names locs) (machine.are_different locs) test in
    locations_fit names locs (and_parts (nat_le 1 (length locs)) (machine.are_locations names locs) first).1

pub purges_fit : (names : List (List ℕ)) (trays locs : List LocId) → machine.are_purges names trays locs ≡ true → list_all (is_location (length names)) locs ≡ true
purges_fit names trays locs test =
    let (first, apart) = and_parts (machine.are_locations names locs && machine.are_different locs) (list_all (λ p. not (machine.is_among trays p)) locs) test in
    locations_fit names locs (and_parts (machine.are_locations names locs) (machine.are_different locs) first).0

all_there : (names : List (List ℕ)) (trays purges : List LocId) (fs : List Feeder) → list_all (machine.is_feeder_location names trays purges) fs ≡ true → list_all (λ f. nat_lt f.loc.0 (length names)) fs ≡ true
all_there names trays purges [] test = refl
all_there names trays purges (f ∷ fs) test =
    let (here, rest) = and_parts (machine.is_feeder_location names trays purges f) (list_all (machine.is_feeder_location names trays purges) fs) test in
    let (first, no_purge) = and_parts (nat_lt f.loc.0 (length names) && not (machine.is_among trays f.loc)) (not (machine.is_among purges f.loc)) here in
    rw ((and_parts (nat_lt f.loc.0 (length names)) (not (machine.is_among trays f.loc)) first).0, all_there names trays purges fs rest)

pub feeders_fit : (names : List (List ℕ)) (trays purges : List LocId) (fs : List Feeder) → machine.are_feeders names trays purges fs ≡ true → list_all (λ f. nat_lt f.loc.0 (length names)) fs ≡ true
feeders_fit names trays purges fs test =
    let (first, rise) = and_parts (nat_le 1 (length fs) && list_all (machine.is_feeder_location names trays purges) fs) (machine.do_names_rise (machine.feeder_names names fs)) test in
    all_there names trays purges fs (and_parts (nat_le 1 (length fs)) (list_all (machine.is_feeder_location names trays purges) fs) first).1

-- ---- actions

hold_known : (rs : List Resource) (a : Action) (h : HoldRule) → machine.is_sound_hold rs a h ≡ true → is_of_resource (length rs) h ≡ true
unfolding is_of_resource
hold_known rs a h test = grind arith

pub all_held : (rs : List Resource) (a : Action) (hs : List HoldRule) → list_all (machine.is_sound_hold rs a) hs ≡ true → list_all (is_of_resource (length rs)) hs ≡ true
all_held rs a [] test = refl
all_held rs a (h ∷ hs) test =
    let (here, rest) = and_parts (machine.is_sound_hold rs a h) (list_all (machine.is_sound_hold rs a) hs) test in
    rw (hold_known rs a h here, all_held rs a hs rest)

action_known : (ls ms : List (List ℕ)) (ts ps : List LocId) (fs : List Feeder) (rs : List Resource) (a : Action) → machine.is_way ls ms ts ps fs a ≡ true → machine.has_holds rs a ≡ true
    → is_known (length ls) (length ms) (length rs) a ≡ true
unfolding is_known
action_known ls ms ts ps fs rs a way held =
    let of_module : nat_lt a.module.0 (length ms) ≡ true = grind arith in
    let from : nat_lt a.from.0 (length ls) ≡ true = grind arith in
    let to : nat_lt a.to.0 (length ls) ≡ true = grind arith in
    let (sound, differ) = and_parts (list_all (machine.is_sound_hold rs a) a.holds) (machine.do_holds_differ a.holds) held in
    rw (of_module, from, to, all_held rs a a.holds sound)

pub actions_fit : (ls ms : List (List ℕ)) (ts ps : List LocId) (fs : List Feeder) (rs : List Resource) (deeds : List Action) → machine.are_ways ls ms ts ps fs deeds ≡ true → machine.have_holds rs deeds ≡ true
    → list_all (is_known (length ls) (length ms) (length rs)) deeds ≡ true
actions_fit ls ms ts ps fs rs [] ways held = refl
actions_fit ls ms ts ps fs rs (a ∷ deeds) ways held =
    let (way, ways_rest) = and_parts (machine.is_way ls ms ts ps fs a) (list_all (machine.is_way ls ms ts ps fs) deeds) ways in
    let (hold, held_rest) = and_parts (machine.has_holds rs a) (list_all (machine.has_holds rs) deeds) held in
    rw (action_known ls ms ts ps fs rs a way hold, actions_fit ls ms ts ps fs rs deeds ways_rest held_rest)

-- what a known action has
pub record Knows (locations modules resources : ℕ) (a : Action) : Type 0 where
  pub of_module : a.module.0 < modules
  pub from : a.from.0 < locations
  pub to : a.to.0 < locations
  pub holds : list_all (is_of_resource resources) a.holds ≡ true

below : (n m : ℕ) → nat_lt n m ≡ true → n < m
below n m test = grind (arith, nat_tests)

pub knows : (l m r : ℕ) (a : Action) → is_known l m r a ≡ true → Knows l m r a
unfolding is_known
knows l m r a test =
    let (first, holds) = and_parts (nat_lt a.module.0 m && nat_lt a.from.0 l && nat_lt a.to.0 l) (list_all (is_of_resource r) a.holds) test in
    let (second, to) = and_parts (nat_lt a.module.0 m && nat_lt a.from.0 l) (nat_lt a.to.0 l) first in
    let (of_module, from) = and_parts (nat_lt a.module.0 m) (nat_lt a.from.0 l) second in
    record { of_module = below a.module.0 m of_module; from = below a.from.0 l from; to = below a.to.0 l to; holds = holds }
