-- The table that is printed for a machine is that of the machine.
use Rattle.std.proofs.Common.{◌≡◌, ℕ, true, ◌&&◌, List, map, refl, sym}
use Rattle.std.specs.Prelude.{codes, nat_le, nat_lt, length}
use Rattle.std.specs.List.{list_all, AllByRecursion}
use Rattle.std.proofs.lemmas.Bool.{and_parts}
use Rattle.std.proofs.lemmas.List.{length-map}
use Rattle.tp_machine.specs.Rules.{do_names_rise, is_feeder_location, feeder_names}
use Rattle.tp_machine.specs.declared.parts.Resource.{Resource}
use Rattle.tp_machine.specs.declared.machine.Machine.{Machine}
use Rattle.tp_machine_text.specs.Words.{elements_at, are_different}
use Rattle.tp_machine_text.specs.Keys as text
use Rattle.tp_machine_text.specs.Kept.{KeepsRules}
use Rattle.tp_machine_text.specs.TheMachine.{IsMachineOf}
use Rattle.tp_machine_text.specs.Printed.{loc_names, gaps_of, gap_members, stocks_of, stock_members, resource_names, is_known, action_data, table_of}
use Rattle.tp_machine_text.proofs.AmountsBack.{HasAmount, amounts_found}
use Rattle.tp_machine_text.proofs.Built.{gap_names, stock_names}
use Rattle.tp_machine_text.proofs.Seen.{values_of-items}
use Rattle.tp_machine_text.proofs.KeptFacts.{names_parts}
use Rattle.tp_machine_text.proofs.OwnNumbers.{trays_fit, purges_fit, feeders_fit, actions_fit}
use Rattle.tp_machine_text.proofs.Back.{texts_back, locs_back, feeders_back, resources_back, resource_keys, rise_differ, actions_back}

module _ (m : Machine) where
  pub locations_are : text.locations (table_of m) ≡ m.locations
  unfolding table_of
  locations_are = texts_back m.locations

  pub modules_are : text.modules (table_of m) ≡ m.modules
  unfolding table_of
  modules_are = texts_back m.modules

  pub trays_are : text.trays (table_of m) ≡ loc_names m.locations m.trays
  unfolding table_of
  trays_are = texts_back (loc_names m.locations m.trays)

  pub purges_are : text.purges (table_of m) ≡ loc_names m.locations m.purges
  unfolding table_of
  purges_are = texts_back (loc_names m.locations m.purges)

  pub resources_are : text.resources (table_of m) ≡ resource_names m.resources
  unfolding table_of
  resources_are = resource_keys m.modules m.resources

  pub actions_are : text.actions (table_of m) ≡ map (action_data m.locations m.modules (resource_names m.resources)) m.actions
  unfolding table_of
  actions_are = values_of-items (map (action_data m.locations m.modules (resource_names m.resources)) m.actions)

resource_parts : (modules : List (List ℕ)) (rs : List Resource) → (list_all (λ r. nat_lt r.module.0 (length modules)) rs && do_names_rise (resource_names rs)) ≡ true
    → (list_all (λ r. nat_lt r.module.0 (length modules)) rs ≡ true) × (are_different (resource_names rs) ≡ true)
resource_parts modules rs test =
    let (known, rise) = and_parts (list_all (λ r. nat_lt r.module.0 (length modules)) rs) (do_names_rise (resource_names rs)) test in
    (known, rise_differ (resource_names rs) rise)

resource_count : (m : Machine) → list_all (is_known (length m.locations) (length m.modules) (length m.resources)) m.actions ≡ true
    → list_all (is_known (length m.locations) (length m.modules) (length (resource_names m.resources))) m.actions ≡ true
resource_count m known = rw (length-map m.resources (λ r. r.name)) known

-- the gaps and the stocks are found at their names
gaps_found : (rs : List Resource) → are_different (resource_names rs) ≡ true → AllByRecursion (HasAmount (gap_members rs)) (gaps_of rs)
gaps_found rs differ = amounts_found (gaps_of rs) (rw (gap_names rs) differ)

stocks_found : (m : Machine) → AllByRecursion (HasAmount (stock_members m.locations m.feeders)) (stocks_of m.locations m.feeders)
stocks_found m =
    let (first, rise) = and_parts (nat_le 1 (length m.feeders) && list_all (is_feeder_location m.locations m.trays m.purges) m.feeders) (do_names_rise (feeder_names m.locations m.feeders)) m.good_feeders in
    amounts_found (stocks_of m.locations m.feeders) (rw (stock_names m.locations m.feeders) (rise_differ (feeder_names m.locations m.feeders) rise))

pub printed_back : (m : Machine) → are_different m.locations ≡ true → are_different m.modules ≡ true → IsMachineOf (table_of m) m
unfolding table_of
printed_back m dl dm =
    let (rk, dr) = resource_parts m.modules m.resources m.good_resources in
    record {
      lead = refl;
      window = refl;
      budget = refl;
      locations = sym (texts_back m.locations);
      modules = sym (texts_back m.modules);
      trays = rw (texts_back m.locations, texts_back (loc_names m.locations m.trays)) (sym (locs_back m.locations m.trays dl (trays_fit m.locations m.trays m.good_trays)));
      purges = rw (texts_back m.locations, texts_back (loc_names m.locations m.purges)) (sym (locs_back m.locations m.purges dl (purges_fit m.locations m.trays m.purges m.good_purges)));
      feeders = rw (texts_back m.locations) (sym (feeders_back m.locations (stock_members m.locations m.feeders) m.feeders dl (feeders_fit m.locations m.trays m.purges m.feeders m.good_feeders) (stocks_found m)));
      resources = rw (texts_back m.modules) (sym (resources_back m.modules (gap_members m.resources) m.resources dm rk (gaps_found m.resources dr)));
      actions =
          rw (texts_back m.locations, texts_back m.modules, resource_keys m.modules m.resources, values_of-items (map (action_data m.locations m.modules (resource_names m.resources)) m.actions))
          (sym (actions_back m.locations m.modules (resource_names m.resources) m.actions dl dm dr
          (resource_count m (actions_fit m.locations m.modules m.trays m.purges m.feeders m.resources m.actions m.ways m.holds))));
    }

pub kept_back : (m : Machine) → KeepsRules (table_of m) → IsMachineOf (table_of m) m
kept_back m k =
    let dl : are_different m.locations ≡ true = rw (← locations_are m) ((names_parts 256 (elements_at (codes "locations") (table_of m)) k.locations).differ) in
    let dm : are_different m.modules ≡ true = rw (← modules_are m) ((names_parts 64 (elements_at (codes "modules") (table_of m)) k.modules).differ) in
    printed_back m dl dm
