-- The parts of the tests that a machine passes.
use Rattle.std.proofs.Common.{◌≡◌, true, ◌&&◌, length, map, sym, ◌∙◌}
use Rattle.std.specs.Prelude.{nat_lt, nat_le}
use Rattle.std.specs.List.{list_all}
use Rattle.std.proofs.lemmas.Bool.{and_parts}
use Rattle.std.proofs.lemmas.List.{length-map}
use Rattle.tp_base.specs.NameText.{is_between}
use Rattle.tp_machine.specs.Rules as machine
use Rattle.tp_machine.specs.declared.parts.Feeder.{Feeder}
use Rattle.tp_machine.specs.declared.parts.LocId.{LocId}
use Rattle.tp_machine.specs.declared.machine.Machine.{Machine}
use Rattle.tp_machine_text.specs.Words.{are_different}
use Rattle.tp_machine_text.specs.Printed.{is_location, is_known, resource_names}
use Rattle.tp_machine.proofs.NameFacts.{name_tests}
use Rattle.tp_machine_text.proofs.ActionFacts.{same_differ}
use Rattle.tp_machine_text.proofs.Back.{rise_differ}
use Rattle.tp_machine_text.proofs.OwnNumbers.{trays_fit, purges_fit, feeders_fit, actions_fit}
use Rattle.tp_machine_text.proofs.Seen.{list_all-map}

-- the parts of a machine's tests
pub record NumberTests (m : Machine) : Type 0 where
  pub lead : nat_le m.lead 4096 ≡ true
  pub window : is_between 1 32768 m.window ≡ true
  pub budget : is_between 1 200000 m.budget ≡ true

pub number_tests : (m : Machine) → NumberTests m
number_tests m =
    let (two, budget) = and_parts (nat_le m.lead 4096 && is_between 1 32768 m.window) (is_between 1 200000 m.budget) m.numbers in
    let (lead, window) = and_parts (nat_le m.lead 4096) (is_between 1 32768 m.window) two in
    record { lead = lead; window = window; budget = budget }

pub record CountTests (m : Machine) : Type 0 where
  pub locations : is_between 1 256 (length m.locations) ≡ true
  pub modules : is_between 1 64 (length m.modules) ≡ true
  pub resources : nat_le (length m.resources) 256 ≡ true
  pub actions : is_between 1 512 (length m.actions) ≡ true

pub count_tests : (m : Machine) → CountTests m
count_tests m =
    let (three, actions) = and_parts (is_between 1 256 (length m.locations) && is_between 1 64 (length m.modules) && nat_le (length m.resources) 256) (is_between 1 512 (length m.actions)) m.counts in
    let (two, resources) = and_parts (is_between 1 256 (length m.locations) && is_between 1 64 (length m.modules)) (nat_le (length m.resources) 256) three in
    let (locations, modules) = and_parts (is_between 1 256 (length m.locations)) (is_between 1 64 (length m.modules)) two in
    record { locations = locations; modules = modules; resources = resources; actions = actions }

module _ (m : Machine) where
  pub locations_differ : are_different m.locations ≡ true
  locations_differ = sym (same_differ m.locations) ∙ (name_tests m).locations_differ

  pub modules_differ : are_different m.modules ≡ true
  modules_differ = sym (same_differ m.modules) ∙ (name_tests m).modules_differ

  pub known_trays : list_all (is_location (length m.locations)) m.trays ≡ true
  known_trays = trays_fit m.locations m.trays m.good_trays

  pub known_purges : list_all (is_location (length m.locations)) m.purges ≡ true
  known_purges = purges_fit m.locations m.trays m.purges m.good_purges

  pub known_feeders : list_all (is_location (length m.locations)) (map (λ f. f.loc) m.feeders) ≡ true
  unfolding is_location
  known_feeders = list_all-map (λ (l : LocId). nat_lt l.0 (length m.locations)) (λ (f : Feeder). f.loc) m.feeders ∙ feeders_fit m.locations m.trays m.purges m.feeders m.good_feeders

  pub known_resources : list_all (λ r. nat_lt r.module.0 (length m.modules)) m.resources ≡ true
  known_resources = (and_parts (list_all (λ r. nat_lt r.module.0 (length m.modules)) m.resources) (machine.do_names_rise (resource_names m.resources)) m.good_resources).0

  pub resources_differ : are_different (resource_names m.resources) ≡ true
  resources_differ = rise_differ (resource_names m.resources) (and_parts (list_all (λ r. nat_lt r.module.0 (length m.modules)) m.resources) (machine.do_names_rise (resource_names m.resources)) m.good_resources).1

  pub same_count : length (resource_names m.resources) ≡ length m.resources
  same_count = length-map m.resources (λ r. r.name)

  pub known_actions : list_all (is_known (length m.locations) (length m.modules) (length (resource_names m.resources))) m.actions ≡ true
  known_actions = rw same_count (actions_fit m.locations m.modules m.trays m.purges m.feeders m.resources m.actions m.ways m.holds)
