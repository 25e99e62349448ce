-- The numbers, locations, feeders and resources of a printed table keep their rules.
use Rattle.std.proofs.Common.{◌≡◌, ℕ, true, not, ◌&&◌, Option, Some, None, List, [], ◌∷◌, length, map, refl, ◌∙◌, arith}
use Rattle.std.specs.Prelude.{nat_le, pos}
use Rattle.std.specs.List.{list_all}
use Rattle.std.proofs.lemmas.Bool.{and_parts}
use Rattle.std.proofs.lemmas.Bool.Decides.{nat_tests}
use Rattle.std.proofs.lemmas.Int.{ints}
use Rattle.std.proofs.lemmas.List.{length-map}
use Rattle.tp_base.specs.NameText.{is_between, is_name_text}
use Rattle.toml.specs.Data.{string, integer}
use Rattle.tp_machine.specs.Rules as machine
use Rattle.tp_machine.specs.declared.parts.Feeder.{Feeder}
use Rattle.tp_machine.specs.declared.parts.Resource.{Resource}
use Rattle.tp_machine.specs.declared.machine.Machine.{Machine}
use Rattle.tp_machine_text.specs.Words.{is_whole}
use Rattle.tp_machine_text.specs.TopRules.{has_known_keys, has_format, has_lead, has_window, has_budget, has_locations, has_modules, has_trays, has_purges}
use Rattle.tp_machine_text.specs.SupplyRules.{has_feeders, has_media, has_resources, has_resource_modules}
use Rattle.tp_machine_text.specs.AmountRules.{has_gaps, has_stock}
use Rattle.tp_machine_text.specs.Printed.{name_at, loc_names, gaps_of, stocks_of, resource_names, table_of}
use Rattle.tp_machine.proofs.Amounts.{amounts_of}
use Rattle.tp_machine.proofs.NameFacts.{name_tests}
use Rattle.tp_machine_text.proofs.AmountsBack.{is_small, amounts_printed, all_among}
use Rattle.tp_machine_text.proofs.Built.{gap_names, stock_names}
use Rattle.tp_machine_text.proofs.MachineParts.{number_tests, count_tests, locations_differ, modules_differ, known_trays, known_purges, known_resources, same_count}
use Rattle.tp_machine_text.proofs.Back.{texts_back, feeder_keys, resource_keys}
use Rattle.tp_machine_text.proofs.PrintedLocations as printed
use Rattle.tp_machine_text.proofs.Seen.{list_all-map, values_of-items}

at_most_printed : (high n : ℕ) → nat_le n high ≡ true → is_whole (pos 0) (pos high) (integer (pos n)) ≡ true
at_most_printed high n test = grind (arith, ints, nat_tests)

between_printed : (low high n : ℕ) → is_between low high n ≡ true → is_whole (pos low) (pos high) (integer (pos n)) ≡ true
between_printed low high n test = grind (arith, ints, nat_tests)

stocks_small : (names : List (List ℕ)) (fs : List Feeder) → machine.have_stocks fs ≡ true → list_all (λ a. is_small 1000000 a.1) (stocks_of names fs) ≡ true
stocks_small names [] small = refl
stocks_small names (f ∷ fs) small =
    let (here, rest) = and_parts (machine.is_stock f.stock) (machine.have_stocks fs) small in
    rw (same f.stock here, stocks_small names fs rest) where
      same : (o : Option ℕ) → machine.is_stock o ≡ true → is_small 1000000 o ≡ true
      same None test = refl
      same (Some n) test = test

module _ (m : Machine) where
  pub known_keys : has_known_keys (table_of m) ≡ true
  unfolding table_of
  known_keys = refl

  pub format : has_format (table_of m) ≡ true
  unfolding table_of
  format = refl

  pub lead : has_lead (table_of m) ≡ true
  unfolding table_of
  lead = at_most_printed 4096 m.lead (number_tests m).lead

  pub window : has_window (table_of m) ≡ true
  unfolding table_of
  window = between_printed 1 32768 m.window (number_tests m).window

  pub budget : has_budget (table_of m) ≡ true
  unfolding table_of
  budget = between_printed 1 200000 m.budget (number_tests m).budget

  pub locations : has_locations (table_of m) ≡ true
  unfolding table_of
  locations = rw (values_of-items (map string m.locations)) (printed.names_printed 256 m.locations (count_tests m).locations (name_tests m).locations (locations_differ m))

  pub modules : has_modules (table_of m) ≡ true
  unfolding table_of
  modules = rw (values_of-items (map string m.modules)) (printed.names_printed 64 m.modules (count_tests m).modules (name_tests m).modules (modules_differ m))

  pub trays : has_trays (table_of m) ≡ true
  unfolding table_of
  trays =
      let (first, differ) = and_parts (nat_le 1 (length m.trays) && machine.are_locations m.locations m.trays) (machine.are_different m.trays) m.good_trays in
      let (some, known) = and_parts (nat_le 1 (length m.trays)) (machine.are_locations m.locations m.trays) first in
      rw (values_of-items (map string (loc_names m.locations m.trays)), texts_back m.locations) (printed.trays_printed m.locations m.trays (locations_differ m) (known_trays m) some differ)

  pub purges : has_purges (table_of m) ≡ true
  unfolding table_of
  purges =
      let (first, apart) = and_parts (machine.are_locations m.locations m.purges && machine.are_different m.purges) (list_all (λ p. not (machine.is_among m.trays p)) m.purges) m.good_purges in
      let (known, differ) = and_parts (machine.are_locations m.locations m.purges) (machine.are_different m.purges) first in
      rw (
        values_of-items (map string (loc_names m.locations m.purges)),
        texts_back m.locations,
        texts_back (loc_names m.locations m.trays),
        printed.texts_printed m.locations (loc_names m.locations m.purges) (printed.locs_among m.locations m.purges (known_purges m)) (printed.locs_apart m.locations m.purges (locations_differ m) (known_purges m) ∙ differ),
      )
      (printed.purges_apart m.locations m.trays m.purges (locations_differ m) (known_trays m) (known_purges m) apart)

  -- ---- feeders and resources

  pub feeders : has_feeders (table_of m) ≡ true
  unfolding table_of
  feeders =
      let (first, rise) = and_parts (nat_le 1 (length m.feeders) && list_all (machine.is_feeder_location m.locations m.trays m.purges) m.feeders) (machine.do_names_rise (machine.feeder_names m.locations m.feeders)) m.good_feeders in
      let (some, open_locations) = and_parts (nat_le 1 (length m.feeders)) (list_all (machine.is_feeder_location m.locations m.trays m.purges) m.feeders) first in
      rw (
        feeder_keys m.locations m.feeders,
        length-map m.feeders (λ (f : Feeder). name_at m.locations f.loc.0),
        some,
        texts_back m.locations,
        texts_back (loc_names m.locations m.trays),
        texts_back (loc_names m.locations m.purges),
      )
      (printed.feeders_printed m.locations m.trays m.purges m.feeders (locations_differ m) (known_trays m) (known_purges m) open_locations)

  pub media : has_media (table_of m) ≡ true
  unfolding table_of
  media = printed.media_printed m.locations m.feeders (name_tests m).media

  pub resources : has_resources (table_of m) ≡ true
  unfolding table_of
  resources = rw (resource_keys m.modules m.resources, (same_count m), (count_tests m).resources) (list_all-map is_name_text (λ (r : Resource). r.name) m.resources ∙ (name_tests m).resources)

  pub gaps : has_gaps (table_of m) ≡ true
  unfolding table_of
  gaps = rw (resource_keys m.modules m.resources) (amounts_printed (resource_names m.resources) 4096 (gaps_of m.resources) (rw (gap_names m.resources) (all_among (resource_names m.resources))) (list_all-map (λ a. is_small 4096 a.1) (λ (r : Resource). (r.name, Some r.gap)) m.resources ∙ (amounts_of m).gaps))

  pub stock : has_stock (table_of m) ≡ true
  unfolding table_of
  stock = rw (feeder_keys m.locations m.feeders) (amounts_printed (machine.feeder_names m.locations m.feeders) 1000000 (stocks_of m.locations m.feeders) (rw (stock_names m.locations m.feeders) (all_among (machine.feeder_names m.locations m.feeders))) (stocks_small m.locations m.feeders (amounts_of m).stocks))

  pub resource_modules : has_resource_modules (table_of m) ≡ true
  unfolding table_of
  resource_modules = rw (texts_back m.modules) (printed.modules_printed m.modules m.resources (known_resources m))
