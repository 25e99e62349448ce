-- The machine of a table that keeps the rules has what every machine has.
use Rattle.std.proofs.Common.{◌≡◌, ℕ, true, map, refl, ◌∙◌}
use Rattle.std.specs.Prelude.{nat_le, codes}
use Rattle.std.specs.List.{list_all}
use Rattle.std.proofs.lemmas.Bool.{and_parts}
use Rattle.std.proofs.lemmas.List.{length-map}
use Rattle.tp_base.specs.NameText.{is_between}
use Rattle.toml.specs.Data.{Members, get_member}
use Rattle.tp_machine.specs.Rules as machine
use Rattle.tp_machine.specs.Rules.{are_named}
use Rattle.tp_machine_text.specs.Words.{elements_at, members_at, is_among}
use Rattle.tp_machine_text.specs.Keys as text
use Rattle.tp_machine_text.specs.Kept.{KeepsRules}
use Rattle.tp_machine_text.specs.TheMachine.{number_or, loc_of, feeders_of, resources_of, action_of}
use Rattle.tp_machine_text.proofs.NumberFacts.{number_between, length_texts, length_resources, length_feeders}
use Rattle.tp_machine_text.proofs.KeptFacts.{names_parts, trays_from, purges_from, purges_apart, some_feeder, feeders_open, feeders_known, few_resources_test, actions_counted, actions_named, actions_differ, resources_named, texts_known, holds_kept, gaps_whole, stocks_whole}
use Rattle.tp_machine_text.proofs.SupplyFacts.{sound_trays, sound_purges, feeder_locations, feeder_names_are, sound_resources}
use Rattle.tp_machine_text.proofs.ActionFacts.{same_differ, action_names, sound_ways, sound_durations}
use Rattle.tp_machine_text.proofs.AmountFacts.{amounts_sound}
use Rattle.tp_machine_text.proofs.HoldsFacts.{actions_held}
use Rattle.tp_machine_text.proofs.Named.{names_sound, media_sound, resource_names_sound, action_names_sound, few_holds_sound}

low_end : (n high : ℕ) → is_between 0 high n ≡ true → nat_le n high ≡ true
low_end n high test = (and_parts (nat_le 0 n) (nat_le n high) test).1

abbrev feeder_table : Members → Members
feeder_table t = members_at (codes "feeders") t

abbrev resource_table : Members → Members
resource_table t = members_at (codes "resources") t

module _ (t : Members) (k : KeepsRules t) where
  pub numbers : machine.are_numbers (number_or 0 (get_member (codes "lead") t)) (number_or 2000 (get_member (codes "window") t)) (number_or 20000 (get_member (codes "budget") t)) ≡ true
  numbers =
      rw (
        low_end (number_or 0 (get_member (codes "lead") t)) 4096 (number_between 0 4096 0 (get_member (codes "lead") t) k.lead refl),
        number_between 1 32768 2000 (get_member (codes "window") t) k.window refl,
        number_between 1 200000 20000 (get_member (codes "budget") t) k.budget refl,
      )

  pub counts : machine.are_counts (text.locations t) (text.modules t) (resources_of (text.modules t) (text.gaps t) (resource_table t)) (map (action_of (text.locations t) (text.modules t) (text.resources t)) (text.actions t)) ≡ true
  counts =
      let locations = names_parts 256 (elements_at (codes "locations") t) k.locations in
      let parts = names_parts 64 (elements_at (codes "modules") t) k.modules in
      rw (
        length_texts (elements_at (codes "locations") t),
        locations.some,
        locations.few,
        length_texts (elements_at (codes "modules") t),
        parts.some,
        parts.few,
        length_resources (text.modules t) (text.gaps t) (resource_table t),
        few_resources_test t k,
        length-map (text.actions t) (action_of (text.locations t) (text.modules t) (text.resources t)),
      )
      (actions_counted t k)

  pub trays : machine.are_trays (text.locations t) (map (loc_of (text.locations t)) (text.trays t)) ≡ true
  trays = sound_trays (text.locations t) (elements_at (codes "trays") t) k.trays

  pub purges : machine.are_purges (text.locations t) (map (loc_of (text.locations t)) (text.trays t)) (map (loc_of (text.locations t)) (text.purges t)) ≡ true
  purges = sound_purges (text.locations t) (elements_at (codes "trays") t) (elements_at (codes "purge") t) (trays_from t k) (purges_from t k) (purges_apart t k)

  trays_known : list_all (is_among (text.locations t)) (text.trays t) ≡ true
  trays_known = texts_known (text.locations t) (elements_at (codes "trays") t) (trays_from t k)

  purges_known : list_all (is_among (text.locations t)) (text.purges t) ≡ true
  purges_known = texts_known (text.locations t) (elements_at (codes "purge") t) (purges_from t k)

  pub feeders : machine.do_names_rise (text.feeders t) ≡ true
      → machine.are_feeders (text.locations t) (map (loc_of (text.locations t)) (text.trays t)) (map (loc_of (text.locations t)) (text.purges t)) (feeders_of (text.locations t) (text.stocks t) (feeder_table t)) ≡ true
  feeders rise =
      rw (
        length_feeders (text.locations t) (text.stocks t) (feeder_table t),
        some_feeder t k,
        feeder_locations (text.locations t) (text.trays t) (text.purges t) (text.stocks t) (feeder_table t) trays_known purges_known (feeders_open t k),
        feeder_names_are (text.locations t) (text.stocks t) (feeder_table t) (feeders_known t k),
        rise,
      )

  pub resources : machine.do_names_rise (text.resources t) ≡ true → machine.are_resources (text.modules t) (resources_of (text.modules t) (text.gaps t) (resource_table t)) ≡ true
  resources rise = sound_resources (text.modules t) (text.gaps t) (resource_table t) k.resource_modules rise

  pub names : machine.do_actions_differ (map (action_of (text.locations t) (text.modules t) (text.resources t)) (text.actions t)) ≡ true
  names =
      rw (action_names (text.locations t) (text.modules t) (text.resources t) (text.actions t)) (same_differ (map text.action_name (text.actions t)) ∙ actions_differ t k)

  pub ways : machine.are_ways (text.locations t) (text.modules t) (map (loc_of (text.locations t)) (text.trays t)) (map (loc_of (text.locations t)) (text.purges t)) (feeders_of (text.locations t) (text.stocks t) (feeder_table t))
      (map (action_of (text.locations t) (text.modules t) (text.resources t)) (text.actions t)) ≡ true
  ways = sound_ways (text.locations t) (text.modules t) (text.resources t) (text.trays t) (text.purges t) (text.stocks t) (feeder_table t) (text.actions t)
      trays_known purges_known (feeders_known t k) k.action_modules k.action_ends k.ways

  pub durations : machine.have_durations (map (action_of (text.locations t) (text.modules t) (text.resources t)) (text.actions t)) ≡ true
  durations = sound_durations (text.locations t) (text.modules t) (text.resources t) (text.actions t) k.durations

  pub holds : machine.have_holds (resources_of (text.modules t) (text.gaps t) (resource_table t)) (map (action_of (text.locations t) (text.modules t) (text.resources t)) (text.actions t)) ≡ true
  holds = actions_held (text.locations t) (text.modules t) (text.gaps t) (resource_table t) (text.actions t) (holds_kept t k) k.begins k.lengths

  pub named : machine.are_named (text.locations t) (text.modules t) (feeders_of (text.locations t) (text.stocks t) (feeder_table t)) (resources_of (text.modules t) (text.gaps t) (resource_table t))
      (map (action_of (text.locations t) (text.modules t) (text.resources t)) (text.actions t)) ≡ true
  unfolding are_named
  named =
      rw (
        names_sound 256 (elements_at (codes "locations") t) k.locations,
        names_sound 64 (elements_at (codes "modules") t) k.modules,
        media_sound (text.locations t) (text.stocks t) (feeder_table t) k.media,
        resource_names_sound (text.modules t) (text.gaps t) (resource_table t) (resources_named t k),
        action_names_sound (text.locations t) (text.modules t) (text.resources t) (text.actions t) (actions_named t k),
      )

  pub few_holds : machine.have_few_holds (map (action_of (text.locations t) (text.modules t) (text.resources t)) (text.actions t)) ≡ true
  few_holds = few_holds_sound (text.locations t) (text.modules t) (text.resources t) (text.actions t) (holds_kept t k)

  pub amounts : machine.are_amounts (feeders_of (text.locations t) (text.stocks t) (feeder_table t)) (resources_of (text.modules t) (text.gaps t) (resource_table t))
      (map (action_of (text.locations t) (text.modules t) (text.resources t)) (text.actions t)) ≡ true
  amounts = amounts_sound (text.locations t) (text.modules t) (text.resources t) (text.stocks t) (feeder_table t) (text.gaps t) (resource_table t) (text.actions t) (stocks_whole t k) (gaps_whole t k) (holds_kept t k)
