-- The table that is printed for a machine keeps every rule.
use Rattle.std.proofs.Common.{◌≡◌, Bool, true, not, ◌&&◌, None, List, [], ◌∷◌, refl, length, map, sym, ◌∙◌, arith}
use Rattle.std.specs.Prelude.{nat_le}
use Rattle.std.specs.List.{list_all}
use Rattle.std.proofs.lemmas.Bool.{and_parts}
use Rattle.std.proofs.lemmas.List.{length-map}
use Rattle.tp_base.specs.NameText.{is_name_text}
use Rattle.toml.specs.Data.{Data, Members}
use Rattle.tp_machine.specs.Rules as machine
use Rattle.tp_machine.specs.Rules.{have_few_holds}
use Rattle.tp_machine.specs.declared.parts.Action.{Action}
use Rattle.tp_machine.specs.declared.parts.Feeder.{Feeder}
use Rattle.tp_machine.specs.declared.parts.LocId.{LocId}
use Rattle.tp_machine.specs.declared.machine.Machine.{Machine}
use Rattle.tp_machine_text.specs.Broken.{first_broken}
use Rattle.tp_machine_text.specs.Kept.{KeepsRules}
use Rattle.tp_machine_text.specs.Words.{is_table}
use Rattle.tp_machine_text.specs.Keys as text
use Rattle.tp_machine_text.specs.TopRules.{is_second}
use Rattle.tp_machine_text.specs.ActionRules.{is_named, is_of_module, has_ends, is_way, has_durations, has_prints, are_keys_among, has_actions, has_known_action_keys, has_action_names, has_action_modules, has_action_ends, has_ways, has_action_durations, has_action_prints}
use Rattle.tp_machine_text.specs.HoldRules.{has_holds, begins_all, fills_all, has_action_holds, has_hold_begins, has_hold_lengths}
use Rattle.tp_machine_text.specs.Printed.{is_known, name_at, loc_names, resource_names, action_data, table_of}
use Rattle.tp_machine.proofs.Amounts.{amounts_of}
use Rattle.tp_machine.proofs.NameFacts.{name_tests}
use Rattle.tp_machine_text.proofs.MachineParts.{count_tests, locations_differ, known_trays, known_purges, known_feeders, resources_differ, same_count, known_actions}
use Rattle.tp_machine_text.proofs.PrintedTops as tops
use Rattle.tp_machine_text.proofs.ActionFacts.{same_differ}
use Rattle.tp_machine_text.proofs.Back.{feeder_keys}
use Rattle.tp_machine_text.proofs.PrintedActions as deeds
use Rattle.tp_machine_text.proofs.PrintedBack.{locations_are, modules_are, trays_are, purges_are, resources_are}
use Rattle.tp_machine_text.proofs.Seen.{map-map, values_of-items}

-- where every rule is kept, none is broken
pub unbroken : (t : Members) → KeepsRules t → first_broken t ≡ None
unbroken t k =
    rw (
      k.known_keys,
      k.format,
      k.lead,
      k.window,
      k.budget,
      k.locations,
      k.modules,
      k.trays,
      k.purges,
      k.feeders,
      k.media,
      k.resources,
      k.resource_modules,
      k.actions,
      k.action_keys,
      k.action_names,
      k.action_modules,
      k.action_ends,
      k.ways,
      k.durations,
      k.prints,
      k.holds,
      k.begins,
      k.lengths,
      k.gaps,
      k.stock,
    )

both_all : {X : Type 0} (p q : X → Bool) (xs : List X) → list_all p xs ≡ true → list_all q xs ≡ true → list_all (λ x. p x && q x) xs ≡ true
both_all p q [] ps qs = refl
both_all p q (x ∷ xs) ps qs =
    let (p_here, p_rest) = and_parts (p x) (list_all p xs) ps in
    let (q_here, q_rest) = and_parts (q x) (list_all q xs) qs in
    rw (p_here, q_here, both_all p q xs p_rest q_rest)

module _ (m : Machine) where
  abbrev printed : Action → Data
  printed a = action_data m.locations m.modules (resource_names m.resources) a

  abbrev known : Action → Bool
  known a = is_known (length m.locations) (length m.modules) (length (resource_names m.resources)) a

  actions_are : text.actions (table_of m) ≡ map printed m.actions
  unfolding table_of
  actions_are = values_of-items (map printed m.actions)

  -- a test of each action that is printed
  each_action : (p q : Action → Bool) (r : Data → Bool) → ((a : Action) → p a ≡ true → q a ≡ true → r (printed a) ≡ true) → list_all p m.actions ≡ true → list_all q m.actions ≡ true → list_all r (map printed m.actions) ≡ true
  each_action p q r each ps qs = deeds.all_printed printed p q r m.actions each ps qs

  actions : has_actions (table_of m) ≡ true
  actions =
      rw (actions_are, length-map m.actions printed, (count_tests m).actions)
      (each_action known known is_table (λ a p q. deeds.table_printed m.locations m.modules (resource_names m.resources) a) (known_actions m) (known_actions m))

  action_keys : has_known_action_keys (table_of m) ≡ true
  action_keys =
      rw actions_are
      (each_action known known (are_keys_among text.action_keys) (λ a p q. deeds.keys_printed m.locations m.modules (resource_names m.resources) a) (known_actions m) (known_actions m))

  action_names : has_action_names (table_of m) ≡ true
  action_names =
      rw (
        actions_are,
        each_action known (λ a. is_name_text a.name) is_named (λ a p q. deeds.name_printed m.locations m.modules (resource_names m.resources) a q) (known_actions m) (name_tests m).actions,
        deeds.names_printed m.locations m.modules (resource_names m.resources) m.actions,
      )
      (sym (same_differ (map (λ a. a.name) m.actions)) ∙ m.names_differ)

  action_modules : has_action_modules (table_of m) ≡ true
  action_modules =
      rw (actions_are, modules_are m)
      (each_action known known (is_of_module m.modules) (λ a p q. deeds.module_printed m.locations m.modules (resource_names m.resources) a p) (known_actions m) (known_actions m))

  action_ends : has_action_ends (table_of m) ≡ true
  action_ends =
      rw (actions_are, locations_are m)
      (each_action known known (has_ends m.locations) (λ a p q. deeds.ends_printed m.locations m.modules (resource_names m.resources) a p) (known_actions m) (known_actions m))

  way_tests : (a : Action) → machine.is_way m.locations m.modules m.trays m.purges m.feeders a ≡ true
      → (not (machine.is_among m.trays a.from) && not (machine.is_among m.purges a.from) && not (machine.is_among (map (λ f. f.loc) m.feeders) a.to)) ≡ true
  way_tests a way = grind arith

  feeders_are : text.feeders (table_of m) ≡ loc_names m.locations (map (λ f. f.loc) m.feeders)
  unfolding table_of
  feeders_are = feeder_keys m.locations m.feeders ∙ sym (map-map (λ (l : LocId). name_at m.locations l.0) (λ (f : Feeder). f.loc) m.feeders)

  ways : has_ways (table_of m) ≡ true
  ways =
      rw (actions_are, trays_are m, purges_are m, feeders_are)
      (each_action known (machine.is_way m.locations m.modules m.trays m.purges m.feeders) (is_way (loc_names m.locations m.trays) (loc_names m.locations m.purges) (loc_names m.locations (map (λ f. f.loc) m.feeders)))
      (λ a p q. deeds.way_printed m.locations m.modules (resource_names m.resources) m.trays m.purges (map (λ f. f.loc) m.feeders) (locations_differ m) (known_trays m) (known_purges m) (known_feeders m) a p (way_tests a q))
      (known_actions m) m.ways)

  durations : has_action_durations (table_of m) ≡ true
  durations =
      rw actions_are
      (each_action machine.has_durations machine.has_durations has_durations (λ a p q. deeds.durations_printed m.locations m.modules (resource_names m.resources) a p) m.durations m.durations)

  prints : has_action_prints (table_of m) ≡ true
  prints = rw actions_are (each_action known known has_prints (λ a p q. deeds.prints_printed m.locations m.modules (resource_names m.resources) a) (known_actions m) (known_actions m))

  -- ---- holds

  few_and_modes : list_all (λ a. nat_le (length a.holds) 4 && machine.has_modes a) m.actions ≡ true
  unfolding have_few_holds
  few_and_modes = both_all (λ a. nat_le (length a.holds) 4) machine.has_modes m.actions m.few_holds (amounts_of m).modes

  second : is_second (table_of m) ≡ true
  unfolding table_of
  second = refl

  holds : has_action_holds (table_of m) ≡ true
  holds =
      rw (
        actions_are,
        resources_are m,
        second,
        each_action (machine.has_holds m.resources) (λ a. nat_le (length a.holds) 4 && machine.has_modes a) (has_holds (resource_names m.resources))
            (λ a p q. let (few, modes) = and_parts (nat_le (length a.holds) 4) (machine.has_modes a) q in deeds.holds_printed (resource_names m.resources) m.resources (same_count m) a m.locations m.modules (resources_differ m) p few modes) m.holds few_and_modes,
      )

  begins : has_hold_begins (table_of m) ≡ true
  begins =
      rw actions_are
      (each_action (machine.has_holds m.resources) (machine.has_holds m.resources) begins_all
      (λ a p q. deeds.begins_printed (resource_names m.resources) m.resources (same_count m) a m.locations m.modules p) m.holds m.holds)

  lengths : has_hold_lengths (table_of m) ≡ true
  lengths =
      rw actions_are
      (each_action (machine.has_holds m.resources) (machine.has_holds m.resources) fills_all
      (λ a p q. deeds.fills_printed (resource_names m.resources) m.resources (same_count m) a m.locations m.modules p) m.holds m.holds)

  pub rules_printed : KeepsRules (table_of m)
  rules_printed = record {
    known_keys = tops.known_keys m;
    format = tops.format m;
    lead = tops.lead m;
    window = tops.window m;
    budget = tops.budget m;
    locations = tops.locations m;
    modules = tops.modules m;
    trays = tops.trays m;
    purges = tops.purges m;
    feeders = tops.feeders m;
    media = tops.media m;
    resources = tops.resources m;
    resource_modules = tops.resource_modules m;
    actions = actions;
    action_keys = action_keys;
    action_names = action_names;
    action_modules = action_modules;
    action_ends = action_ends;
    ways = ways;
    durations = durations;
    prints = prints;
    holds = holds;
    begins = begins;
    lengths = lengths;
    gaps = tops.gaps m;
    stock = tops.stock m;
  }

  pub none_broken : first_broken (table_of m) ≡ None
  none_broken = unbroken (table_of m) rules_printed
