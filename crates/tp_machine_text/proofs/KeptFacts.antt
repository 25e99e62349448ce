-- What a table that keeps the rules has, as the building of its machine asks it.
use Rattle.std.proofs.Common.{◌≡◌, ℕ, ℤ, pos, ◌≤◌, true, not, ◌&&◌, ◌||◌, is_some, List, length, map, arith}
use Rattle.std.specs.Prelude.{nat_le, codes}
use Rattle.std.specs.List.{list_all}
use Rattle.std.proofs.lemmas.Bool.{and_parts}
use Rattle.std.proofs.lemmas.Bool.Decides.{nat_tests}
use Rattle.tp_base.specs.NameText.{is_name_text}
use Rattle.toml.specs.Data.{Data, Members, get_member}
use Rattle.tp_machine_text.specs.Words.{elements_at, members_at, keys_of, data_of, is_whole, text_of, is_fit, is_array, is_table, is_name, is_among, is_one_of, is_apart, is_count, are_names, are_from, are_different}
use Rattle.tp_machine_text.specs.Keys as text
use Rattle.tp_machine_text.specs.SupplyRules.{is_open_location}
use Rattle.tp_machine_text.specs.TopRules.{is_second}
use Rattle.tp_machine_text.specs.ActionRules.{is_named}
use Rattle.tp_machine_text.specs.HoldRules.{has_holds, lacks_modes}
use Rattle.tp_machine_text.specs.AmountRules.{are_amounts, is_amount_table, has_amounts}
use Rattle.tp_machine_text.specs.Kept.{KeepsRules}
use Rattle.tp_machine_text.proofs.NumberFacts.{length_texts}
use Rattle.tp_machine_text.proofs.TextFacts.{all_one_of}
use Rattle.tp_machine_text.proofs.SupplyFacts.{keys_known}
use Rattle.tp_machine_text.proofs.Sorted.{few_among}

-- different names, counted
pub record AreNames (most : ℕ) (ds : List Data) : Type 0 where
  pub some : nat_le 1 (length ds) ≡ true
  pub few : nat_le (length ds) most ≡ true
  pub named : list_all is_name ds ≡ true
  pub differ : are_different (map text_of ds) ≡ true

pub names_parts : (most : ℕ) (ds : List Data) → are_names most ds ≡ true → AreNames most ds
names_parts most ds test =
    let (first, differ) = and_parts (is_count 1 most (length ds) && list_all is_name ds) (are_different (map text_of ds)) test in
    let (counted, named) = and_parts (is_count 1 most (length ds)) (list_all is_name ds) first in
    let (some, few) = and_parts (nat_le 1 (length ds)) (nat_le (length ds) most) counted in
    record { some = some; few = few; named = named; differ = differ }

at_most : (n m : ℕ) → nat_le n m ≡ true → n ≤ m
at_most n m test = grind (arith, nat_tests)

pub few_names : (most : ℕ) (ds : List Data) → are_names most ds ≡ true → length ds ≤ most
few_names most ds test = at_most (length ds) most (names_parts most ds test).few

pub names_wider : (ds : List Data) → are_names 64 ds ≡ true → are_names 256 ds ≡ true
names_wider ds test =
    let p = names_parts 64 ds test in
    let fits : nat_le (length ds) 256 ≡ true = grind (arith, nat_tests, few_names 64 ds test) in
    rw (p.some, fits, p.named, p.differ)

module _ (t : Members) (k : KeepsRules t) where
  pub few_locations : length (elements_at (codes "locations") t) ≤ 256
  few_locations = few_names 256 (elements_at (codes "locations") t) k.locations

  pub few_modules : length (elements_at (codes "modules") t) ≤ 64
  few_modules = few_names 64 (elements_at (codes "modules") t) k.modules

  pub trays_from : are_from (text.locations t) (elements_at (codes "trays") t) ≡ true
  trays_from = (and_parts (nat_le 1 (length (elements_at (codes "trays") t))) (are_from (text.locations t) (elements_at (codes "trays") t)) k.trays).1

  purge_parts : ((is_fit is_array (get_member (codes "purge") t) && are_from (text.locations t) (elements_at (codes "purge") t)) ≡ true) × (list_all (is_apart (text.trays t)) (elements_at (codes "purge") t) ≡ true)
  purge_parts = and_parts (is_fit is_array (get_member (codes "purge") t) && are_from (text.locations t) (elements_at (codes "purge") t)) (list_all (is_apart (text.trays t)) (elements_at (codes "purge") t)) k.purges

  pub purges_from : are_from (text.locations t) (elements_at (codes "purge") t) ≡ true
  purges_from = (and_parts (is_fit is_array (get_member (codes "purge") t)) (are_from (text.locations t) (elements_at (codes "purge") t)) purge_parts.0).1

  pub purges_apart : list_all (is_apart (text.trays t)) (elements_at (codes "purge") t) ≡ true
  purges_apart = purge_parts.1

  pub some_feeder : nat_le 1 (length (text.feeders t)) ≡ true
  some_feeder = (and_parts (nat_le 1 (length (text.feeders t))) (list_all (is_open_location (text.locations t) (text.trays t) (text.purges t)) (text.feeders t)) k.feeders).0

  pub feeders_open : list_all (is_open_location (text.locations t) (text.trays t) (text.purges t)) (text.feeders t) ≡ true
  feeders_open = (and_parts (nat_le 1 (length (text.feeders t))) (list_all (is_open_location (text.locations t) (text.trays t) (text.purges t)) (text.feeders t)) k.feeders).1

  pub feeders_known : list_all (is_among (text.locations t)) (text.feeders t) ≡ true
  feeders_known = keys_known (text.locations t) (text.trays t) (text.purges t) (text.feeders t) feeders_open

  resource_parts : ((is_fit is_table (get_member (codes "resources") t) && nat_le (length (text.resources t)) 256) ≡ true) × (list_all is_name_text (text.resources t) ≡ true)
  resource_parts = and_parts (is_fit is_table (get_member (codes "resources") t) && nat_le (length (text.resources t)) 256) (list_all is_name_text (text.resources t)) k.resources

  pub few_resources_test : nat_le (length (text.resources t)) 256 ≡ true
  few_resources_test = (and_parts (is_fit is_table (get_member (codes "resources") t)) (nat_le (length (text.resources t)) 256) resource_parts.0).1

  pub few_resources : length (text.resources t) ≤ 256
  few_resources = let test = few_resources_test in grind (arith, nat_tests)

  pub resources_named : list_all is_name_text (text.resources t) ≡ true
  resources_named = resource_parts.1

  pub actions_counted : is_count 1 512 (length (text.actions t)) ≡ true
  actions_counted = (and_parts (is_count 1 512 (length (text.actions t))) (list_all is_table (text.actions t)) k.actions).0

  pub few_actions : length (text.actions t) ≤ 512
  few_actions = at_most (length (text.actions t)) 512 (and_parts (nat_le 1 (length (text.actions t))) (nat_le (length (text.actions t)) 512) actions_counted).1

  name_parts : (list_all is_named (text.actions t) ≡ true) × (are_different (map (text.action_name) (text.actions t)) ≡ true)
  name_parts = and_parts (list_all is_named (text.actions t)) (are_different (map text.action_name (text.actions t))) k.action_names

  pub actions_named : list_all is_named (text.actions t) ≡ true
  actions_named = name_parts.0

  pub actions_differ : are_different (map text.action_name (text.actions t)) ≡ true
  actions_differ = name_parts.1

  pub holds_kept : list_all (has_holds (text.resources t)) (text.actions t) ≡ true
  holds_kept = (and_parts (list_all (has_holds (text.resources t)) (text.actions t)) (is_second t || list_all lacks_modes (text.actions t)) k.holds).0

  amounts_kept : (key : List ℕ) (names : List (List ℕ)) (most : ℤ) → has_amounts key names most t ≡ true → are_amounts names most (members_at key t) ≡ true
  amounts_kept key names most test =
      let fit = (and_parts (is_second t || not (is_some (get_member key t))) (is_amount_table names most (get_member key t)) test).1 in
      (and_parts (is_fit is_table (get_member key t)) (are_amounts names most (members_at key t)) fit).1

  pub gaps_whole : list_all (is_whole (pos 0) (pos 4096)) (data_of (text.gaps t)) ≡ true
  gaps_whole = (and_parts (list_all (is_among (text.resources t)) (keys_of (text.gaps t))) (list_all (is_whole (pos 0) (pos 4096)) (data_of (text.gaps t))) (amounts_kept (codes "gaps") (text.resources t) (pos 4096) k.gaps)).1

  pub stocks_whole : list_all (is_whole (pos 0) (pos 1000000)) (data_of (text.stocks t)) ≡ true
  stocks_whole = (and_parts (list_all (is_among (text.feeders t)) (keys_of (text.stocks t))) (list_all (is_whole (pos 0) (pos 1000000)) (data_of (text.stocks t))) (amounts_kept (codes "stock") (text.feeders t) (pos 1000000) k.stock)).1

-- different texts among names are no more than those
pub few_from : (names : List (List ℕ)) (ds : List Data) → are_from names ds ≡ true → length ds ≤ length names
few_from names ds from =
    let (known, differ) = and_parts (list_all (is_one_of names) ds) (are_different (map text_of ds)) from in
    let few = few_among names (map text_of ds) differ (all_one_of names ds known) in
    let e = length_texts ds in
    grind arith

pub texts_known : (names : List (List ℕ)) (ds : List Data) → are_from names ds ≡ true → list_all (is_among names) (map text_of ds) ≡ true
texts_known names ds from = all_one_of names ds (and_parts (list_all (is_one_of names) ds) (are_different (map text_of ds)) from).0
