-- The rule of the first slip is the first rule that is broken.
use Rattle.std.proofs.Common.{◌≡◌, ℕ, ◌≤◌, ℤ, pos, negsuc, Bool, true, false, not, ◌&&◌, ◌||◌, is_some, List, length, map, refl, ap, ap₂, sym, ◌∙◌, Option, Some, None, arith}
use Rattle.std.specs.Prelude.{codes, int_le, nat_le}
use Rattle.std.specs.List.{list_all}
use Rattle.std.proofs.lemmas.Bool.{and_parts}
use Rattle.std.proofs.lemmas.Bool.Decides.{nat_tests}
use Rattle.toml.specs.Data.{Data, string, integer, float, boolean, datetime, array, table, Members, as_table}
use Rattle.tp_base.specs.NameText.{is_name_text}
use Rattle.tp_machine.specs.Limits.{longest, most_act_holds, most_actions, most_locations, most_mode, most_modules, most_resources, most_stock}
use Rattle.tp_machine_text.specs.Words.{are_different, are_from, are_names, data_of, elements_at, elements_in, is_among, is_apart, is_array, is_count, is_fit, is_name, is_one_of, is_table, is_there, is_truth_value, is_whole, keys_of, members_at, members_of, text_at, text_of, whole_at, whole_in}
use Rattle.tp_machine_text.specs.Keys.{action_keys, actions, feeders, hold_keys, kinds, locations, modules, purges, resources, trays}
use Rattle.tp_machine_text.specs.Order.{first_from, or_else}
use Rattle.tp_machine_text.specs.TopRules.{has_purges, has_trays, is_second, location_rules, number_rules}
use Rattle.tp_machine_text.specs.SupplyRules.{has_feeders, has_resources, supply_rules}
use Rattle.tp_machine_text.specs.ActionRules.{action_rules, are_keys_among, has_actions, has_action_names, has_durations, has_ends, has_known_action_keys, has_prints, is_named, is_of_module, is_way}
use Rattle.tp_machine_text.specs.HoldRules.{begins_all, begins_in_action, fills_all, has_action_holds, has_holds, hold_rules, holds, is_filled, is_hold, is_point, lacks_mode, lacks_modes, least_of, most_of}
use Rattle.tp_machine_text.specs.AmountRules.{amount_rules}
use Rattle.tp_machine_text.specs.Broken.{first_broken}
use Rattle.tp_machine_text.specs.Slips.{first_of, key_text}
use Rattle.tp_machine_text.specs.Wants.{is_noun, is_text}
use Rattle.tp_machine_text.specs.MachineSlips.{action_look, action_of, action_slips, actions_slip, all_actions, all_holds, amount_slips, amounts, amounts_slip, array_slip, at, durations_slip, ends_slip, feeders_slip, first_slip, hold_look, hold_of, hold_parts, hold_slip, hold_slips, location_slips, holds_slip, number_slips, of, prints_slip, purge_slip, resources_slip, single_hold, single_items, supply_slips, way_slip}
use Rattle.tp_machine_text.specs.declared.slip.ActionRule.{ActionRule}
use Rattle.tp_machine_text.specs.declared.slip.ActionRule.TheVariants as rule
use Rattle.tp_machine_text.specs.declared.slip.Key.{Key}
use Rattle.tp_machine_text.specs.declared.slip.Key.TheVariants as key
use Rattle.tp_machine_text.specs.declared.slip.Noun.{Noun}
use Rattle.tp_machine_text.specs.declared.slip.Noun.TheVariants as noun
use Rattle.tp_machine_text.specs.declared.slip.Slip.{Slip}
use Rattle.tp_machine_text.specs.declared.slip.Want.TheVariants as want
use Rattle.tp_machine_text.proofs.Clear.{all_and, all_or, all_same, all_with, and_assoc, and_false, and_last, apart_is, clear_amounts, clear_entries, clear_first_in, clear_items, clear_keys, clear_map, clear_optional, clear_or, clear_required, clear_single_items, clear_unless, first_rule, fit, iff, is_clear, name_is, name_there, one_is, one_there, or_rule, rule_of, with_all, with_and, with_different}

-- ---- the text itself

numbers : (t : Members) → map is_clear (number_slips t) ≡ number_rules t
numbers t =
    rw (
      clear_keys t noun.TopKey t,
      clear_required t key.Format _ (at key.Format t),
      clear_optional t key.Lead _ (at key.Lead t),
      clear_optional t key.Window _ (at key.Window t),
      clear_optional t key.Budget _ (at key.Budget t),
      fit (is_whole (pos 0) (pos 4096)) (at key.Lead t),
      fit (is_whole (pos 1) (pos 32768)) (at key.Window t),
      fit (is_whole (pos 1) (pos 200000)) (at key.Budget t),
    ) refl

names_clear : (t : Members) (k : Key) (most : ℕ) (ds : List Data) → is_clear (single_items t k (want.Is noun.Name) ds) ≡ (list_all is_name ds && are_different (map text_of ds))
names_clear t k most ds = clear_single_items t k (want.Is noun.Name) ds ∙ ap (λ b. b && are_different (map text_of ds)) (all_same _ is_name name_is ds)

places_clear : (t : Members) (k : Key) (ds : List Data) → is_clear (single_items t k (want.Is noun.Location) ds) ≡ are_from (locations t) ds
places_clear t k ds = clear_single_items t k (want.Is noun.Location) ds ∙ ap (λ b. b && are_different (map text_of ds)) (all_same _ (is_one_of (locations t)) (one_is (locations t)) ds)

names : (t : Members) (k : Key) (most : ℕ) → is_clear (array_slip t k (want.Items 1 most) (want.Is noun.Name)) ≡ are_names most (elements_in (at k t))
names t k most =
    clear_or _ (single_items t k (want.Is noun.Name) (elements_in (at k t)))
    ∙ ap₂ (λ a b. a && b) (clear_required t k (want.Items 1 most) (at k t)) (names_clear t k most (elements_in (at k t)))
    ∙ sym (and_assoc (is_count 1 most (length (elements_in (at k t)))) (list_all is_name (elements_in (at k t))) (are_different (map text_of (elements_in (at k t)))))

has_places : (t : Members) → is_clear (array_slip t key.Trays want.SomeItems (want.Is noun.Location)) ≡ has_trays t
has_places t =
    clear_or _ (single_items t key.Trays (want.Is noun.Location) (elements_at (codes "trays") t))
    ∙ ap₂ (λ a b. a && b) (clear_required t key.Trays want.SomeItems (at key.Trays t)) (places_clear t key.Trays (elements_at (codes "trays") t))

purge_items : (t : Members) (ds : List Data) → is_clear (single_items t key.Purge (want.Is noun.PurgePlace) ds) ≡ (are_from (locations t) ds && list_all (is_apart (trays t)) ds)
purge_items t ds =
    clear_single_items t key.Purge (want.Is noun.PurgePlace) ds
    ∙ ap (λ b. b && are_different (map text_of ds)) (all_same _ (λ d. is_one_of (locations t) d && is_apart (trays t) d) (apart_is (locations t) (trays t)) ds ∙ all_and (is_one_of (locations t)) (is_apart (trays t)) ds)
    ∙ and_last (list_all (is_one_of (locations t)) ds) (list_all (is_apart (trays t)) ds) (are_different (map text_of ds))

purge : (t : Members) → is_clear (purge_slip t) ≡ has_purges t
purge t =
    let ds = elements_at (codes "purge") t in
    clear_or _ (single_items t key.Purge (want.Is noun.PurgePlace) ds)
    ∙ ap₂ (λ a b. a && b) (clear_optional t key.Purge want.Array (at key.Purge t) ∙ fit is_array (at key.Purge t)) (purge_items t ds)
    ∙ sym (and_assoc (is_fit is_array (at key.Purge t)) (are_from (locations t) ds) (list_all (is_apart (trays t)) ds))

locations_kept : (t : Members) → map is_clear (location_slips t) ≡ location_rules t
locations_kept t = rw (names t key.Locations most_locations, names t key.Modules most_modules, has_places t, purge t) refl

feeders_kept : (t : Members) → is_clear (feeders_slip t) ≡ has_feeders t
feeders_kept t = clear_or _ _ ∙ ap₂ (λ a b. a && b) (clear_required t key.Feeders want.SomeKeys (at key.Feeders t)) (clear_entries t key.Feeders noun.FeederPlace (members_at (codes "feeders") t))

resources_kept : (t : Members) → is_clear (resources_slip t) ≡ has_resources t
resources_kept t =
    clear_or _ _
    ∙ ap₂ (λ a b. a && b) (clear_optional t key.Resources want.Table (at key.Resources t) ∙ fit is_table (at key.Resources t))
    (clear_or _ _ ∙ ap₂ (λ a b. a && b) (clear_required t key.Resources (want.Keys most_resources) (at key.Resources t)) (clear_entries t key.Resources noun.Name (members_at (codes "resources") t)))
    ∙ sym (and_assoc (is_fit is_table (at key.Resources t)) (nat_le (length (resources t)) most_resources) (list_all is_name_text (resources t)))

media : (t : Members) (k : Key) (ms : Members) → is_clear (amounts t k (want.Is noun.Name) ms) ≡ list_all is_name (data_of ms)
media t k ms = clear_amounts t k (want.Is noun.Name) ms ∙ all_same _ is_name name_is (data_of ms)

of_modules : (t : Members) (ms : Members) → is_clear (amounts t key.Resources (want.Is noun.Module) ms) ≡ list_all (is_one_of (modules t)) (data_of ms)
of_modules t ms = clear_amounts t key.Resources (want.Is noun.Module) ms ∙ all_same _ (is_one_of (modules t)) (one_is (modules t)) (data_of ms)

supplies : (t : Members) → map is_clear (supply_slips t) ≡ supply_rules t
supplies t = rw (feeders_kept t, media t key.Feeders (members_at (codes "feeders") t), resources_kept t, of_modules t (members_at (codes "resources") t)) refl

amounts_kept : (t : Members) (k : Key) (n : Noun) (most : ℕ) → is_clear (amounts_slip t k n most)
    ≡ ((is_second t || not (is_some (at k t))) && (is_fit is_table (at k t) && (list_all (is_noun t n) (keys_of (members_at (key_text k) t)) && list_all (is_whole (pos 0) (pos most)) (data_of (members_at (key_text k) t)))))
amounts_kept t k n most =
    let ms = members_at (key_text k) t in
    clear_or _ _
    ∙ ap₂ (λ a b. a && b) (clear_required t k want.Second (at k t))
    (clear_or _ _ ∙ ap₂ (λ a b. a && b) (clear_optional t k want.Table (at k t) ∙ fit is_table (at k t))
    (clear_or _ _ ∙ ap₂ (λ a b. a && b) (clear_entries t k n ms) (clear_amounts t k (want.Whole (pos 0) (pos most)) ms)))

amounts_all : (t : Members) → map is_clear (amount_slips t) ≡ amount_rules t
amounts_all t = rw (amounts_kept t key.Gaps noun.Resource longest, amounts_kept t key.Stock noun.Feeder most_stock) refl

-- ---- holds

single_kept : (h : Data) (later : List Data) → is_clear (single_hold h later) ≡ not (is_among (map (text_at (codes "resource")) later) (text_at (codes "resource") h))
single_kept h later = clear_unless _ _

-- what rule 22 says of a hold, but for those behind it and the format
abbrev sound : Members → Data → Bool
sound t h =
    is_table h && (are_keys_among hold_keys h && (is_there (is_one_of (resources t)) (of key.Resource h)
    && (is_point (elements_in (of key.Begin h)) && (is_point (elements_in (of key.End h)) && is_fit (is_whole (pos 0) (pos most_mode)) (of key.Mode h)))))

abbrev single : Data → List Data → Bool
single h later = not (is_among (map (text_at (codes "resource")) later) (text_at (codes "resource") h))

abbrev moded : Members → Data → Bool
moded t h = is_second t || lacks_mode h

-- a and (b and (c and (d and (e and (f and (g and h)))))) in three parts
in_parts : (a b c d e f g h : Bool) → (a && (b && (c && (d && (e && (f && (g && h))))))) ≡ (((a && (b && (c && (d && (e && f))))) && g) && h)
in_parts true true true true true true g h = refl
in_parts true true true true true false g h = refl
in_parts true true true true false f g h = refl
in_parts true true true false e f g h = refl
in_parts true true false d e f g h = refl
in_parts true false c d e f g h = refl
in_parts false b c d e f g h = refl

moded_is : (t : Members) (h : Data) → (is_second t || not (is_some (of key.Mode h))) ≡ moded t h
unfolding lacks_mode
moded_is t h = refl

parts_kept : (t : Members) (h : Data) (later : List Data) → is_clear (hold_parts t h later)
    ≡ (is_point (elements_in (of key.Begin h)) && (is_point (elements_in (of key.End h)) && (is_fit (is_whole (pos 0) (pos most_mode)) (of key.Mode h) && (single h later && moded t h))))
parts_kept t h later =
    clear_or _ _ ∙ ap₂ (λ a b. a && b) (clear_required t key.Begin want.Point (of key.Begin h))
    (clear_or _ _ ∙ ap₂ (λ a b. a && b) (clear_required t key.End want.Point (of key.End h))
    (clear_or _ _ ∙ ap₂ (λ a b. a && b) (clear_optional t key.Mode (want.Whole (pos 0) (pos most_mode)) (of key.Mode h) ∙ fit (is_whole (pos 0) (pos most_mode)) (of key.Mode h))
    (clear_or _ _ ∙ ap₂ (λ a b. a && b) (single_kept h later) (clear_required t key.Mode want.Second (of key.Mode h) ∙ moded_is t h))))

hold_kept : (t : Members) (h : Data) (later : List Data) → is_clear (hold_slip t h later) ≡ ((sound t h && single h later) && moded t h)
hold_kept t h later =
    clear_or _ _ ∙ ap₂ (λ a b. a && b) (clear_unless (is_table h) _)
    (clear_or _ _ ∙ ap₂ (λ a b. a && b) (clear_keys t noun.HoldKey (members_of (as_table h)))
    (clear_or _ _ ∙ ap₂ (λ a b. a && b) (clear_required t key.Resource (want.Is noun.Resource) (of key.Resource h) ∙ one_there (resources t) (of key.Resource h)) (parts_kept t h later)))
    ∙ in_parts (is_table h) (are_keys_among hold_keys h) (is_there (is_one_of (resources t)) (of key.Resource h)) (is_point (elements_in (of key.Begin h))) (is_point (elements_in (of key.End h)))
    (is_fit (is_whole (pos 0) (pos most_mode)) (of key.Mode h)) (single h later) (moded t h)

six : (a b c d e f : Bool) → (a && (b && (c && (d && (e && f))))) ≡ (((((a && b) && c) && d) && e) && f)
six true true true true e f = refl
six true true true false e f = refl
six true true false d e f = refl
six true false c d e f = refl
six false b c d e f = refl

sound_is : (t : Members) (h : Data) → sound t h ≡ is_hold (resources t) h
unfolding is_hold
sound_is t h = six (is_table h) (are_keys_among hold_keys h) (is_there (is_one_of (resources t)) (of key.Resource h)) (is_point (elements_in (of key.Begin h))) (is_point (elements_in (of key.End h)))
    (is_fit (is_whole (pos 0) (pos most_mode)) (of key.Mode h))

-- each hold passes, looked at with those behind it
all_holds_kept : (t : Members) (r : ActionRule) (a : Data) (p : Data → List Data → Bool) → ((h : Data) (later : List Data) → is_clear (hold_look t r a h later) ≡ p h later) → is_clear (all_holds t r a) ≡ all_with p (holds a)
all_holds_kept t r a p same = clear_first_in (hold_of t r a) p (λ n h later. clear_map _ (hold_look t r a h later) ∙ same h later) 0 (holds a)

holds_of_action : (t : Members) (a : Data) → is_clear (all_holds t rule.Holds a)
    ≡ ((list_all (is_hold (resources t)) (holds a) && are_different (map (text_at (codes "resource")) (holds a))) && list_all (moded t) (holds a))
holds_of_action t a =
    all_holds_kept t rule.Holds a (λ h later. (sound t h && single h later) && moded t h) (hold_kept t)
    ∙ with_and (λ h later. sound t h && single h later) (moded t) (holds a)
    ∙ ap (λ b. b && list_all (moded t) (holds a))
    (with_different (sound t) (text_at (codes "resource")) (holds a) ∙ ap (λ b. b && are_different (map (text_at (codes "resource")) (holds a))) (all_same (sound t) (is_hold (resources t)) (sound_is t) (holds a)))

-- ---- actions

ends_kept : (t : Members) (a : Data) → is_clear (ends_slip t a) ≡ has_ends (locations t) a
unfolding has_ends
ends_kept t a =
    clear_or _ _ ∙ ap₂ (λ a b. a && b) (clear_required t key.From (want.Is noun.Location) (of key.From a) ∙ one_there (locations t) (of key.From a))
    (clear_required t key.To (want.Is noun.Location) (of key.To a) ∙ one_there (locations t) (of key.To a))

way_kept : (t : Members) (a : Data) → is_clear (way_slip t a) ≡ is_way (trays t) (purges t) (feeders t) a
unfolding is_way
way_kept t a =
    clear_or _ _ ∙ ap₂ (λ a b. a && b) (clear_required t key.From (want.IsNot noun.Tray) (of key.From a))
    (clear_or _ _ ∙ ap₂ (λ a b. a && b) (clear_required t key.From (want.IsNot noun.PurgeTray) (of key.From a)) (clear_required t key.To (want.IsNot noun.Feeder) (of key.To a)))
    ∙ sym (and_assoc (not (is_among (trays t) (text_at (codes "from") a))) (not (is_among (purges t) (text_at (codes "from") a))) (not (is_among (feeders t) (text_at (codes "to") a))))

prints_kept : (t : Members) (a : Data) → is_clear (prints_slip t a) ≡ has_prints a
unfolding has_prints
prints_kept t a =
    let ds = elements_in (of key.Prints a) in
    clear_or _ _ ∙ ap₂ (λ a b. a && b) (clear_optional t key.Prints want.Array (of key.Prints a) ∙ fit is_array (of key.Prints a))
    (clear_or _ _ ∙ ap₂ (λ a b. a && b) (clear_single_items t key.Prints (want.Is noun.Kind) ds ∙ ap (λ b. b && are_different (map text_of ds)) (all_same _ (is_one_of kinds) (one_is kinds) ds))
    (clear_optional t key.Flip want.TruthValue (of key.Flip a) ∙ fit is_truth_value (of key.Flip a)))
    ∙ sym (and_assoc (is_fit is_array (of key.Prints a)) (are_from kinds ds) (is_fit is_truth_value (of key.Flip a)))

-- the tests of two durations
at_most : (n m : ℕ) → nat_le n m ≡ true → n ≤ m
at_most n m test = grind (arith, nat_tests)

at_least : (n m : ℕ) → n ≤ m → nat_le n m ≡ true
at_least n m test = grind (arith, nat_tests)

forth : (n m : ℕ) → ((nat_le 1 n && nat_le n 4096) && ((nat_le 1 m && nat_le m 4096) && nat_le n m)) ≡ true → ((nat_le 1 n && nat_le n m) && nat_le m 4096) ≡ true
forth n m h =
    let (p, q) = and_parts (nat_le 1 n && nat_le n 4096) ((nat_le 1 m && nat_le m 4096) && nat_le n m) h in
    let (a, b) = and_parts (nat_le 1 n) (nat_le n 4096) p in
    let (r, s) = and_parts (nat_le 1 m && nat_le m 4096) (nat_le n m) q in
    let (d, e) = and_parts (nat_le 1 m) (nat_le m 4096) r in
    rw (a, s, e) refl

back : (n m : ℕ) → ((nat_le 1 n && nat_le n m) && nat_le m 4096) ≡ true → ((nat_le 1 n && nat_le n 4096) && ((nat_le 1 m && nat_le m 4096) && nat_le n m)) ≡ true
back n m h =
    let (p, e) = and_parts (nat_le 1 n && nat_le n m) (nat_le m 4096) h in
    let (a, s) = and_parts (nat_le 1 n) (nat_le n m) p in
    let b = at_least n 4096 (omega (arith, at_most n m s, at_most m 4096 e)) in
    let d = at_least 1 m (omega (arith, at_most 1 n a, at_most n m s)) in
    rw (a, b, d, e, s) refl

no_both : (n : ℕ) → (nat_le 1 n && nat_le n 0) ≡ true → false ≡ true
no_both n h =
    let (a, b) = and_parts (nat_le 1 n) (nat_le n 0) h in
    grind (arith, at_most 1 n a, at_most n 0 b)

ranges : (z w : ℤ) → ((int_le (pos 1) z && int_le z (pos 4096)) && ((int_le (pos 1) w && int_le w (pos 4096)) && int_le z w)) ≡ ((int_le (pos 1) z && int_le z w) && int_le w (pos 4096))
ranges (pos n) (pos m) = iff ((nat_le 1 n && nat_le n 4096) && ((nat_le 1 m && nat_le m 4096) && nat_le n m)) ((nat_le 1 n && nat_le n m) && nat_le m 4096) (forth n m) (back n m)
ranges (pos n) (negsuc m) = and_false (nat_le 1 n && nat_le n 4096) ∙ sym (ap (λ b. b && true) (and_false (nat_le 1 n)))
ranges (negsuc n) w = refl

no_range : (z : ℤ) → ((int_le (pos 1) z && int_le z (pos 4096)) && false) ≡ ((int_le (pos 1) z && int_le z (pos 0)) && true)
no_range (pos n) = and_false (nat_le 1 n && nat_le n 4096) ∙ sym (ap (λ b. b && true) (iff (nat_le 1 n && nat_le n 0) false (no_both n) (λ h. absurd cc)))
no_range (negsuc n) = refl

most_there : (z : ℤ) (o : Option Data) → ((int_le (pos 1) z && int_le z (pos 4096)) && (is_there (is_whole (pos 1) (pos 4096)) o && int_le z (whole_in o))) ≡ ((int_le (pos 1) z && int_le z (whole_in o)) && int_le (whole_in o) (pos 4096))
most_there z None = no_range z
most_there z (Some (integer w)) = ranges z w
most_there z (Some (string s)) = no_range z
most_there z (Some (float x)) = no_range z
most_there z (Some (boolean b)) = no_range z
most_there z (Some (datetime x)) = no_range z
most_there z (Some (array ds)) = no_range z
most_there z (Some (table ms)) = no_range z

both_there : (o p : Option Data) → (is_there (is_whole (pos 1) (pos 4096)) o && (is_there (is_whole (pos 1) (pos 4096)) p && int_le (whole_in o) (whole_in p))) ≡ ((int_le (pos 1) (whole_in o) && int_le (whole_in o) (whole_in p)) && int_le (whole_in p) (pos 4096))
both_there None p = refl
both_there (Some (integer z)) p = most_there z p
both_there (Some (string s)) p = refl
both_there (Some (float x)) p = refl
both_there (Some (boolean b)) p = refl
both_there (Some (datetime x)) p = refl
both_there (Some (array ds)) p = refl
both_there (Some (table ms)) p = refl

durations_kept : (t : Members) (a : Data) → is_clear (durations_slip t a) ≡ has_durations a
unfolding has_durations
durations_kept t a =
    clear_or _ _ ∙ ap₂ (λ a b. a && b) (clear_required t key.Least (want.Whole (pos 1) (pos longest)) (of key.Least a))
    (clear_or _ _ ∙ ap₂ (λ a b. a && b) (clear_required t key.Most (want.Whole (pos 1) (pos longest)) (of key.Most a)) (clear_unless (int_le (whole_at (codes "least") a) (whole_at (codes "most") a)) _))
    ∙ both_there (of key.Least a) (of key.Most a)

few : (n : ℕ) → is_count 0 most_act_holds n ≡ nat_le n most_act_holds
few n = ap (λ b. b && nat_le n most_act_holds) (at_least 0 n (omega arith))

four : (a b c d e : Bool) → (a && (b && ((c && d) && e))) ≡ ((((a && b) && c) && d) && e)
four true true true d e = refl
four true true false d e = refl
four true false c d e = refl
four false b c d e = refl

holds_kept : (t : Members) (a : Data) → is_clear (holds_slip t a) ≡ (has_holds (resources t) a && list_all (moded t) (holds a))
unfolding has_holds
holds_kept t a =
    clear_or _ _ ∙ ap₂ (λ a b. a && b) (clear_optional t key.Holds want.Array (of key.Holds a) ∙ fit is_array (of key.Holds a))
    (clear_or _ _ ∙ ap₂ (λ a b. a && b) (clear_required t key.Holds (want.Items 0 most_act_holds) (of key.Holds a) ∙ few (length (holds a))) (holds_of_action t a))
    ∙ four (is_fit is_array (of key.Holds a)) (nat_le (length (holds a)) most_act_holds) (list_all (is_hold (resources t)) (holds a)) (are_different (map (text_at (codes "resource")) (holds a))) (list_all (moded t) (holds a))

-- each action passes, looked at with those behind it
actions_with : (t : Members) (r : ActionRule) (p : Data → List Data → Bool) → ((a : Data) (later : List Data) → is_clear (action_look t r a later) ≡ p a later) → is_clear (all_actions t r) ≡ all_with p (actions t)
actions_with t r p same = clear_first_in (action_of t r) p (λ n a later. clear_map _ (action_look t r a later) ∙ same a later) 0 (actions t)

actions_all : (t : Members) (r : ActionRule) (p : Data → Bool) → ((a : Data) (later : List Data) → is_clear (action_look t r a later) ≡ p a) → is_clear (all_actions t r) ≡ list_all p (actions t)
actions_all t r p same = actions_with t r (λ a _. p a) same ∙ with_all p (actions t)

named_is : (a : Data) → is_text is_name_text (of key.Name a) ≡ is_named a
unfolding is_named
named_is a = name_there (of key.Name a)

name_look : (t : Members) (a : Data) (later : List Data) → is_clear (action_look t rule.Name a later) ≡ (is_named a && not (is_among (map (text_at (codes "name")) later) (text_at (codes "name") a)))
name_look t a later = clear_or _ _ ∙ ap₂ (λ a b. a && b) (clear_required t key.Name (want.Is noun.Name) (of key.Name a) ∙ named_is a) (clear_unless _ _)

names_kept : (t : Members) → is_clear (all_actions t rule.Name) ≡ has_action_names t
names_kept t = actions_with t rule.Name _ (name_look t) ∙ with_different is_named (text_at (codes "name")) (actions t)

of_module_is : (t : Members) (a : Data) (later : List Data) → is_clear (action_look t rule.Module a later) ≡ is_of_module (modules t) a
unfolding is_of_module
of_module_is t a later = clear_required t key.Module (want.Is noun.Module) (of key.Module a) ∙ one_there (modules t) (of key.Module a)

tables_kept : (t : Members) → is_clear (actions_slip t) ≡ has_actions t
tables_kept t = clear_or _ _ ∙ ap₂ (λ a b. a && b) (clear_required t key.Actions (want.Items 1 most_actions) (at key.Actions t)) (clear_items t key.Actions want.Table (actions t))

keys_kept : (t : Members) → is_clear (all_actions t rule.Keys) ≡ has_known_action_keys t
keys_kept t = actions_all t rule.Keys (are_keys_among action_keys) (λ a later. clear_keys t noun.ActionKey (members_of (as_table a)))

actions_kept : (t : Members) → map is_clear (action_slips t) ≡ action_rules t
actions_kept t =
    rw (
      tables_kept t,
      keys_kept t,
      names_kept t,
      actions_all t rule.Module (is_of_module (modules t)) (of_module_is t),
      actions_all t rule.Ends (has_ends (locations t)) (λ a later. ends_kept t a),
      actions_all t rule.Way (is_way (trays t) (purges t) (feeders t)) (λ a later. way_kept t a),
      actions_all t rule.Durations has_durations (λ a later. durations_kept t a),
      actions_all t rule.Prints has_prints (λ a later. prints_kept t a),
    ) refl

all_moded : (t : Members) → list_all (λ a. list_all (moded t) (holds a)) (actions t) ≡ (is_second t || list_all lacks_modes (actions t))
all_moded t = all_same (λ a. list_all (moded t) (holds a)) (λ a. is_second t || lacks_modes a) (λ a. all_or (is_second t) lacks_mode (holds a)) (actions t) ∙ all_or (is_second t) lacks_modes (actions t)

rule_22 : (t : Members) → is_clear (all_actions t rule.Holds) ≡ has_action_holds t
rule_22 t =
    actions_all t rule.Holds (λ a. has_holds (resources t) a && list_all (moded t) (holds a)) (λ a later. holds_kept t a)
    ∙ all_and (has_holds (resources t)) (λ a. list_all (moded t) (holds a)) (actions t)
    ∙ ap (λ b. list_all (has_holds (resources t)) (actions t) && b) (all_moded t)

begins_kept : (t : Members) (a : Data) → is_clear (all_holds t rule.Begins a) ≡ begins_all a
begins_kept t a = all_holds_kept t rule.Begins a (λ h _. begins_in_action (least_of a) h) (λ h later. clear_unless (begins_in_action (least_of a) h) _) ∙ with_all (begins_in_action (least_of a)) (holds a)

fills_kept : (t : Members) (a : Data) → is_clear (all_holds t rule.Lengths a) ≡ fills_all a
fills_kept t a = all_holds_kept t rule.Lengths a (λ h _. is_filled (least_of a) (most_of a) h) (λ h later. clear_unless (is_filled (least_of a) (most_of a) h) _) ∙ with_all (is_filled (least_of a) (most_of a)) (holds a)

holds_all_kept : (t : Members) → map is_clear (hold_slips t) ≡ hold_rules t
holds_all_kept t = rw (rule_22 t, actions_all t rule.Begins begins_all (λ a later. begins_kept t a), actions_all t rule.Lengths fills_all (λ a later. fills_kept t a)) refl

-- ---- all rules

ranged : (n : ℕ) (slips : List (Option Slip)) (rules : List Bool) → map is_clear slips ≡ rules → rule_of (first_of n slips) ≡ first_from n rules
ranged n slips rules same = first_rule n slips ∙ ap (first_from n) same

pub broken_rule : (t : Members) → rule_of (first_slip t) ≡ first_broken t
broken_rule t =
    or_rule (first_of 1 (number_slips t)) _ ∙ ap₂ or_else (ranged 1 (number_slips t) _ (numbers t))
    (or_rule (first_of 6 (location_slips t)) _ ∙ ap₂ or_else (ranged 6 (location_slips t) _ (locations_kept t))
    (or_rule (first_of 10 (supply_slips t)) _ ∙ ap₂ or_else (ranged 10 (supply_slips t) _ (supplies t))
    (or_rule (first_of 14 (action_slips t)) _ ∙ ap₂ or_else (ranged 14 (action_slips t) _ (actions_kept t))
    (or_rule (first_of 22 (hold_slips t)) _ ∙ ap₂ or_else (ranged 22 (hold_slips t) _ (holds_all_kept t)) (ranged 25 (amount_slips t) _ (amounts_all t))))))
