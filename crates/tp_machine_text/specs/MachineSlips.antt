-- The first place of a machine text that breaks each rule.
use Rattle.std.specs.Prelude.{ℕ, pos, not, is_some, ◌||◌, int_le, List, [], ◌∷◌, map, codes, position, Option, Some, option_map}
use Rattle.toml.specs.Data.{Data, Members, get_member, get, as_table}
use Rattle.tp_machine.specs.Limits.{longest, most_act_holds, most_actions, most_budget, most_locations, most_mode, most_modules, most_resources, most_stock, most_window}
use Rattle.tp_machine_text.specs.Words.{data_of, elements_at, elements_in, is_among, keys_of, members_at, members_of, text_at, text_of, whole_at}
use Rattle.tp_machine_text.specs.Keys.{actions}
use Rattle.tp_machine_text.specs.HoldRules.{holds, begins_in_action, is_filled, least_of, most_of}
use Rattle.tp_machine_text.specs.Slips.{key_text, slip, in_action, in_hold, unless, or_slip, first_in, first_of}
use Rattle.tp_machine_text.specs.Wants.{is_noun, meets}
use Rattle.tp_machine_text.specs.declared.slip.ActionRule.{ActionRule}
use Rattle.tp_machine_text.specs.declared.slip.ActionRule.TheVariants as rule
use Rattle.tp_machine_text.specs.declared.slip.Key.{Key}
use Rattle.tp_machine_text.specs.declared.slip.Key.TheVariants as key
use Rattle.tp_machine_text.specs.declared.slip.Noun.{Noun}
use Rattle.tp_machine_text.specs.declared.slip.Noun.TheVariants as noun
use Rattle.tp_machine_text.specs.declared.slip.Part.TheVariants as part
use Rattle.tp_machine_text.specs.declared.slip.Slip.{Slip}
use Rattle.tp_machine_text.specs.declared.slip.Want.{Want}
use Rattle.tp_machine_text.specs.declared.slip.Want.TheVariants as want
use Rattle.tp_machine_text.specs.declared.slip.Wrong.TheVariants as wrong

-- ---- what is looked at

-- the value is what is wanted; where it may be absent, or is
abbrev pub required : Members → Key → Want → Option Data → Option Slip
required t k w value = unless (meets t w value) (slip (part.Field k) (wrong.Not w))

abbrev pub optional : Members → Key → Want → Option Data → Option Slip
optional t k w value = unless (not (is_some value) || meets t w value) (slip (part.Field k) (wrong.Not w))

-- the number of the first key that is not that
abbrev pub first_other : Members → Noun → Members → Option ℕ
first_other t n ms = position (λ key. not (is_noun t n key)) (keys_of ms)

-- the keys of a text, an action or a hold
abbrev pub own_keys : Members → Noun → Members → Option Slip
own_keys t n ms = option_map (λ i. slip (part.Key i) (wrong.Not (want.Is n))) (first_other t n ms)

-- the keys of the table at a key
abbrev pub entries : Members → Key → Noun → Members → Option Slip
entries t k n ms = option_map (λ i. slip (part.Entry k i) (wrong.Not (want.Is n))) (first_other t n ms)

-- a value of the table at a key
abbrev pub amount : Members → Key → Want → ℕ → Data → List Data → Option Slip
amount t k w i d later = unless (meets t w (Some d)) (slip (part.Amount k i) (wrong.Not w))

abbrev pub amounts : Members → Key → Want → Members → Option Slip
amounts t k w ms = first_in (amount t k w) 0 (data_of ms)

-- a value of the array at a key; its text stands in no value behind it
abbrev pub item : Members → Key → Want → ℕ → Data → List Data → Option Slip
item t k w i d later = unless (meets t w (Some d)) (slip (part.Item k i) (wrong.Not w))

unfoldable pub single_item : Members → Key → Want → ℕ → Data → List Data → Option Slip
single_item t k w i d later = or_slip (item t k w i d later) (unless (not (is_among (map text_of later) (text_of d))) (slip (part.Item k i) wrong.Twice))

abbrev pub single_items : Members → Key → Want → List Data → Option Slip
single_items t k w ds = first_in (single_item t k w) 0 ds

-- ---- the rules on the text itself, 1 to 14, 25 and 26

abbrev pub at : Key → Members → Option Data
at k t = get_member (key_text k) t

abbrev pub number_slips : Members → List (Option Slip)
number_slips t =
    own_keys t noun.TopKey t
    ∷ required t key.Format (want.Whole (pos 1) (pos 2)) (at key.Format t)
    ∷ optional t key.Lead (want.Whole (pos 0) (pos longest)) (at key.Lead t)
    ∷ optional t key.Window (want.Whole (pos 1) (pos most_window)) (at key.Window t)
    ∷ optional t key.Budget (want.Whole (pos 1) (pos most_budget)) (at key.Budget t) ∷ []

-- the array at a key, which is what is wanted, and its values, which are what is wanted and differ
abbrev pub array_slip : Members → Key → Want → Want → Option Slip
array_slip t k whole each = or_slip (required t k whole (at k t)) (single_items t k each (elements_at (key_text k) t))

abbrev pub purge_slip : Members → Option Slip
purge_slip t = or_slip (optional t key.Purge want.Array (at key.Purge t)) (single_items t key.Purge (want.Is noun.PurgePlace) (elements_at (codes "purge") t))

abbrev pub location_slips : Members → List (Option Slip)
location_slips t =
    array_slip t key.Locations (want.Items 1 most_locations) (want.Is noun.Name)
    ∷ array_slip t key.Modules (want.Items 1 most_modules) (want.Is noun.Name)
    ∷ array_slip t key.Trays want.SomeItems (want.Is noun.Location)
    ∷ purge_slip t ∷ []

abbrev pub feeders_slip : Members → Option Slip
feeders_slip t = or_slip (required t key.Feeders want.SomeKeys (at key.Feeders t)) (entries t key.Feeders noun.FeederPlace (members_at (codes "feeders") t))

abbrev pub resources_slip : Members → Option Slip
resources_slip t =
    or_slip (optional t key.Resources want.Table (at key.Resources t))
    (or_slip (required t key.Resources (want.Keys most_resources) (at key.Resources t))
    (entries t key.Resources noun.Name (members_at (codes "resources") t)))

abbrev pub supply_slips : Members → List (Option Slip)
supply_slips t =
    feeders_slip t
    ∷ amounts t key.Feeders (want.Is noun.Name) (members_at (codes "feeders") t)
    ∷ resources_slip t
    ∷ amounts t key.Resources (want.Is noun.Module) (members_at (codes "resources") t) ∷ []

abbrev pub actions_slip : Members → Option Slip
actions_slip t = or_slip (required t key.Actions (want.Items 1 most_actions) (at key.Actions t)) (first_in (item t key.Actions want.Table) 0 (actions t))

abbrev pub amounts_slip : Members → Key → Noun → ℕ → Option Slip
amounts_slip t k n most =
    or_slip (required t k want.Second (at k t))
    (or_slip (optional t k want.Table (at k t))
    (or_slip (entries t k n (members_at (key_text k) t)) (amounts t k (want.Whole (pos 0) (pos most)) (members_at (key_text k) t))))

abbrev pub amount_slips : Members → List (Option Slip)
amount_slips t = amounts_slip t key.Gaps noun.Resource longest ∷ amounts_slip t key.Stock noun.Feeder most_stock ∷ []

-- ---- the rules on a hold

abbrev pub of : Key → Data → Option Data
of k d = get (key_text k) d

-- no hold behind it has its resource
abbrev pub single_hold : Data → List Data → Option Slip
single_hold h later = unless (not (is_among (map (text_at (codes "resource")) later) (text_at (codes "resource") h))) (slip (part.Field key.Resource) wrong.Twice)

abbrev pub hold_parts : Members → Data → List Data → Option Slip
hold_parts t h later =
    or_slip (required t key.Begin want.Point (of key.Begin h))
    (or_slip (required t key.End want.Point (of key.End h))
    (or_slip (optional t key.Mode (want.Whole (pos 0) (pos most_mode)) (of key.Mode h))
    (or_slip (single_hold h later) (required t key.Mode want.Second (of key.Mode h)))))

abbrev pub hold_slip : Members → Data → List Data → Option Slip
hold_slip t h later =
    or_slip (unless (meets t want.Table (Some h)) (slip part.Whole (wrong.Not want.Table)))
    (or_slip (own_keys t noun.HoldKey (members_of (as_table h)))
    (or_slip (required t key.Resource (want.Is noun.Resource) (of key.Resource h)) (hold_parts t h later)))

-- what the rule says of a hold of the action
abbrev pub hold_look : Members → ActionRule → Data → Data → List Data → Option Slip
hold_look t rule.Begins a h later = unless (begins_in_action (least_of a) h) (slip part.Whole wrong.Early)
hold_look t rule.Lengths a h later = unless (is_filled (least_of a) (most_of a) h) (slip part.Whole wrong.Empty)
hold_look t _ a h later = hold_slip t h later

abbrev pub hold_of : Members → ActionRule → Data → ℕ → Data → List Data → Option Slip
hold_of t r a i h later = option_map (in_hold i) (hold_look t r a h later)

abbrev pub all_holds : Members → ActionRule → Data → Option Slip
all_holds t r a = first_in (hold_of t r a) 0 (holds a)

-- ---- the rules on an action, 15 to 24

abbrev pub name_slip : Members → Data → List Data → Option Slip
name_slip t a later =
    or_slip (required t key.Name (want.Is noun.Name) (of key.Name a))
    (unless (not (is_among (map (text_at (codes "name")) later) (text_at (codes "name") a))) (slip (part.Field key.Name) wrong.Twice))

abbrev pub ends_slip : Members → Data → Option Slip
ends_slip t a = or_slip (required t key.From (want.Is noun.Location) (of key.From a)) (required t key.To (want.Is noun.Location) (of key.To a))

abbrev pub way_slip : Members → Data → Option Slip
way_slip t a =
    or_slip (required t key.From (want.IsNot noun.Tray) (of key.From a))
    (or_slip (required t key.From (want.IsNot noun.PurgeTray) (of key.From a)) (required t key.To (want.IsNot noun.Feeder) (of key.To a)))

abbrev pub durations_slip : Members → Data → Option Slip
durations_slip t a =
    or_slip (required t key.Least (want.Whole (pos 1) (pos longest)) (of key.Least a))
    (or_slip (required t key.Most (want.Whole (pos 1) (pos longest)) (of key.Most a))
    (unless (int_le (whole_at (codes "least") a) (whole_at (codes "most") a)) (slip (part.Field key.Most) wrong.BelowLeast)))

abbrev pub prints_slip : Members → Data → Option Slip
prints_slip t a =
    or_slip (optional t key.Prints want.Array (of key.Prints a))
    (or_slip (single_items t key.Prints (want.Is noun.Kind) (elements_in (of key.Prints a))) (optional t key.Flip want.TruthValue (of key.Flip a)))

abbrev pub holds_slip : Members → Data → Option Slip
holds_slip t a =
    or_slip (optional t key.Holds want.Array (of key.Holds a))
    (or_slip (required t key.Holds (want.Items 0 most_act_holds) (of key.Holds a)) (all_holds t rule.Holds a))

-- what the rule says of an action
abbrev pub action_look : Members → ActionRule → Data → List Data → Option Slip
action_look t rule.Keys a later = own_keys t noun.ActionKey (members_of (as_table a))
action_look t rule.Name a later = name_slip t a later
action_look t rule.Module a later = required t key.Module (want.Is noun.Module) (of key.Module a)
action_look t rule.Ends a later = ends_slip t a
action_look t rule.Way a later = way_slip t a
action_look t rule.Durations a later = durations_slip t a
action_look t rule.Prints a later = prints_slip t a
action_look t rule.Holds a later = holds_slip t a
action_look t rule.Begins a later = all_holds t rule.Begins a
action_look t rule.Lengths a later = all_holds t rule.Lengths a

abbrev pub action_of : Members → ActionRule → ℕ → Data → List Data → Option Slip
action_of t r i a later = option_map (in_action i) (action_look t r a later)

abbrev pub all_actions : Members → ActionRule → Option Slip
all_actions t r = first_in (action_of t r) 0 (actions t)

abbrev pub action_slips : Members → List (Option Slip)
action_slips t =
    actions_slip t ∷ all_actions t rule.Keys ∷ all_actions t rule.Name ∷ all_actions t rule.Module ∷ all_actions t rule.Ends ∷ all_actions t rule.Way
    ∷ all_actions t rule.Durations ∷ all_actions t rule.Prints ∷ []

abbrev pub hold_slips : Members → List (Option Slip)
hold_slips t = all_actions t rule.Holds ∷ all_actions t rule.Begins ∷ all_actions t rule.Lengths ∷ []

-- ---- all rules in their order

-- the first place of the first rule that is broken
abbrev pub first_slip : Members → Option Slip
first_slip t =
    or_slip (first_of 1 (number_slips t))
    (or_slip (first_of 6 (location_slips t))
    (or_slip (first_of 10 (supply_slips t))
    (or_slip (first_of 14 (action_slips t))
    (or_slip (first_of 22 (hold_slips t)) (first_of 25 (amount_slips t))))))
