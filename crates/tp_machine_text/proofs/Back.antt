-- The names of a machine's numbers lead back to the numbers.
use Rattle.std.proofs.Common.{◌≡◌, ℕ, zero, suc, ◌<◌, Bool, true, false, Ordering, Less, Equal, Greater, List, [], ◌∷◌, length, map, Some, refl, ap, sym, ◌∙◌, arith}
use Rattle.std.specs.Prelude.{nat_lt, codes}
use Rattle.std.specs.List.{list_all, AllByRecursion}
use Rattle.std.specs.Ordering.{is_lt, is_eq, nat_cmp}
use Rattle.std.specs.Str.{bytes_eq}
use Rattle.std.specs.Cmp.Lexicographic.{slice_cmp, nat_list_eq_equiv, nat_list_cmp_total}
use Rattle.std.proofs.lemmas.Bool.{and_parts}
use Rattle.std.proofs.lemmas.Bool.Decides.{nat_tests}
use Rattle.std.proofs.lemmas.Map.Text.{is_eq-slice_cmp}
use Rattle.toml.specs.Data.{string, Members}
use Rattle.toml.specs.View.{items_of}
use Rattle.tp_machine.specs.Rules.{do_names_rise, is_below}
use Rattle.tp_machine.specs.declared.parts.Action.{Action}
use Rattle.tp_machine.specs.declared.parts.Anchor.{Anchor}
use Rattle.tp_machine.specs.declared.parts.Anchor.TheVariants.{Start, End}
use Rattle.tp_machine.specs.declared.parts.Feeder.{Feeder}
use Rattle.tp_machine.specs.declared.parts.HoldRule.{HoldRule}
use Rattle.tp_machine.specs.declared.parts.LocId.{LocId}
use Rattle.tp_machine.specs.declared.parts.Resource.{Resource}
use Rattle.tp_machine_text.specs.Words.{text_of, values_of, keys_of, is_among, are_different}
use Rattle.tp_machine_text.specs.HoldRules.{anchor_of}
use Rattle.tp_machine_text.specs.TheMachine.{place_in, amount_at, loc_of, feeders_of, resources_of, hold_of, action_of}
use Rattle.tp_machine_text.specs.Printed.{is_location, is_of_resource, is_known, name_at, loc_names, feeder_members, resource_members, gaps_of, stocks_of, resource_names, anchor_text, kind_words, hold_data, action_data}
use Rattle.tp_machine_text.proofs.AmountsBack.{HasAmount}
use Rattle.tp_machine_text.proofs.OwnNumbers.{knows}
use Rattle.tp_machine_text.proofs.Seen.{values_of-items}

-- ---- a name that stands at a place

pub at_known : (names : List (List ℕ)) (n : ℕ) → n < length names → is_among names (name_at names n) ≡ true
at_known [] n within = absurd (omega arith)
at_known (x ∷ xs) zero within = rw (nat_list_eq_equiv.refl x)
at_known (x ∷ xs) (suc n) within = let rest = at_known xs n (omega arith) in grind (arith, rest)

at_apart : (xs : List (List ℕ)) (x : List ℕ) (n : ℕ) → is_among xs x ≡ false → n < length xs → bytes_eq (name_at xs n) x ≡ false
at_apart [] x n none within = absurd (omega arith)
at_apart (y ∷ ys) x zero none within = let e : bytes_eq x y ≡ false = grind arith in nat_list_eq_equiv.symm y x ∙ e
at_apart (y ∷ ys) x (suc n) none within = at_apart ys x n (grind arith) (omega arith)

pub place_back : (names : List (List ℕ)) (n : ℕ) → are_different names ≡ true → n < length names → place_in names (name_at names n) ≡ n
place_back [] n differ within = absurd (omega arith)
place_back (x ∷ xs) zero differ within = rw (nat_list_eq_equiv.refl x)
place_back (x ∷ xs) (suc n) differ within =
    let none : is_among xs x ≡ false = grind arith in
    rw (at_apart xs x n none (omega arith)) (ap suc (place_back xs n (grind arith) (omega arith)))

-- ---- names that rise differ

less : (o : Ordering) → is_lt o ≡ true → o ≡ Less
less Less test = refl
less Equal test = cc
less Greater test = cc

below_less : (a b : List ℕ) → is_below a b ≡ true → slice_cmp nat_cmp a b ≡ Less
below_less a b test = less (slice_cmp nat_cmp a b) test

rise_above : (a : List ℕ) (names : List (List ℕ)) → do_names_rise (a ∷ names) ≡ true → is_among names a ≡ false
rise_above a [] rise = refl
rise_above a (b ∷ []) rise =
    let below : is_below a b ≡ true = grind arith in
    rw (sym (is_eq-slice_cmp a b) ∙ ap is_eq (below_less a b below))
rise_above a (b ∷ c ∷ names) rise =
    let (here, rest) = and_parts (is_below a b) (do_names_rise (b ∷ c ∷ names)) rise in
    let (next, more) = and_parts (is_below b c) (do_names_rise (c ∷ names)) rest in
    let far : is_below a c ≡ true = ap is_lt (nat_list_cmp_total.trans a b c (below_less a b here) (below_less b c next)) in
    rw (sym (is_eq-slice_cmp a b) ∙ ap is_eq (below_less a b here)) (rise_above a (c ∷ names) (rw (far, more)))

pub rise_differ : (names : List (List ℕ)) → do_names_rise names ≡ true → are_different names ≡ true
rise_differ [] rise = refl
rise_differ (a ∷ []) rise = refl
rise_differ (a ∷ b ∷ names) rise =
    let (here, rest) = and_parts (is_below a b) (do_names_rise (b ∷ names)) rise in
    rw (rise_above a (b ∷ names) rise, rise_differ (b ∷ names) rest)

-- ---- the parts of a machine

pub same_texts : (xs : List (List ℕ)) → map text_of (map string xs) ≡ xs
same_texts [] = refl
same_texts (x ∷ xs) = ap (λ t. x ∷ t) (same_texts xs)

pub texts_back : (xs : List (List ℕ)) → map text_of (values_of (items_of (map string xs))) ≡ xs
texts_back xs = ap (map text_of) (values_of-items (map string xs)) ∙ same_texts xs

pub is_within : (n : ℕ) (l : LocId) → is_location n l ≡ true → l.0 < n
unfolding is_location
is_within n l test = grind (arith, nat_tests)

pub locs_back : (names : List (List ℕ)) (locs : List LocId) → are_different names ≡ true → list_all (is_location (length names)) locs ≡ true → map (loc_of names) (loc_names names locs) ≡ locs
locs_back names [] differ known = refl
locs_back names (l ∷ locs) differ known =
    let (here, rest) = and_parts (is_location (length names) l) (list_all (is_location (length names)) locs) known in
    rw (place_back names l.0 differ (is_within (length names) l here), locs_back names locs differ rest)

lt_of : (n m : ℕ) → nat_lt n m ≡ true → n < m
lt_of n m test = grind (arith, nat_tests)

pub feeders_back : (names : List (List ℕ)) (stocks : Members) (fs : List Feeder) → are_different names ≡ true → list_all (λ f. nat_lt f.loc.0 (length names)) fs ≡ true → AllByRecursion (HasAmount stocks) (stocks_of names fs)
    → feeders_of names stocks (feeder_members names fs) ≡ fs
feeders_back names stocks [] differ known found = refl
feeders_back names stocks (f ∷ fs) differ known found =
    let (here, rest) = and_parts (nat_lt f.loc.0 (length names)) (list_all (λ f. nat_lt f.loc.0 (length names)) fs) known in
    let stock : amount_at (name_at names f.loc.0) stocks ≡ f.stock = found.0 in
    rw (place_back names f.loc.0 differ (lt_of f.loc.0 (length names) here), stock, feeders_back names stocks fs differ rest found.1)

pub resources_back : (modules : List (List ℕ)) (gaps : Members) (rs : List Resource) → are_different modules ≡ true → list_all (λ r. nat_lt r.module.0 (length modules)) rs ≡ true → AllByRecursion (HasAmount gaps) (gaps_of rs)
    → resources_of modules gaps (resource_members modules rs) ≡ rs
resources_back modules gaps [] differ known found = refl
resources_back modules gaps (r ∷ rs) differ known found =
    let (here, rest) = and_parts (nat_lt r.module.0 (length modules)) (list_all (λ r. nat_lt r.module.0 (length modules)) rs) known in
    let gap : amount_at r.name gaps ≡ Some r.gap = found.0 in
    rw (place_back modules r.module.0 differ (lt_of r.module.0 (length modules) here), gap, resources_back modules gaps rs differ rest found.1)

pub resource_keys : (modules : List (List ℕ)) (rs : List Resource) → keys_of (resource_members modules rs) ≡ resource_names rs
resource_keys modules [] = refl
resource_keys modules (r ∷ rs) = ap (λ t. r.name ∷ t) (resource_keys modules rs)

pub feeder_keys : (names : List (List ℕ)) (fs : List Feeder) → keys_of (feeder_members names fs) ≡ map (λ f. name_at names f.loc.0) fs
feeder_keys names [] = refl
feeder_keys names (f ∷ fs) = ap (λ t. name_at names f.loc.0 ∷ t) (feeder_keys names fs)

-- ---- actions

pub anchor_back : (a : Anchor) → anchor_of (string (anchor_text a)) ≡ a
anchor_back Start = refl
anchor_back End = refl

pub of_resource : (n : ℕ) (h : HoldRule) → is_of_resource n h ≡ true → h.resource.0 < n
unfolding is_of_resource
of_resource n h test = grind (arith, nat_tests)

hold_back : (rs : List (List ℕ)) (h : HoldRule) → are_different rs ≡ true → h.resource.0 < length rs → hold_of rs (hold_data rs h) ≡ h
unfolding hold_of hold_data
hold_back rs h differ within = rw (place_back rs h.resource.0 differ within, anchor_back h.begin, anchor_back h.end)

pub holds_back : (rs : List (List ℕ)) (hs : List HoldRule) → are_different rs ≡ true → list_all (is_of_resource (length rs)) hs ≡ true → map (hold_of rs) (map (hold_data rs) hs) ≡ hs
holds_back rs [] differ known = refl
holds_back rs (h ∷ hs) differ known =
    let (here, rest) = and_parts (is_of_resource (length rs) h) (list_all (is_of_resource (length rs)) hs) known in
    rw (hold_back rs h differ (of_resource (length rs) h here), holds_back rs hs differ rest)

mono_back : (mono colour : Bool) → is_among (kind_words mono colour) (codes "mono") ≡ mono
mono_back true true = refl
mono_back true false = refl
mono_back false true = refl
mono_back false false = refl

colour_back : (mono colour : Bool) → is_among (kind_words mono colour) (codes "colour") ≡ colour
colour_back true true = refl
colour_back true false = refl
colour_back false true = refl
colour_back false false = refl

pub action_back : (ls ms rs : List (List ℕ)) (a : Action) → are_different ls ≡ true → are_different ms ≡ true → are_different rs ≡ true → is_known (length ls) (length ms) (length rs) a ≡ true
    → action_of ls ms rs (action_data ls ms rs a) ≡ a
unfolding action_of action_data
action_back ls ms rs a dl dm dr known =
    let k = knows (length ls) (length ms) (length rs) a known in
    rw (
      place_back ms a.module.0 dm k.of_module,
      place_back ls a.from.0 dl k.from,
      place_back ls a.to.0 dl k.to,
      texts_back (kind_words a.mono a.colour),
      mono_back a.mono a.colour,
      colour_back a.mono a.colour,
      values_of-items (map (hold_data rs) a.holds),
      holds_back rs a.holds dr k.holds,
    )

pub actions_back : (ls ms rs : List (List ℕ)) (deeds : List Action) → are_different ls ≡ true → are_different ms ≡ true → are_different rs ≡ true → list_all (is_known (length ls) (length ms) (length rs)) deeds ≡ true
    → map (action_of ls ms rs) (map (action_data ls ms rs) deeds) ≡ deeds
actions_back ls ms rs [] dl dm dr known = refl
actions_back ls ms rs (a ∷ deeds) dl dm dr known =
    let (here, rest) = and_parts (is_known (length ls) (length ms) (length rs) a) (list_all (is_known (length ls) (length ms) (length rs)) deeds) known in
    rw (action_back ls ms rs a dl dm dr here, actions_back ls ms rs deeds dl dm dr rest)
