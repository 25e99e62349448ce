-- The tests that a machine passes give the rules that it keeps.
use Rattle.std.proofs.Common.{◌≡◌, ◌≢◌, ℕ, ◌+◌, ◌≤◌, ◌<◌, Bool, true, false, not, ◌&&◌, ◌==◌, List, [], ◌∷◌, length, map, Some, ap, sym, arith, AllPairs}
use Rattle.std.specs.Prelude.{ℤ, pos, negsuc, ◌≤ℤ◌, ◌<ℤ◌, ◌+ℤ◌, nat_lt, nat_le, int_le, int_lt}
use Rattle.std.specs.List.{list_any, Contains}
use Rattle.std.proofs.lemmas.Bool.Decides.{nat_tests}
use Rattle.std.proofs.lemmas.Int.{ints}
use Rattle.tp_base.specs.NameText.{is_between}
use Rattle.std.proofs.lemmas.List.Elements.{All-contains}
use Rattle.tp_machine.specs.ModuleUse.{action_at, tick_of}
use Rattle.tp_machine.specs.Rules.{are_different, is_among, is_way, is_feeder_location, has_durations, has_holds, is_sound_hold, begins_within, is_never_empty, is_offset, do_holds_differ}
use Rattle.tp_machine.specs.Machines.{IsMachine, IsLocation, IsOpenLocation, IsWay, IsSoundRule, IsOffset}
use Rattle.tp_machine.specs.declared.parts.Action.{Action}
use Rattle.tp_machine.specs.declared.parts.Anchor.{Anchor}
use Rattle.tp_machine.specs.declared.parts.Anchor.TheVariants.{Start, End}
use Rattle.tp_machine.specs.declared.parts.Feeder.{Feeder}
use Rattle.tp_machine.specs.declared.parts.HoldRule.{HoldRule}
use Rattle.tp_machine.specs.declared.parts.LocId.{LocId}
use Rattle.tp_machine.specs.declared.parts.Resource.{Resource}
use Rattle.tp_machine.specs.declared.machine.Machine.{Machine}
use Rattle.tp_machine.proofs.NameFacts.{action_names, all_names, few_holds_at, media_names, name_tests, names_differ, resource_names}
use Rattle.tp_machine.proofs.SortedNames.{rising_names_differ}
use Rattle.tp_machine.proofs.Amounts.{amounts_of, stocks_within, modes_at}
use Rattle.tp_machine.proofs.ModeFacts.{gap_at_most}
use Rattle.tp_machine.proofs.Lists.{list_all-at, All-from_test, All-from_none, not_contained, AllPairs-nil, AllPairs-cons}

-- a location that is not among others is not one of them
pub not_among : (locs : List LocId) (loc : LocId) → is_among locs loc ≡ false → ¬ Contains locs loc
not_among locs loc none = not_contained (λ p. p.0 == loc.0) locs loc (grind (arith, nat_tests)) none

-- locations that pass their tests differ
location_differs : (loc p : LocId) → (p.0 == loc.0) ≡ false → loc ≢ p
location_differs loc p test same = let e : p.0 ≡ loc.0 = ap (λ q. q.0) (sym same) in grind (arith, nat_tests)

locations_differ : (locs : List LocId) → are_different locs ≡ true → AllPairs (λ p q. p ≢ q) locs
locations_differ [] test = AllPairs-nil (λ p q. p ≢ q)
locations_differ (loc ∷ locs) test =
    AllPairs-cons (λ p q. p ≢ q) loc locs
    (All-from_none (λ p. p.0 == loc.0) (λ p. loc ≢ p) (location_differs loc) locs (grind arith)) (locations_differ locs (grind arith))

above : (a b : ℤ) → int_le a b ≡ true → a ≤ℤ b
above a b test = grind (arith, ints)

below : (a b : ℤ) → int_lt a b ≡ true → a <ℤ b
below a b test = grind (arith, ints)

-- by the anchors of a hold: it begins at or after the action's start, and it is not empty
by_anchors : (least most start end : ℕ) (from to : Anchor) (a b : ℤ) → begins_within least from a ≡ true → is_never_empty least most from a to b ≡ true → start + least ≤ end → end ≤ start + most
    → ((pos (tick_of from start end) +ℤ a) <ℤ (pos (tick_of to start end) +ℤ b)) × (pos start ≤ℤ (pos (tick_of from start end) +ℤ a))
by_anchors least most start end Start Start a b first some p q = let f = above (pos 0) a first in let s = below a b some in (omega (arith, ints), omega (arith, ints))
by_anchors least most start end End End a b first some p q = let f = above (pos 0) (pos least +ℤ a) first in let s = below a b some in (omega (arith, ints), omega (arith, ints))
by_anchors least most start end Start End a b first some p q = let f = above (pos 0) a first in let s = below a (pos least +ℤ b) some in (omega (arith, ints), omega (arith, ints))
by_anchors least most start end End Start a b first some p q = let f = above (pos 0) (pos least +ℤ a) first in let s = below (pos most +ℤ a) b some in (omega (arith, ints), omega (arith, ints))

first_of : (a b : Bool) → (a && b) ≡ true → a ≡ true
first_of a b both = grind arith

rest_of : (a b : Bool) → (a && b) ≡ true → b ≡ true
rest_of a b both = grind arith

-- what the test of a hold says
record HoldTests (resources : List Resource) (a : Action) (h : HoldRule) : Type 0 where
  known : nat_lt h.resource.0 (length resources) ≡ true
  begin : is_offset h.begin_off ≡ true
  end : is_offset h.end_off ≡ true
  first : begins_within a.least h.begin h.begin_off ≡ true
  some : is_never_empty a.least a.most h.begin h.begin_off h.end h.end_off ≡ true

hold_tests : (resources : List Resource) (a : Action) (h : HoldRule) → is_sound_hold resources a h ≡ true → HoldTests resources a h
hold_tests resources a h test =
    let none = is_never_empty a.least a.most h.begin h.begin_off h.end h.end_off in
    let e = first_of (nat_lt h.resource.0 (length resources) && is_offset h.begin_off && is_offset h.end_off && begins_within a.least h.begin h.begin_off) none test in
    let d = first_of (nat_lt h.resource.0 (length resources) && is_offset h.begin_off && is_offset h.end_off) (begins_within a.least h.begin h.begin_off) e in
    let c = first_of (nat_lt h.resource.0 (length resources) && is_offset h.begin_off) (is_offset h.end_off) d in
    record {
      known = first_of (nat_lt h.resource.0 (length resources)) (is_offset h.begin_off) c;
      begin = rest_of (nat_lt h.resource.0 (length resources)) (is_offset h.begin_off) c;
      end = rest_of (nat_lt h.resource.0 (length resources) && is_offset h.begin_off) (is_offset h.end_off) d;
      first = rest_of (nat_lt h.resource.0 (length resources) && is_offset h.begin_off && is_offset h.end_off) (begins_within a.least h.begin h.begin_off) e;
      some = rest_of (nat_lt h.resource.0 (length resources) && is_offset h.begin_off && is_offset h.end_off && begins_within a.least h.begin h.begin_off) none test;
    }

offset_within : (z : ℤ) → is_offset z ≡ true → IsOffset z
offset_within z test = (above (negsuc 8191) z (first_of (int_le (negsuc 8191) z) (int_le z (pos 8192)) test), above z (pos 8192) (rest_of (int_le (negsuc 8191) z) (int_le z (pos 8192)) test))

pub sound_rule : (resources : List Resource) (a : Action) (h : HoldRule) → is_sound_hold resources a h ≡ true → IsSoundRule a h
sound_rule resources a h test start end p q =
    let t = hold_tests resources a h test in
    by_anchors a.least a.most start end h.begin h.end h.begin_off h.end_off t.first t.some p q

holds_differ : (holds : List HoldRule) → do_holds_differ holds ≡ true → AllPairs (λ h k. h.resource.0 ≢ k.resource.0) holds
holds_differ [] test = AllPairs-nil (λ h k. h.resource.0 ≢ k.resource.0)
holds_differ (h ∷ holds) test =
    let none : list_any (λ k. k.resource.0 == h.resource.0) holds ≡ false = grind arith in
    let rest : do_holds_differ holds ≡ true = grind arith in
    AllPairs-cons (λ h k. h.resource.0 ≢ k.resource.0) h holds
    (All-from_none (λ k. k.resource.0 == h.resource.0) (λ k. h.resource.0 ≢ k.resource.0) (λ k differs e. grind (arith, nat_tests)) holds none)
    (holds_differ holds rest)

-- what a machine's action is
way_of : (machine : Machine) (a : Action) → is_way machine.locations machine.modules machine.trays machine.purges machine.feeders a ≡ true → IsWay machine a
way_of machine a test =
    let feeders = map (λ f. f.loc) machine.feeders in
    let known : nat_lt a.module.0 (length machine.modules) ≡ true = grind arith in
    let from : nat_lt a.from.0 (length machine.locations) ≡ true = grind arith in
    let to : nat_lt a.to.0 (length machine.locations) ≡ true = grind arith in
    let tray : is_among machine.trays a.from ≡ false = grind arith in
    let purge : is_among machine.purges a.from ≡ false = grind arith in
    let feeder : is_among feeders a.to ≡ false = grind arith in
    record {
      module_known = grind (arith, nat_tests);
      from_known = grind (arith, nat_tests);
      to_known = grind (arith, nat_tests);
      leaves = (not_among machine.trays a.from tray, not_among machine.purges a.from purge);
      no_feeder = not_among feeders a.to feeder;
    }

feeder_location : (machine : Machine) (f : Feeder) → is_feeder_location machine.locations machine.trays machine.purges f ≡ true → IsLocation machine f.loc × IsOpenLocation machine f.loc
feeder_location machine f test =
    let known : nat_lt f.loc.0 (length machine.locations) ≡ true = grind arith in
    let tray : is_among machine.trays f.loc ≡ false = grind arith in
    let purge : is_among machine.purges f.loc ≡ false = grind arith in
    (grind (arith, nat_tests), (not_among machine.trays f.loc tray, not_among machine.purges f.loc purge))

-- the facts of an action, from a test of all actions
record ActionFacts (machine : Machine) (a : Action) : Type 0 where
  way : IsWay machine a
  durations : has_durations a ≡ true
  holds : has_holds machine.resources a ≡ true

action_facts : (machine : Machine) (n : ℕ) (a : Action) → action_at machine n ≡ Some a → ActionFacts machine a
action_facts machine n a at = record {
  way = way_of machine a (list_all-at (is_way machine.locations machine.modules machine.trays machine.purges machine.feeders) machine.actions n a machine.ways at);
  durations = list_all-at has_durations machine.actions n a machine.durations at;
  holds = list_all-at (has_holds machine.resources) machine.actions n a machine.holds at;
}

hold_facts : (machine : Machine) (a : Action) (rule : HoldRule) → has_holds machine.resources a ≡ true → Contains a.holds rule → is_sound_hold machine.resources a rule ≡ true
hold_facts machine a rule test known =
    All-contains (λ h. is_sound_hold machine.resources a h ≡ true) a.holds rule
    (All-from_test (is_sound_hold machine.resources a) (λ h. is_sound_hold machine.resources a h ≡ true) (λ h t. t) a.holds (grind arith)) known

within : (low high n : ℕ) → is_between low high n ≡ true → (low ≤ n) × (n ≤ high)
within low high n test = (grind (arith, nat_tests), grind (arith, nat_tests))

at_most : (n high : ℕ) → nat_le n high ≡ true → n ≤ high
at_most n high test = grind (arith, nat_tests)

less_than : (n high : ℕ) → nat_lt n high ≡ true → n < high
less_than n high test = grind (arith, nat_tests)

not_true : (b : Bool) → not b ≡ true → b ≡ false
not_true b test = grind arith

-- every machine keeps the rules of a machine text
pub is_machine : (machine : Machine) → IsMachine machine
is_machine machine =
    let n = machine.numbers in
    let c = machine.counts in
    let t = machine.good_trays in
    let p = machine.good_purges in
    let f = machine.good_feeders in
    let r = machine.good_resources in
    let names = name_tests machine in
    record {
      location_names = (all_names machine.locations names.locations, names_differ machine.locations names.locations_differ);
      module_names = (all_names machine.modules names.modules, names_differ machine.modules names.modules_differ);
      media_names = media_names machine.feeders names.media;
      resource_names = (resource_names machine.resources names.resources, rising_names_differ (map (λ q. q.name) machine.resources) (grind arith));
      action_names = (action_names machine.actions names.actions, names_differ (map (λ a. a.name) machine.actions) machine.names_differ);
      few_holds = λ n a at. at_most (length a.holds) 4 (few_holds_at machine n a at);
      lead = at_most machine.lead 4096 (grind arith);
      window = within 1 32768 machine.window (grind arith);
      budget = within 1 200000 machine.budget (grind arith);
      locations = within 1 256 (length machine.locations) (grind arith);
      modules = within 1 64 (length machine.modules) (grind arith);
      resources = at_most (length machine.resources) 256 (grind arith);
      actions = within 1 512 (length machine.actions) (grind arith);
      trays_differ = locations_differ machine.trays (grind arith);
      purges_differ = locations_differ machine.purges (grind arith);
      some_tray = at_most 1 (length machine.trays) (grind arith);
      trays = All-from_test (λ p. nat_lt p.0 (length machine.locations)) (IsLocation machine) (λ p test. less_than p.0 (length machine.locations) test) machine.trays (grind arith);
      purges = λ k d below. (
        All-from_test (λ p. nat_lt p.0 (length machine.locations)) (IsLocation machine) (λ p test. less_than p.0 (length machine.locations) test) machine.purges (grind arith) k d below,
        All-from_test (λ p. not (is_among machine.trays p)) (λ p. ¬ Contains machine.trays p) (λ p test. not_among machine.trays p (not_true (is_among machine.trays p) test)) machine.purges (grind arith) k d below,
      );
      some_feeder = at_most 1 (length machine.feeders) (grind arith);
      feeders = All-from_test (is_feeder_location machine.locations machine.trays machine.purges) (λ f. IsLocation machine f.loc × IsOpenLocation machine f.loc) (feeder_location machine) machine.feeders (grind arith);
      feeders_rise = grind arith;
      resources_rise = grind arith;
      resource_modules = All-from_test (λ r. nat_lt r.module.0 (length machine.modules)) (λ r. r.module.0 < length machine.modules) (λ r test. less_than r.module.0 (length machine.modules) test) machine.resources (grind arith);
      gaps = gap_at_most machine;
      stocks = stocks_within machine.feeders (amounts_of machine).stocks;
      ways = λ n a at. (action_facts machine n a at).way;
      lasts = λ n a at. let d = (action_facts machine n a at).durations in at_most 1 a.least (grind arith);
      in_range = λ n a at. let d = (action_facts machine n a at).durations in (at_most a.least a.most (grind arith), at_most a.most 4096 (grind arith));
      known = λ n a at rule has. let t = hold_tests machine.resources a rule (hold_facts machine a rule (action_facts machine n a at).holds has) in less_than rule.resource.0 (length machine.resources) t.known;
      offsets = λ n a at rule has. let t = hold_tests machine.resources a rule (hold_facts machine a rule (action_facts machine n a at).holds has) in (offset_within rule.begin_off t.begin, offset_within rule.end_off t.end);
      modes = λ n a at rule has. All-contains (λ h. h.mode ≤ 255) a.holds rule (All-from_test (λ h. nat_le h.mode 255) (λ h. h.mode ≤ 255) (λ h t. at_most h.mode 255 t) a.holds (modes_at machine n a at)) has;
      sound = λ n a at rule has. sound_rule machine.resources a rule (hold_facts machine a rule (action_facts machine n a at).holds has);
      differ = λ n a at. let h = (action_facts machine n a at).holds in holds_differ a.holds (grind arith);
    }
