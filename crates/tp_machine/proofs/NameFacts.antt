-- What the tests of names say.
use Rattle.std.proofs.Common.{◌≡◌, ◌≢◌, ℕ, true, false, ◌&&◌, List, [], ◌∷◌, All, AllPairs, arith, Some, length}
use Rattle.std.specs.Prelude.{nat_le}
use Rattle.std.specs.List.{list_all, list_any}
use Rattle.std.specs.Str.{bytes_eq}
use Rattle.std.proofs.lemmas.Bool.{and_parts}
use Rattle.std.proofs.lemmas.Slice.Eq.{bytes_eq-Decides}
use Rattle.tp_base.specs.NameText.{is_name_text}
use Rattle.tp_machine.specs.Machines.{IsName}
use Rattle.tp_machine.specs.Rules.{are_names, are_named, do_names_differ, have_few_holds}
use Rattle.tp_machine.specs.ModuleUse.{action_at}
use Rattle.tp_machine.specs.declared.parts.Action.{Action}
use Rattle.tp_machine.specs.declared.parts.Feeder.{Feeder}
use Rattle.tp_machine.specs.declared.parts.Resource.{Resource}
use Rattle.tp_machine.specs.declared.machine.Machine.{Machine}
use Rattle.tp_machine.proofs.Lists.{list_all-at, All-from_test, All-from_none, AllPairs-nil, AllPairs-cons}

another : (a b : List ℕ) → bytes_eq a b ≡ false → a ≢ b
another a b other same = let yes = (bytes_eq-Decides a b).1 same in absurd (cc)

pub names_differ : (names : List (List ℕ)) → do_names_differ names ≡ true → AllPairs (λ a b. a ≢ b) names
names_differ [] test = AllPairs-nil (λ a b. a ≢ b)
names_differ (n ∷ names) test =
    let none : list_any (bytes_eq n) names ≡ false = grind arith in
    AllPairs-cons (λ a b. a ≢ b) n names (All-from_none (bytes_eq n) (λ b. n ≢ b) (another n) names none) (names_differ names (grind arith))

-- the parts of the test of all names
pub record NameTests (m : Machine) : Type 0 where
  pub locations : list_all is_name_text m.locations ≡ true
  pub locations_differ : do_names_differ m.locations ≡ true
  pub modules : list_all is_name_text m.modules ≡ true
  pub modules_differ : do_names_differ m.modules ≡ true
  pub media : list_all (λ f. is_name_text f.media) m.feeders ≡ true
  pub resources : list_all (λ r. is_name_text r.name) m.resources ≡ true
  pub actions : list_all (λ a. is_name_text a.name) m.actions ≡ true

pub name_tests : (m : Machine) → NameTests m
unfolding are_named
name_tests m =
    let media = list_all (λ f. is_name_text f.media) m.feeders in
    let resources = list_all (λ r. is_name_text r.name) m.resources in
    let (four, actions) = and_parts (are_names m.locations && are_names m.modules && media && resources) (list_all (λ a. is_name_text a.name) m.actions) m.named in
    let (three, of_resources) = and_parts (are_names m.locations && are_names m.modules && media) resources four in
    let (two, of_feeders) = and_parts (are_names m.locations && are_names m.modules) media three in
    let (all_locations, all_modules) = and_parts (are_names m.locations) (are_names m.modules) two in
    let (locations, locations_differ) = and_parts (list_all is_name_text m.locations) (do_names_differ m.locations) all_locations in
    let (modules, modules_differ) = and_parts (list_all is_name_text m.modules) (do_names_differ m.modules) all_modules in
    record {
      locations = locations;
      locations_differ = locations_differ;
      modules = modules;
      modules_differ = modules_differ;
      media = of_feeders;
      resources = of_resources;
      actions = actions;
    }

pub all_names : (names : List (List ℕ)) → list_all is_name_text names ≡ true → All IsName names
all_names names test = All-from_test is_name_text IsName (λ name t. t) names test

pub action_names : (actions : List Action) → list_all (λ a. is_name_text a.name) actions ≡ true → All (λ a. IsName a.name) actions
action_names actions test = All-from_test (λ a. is_name_text a.name) (λ a. IsName a.name) (λ a t. t) actions test

pub resource_names : (resources : List Resource) → list_all (λ r. is_name_text r.name) resources ≡ true → All (λ r. IsName r.name) resources
resource_names resources test = All-from_test (λ r. is_name_text r.name) (λ r. IsName r.name) (λ r t. t) resources test

pub media_names : (feeders : List Feeder) → list_all (λ f. is_name_text f.media) feeders ≡ true → All (λ f. IsName f.media) feeders
media_names feeders test = All-from_test (λ f. is_name_text f.media) (λ f. IsName f.media) (λ f t. t) feeders test

pub few_holds_at : (m : Machine) (n : ℕ) (a : Action) → action_at m n ≡ Some a → nat_le (length a.holds) 4 ≡ true
unfolding have_few_holds
few_holds_at m n a at = list_all-at (λ b. nat_le (length b.holds) 4) m.actions n a m.few_holds at

-- tests that hold by computing, at machines that are written out
pub named_by : (ls ms : List (List ℕ)) (fs : List Feeder) (rs : List Resource) (deeds : List Action)
    → (are_names ls && are_names ms && list_all (λ f. is_name_text f.media) fs && list_all (λ r. is_name_text r.name) rs && list_all (λ a. is_name_text a.name) deeds) ≡ true → are_named ls ms fs rs deeds ≡ true
unfolding are_named
named_by ls ms fs rs deeds test = test

pub few_by : (deeds : List Action) → list_all (λ a. nat_le (length a.holds) 4) deeds ≡ true → have_few_holds deeds ≡ true
unfolding have_few_holds
few_by deeds test = test
