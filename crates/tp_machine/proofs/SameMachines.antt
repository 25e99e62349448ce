-- Machines with the same parts are equal: that a machine passes its tests is shown in one way only.
use mathlib.Core.HLevel.{is_prop→PathP}
use mathlib.Core.Bool.{Bool-set}
use mathlib.Core.Path.{PathP}
use Rattle.std.proofs.Common.{◌≡◌, Bool, IsTrue}
use Rattle.tp_machine.specs.Rules.{are_named, are_numbers, are_counts, are_trays, are_purges, are_feeders, are_resources, are_amounts, do_actions_differ, are_ways, have_durations, have_few_holds, have_holds}
use Rattle.tp_machine.specs.declared.machine.Machine.{Machine}

-- two machines have the same parts
pub record HaveSameParts (m n : Machine) : Type 0 where
  pub lead : m.lead ≡ n.lead
  pub window : m.window ≡ n.window
  pub budget : m.budget ≡ n.budget
  pub locations : m.locations ≡ n.locations
  pub modules : m.modules ≡ n.modules
  pub trays : m.trays ≡ n.trays
  pub purges : m.purges ≡ n.purges
  pub feeders : m.feeders ≡ n.feeders
  pub resources : m.resources ≡ n.resources
  pub actions : m.actions ≡ n.actions

-- a test that two things pass, the one equal to the other, is passed alike
passed_alike : (a b : Bool) (e : a ≡ b) (x : IsTrue a) (y : IsTrue b) → PathP (λ i. IsTrue (e i)) x y
passed_alike a b e x y = is_prop→PathP (λ i. IsTrue (e i)) (λ i v w. Bool-set _ _ v w) x y

pub same_machines : (m n : Machine) → HaveSameParts m n → m ≡ n
same_machines m n s = λ i. record {
  lead = s.lead i;
  window = s.window i;
  budget = s.budget i;
  locations = s.locations i;
  modules = s.modules i;
  trays = s.trays i;
  purges = s.purges i;
  feeders = s.feeders i;
  resources = s.resources i;
  actions = s.actions i;
  named = passed_alike _ _ (λ j. are_named (s.locations j) (s.modules j) (s.feeders j) (s.resources j) (s.actions j)) m.named n.named i;
  numbers = passed_alike _ _ (λ j. are_numbers (s.lead j) (s.window j) (s.budget j)) m.numbers n.numbers i;
  counts = passed_alike _ _ (λ j. are_counts (s.locations j) (s.modules j) (s.resources j) (s.actions j)) m.counts n.counts i;
  good_trays = passed_alike _ _ (λ j. are_trays (s.locations j) (s.trays j)) m.good_trays n.good_trays i;
  good_purges = passed_alike _ _ (λ j. are_purges (s.locations j) (s.trays j) (s.purges j)) m.good_purges n.good_purges i;
  good_feeders = passed_alike _ _ (λ j. are_feeders (s.locations j) (s.trays j) (s.purges j) (s.feeders j)) m.good_feeders n.good_feeders i;
  good_resources = passed_alike _ _ (λ j. are_resources (s.modules j) (s.resources j)) m.good_resources n.good_resources i;
  amounts = passed_alike _ _ (λ j. are_amounts (s.feeders j) (s.resources j) (s.actions j)) m.amounts n.amounts i;
  names_differ = passed_alike _ _ (λ j. do_actions_differ (s.actions j)) m.names_differ n.names_differ i;
  ways = passed_alike _ _ (λ j. are_ways (s.locations j) (s.modules j) (s.trays j) (s.purges j) (s.feeders j) (s.actions j)) m.ways n.ways i;
  durations = passed_alike _ _ (λ j. have_durations (s.actions j)) m.durations n.durations i;
  few_holds = passed_alike _ _ (λ j. have_few_holds (s.actions j)) m.few_holds n.few_holds i;
  holds = passed_alike _ _ (λ j. have_holds (s.resources j) (s.actions j)) m.holds n.holds i;
}
