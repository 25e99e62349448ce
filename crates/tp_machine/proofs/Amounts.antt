-- What the test of stocks, gaps and modes says.
use Rattle.std.proofs.Common.{◌≡◌, true, ◌&&◌, List, Option, Some, None, ℕ, ◌≤◌, arith, All}
use Rattle.std.specs.Prelude.{IfSome}
use Rattle.std.proofs.lemmas.Bool.{and_parts}
use Rattle.std.proofs.lemmas.Bool.Decides.{nat_tests}
use Rattle.tp_machine.specs.Rules.{is_stock, have_stocks, have_gaps, has_modes, have_modes, are_amounts}
use Rattle.tp_machine.specs.ModuleUse.{action_at}
use Rattle.tp_machine.specs.declared.parts.Action.{Action}
use Rattle.tp_machine.specs.declared.parts.Feeder.{Feeder}
use Rattle.tp_machine.specs.declared.parts.Resource.{Resource}
use Rattle.tp_machine.specs.declared.machine.Machine.{Machine}
use Rattle.tp_machine.proofs.Lists.{list_all-at, All-from_test}

pub record Amounts (m : Machine) : Type 0 where
  pub stocks : have_stocks m.feeders ≡ true
  pub gaps : have_gaps m.resources ≡ true
  pub modes : have_modes m.actions ≡ true

pub amounts_of : (m : Machine) → Amounts m
unfolding are_amounts
amounts_of m =
    let (two, modes) = and_parts (have_stocks m.feeders && have_gaps m.resources) (have_modes m.actions) m.amounts in
    let (stocks, gaps) = and_parts (have_stocks m.feeders) (have_gaps m.resources) two in
    record { stocks = stocks; gaps = gaps; modes = modes }

stock_within : (o : Option ℕ) → is_stock o ≡ true → IfSome o (λ n. n ≤ 1000000)
stock_within None test = tt
stock_within (Some n) test = grind (arith, nat_tests)

pub stocks_within : (feeders : List Feeder) → have_stocks feeders ≡ true → All (λ f. IfSome f.stock (λ n. n ≤ 1000000)) feeders
stocks_within feeders test = All-from_test (λ f. is_stock f.stock) (λ f. IfSome f.stock (λ n. n ≤ 1000000)) (λ f t. stock_within f.stock t) feeders test

pub modes_at : (m : Machine) (n : ℕ) (a : Action) → action_at m n ≡ Some a → has_modes a ≡ true
modes_at m n a at = list_all-at has_modes m.actions n a (amounts_of m).modes at

-- the test holds by computing, at machines that are written out
pub amounts_by : (fs : List Feeder) (rs : List Resource) (deeds : List Action) → (have_stocks fs && have_gaps rs && have_modes deeds) ≡ true → are_amounts fs rs deeds ≡ true
unfolding are_amounts
amounts_by fs rs deeds test = test
