-- Where no rule is the first broken one, each is kept.
use Rattle.std.proofs.Common.{◌≡◌, ℕ, suc, Bool, true, false, List, [], ◌∷◌, Option, Some, None, refl}
use Rattle.toml.specs.Data.{Members}
use Rattle.tp_machine_text.specs.Order.{first_from, or_else}
use Rattle.tp_machine_text.specs.TopRules.{number_rules, location_rules}
use Rattle.tp_machine_text.specs.SupplyRules.{supply_rules}
use Rattle.tp_machine_text.specs.ActionRules.{action_rules}
use Rattle.tp_machine_text.specs.HoldRules.{hold_rules}
use Rattle.tp_machine_text.specs.AmountRules.{amount_rules}
use Rattle.tp_machine_text.specs.Broken.{first_broken}
use Rattle.tp_machine_text.specs.Kept.{KeepsRules}

abbrev are_kept : List Bool → Type 0
are_kept [] = Unit {0}
are_kept (b ∷ bs) = (b ≡ true) × are_kept bs

all_kept : (n : ℕ) (bs : List Bool) → first_from n bs ≡ None → are_kept bs
all_kept n [] none = tt
all_kept n (true ∷ bs) none = (refl, all_kept (suc n) bs none)
all_kept n (false ∷ bs) none = cc

or_else-None : (a b : Option ℕ) → or_else a b ≡ None → (a ≡ None) × (b ≡ None)
or_else-None None b none = (refl, none)
or_else-None (Some n) b none = cc

pub kept : (t : Members) → first_broken t ≡ None → KeepsRules t
kept t none =
    let (numbers, later) = or_else-None (first_from 1 (number_rules t)) _ none in
    let (locations, later_still) = or_else-None (first_from 6 (location_rules t)) _ later in
    let (supplies, last) = or_else-None (first_from 10 (supply_rules t)) _ later_still in
    let (deeds, still) = or_else-None (first_from 14 (action_rules t)) _ last in
    let (ties, amounts) = or_else-None (first_from 22 (hold_rules t)) (first_from 25 (amount_rules t)) still in
    let a = all_kept 1 (number_rules t) numbers in
    let b = all_kept 6 (location_rules t) locations in
    let c = all_kept 10 (supply_rules t) supplies in
    let d = all_kept 14 (action_rules t) deeds in
    let e = all_kept 22 (hold_rules t) ties in
    let f = all_kept 25 (amount_rules t) amounts in
    record {
      known_keys = a.0;
      format = a.1.0;
      lead = a.1.1.0;
      window = a.1.1.1.0;
      budget = a.1.1.1.1.0;
      locations = b.0;
      modules = b.1.0;
      trays = b.1.1.0;
      purges = b.1.1.1.0;
      feeders = c.0;
      media = c.1.0;
      resources = c.1.1.0;
      resource_modules = c.1.1.1.0;
      actions = d.0;
      action_keys = d.1.0;
      action_names = d.1.1.0;
      action_modules = d.1.1.1.0;
      action_ends = d.1.1.1.1.0;
      ways = d.1.1.1.1.1.0;
      durations = d.1.1.1.1.1.1.0;
      prints = d.1.1.1.1.1.1.1.0;
      holds = e.0;
      begins = e.1.0;
      lengths = e.1.1.0;
      gaps = f.0;
      stock = f.1.0;
    }
