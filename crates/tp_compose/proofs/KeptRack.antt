-- Where no rule of racks is the first broken one, each is kept.
use Rattle.std.proofs.Common.{◌≡◌, ℕ, suc, Bool, true, false, List, [], ◌∷◌, Option, Some, None, refl}
use Rattle.toml.specs.Data.{Members}
use Rattle.tp_machine_text.specs.Order.{first_from, or_else}
use Rattle.tp_compose.specs.Racks.{own_names, first_ends}
use Rattle.tp_compose.specs.TypeRules.{have_ports, have_deeds, has_parts, type_rules}
use Rattle.tp_compose.specs.EndRules.{has_joins, has_ends, has_feeders_apart, end_rules}
use Rattle.tp_compose.specs.Broken.{first_broken}

pub record KeepsRackRules (r : Members) : Type 0 where
  pub ports : have_ports r ≡ true
  pub deeds : have_deeds r ≡ true
  pub parts : has_parts r ≡ true
  pub joins : has_joins (own_names r) r ≡ true
  pub ends : has_ends (own_names r) r ≡ true
  pub feeders : has_feeders_apart (own_names r) (first_ends r) r ≡ true

abbrev are_kept : List Bool → Type 0
are_kept [] = Unit {0}
are_kept (b ∷ bs) = (b ≡ true) × are_kept bs

all_kept : (n : ℕ) (bs : List Bool) → first_from n bs ≡ None → are_kept bs
all_kept n [] none = tt
all_kept n (true ∷ bs) none = (refl, all_kept (suc n) bs none)
all_kept n (false ∷ bs) none = cc

or_else-None : (a b : Option ℕ) → or_else a b ≡ None → (a ≡ None) × (b ≡ None)
or_else-None None b none = (refl, none)
or_else-None (Some n) b none = cc

pub kept : (r : Members) → first_broken r ≡ None → KeepsRackRules r
unfolding first_broken
kept r none =
    let (types, ends) = or_else-None (first_from 1 (type_rules r)) (first_from 8 (end_rules (own_names r) (first_ends r) r)) none in
    let a = all_kept 1 (type_rules r) types in
    let b = all_kept 8 (end_rules (own_names r) (first_ends r) r) ends in
    record { ports = a.1.1.1.0; deeds = a.1.1.1.1.0; parts = a.1.1.1.1.1.1.0; joins = b.0; ends = b.1.0; feeders = b.1.1.0 }
