-- The live part, the orders of its resources, and the goals, one more at a time.
use Rattle.std.proofs.Common.{◌≡◌, inl, inr, ℕ, zero, suc, ◌+◌, Bool, List, [], ◌∷◌, ◌++◌, length, filter, ap, sym, arith, ◌∙◌, Some}
use Rattle.std.specs.List.{slice_get}
use Rattle.std.proofs.lemmas.List.{length-append}
use Rattle.std.proofs.lemmas.List.Elements.{All-filter}
use Rattle.std.proofs.lemmas.List.Kept.{AllPairs-filter}
use Rattle.tp_choices.proofs.Lists.{slice_get-append}
use Rattle.tp_machine.specs.declared.machine.Machine.{Machine}
use Rattle.tp_schedule.specs.Plans.{IsEarlier, IsFormed}
use Rattle.tp_schedule.specs.Spots.{Slot, slot_order}
use Rattle.tp_schedule.specs.Timetables.{IsOrdered}
use Rattle.tp_schedule.specs.declared.parts.Plan.{Plan}
use Rattle.tp_bound_check.specs.Stands.{AreOrdersTo}

pub ordered-filter : (keeps : Plan → Bool) (plans : List Plan) → IsOrdered plans → IsOrdered (filter keeps plans)
ordered-filter keeps plans ordered = record { formed = All-filter keeps IsFormed plans ordered.formed; in_order = AllPairs-filter IsEarlier keeps plans ordered.in_order }

pub orders-more : (machine : Machine) (plans : List Plan) (n : ℕ) (orders : List (List Slot)) (order : List Slot) → AreOrdersTo machine plans n orders → order ≡ slot_order machine plans n
    → AreOrdersTo machine plans (n + 1) (orders ++ order ∷ [])
orders-more machine plans n orders order are is = (
  let l = length-append orders (order ∷ []) in let e = are.0 in omega (arith, l, e),
  λ r other e. elim (slice_get-append orders (order ∷ []) r other e) [
    | inl old ↦ are.1 r other old.0
    | inr new ↦ last r other new.0 new.1 new.2
  ],
) where
  last : (r : ℕ) (other : List Slot) (j : ℕ) → r ≡ length orders + j → slice_get (order ∷ []) j ≡ Some other → other ≡ slot_order machine plans r
  last r other zero e at =
      let same : order ≡ other = cc in
      let here : n ≡ r = let l = are.0 in omega (arith, l, e) in
      sym same ∙ is ∙ ap (slot_order machine plans) here
  last r other (suc j) e at = absurd (none at) where
    none : slice_get [] j ≡ Some other → ⊥
    none at' = cc
