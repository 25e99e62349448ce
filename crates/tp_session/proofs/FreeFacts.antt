-- What is free at a feeder is a count, and not too great.
use Rattle.std.proofs.Common.{◌≡◌, ◌==◌, ℕ, List, refl, sym, subst, arith, pos, ◌+ℤ◌, ◌-ℤ◌, ◌≤ℤ◌, Option, Some, None}
use Rattle.std.specs.Prelude.{ℤ}
use Rattle.std.proofs.lemmas.Bool.{eqb-true}
use Rattle.std.proofs.lemmas.Int.{ints}
use Rattle.std.proofs.lemmas.Option.{same_Some}
use Rattle.tp_machine.specs.declared.machine.Machine.{Machine}
use Rattle.tp_machine.specs.declared.parts.Feeder.{Feeder}
use Rattle.tp_schedule.specs.declared.parts.Plan.{Plan}
use Rattle.tp_stock.specs.Stock.{IsNotOverdrawn, IsStockedWithin, feeder_at, free_of, free_stock, most_stocked, refilled, taken_at}
use Rattle.tp_event_rules.proofs.ListFacts.{find-Some}

counted : (stock : ℕ) (more : ℤ) (taken : ℕ) (free : ℤ) → pos taken ≤ℤ (pos stock +ℤ more) → (pos stock +ℤ more) ≤ℤ pos most_stocked
    → ((pos stock +ℤ more) -ℤ pos taken) ≡ free → (pos 0 ≤ℤ free) × (free ≤ℤ pos most_stocked)
counted stock more taken free low high is = (omega (arith, ints), omega (arith, ints))

pub free-within : (machine : Machine) (refills : List ℤ) (plans : List Plan) (loc : ℕ) (f : Feeder) (free : ℤ) → feeder_at machine loc ≡ Some f
    → IsNotOverdrawn machine refills plans → IsStockedWithin machine refills → free_stock machine refills plans f ≡ Some free
    → (pos 0 ≤ℤ free) × (free ≤ℤ pos most_stocked)
free-within machine refills plans loc f free at drawn most is = go f.stock refl is where
  go : (o : Option ℕ) → f.stock ≡ o → free_of o (refilled refills f.loc.0) (taken_at machine plans f.loc.0) ≡ Some free → (pos 0 ≤ℤ free) × (free ≤ℤ pos most_stocked)
  go None e told = absurd (cc)
  go (Some stock) e told =
      let found = find-Some (λ (g : Feeder). g.loc.0 == loc) machine.feeders f at in
      let same : f.loc.0 ≡ loc = eqb-true f.loc.0 loc found.1 in
      let high = subst (λ l. (pos stock +ℤ refilled refills l) ≤ℤ pos most_stocked) (sym same) (most loc f stock at e) in
      counted stock (refilled refills f.loc.0) (taken_at machine plans f.loc.0) free (drawn f found.0 stock e) high (same_Some _ _ told)
