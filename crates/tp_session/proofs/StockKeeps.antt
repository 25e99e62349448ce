-- A stock and its refills stay within what may be free: a refill is accepted only where little is, and what is forgotten is taken off.
use Rattle.std.proofs.Common.{◌≡◌, ℕ, ◌<◌, ◌≤◌, ◌==◌, eqb, true, false, cond, List, length, refl, sym, ap, ◌∙◌, subst, inl, inr, arith, Contains, Option, Some, None, option_and_then, pos, ◌+ℤ◌, ◌-ℤ◌, ◌≤ℤ◌}
use Rattle.std.specs.Prelude.{IfSome, ℤ, position}
use Rattle.std.specs.Str.{bytes_eq}
use Rattle.std.proofs.lemmas.Bool.{cases_Bool, eqb-true}
use Rattle.std.proofs.lemmas.Int.{ints}
use Rattle.std.proofs.lemmas.List.Elements.{All-contains}
use Rattle.std.proofs.lemmas.Option.{same_Some}
use Rattle.std.proofs.lemmas.List.Sums.{count_by-le-length}
use Rattle.tp_machine.specs.declared.parts.Feeder.{Feeder}
use Rattle.tp_machine.specs.declared.machine.Machine.{Machine}
use Rattle.tp_machine.proofs.MachineFacts.{is_machine}
use Rattle.tp_schedule.specs.declared.parts.Plan.{Plan}
use Rattle.tp_stock.specs.Stock.{begins_at, drawn_at, feeder_at, feeder_named, is_counted, less_taken, more_at, no_refills, refilled, taken_at}
use Rattle.tp_stock.proofs.StockFacts.{at-location, counted-there, feeder-known, refilled-less, refilled-more}
use Rattle.tp_event_rules.proofs.ListFacts.{find-Some}
use Rattle.tp_event_rules.proofs.StockKept.{IsAccepted, accepted-refill}
use Rattle.tp_event_rules.specs.Refusals.{refill_refusal}
use Rattle.tp_session.specs.Kept.{KeepsRefills}
use Rattle.tp_session.proofs.CountedRefills.{IsFreeWithin, counted-by, uncounted}

-- where a feeder of the machine stands
location : (machine : Machine) (loc : ℕ) (f : Feeder) → feeder_at machine loc ≡ Some f → Contains machine.feeders f × (f.loc.0 ≡ loc) × (loc < 256)
location machine loc f at =
    let found = find-Some (λ (g : Feeder). g.loc.0 == loc) machine.feeders f at in
    let e = eqb-true f.loc.0 loc found.1 in
    let known = feeder-known machine f found.0 in
    (found.0, e, omega arith)

free-empty : (machine : Machine) → IsFreeWithin machine no_refills
free-empty machine loc f stock at is =
    let here = location machine loc f at in
    let le : stock ≤ 1000000 = subst (λ o. IfSome o (λ n. n ≤ 1000000)) is (All-contains (λ (g : Feeder). IfSome g.stock (λ n. n ≤ 1000000)) machine.feeders f (is_machine machine).stocks here.0) in
    let none : refilled no_refills loc ≡ pos 0 = at-location (λ l. pos 0) loc (pos 0) here.2 in
    rw none (low stock le) where
      low : (stock : ℕ) → stock ≤ 1000000 → (pos stock +ℤ pos 0) ≤ℤ pos 1000256
      low stock le = omega (arith, ints)

module _ (machine : Machine) (refills : List ℤ) (plans : List Plan) (few : length plans ≤ 256) (free : IsFreeWithin machine refills) where
  taken-few : (loc : ℕ) → taken_at machine plans loc ≤ 256
  taken-few loc = let most = count_by-le-length (begins_at machine loc) plans in omega arith

  named-at : (name : List ℕ) (f : Feeder) → feeder_named machine name ≡ Some f → feeder_at machine f.loc.0 ≡ Some f
  named-at name f e = go (position (bytes_eq name) machine.locations) e where
    go : (o : Option ℕ) → option_and_then (feeder_at machine) o ≡ Some f → feeder_at machine f.loc.0 ≡ Some f
    go None e = absurd (cc)
    go (Some loc) e = let same = eqb-true f.loc.0 loc (find-Some (λ (g : Feeder). g.loc.0 == loc) machine.feeders f e).1 in ap (feeder_at machine) same ∙ e

  stock-few : (stock taken count : ℕ) (r : ℤ) → taken ≤ 256 → (((pos stock +ℤ r) -ℤ pos taken) +ℤ pos count) ≤ℤ pos 1000000 → (pos stock +ℤ (r +ℤ pos count)) ≤ℤ pos 1000256
  stock-few stock taken count r low high = omega (arith, ints)

  plain : (stock : ℕ) (r : ℤ) → (pos stock +ℤ r) ≤ℤ pos 1000256 → (pos stock +ℤ (r +ℤ pos 0)) ≤ℤ pos 1000256
  plain stock r low = omega (arith, ints)

  -- a refill is accepted
  free-refilled : (name : List ℕ) (count : ℕ) (f : Feeder) → refill_refusal machine refills plans name count ≡ None → feeder_named machine name ≡ Some f → IsFreeWithin machine (more_at f.loc.0 count refills)
  free-refilled name count f accepted named loc g stock at' is = elim (cases_Bool (eqb loc f.loc.0)) [
    | inl same ↦
        let e = eqb-true loc f.loc.0 same in
        let low = (location machine loc g at').2 in
        let one : g ≡ f = same_Some g f (sym at' ∙ ap (feeder_at machine) e ∙ named-at name f named) in
        let stocks : stock ≡ of.stock = same_Some stock of.stock (sym is ∙ ap (λ (h : Feeder). h.stock) one ∙ of.is) in
        rw (refilled-more f.loc.0 count refills loc low, same)
        (subst (λ l. (pos stock +ℤ (refilled refills l +ℤ pos count)) ≤ℤ pos 1000256) (sym e)
        (subst (λ n. (pos n +ℤ (refilled refills f.loc.0 +ℤ pos count)) ≤ℤ pos 1000256) (sym stocks) (stock-few of.stock (taken_at machine plans f.loc.0) count (refilled refills f.loc.0) (taken-few f.loc.0) of.few)))
    | inr other ↦
        let low = (location machine loc g at').2 in
        rw (refilled-more f.loc.0 count refills loc low, other) (plain stock (refilled refills loc) (free loc g stock at' is))
  ] where
    of : IsAccepted machine refills plans f count
    of = accepted-refill machine refills plans name count f accepted named

-- plans are forgotten
free-forgotten : (machine : Machine) (refills : List ℤ) (gone : List Plan) → IsFreeWithin machine refills → IsFreeWithin machine (less_taken machine gone refills)
free-forgotten machine refills gone free loc g stock at is =
    rw (refilled-less machine gone refills loc (location machine loc g at).2) (lower stock (drawn_at machine gone loc) (refilled refills loc) (free loc g stock at is)) where
      lower : (stock n : ℕ) (r : ℤ) → (pos stock +ℤ r) ≤ℤ pos 1000256 → (pos stock +ℤ (r -ℤ pos n)) ≤ℤ pos 1000256
      lower stock n r high = omega (arith, ints)

-- ---- and only where sheets are counted there are refills

pub refills-empty : (machine : Machine) → KeepsRefills machine no_refills
refills-empty machine = record { few = free-empty machine; counted = counted-by machine (λ loc. pos 0) (λ loc within none. refl) }

pub refills-forgotten : (machine : Machine) (refills : List ℤ) (gone : List Plan) → KeepsRefills machine refills → KeepsRefills machine (less_taken machine gone refills)
refills-forgotten machine refills gone k = record {
  few = free-forgotten machine refills gone k.few;
  counted = counted-by machine (λ loc. refilled refills loc -ℤ pos (drawn_at machine gone loc)) (λ loc within none.
      ap (λ b. refilled refills loc -ℤ pos (cond b (taken_at machine gone loc) 0)) none ∙ ap (λ r. r -ℤ pos 0) (uncounted machine refills k.counted loc within none));
}

pub refills-refilled : (machine : Machine) (refills : List ℤ) (plans : List Plan) → length plans ≤ 256 → KeepsRefills machine refills → (name : List ℕ) (count : ℕ) (f : Feeder)
    → refill_refusal machine refills plans name count ≡ None → feeder_named machine name ≡ Some f → KeepsRefills machine (more_at f.loc.0 count refills)
refills-refilled machine refills plans few k name count f accepted named = record {
  few = free-refilled machine refills plans few k.few name count f accepted named;
  counted = counted-by machine (λ loc. refilled refills loc +ℤ pos (cond (loc == f.loc.0) count 0)) (λ loc within none.
      ap (λ b. refilled refills loc +ℤ pos (cond b count 0)) (elsewhere loc none) ∙ ap (λ r. r +ℤ pos 0) (uncounted machine refills k.counted loc within none));
} where
  of : IsAccepted machine refills plans f count
  of = accepted-refill machine refills plans name count f accepted named

  there : is_counted machine f.loc.0 ≡ true
  there = counted-there machine f of.stock (location machine f.loc.0 f (named-at machine refills plans few k.few name f named)).0 of.is

  elsewhere : (loc : ℕ) → is_counted machine loc ≡ false → (loc == f.loc.0) ≡ false
  elsewhere loc none = elim (cases_Bool (eqb loc f.loc.0)) [
    | inl same ↦ (let e = eqb-true loc f.loc.0 same in let clash : true ≡ false = sym there ∙ subst (λ l. is_counted machine l ≡ false) e none in absurd cc)
    | inr other ↦ other
  ]
