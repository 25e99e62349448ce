-- Refills are only where sheets are counted.
use Rattle.std.proofs.Common.{◌≡◌, ℕ, ◌<◌, Bool, true, false, cond, List, map, refl, sym, ap, ◌∙◌, arith, Some, pos, ◌+ℤ◌, ◌≤ℤ◌}
use Rattle.std.specs.Prelude.{ℤ}
use Rattle.std.specs.List.{range_with_len}
use Rattle.std.proofs.lemmas.List.FromFn.{fill_by_all, get_or-map-range_with_len, length-map-range_with_len}
use Rattle.tp_machine.specs.declared.machine.Machine.{Machine}
use Rattle.tp_machine.specs.declared.parts.Feeder.{Feeder}
use Rattle.tp_stock.specs.Stock.{by_location, feeder_at, is_counted, refilled}
use Rattle.tp_stock.proofs.StockFacts.{at-location}

abbrev pub IsFreeWithin : Machine → List ℤ → Type 0
IsFreeWithin machine refills = (loc : ℕ) (f : Feeder) (stock : ℕ) → feeder_at machine loc ≡ Some f → f.stock ≡ Some stock → (pos stock +ℤ refilled refills loc) ≤ℤ pos 1000256

pub by-same : (f g : ℕ → ℤ) → ((loc : ℕ) → loc < 256 → f loc ≡ g loc) → by_location f ≡ by_location g
unfolding by_location
by-same f g each = fill_by_all g (map f (range_with_len 0 256)) 256 (pos 0) (length-map-range_with_len f 0 256)
    (λ loc within. get_or-map-range_with_len f 0 256 loc loc (pos 0) within (omega arith) ∙ each loc within)

module _ (machine : Machine) where
  abbrev pub AreCounted : List ℤ → Type 0
  AreCounted refills = refills ≡ by_location (λ loc. cond (is_counted machine loc) (refilled refills loc) (pos 0))

  pub counted-by : (f : ℕ → ℤ) → ((loc : ℕ) → loc < 256 → is_counted machine loc ≡ false → f loc ≡ pos 0) → AreCounted (by_location f)
  counted-by f none = by-same f (λ loc. cond (is_counted machine loc) (refilled (by_location f) loc) (pos 0)) (λ loc within. go loc within (is_counted machine loc) refl) where
    go : (loc : ℕ) → loc < 256 → (b : Bool) → is_counted machine loc ≡ b → f loc ≡ cond b (refilled (by_location f) loc) (pos 0)
    go loc within true e = (let is = at-location f loc (pos 0) within in sym is)
    go loc within false e = none loc within e

  pub uncounted : (refills : List ℤ) → AreCounted refills → (loc : ℕ) → loc < 256 → is_counted machine loc ≡ false → refilled refills loc ≡ pos 0
  uncounted refills all loc within none =
      ap (λ rs. refilled rs loc) all ∙ at-location (λ l. cond (is_counted machine l) (refilled refills l) (pos 0)) loc (pos 0) within ∙ ap (λ b. cond b (refilled refills loc) (pos 0)) none
