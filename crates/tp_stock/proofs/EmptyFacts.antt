-- The empty feeders one by one.
use Rattle.std.proofs.Common.{◌≡◌, ℕ, ◌+◌, ◌<◌, ◌||◌, Bool, Option, None, Some, pos, true, false, cond, List, [], ◌∷◌, ◌++◌, length, take, filter, get_or, refl, sym, ap, ◌∙◌}
use Rattle.std.specs.List.{fold, list_any}
use Rattle.std.specs.Option.{option_eq}
use Rattle.std.specs.Ordering.{int_eq}
use Rattle.std.specs.Prelude.{is_some, ℤ}
use Rattle.std.proofs.lemmas.List.{take_more}
use Rattle.tp_machine.specs.declared.machine.Machine.{Machine}
use Rattle.tp_machine.specs.declared.parts.Feeder.{Feeder}
use Rattle.tp_schedule.specs.declared.parts.Plan.{Plan}
use Rattle.tp_stock.specs.Stock.{free_of, is_empty, refilled, taken_at}

pub fold-next : {X Y : Type 0} (f : Y → X → Y) (p : X → Bool) (xs : List X) (x : X) (z : Y) → fold f z (filter p (xs ++ x ∷ [])) ≡ cond (p x) (f (fold f z (filter p xs)) x) (fold f z (filter p xs))
fold-next {X} {Y} f p [] x z = go (p x)
  where
    go : (b : Bool) → fold f z (cond b (x ∷ []) []) ≡ cond b (f z x) z
    go true = refl
    go false = refl
fold-next {X} {Y} f p (y ∷ ys) x z = go (p y) (fold-next f p ys x (f z y)) (fold-next f p ys x z)
  where
    go : (b : Bool) → fold f (f z y) (filter p (ys ++ x ∷ [])) ≡ cond (p x) (f (fold f (f z y) (filter p ys)) x) (fold f (f z y) (filter p ys))
        → fold f z (filter p (ys ++ x ∷ [])) ≡ cond (p x) (f (fold f z (filter p ys)) x) (fold f z (filter p ys))
        → fold f z (cond b (y ∷ filter p (ys ++ x ∷ [])) (filter p (ys ++ x ∷ []))) ≡ cond (p x) (f (fold f z (cond b (y ∷ filter p ys) (filter p ys))) x) (fold f z (cond b (y ∷ filter p ys) (filter p ys)))
    go true with-it without = with-it
    go false with-it without = without

pub fold-more : {X Y : Type 0} (f : Y → X → Y) (p : X → Bool) (xs : List X) (n : ℕ) (x : X) (z : Y) → n < length xs → x ≡ get_or xs n x
    → fold f z (filter p (take (n + 1) xs)) ≡ cond (p x) (f (fold f z (filter p (take n xs))) x) (fold f z (filter p (take n xs)))
fold-more f p xs n x z within at =
    let next = take_more xs n x within ∙ ap (λ y. take n xs ++ y ∷ []) (sym at) in
    ap (λ ys. fold f z (filter p ys)) next ∙ fold-next f p (take n xs) x z

-- where all feeders are endless none is empty
pub none-empty : (machine : Machine) (refills : List ℤ) (plans : List Plan) (feeders : List Feeder) → list_any (λ f. is_some f.stock) feeders ≡ false → filter (is_empty machine refills plans) feeders ≡ []
none-empty machine refills plans [] none = refl
none-empty machine refills plans (f ∷ feeders) none = go f.stock none (none-empty machine refills plans feeders)
  where
    go : (stock : Option ℕ) → (is_some stock || list_any (λ g. is_some g.stock) feeders) ≡ false → (list_any (λ g. is_some g.stock) feeders ≡ false → filter (is_empty machine refills plans) feeders ≡ [])
        → cond (option_eq int_eq (free_of stock (refilled refills f.loc.0) (taken_at machine plans f.loc.0)) (Some (pos 0))) (f ∷ filter (is_empty machine refills plans) feeders) (filter (is_empty machine refills plans) feeders) ≡ []
    go None none' rest = rest none'
    go (Some count) none' rest = absurd cc
