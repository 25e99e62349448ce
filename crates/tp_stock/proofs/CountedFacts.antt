-- The locations where sheets are counted, feeder by feeder.
use Rattle.std.proofs.Common.{◌≡◌, ◌≢◌, ℕ, zero, suc, ◌+◌, ◌<◌, ◌≤◌, ◌==◌, ◌||◌, eqb, replicate, length-set, Bool, true, false, List, [], ◌∷◌, ◌++◌, length, take, set, get_or, get_or-set_other, get_or-set_same, refl, sym, ap, ◌∙◌, subst, arith}
use Rattle.std.specs.Prelude.{◌&&◌, is_some}
use Rattle.std.specs.List.{list_any}
use Rattle.std.proofs.lemmas.Bool.{eqb-true, eq-eqb}
use Rattle.std.proofs.lemmas.Bool.Decides.{nat_tests}
use Rattle.std.proofs.lemmas.List.{get_or-replicate, length-replicate, take_more}
use Rattle.std.proofs.lemmas.List.FromFn.{fill_by_all}
use Rattle.std.proofs.lemmas.List.Folds.{list_any-append}
use Rattle.tp_machine.specs.declared.parts.Feeder.{Feeder}
use Rattle.tp_machine.specs.declared.machine.Machine.{Machine}
use Rattle.tp_stock.specs.Stock.{by_location, is_counted}

-- a feeder that is not endless is at this location
abbrev pub counts : ℕ → Feeder → Bool
counts loc f = (f.loc.0 == loc) && is_some f.stock

-- the marks are those of these feeders
pub record Marked (feeders : List Feeder) (counted : List Bool) : Type 0 where
  pub all : length counted ≡ 256
  pub each : (loc : ℕ) → loc < 256 → get_or counted loc false ≡ list_any (counts loc) feeders

pub marked-none : (feeders : List Feeder) → Marked (take 0 feeders) (replicate 256 false)
marked-none feeders = record {
  all = length-replicate {A = Bool} 256 false;
  each = λ loc within. get_or-replicate {A = Bool} 256 loc false false within ∙ sym (none feeders loc);
} where
  none : (feeders : List Feeder) (loc : ℕ) → list_any (counts loc) (take 0 feeders) ≡ false
  none [] loc = refl
  none (f ∷ feeders) loc = refl

or-false : (b : Bool) → (b || false) ≡ b
or-false true = refl
or-false false = refl

any-push : (feeders : List Feeder) (f : Feeder) (loc : ℕ) → list_any (counts loc) (feeders ++ f ∷ []) ≡ (list_any (counts loc) feeders || counts loc f)
any-push feeders f loc = list_any-append (counts loc) feeders (f ∷ []) ∙ ap (λ b. list_any (counts loc) feeders || b) (or-false (counts loc f))

-- an endless feeder marks nothing
pub marked-other : (feeders : List Feeder) (f : Feeder) (counted : List Bool) → ((loc : ℕ) → loc < 256 → counts loc f ≡ false) → Marked feeders counted → Marked (feeders ++ f ∷ []) counted
marked-other feeders f counted none before = record {
  all = before.all;
  each = λ loc within. before.each loc within ∙ sym (any-push feeders f loc ∙ ap (λ b. list_any (counts loc) feeders || b) (none loc within) ∙ or-false (list_any (counts loc) feeders));
}

-- another marks its location
pub marked-one : (feeders : List Feeder) (f : Feeder) (counted : List Bool) → f.loc.0 < 256 → is_some f.stock ≡ true → Marked feeders counted → Marked (feeders ++ f ∷ []) (set counted f.loc.0 true)
marked-one feeders f counted inside some before = record {
  all = simp length-set before.all;
  each = λ loc within. any loc within ∙ sym (any-push feeders f loc);
} where
  lt : f.loc.0 < length counted
  lt = omega (arith, before.all)

  or-true : (b : Bool) → (b || true) ≡ true
  or-true true = refl
  or-true false = refl

  any : (loc : ℕ) → loc < 256 → get_or (set counted f.loc.0 true) loc false ≡ (list_any (counts loc) feeders || counts loc f)
  any loc within = go (eqb f.loc.0 loc) refl where
    go : (b : Bool) → eqb f.loc.0 loc ≡ b → get_or (set counted f.loc.0 true) loc false ≡ (list_any (counts loc) feeders || (b && is_some f.stock))
    go true same =
        let low : f.loc.0 < length counted = lt in
        subst (λ k. get_or (set counted f.loc.0 true) k false ≡ (list_any (counts loc) feeders || (true && is_some f.stock))) (eqb-true f.loc.0 loc same)
        (rw (get_or-set_same, some) (sym (or-true (list_any (counts loc) feeders))))
    go false other =
        let differ : loc ≢ f.loc.0 = λ e. (let k = eq-eqb f.loc.0 loc (sym e) in absurd cc) in
        rw get_or-set_other (before.each loc within ∙ sym (or-false (list_any (counts loc) feeders)))

pub counts-far : (f : Feeder) → 256 ≤ f.loc.0 → (loc : ℕ) → loc < 256 → counts loc f ≡ false
counts-far f far loc within = let other : (f.loc.0 == loc) ≡ false = grind (arith, nat_tests) in rw other refl

pub counts-endless : (f : Feeder) → is_some f.stock ≡ false → (loc : ℕ) → loc < 256 → counts loc f ≡ false
counts-endless f endless loc within = rw endless (go (f.loc.0 == loc)) where
  go : (b : Bool) → (b && false) ≡ false
  go true = refl
  go false = refl

-- one feeder more is looked at
pub next-feeder : (feeders : List Feeder) (n : ℕ) (f : Feeder) → n < length feeders → f ≡ get_or feeders n f → take (n + 1) feeders ≡ take n feeders ++ f ∷ []
next-feeder feeders n f within at = take_more feeders n f within ∙ ap (λ y. take n feeders ++ y ∷ []) (sym at)

pub take-whole : (feeders : List Feeder) (n : ℕ) → length feeders ≤ n → take n feeders ≡ feeders
take-whole [] zero le = refl
take-whole [] (suc n) le = refl
take-whole (f ∷ feeders) zero le = absurd (omega arith)
take-whole (f ∷ feeders) (suc n) le = ap (λ l. f ∷ l) (take-whole feeders n (omega arith))

pub marked-all : (machine : Machine) (counted : List Bool) → Marked machine.feeders counted → counted ≡ by_location (is_counted machine)
unfolding by_location
marked-all machine counted marked = fill_by_all (is_counted machine) counted 256 false marked.all marked.each
