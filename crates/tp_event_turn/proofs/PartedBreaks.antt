-- Notices by copy, where some that tell nothing are left away.
use Rattle.std.proofs.Common.{◌≡◌, Bool, true, false, cond, List, [], ◌∷◌, ◌++◌, flat_map, refl, sym, ap, ◌∙◌, arith, All, AllPairs}
use Rattle.std.proofs.lemmas.Bool.Decides.{nat_tests}
use Rattle.std.proofs.lemmas.List.Elements.{All-cons, All-head, All-nil, All-tail, All-weaker}
use Rattle.tp_schedule.specs.Plans.{is_before}
use Rattle.tp_schedule.specs.declared.parts.SheetId.{SheetId}
use Rattle.tp_schedule.specs.declared.records.Record.{Record}
use Rattle.tp_schedule.proofs.CopyFacts.{before-asym}
use Rattle.tp_schedule.proofs.Pairs.{AllPairs-cons, AllPairs-head, AllPairs-nil, AllPairs-tail}
use Rattle.tp_event_rules.specs.FallBacks.{Notice, by_copy, put_notice}

-- the second notices without some that tell nothing
pub data Drops : List Notice → List Notice → Type 0 where
  none : Drops [] []
  keep : (n : Notice) (ms' ms : List Notice) → Drops ms' ms → Drops (n ∷ ms') (n ∷ ms)
  skip : (n : Notice) (ms' ms : List Notice) → n.records ≡ [] → Drops ms' ms → Drops ms' (n ∷ ms)

pub drops-refl : (ms : List Notice) → Drops ms ms
drops-refl [] = none
drops-refl (m ∷ ms) = keep m ms ms (drops-refl ms)

pub drops-behind : (ws ms' ms : List Notice) → Drops ms' ms → Drops (ws ++ ms') (ws ++ ms)
drops-behind [] ms' ms d = d
drops-behind (w ∷ ws) ms' ms d = keep w (ws ++ ms') (ws ++ ms) (drops-behind ws ms' ms d)

pub drops-told : (ms' ms : List Notice) → Drops ms' ms → flat_map (λ n. n.records) ms' ≡ flat_map (λ n. n.records) ms
drops-told _ _ none = refl
drops-told _ _ (keep n ms' ms d) = ap (λ l. n.records ++ l) (drops-told ms' ms d)
drops-told _ _ (skip n ms' ms e d) = drops-told ms' ms d ∙ ap (λ (l : List Record). l ++ flat_map (λ n. n.records) ms) (sym e)

abbrev NotBefore : Notice → Notice → Type 0
NotBefore a b = is_before b.sheet a.sheet ≡ false

not_before-trans : (a b c : SheetId) → is_before b a ≡ false → is_before c b ≡ false → is_before c a ≡ false
not_before-trans a b c e f = grind (arith, nat_tests)

all-drops : (Q : Notice → Type 0) (ms' ms : List Notice) → Drops ms' ms → All Q ms → All Q ms'
all-drops Q _ _ none all = all
all-drops Q _ _ (keep n ms' ms d) all = All-cons Q n ms' (All-head Q n ms all) (all-drops Q ms' ms d (All-tail Q n ms all))
all-drops Q _ _ (skip n ms' ms e d) all = all-drops Q ms' ms d (All-tail Q n ms all)

all-put : (Q : Notice → Type 0) (n : Notice) (ms : List Notice) → Q n → All Q ms → All Q (put_notice n ms)
all-put Q n [] has all = All-cons Q n [] has (All-nil Q)
all-put Q n (m ∷ ms) has all = go (is_before m.sheet n.sheet) (all-put Q n ms has (All-tail Q m ms all)) where
  go : (b : Bool) → All Q (put_notice n ms) → All Q (cond b (m ∷ put_notice n ms) (n ∷ m ∷ ms))
  go true rest = All-cons Q m (put_notice n ms) (All-head Q m ms all) rest
  go false rest = All-cons Q n (m ∷ ms) has all

sorted-put : (n : Notice) (ms : List Notice) → AllPairs NotBefore ms → AllPairs NotBefore (put_notice n ms)
sorted-put n [] sorted = AllPairs-cons NotBefore n [] (All-nil (NotBefore n)) (AllPairs-nil NotBefore)
sorted-put n (m ∷ ms) sorted = go (is_before m.sheet n.sheet) refl (sorted-put n ms (AllPairs-tail NotBefore m ms sorted)) where
  behind : All (NotBefore m) ms
  behind = AllPairs-head NotBefore m ms sorted

  go : (b : Bool) → is_before m.sheet n.sheet ≡ b → AllPairs NotBefore (put_notice n ms) → AllPairs NotBefore (cond b (m ∷ put_notice n ms) (n ∷ m ∷ ms))
  go true e rest = AllPairs-cons NotBefore m (put_notice n ms) (all-put (NotBefore m) n ms (before-asym m.sheet n.sheet e) behind) rest
  go false e rest =
      AllPairs-cons NotBefore n (m ∷ ms) (All-cons (NotBefore n) m ms e (All-weaker (NotBefore m) (NotBefore n) (λ x f. not_before-trans n.sheet m.sheet x.sheet e f) ms behind)) sorted

sorted-by_copy : (ms : List Notice) → AllPairs NotBefore (by_copy ms)
sorted-by_copy [] = AllPairs-nil NotBefore
sorted-by_copy (m ∷ ms) = sorted-put m (by_copy ms) (sorted-by_copy ms)

put-first : (n : Notice) (ms : List Notice) → All (NotBefore n) ms → put_notice n ms ≡ n ∷ ms
put-first n [] all = refl
put-first n (m ∷ ms) all = rw (All-head (NotBefore n) m ms all) refl

keep-put : (n : Notice) (ms' ms : List Notice) → Drops ms' ms → AllPairs NotBefore ms → Drops (put_notice n ms') (put_notice n ms)
keep-put n _ _ none sorted = keep n [] [] none
keep-put n _ _ (keep m ms' ms d) sorted = go (is_before m.sheet n.sheet) (keep-put n ms' ms d (AllPairs-tail NotBefore m ms sorted)) where
  go : (b : Bool) → Drops (put_notice n ms') (put_notice n ms) → Drops (cond b (m ∷ put_notice n ms') (n ∷ m ∷ ms')) (cond b (m ∷ put_notice n ms) (n ∷ m ∷ ms))
  go true rest = keep m (put_notice n ms') (put_notice n ms) rest
  go false rest = keep n (m ∷ ms') (m ∷ ms) (keep m ms' ms d)
keep-put n _ _ (skip m ms' ms e d) sorted = go (is_before m.sheet n.sheet) refl (keep-put n ms' ms d (AllPairs-tail NotBefore m ms sorted)) where
  go : (b : Bool) → is_before m.sheet n.sheet ≡ b → Drops (put_notice n ms') (put_notice n ms) → Drops (put_notice n ms') (cond b (m ∷ put_notice n ms) (n ∷ m ∷ ms))
  go true f rest = skip m (put_notice n ms') (put_notice n ms) e rest
  go false f rest =
      let behind = All-weaker (NotBefore m) (NotBefore n) (λ x h. not_before-trans n.sheet m.sheet x.sheet f h) ms (AllPairs-head NotBefore m ms sorted) in
      rw (put-first n ms' (all-drops (NotBefore n) ms' ms d behind)) (keep n ms' (m ∷ ms) (skip m ms' ms e d))

skip-put : (n : Notice) (ms' ms : List Notice) → n.records ≡ [] → Drops ms' ms → Drops ms' (put_notice n ms)
skip-put n _ _ none' none = skip n [] [] none' none
skip-put n _ _ none' (keep m ms' ms d) = go (is_before m.sheet n.sheet) (skip-put n ms' ms none' d) where
  go : (b : Bool) → Drops ms' (put_notice n ms) → Drops (m ∷ ms') (cond b (m ∷ put_notice n ms) (n ∷ m ∷ ms))
  go true rest = keep m ms' (put_notice n ms) rest
  go false rest = skip n (m ∷ ms') (m ∷ ms) none' (keep m ms' ms d)
skip-put n _ _ none' (skip m ms' ms e d) = go (is_before m.sheet n.sheet) (skip-put n ms' ms none' d) where
  go : (b : Bool) → Drops ms' (put_notice n ms) → Drops ms' (cond b (m ∷ put_notice n ms) (n ∷ m ∷ ms))
  go true rest = skip m ms' (put_notice n ms) e rest
  go false rest = skip n ms' (m ∷ ms) none' (skip m ms' ms e d)

pub drops-by_copy : (ms' ms : List Notice) → Drops ms' ms → Drops (by_copy ms') (by_copy ms)
drops-by_copy _ _ none = none
drops-by_copy _ _ (keep n ms' ms d) = keep-put n (by_copy ms') (by_copy ms) (drops-by_copy ms' ms d) (sorted-by_copy ms)
drops-by_copy _ _ (skip n ms' ms e d) = skip-put n (by_copy ms') (by_copy ms) e (drops-by_copy ms' ms d)
