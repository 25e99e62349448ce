-- Where a copy stands among those that wait, which stand in the order of copies.
use Rattle.std.proofs.Common.{◌≡◌, ℕ, ◌≤◌, ◌<◌, suc, Bool, true, false, cond, List, [], ◌∷◌, length, get_or, slice_get, find, drop, insert, remove, Some, IsSome, All, AllPairs, refl, sym, ap, arith, subst}
use Rattle.std.specs.Prelude.{◌&&◌}
use Rattle.std.specs.List.{position_or_len}
use Rattle.std.proofs.lemmas.Bool.Decides.{nat_tests}
use Rattle.std.proofs.lemmas.List.Elements.{All-head, All-tail}
use Rattle.std.proofs.Math.Numerals.{one-add}
use Rattle.tp_schedule.proofs.CopyFacts.{before-trans, before-asym, before-not_same', same_copy-is}
use Rattle.tp_schedule.proofs.Pairs.{AllPairs-head, AllPairs-tail}
use Rattle.tp_schedule.specs.Plans.{is_before, is_same_copy}
use Rattle.tp_schedule.specs.declared.parts.SheetId.{SheetId}
use Rattle.tp_jobs.specs.Backlogs.{WaitsBefore}
use Rattle.tp_jobs.specs.WaitingCopies.{find_waiting, put_waiting, without_waiting}
use Rattle.tp_jobs.specs.declared.parts.WaitingCopy.{WaitingCopy}

abbrev pub is_behind : SheetId → WaitingCopy → Bool
is_behind copy w = is_before copy w.sheet

-- put before the first copy behind it, a copy stands where the order puts it
pub insert-put_waiting : (w : WaitingCopy) (xs : List WaitingCopy) → insert xs (position_or_len (is_behind w.sheet) xs) w ≡ put_waiting xs w
insert-put_waiting w [] = refl
insert-put_waiting w (x ∷ xs) = go (is_before w.sheet x.sheet) refl (insert-put_waiting w xs) where
  go : (b : Bool) → is_before w.sheet x.sheet ≡ b → insert xs (position_or_len (is_behind w.sheet) xs) w ≡ put_waiting xs w → insert (x ∷ xs) (position_or_len (is_behind w.sheet) (x ∷ xs)) w ≡ put_waiting (x ∷ xs) w
  go true e rest = rw e refl
  go false e rest = rw (e, one-add) (ap (λ ys. x ∷ ys) rest)

-- all that stand behind the first copy
all_behind-place : (copy : SheetId) (xs : List WaitingCopy) → All (λ w. is_before copy w.sheet ≡ true) xs → position_or_len (is_behind copy) xs ≡ 0
all_behind-place copy [] all = refl
all_behind-place copy (x ∷ xs) all = rw (All-head (λ w. is_before copy w.sheet ≡ true) x xs all) refl

all_behind-without : (copy : SheetId) (xs : List WaitingCopy) → All (λ w. is_before copy w.sheet ≡ true) xs → without_waiting copy xs ≡ xs
all_behind-without copy [] all = refl
all_behind-without copy (x ∷ xs) all =
    rw (before-not_same' copy x.sheet (All-head (λ w. is_before copy w.sheet ≡ true) x xs all))
    (ap (λ ys. x ∷ ys) (all_behind-without copy xs (All-tail (λ w. is_before copy w.sheet ≡ true) x xs all)))

all_behind-found : (copy other : SheetId) (xs : List WaitingCopy) → All (λ w. is_before copy w.sheet ≡ true) xs → IsSome (find_waiting other xs) → is_before copy other ≡ true
all_behind-found copy other [] all some = absurd (cc)
all_behind-found copy other (x ∷ xs) all some = go (is_same_copy x.sheet other) refl some (all_behind-found copy other xs (All-tail (λ w. is_before copy w.sheet ≡ true) x xs all)) where
  go : (b : Bool) → is_same_copy x.sheet other ≡ b → IsSome (cond b (Some x) (find_waiting other xs)) → (IsSome (find_waiting other xs) → is_before copy other ≡ true) → is_before copy other ≡ true
  go true e some' rest = subst (λ c. is_before copy c ≡ true) (same_copy-is x.sheet other e) (All-head (λ w. is_before copy w.sheet ≡ true) x xs all)
  go false e some' rest = rest some'

-- a copy that waits stands right before the first one behind it
pub record StandsAt (copy : SheetId) (xs : List WaitingCopy) (k : ℕ) : Type 0 where
  pub before : position_or_len (is_behind copy) xs ≡ suc k
  pub here : slice_get xs k ≡ find_waiting copy xs
  pub within : k < length xs
  pub removed : remove xs k ≡ without_waiting copy xs

pub stands : (copy : SheetId) (xs : List WaitingCopy) → AllPairs WaitsBefore xs → IsSome (find_waiting copy xs) → (k : ℕ) × StandsAt copy xs k
stands copy [] in_order some = absurd (cc)
stands copy (x ∷ xs) in_order some = go (is_same_copy x.sheet copy) refl some (stands copy xs (AllPairs-tail WaitsBefore x xs in_order)) where
  later : All (λ w. is_before x.sheet w.sheet ≡ true) xs
  later = AllPairs-head WaitsBefore x xs in_order

  go : (b : Bool) → is_same_copy x.sheet copy ≡ b → IsSome (cond b (Some x) (find_waiting copy xs)) → (IsSome (find_waiting copy xs) → (k : ℕ) × StandsAt copy xs k) → (k : ℕ) × StandsAt copy (x ∷ xs) k
  go true e some' rest =
      let same = same_copy-is x.sheet copy e in
      let all : All (λ w. is_before copy w.sheet ≡ true) xs = subst (λ c. All (λ w. is_before c w.sheet ≡ true) xs) same later in
      let self : is_before copy x.sheet ≡ false = grind (arith, nat_tests) in (
        0,
        record {
          before = rw (self, all_behind-place copy xs all) refl;
          here = rw e refl;
          within = omega arith;
          removed = rw e (sym (all_behind-without copy xs all));
        },
      )
  go false e some' rest =
      let found = rest some' in
      let behind : is_before copy x.sheet ≡ false = before-asym x.sheet copy (all_behind-found x.sheet copy xs later some') in (
        suc found.0,
        record {
          before = rw (behind, found.1.before) (omega arith);
          here = rw e found.1.here;
          within = omega (arith, found.1.within);
          removed = rw e (ap (λ ys. x ∷ ys) found.1.removed);
        },
      )

-- what is found among the copies behind one is found from its place on
pub find-behind : (copy : SheetId) (q : WaitingCopy → Bool) (xs : List WaitingCopy) → AllPairs WaitsBefore xs → find (λ w. is_before copy w.sheet && q w) xs ≡ find q (drop (position_or_len (is_behind copy) xs) xs)
find-behind copy q [] in_order = refl
find-behind copy q (x ∷ xs) in_order = go (is_before copy x.sheet) refl (find-behind copy q xs (AllPairs-tail WaitsBefore x xs in_order)) where
  all-same : (ys : List WaitingCopy) → All (λ w. is_before copy w.sheet ≡ true) ys → find (λ w. is_before copy w.sheet && q w) ys ≡ find q ys
  all-same [] all = refl
  all-same (y ∷ ys) all = rw (All-head (λ w. is_before copy w.sheet ≡ true) y ys all) (rw (all-same ys (All-tail (λ w. is_before copy w.sheet ≡ true) y ys all)) refl)

  go : (b : Bool) → is_before copy x.sheet ≡ b → find (λ w. is_before copy w.sheet && q w) xs ≡ find q (drop (position_or_len (is_behind copy) xs) xs)
      → find (λ w. is_before copy w.sheet && q w) (x ∷ xs) ≡ find q (drop (position_or_len (is_behind copy) (x ∷ xs)) (x ∷ xs))
  go true e rest =
      let all : All (λ w. is_before copy w.sheet ≡ true) xs = λ k d within. before-trans copy x.sheet (get_or xs k d).sheet e (AllPairs-head WaitsBefore x xs in_order k d within) in
      rw e (rw (all-same xs all) refl)
  go false e rest = rw (e, one-add) rest
