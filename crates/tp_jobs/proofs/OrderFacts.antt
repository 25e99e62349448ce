-- The copies that wait stay in order as one is put in or taken out.
use Rattle.std.proofs.Common.{◌≡◌, ◌+◌, Bool, true, false, not, cond, List, [], ◌∷◌, length, Some, None, All, AllPairs, refl, arith}
use Rattle.std.proofs.lemmas.List.Elements.{All-cons, All-head, All-tail, All-nil}
use Rattle.tp_schedule.proofs.CopyFacts.{before-trans, before-other}
use Rattle.tp_schedule.proofs.Pairs.{AllPairs-head, AllPairs-tail, AllPairs-cons}
use Rattle.tp_schedule.specs.Plans.{is_before, is_same_copy}
use Rattle.tp_schedule.specs.declared.parts.SheetId.{SheetId}
use Rattle.tp_jobs.specs.Backlogs.{WaitsBefore}
use Rattle.tp_jobs.specs.WaitingCopies.{find_waiting, put_waiting, without_waiting}
use Rattle.tp_jobs.specs.declared.parts.WaitingCopy.{WaitingCopy}

pub All-put_waiting : (P : WaitingCopy → Type 0) (w : WaitingCopy) (xs : List WaitingCopy) → P w → All P xs → All P (put_waiting xs w)
All-put_waiting P w [] one all = All-cons P w [] one all
All-put_waiting P w (x ∷ xs) one all = go (is_before w.sheet x.sheet) (All-put_waiting P w xs one (All-tail P x xs all)) where
  go : (b : Bool) → All P (put_waiting xs w) → All P (cond b (w ∷ x ∷ xs) (x ∷ put_waiting xs w))
  go true rest = All-cons P w (x ∷ xs) one all
  go false rest = All-cons P x (put_waiting xs w) (All-head P x xs all) rest

pub in_order-put : (w : WaitingCopy) (xs : List WaitingCopy) → AllPairs WaitsBefore xs → find_waiting w.sheet xs ≡ None → AllPairs WaitsBefore (put_waiting xs w)
in_order-put w [] in_order none = AllPairs-cons WaitsBefore w [] (All-nil (WaitsBefore w)) in_order
in_order-put w (x ∷ xs) in_order none = go (is_before w.sheet x.sheet) refl (is_same_copy x.sheet w.sheet) refl none (in_order-put w xs (AllPairs-tail WaitsBefore x xs in_order)) where
  later : All (WaitsBefore x) xs
  later = AllPairs-head WaitsBefore x xs in_order

  go : (b : Bool) → is_before w.sheet x.sheet ≡ b → (s : Bool) → is_same_copy x.sheet w.sheet ≡ s → cond s (Some x) (find_waiting w.sheet xs) ≡ None
      → (find_waiting w.sheet xs ≡ None → AllPairs WaitsBefore (put_waiting xs w)) → AllPairs WaitsBefore (cond b (w ∷ x ∷ xs) (x ∷ put_waiting xs w))
  go b e true same none' rest = absurd (cc)
  go true e false same none' rest =
      AllPairs-cons WaitsBefore w (x ∷ xs)
      (All-cons (WaitsBefore w) x xs e (λ k d within. before-trans w.sheet x.sheet _ e (later k d within))) in_order
  go false e false same none' rest =
      AllPairs-cons WaitsBefore x (put_waiting xs w)
      (All-put_waiting (WaitsBefore x) w xs (before-other w.sheet x.sheet e same) later) (rest none')

pub length-put_waiting : (w : WaitingCopy) (xs : List WaitingCopy) → length (put_waiting xs w) ≡ length xs + 1
length-put_waiting w [] = refl
length-put_waiting w (x ∷ xs) = go (is_before w.sheet x.sheet) (length-put_waiting w xs) where
  go : (b : Bool) → length (put_waiting xs w) ≡ length xs + 1 → length (cond b (w ∷ x ∷ xs) (x ∷ put_waiting xs w)) ≡ length (x ∷ xs) + 1
  go true rest = omega arith
  go false rest = omega (arith, rest)

-- a copy that was taken waits no more
pub find-without : (copy : SheetId) (xs : List WaitingCopy) → find_waiting copy (without_waiting copy xs) ≡ None
find-without copy [] = refl
find-without copy (x ∷ xs) = go (is_same_copy x.sheet copy) refl (find-without copy xs) where
  go : (b : Bool) → is_same_copy x.sheet copy ≡ b → find_waiting copy (without_waiting copy xs) ≡ None → find_waiting copy (cond (not b) (x ∷ without_waiting copy xs) (without_waiting copy xs)) ≡ None
  go true e rest = rest
  go false e rest = rw e rest
