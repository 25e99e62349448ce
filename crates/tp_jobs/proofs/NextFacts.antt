-- The copy that is tried next is found from the place of the last one on, and it waits.
use Rattle.std.proofs.Common.{◌≡◌, ℕ, ◌<◌, Bool, true, false, cond, List, [], ◌∷◌, length, find, drop, Option, Some, None, IsSome, All, AllPairs, refl, sym, ap, subst, ◌∙◌}
use Rattle.std.specs.Prelude.{◌&&◌}
use Rattle.std.specs.List.{position_or_len}
use Rattle.std.specs.Option.{option_map, IfSome}
use Rattle.std.proofs.lemmas.List.Elements.{All-head, All-tail}
use Rattle.tp_schedule.proofs.CopyFacts.{same_copy-refl}
use Rattle.tp_schedule.specs.Plans.{is_same_copy}
use Rattle.tp_schedule.specs.declared.parts.SheetId.{SheetId}
use Rattle.tp_jobs.proofs.PlaceFacts.{find-behind, is_behind}
use Rattle.tp_jobs.specs.Backlogs.{Backlog, IsOfJob, WaitsBefore}
use Rattle.tp_jobs.specs.NextTry.{comes_after, is_open, next_to_try}
use Rattle.tp_jobs.specs.WaitingCopies.{find_waiting}
use Rattle.tp_jobs.specs.declared.parts.WaitingCopy.{WaitingCopy}

-- the copies that come after the last one tried, from its place on
pub found-from : (lines : Backlog) (marks : List Bool) (last : SheetId) (at : ℕ) → AllPairs WaitsBefore lines.waiting → at ≡ position_or_len (is_behind last) lines.waiting
    → option_map (λ w. w.sheet) (find (is_open lines.jobs marks) (drop at lines.waiting)) ≡ next_to_try lines (Some last) marks
found-from lines marks last at in_order is =
    ap (λ i. option_map (λ w. w.sheet) (find (is_open lines.jobs marks) (drop i lines.waiting))) is
    ∙ ap (option_map (λ w. w.sheet)) (sym (find-behind last (is_open lines.jobs marks) lines.waiting in_order))

-- what is found among the copies that wait does wait
found-waits : (q : WaitingCopy → Bool) (waiting : List WaitingCopy) (w : WaitingCopy) → find q waiting ≡ Some w → IsSome (find_waiting w.sheet waiting)
found-waits q [] w e = absurd (cc)
found-waits q (x ∷ xs) w e = go (q x) refl (is_same_copy x.sheet w.sheet) refl e (found-waits q xs w) where
  go : (b : Bool) → q x ≡ b → (s : Bool) → is_same_copy x.sheet w.sheet ≡ s → cond b (Some x) (find q xs) ≡ Some w → (find q xs ≡ Some w → IsSome (find_waiting w.sheet xs)) → IsSome (cond s (Some x) (find_waiting w.sheet xs))
  go b eb true es e' rest = refl
  go true eb false es e' rest = let same : x ≡ w = cc in let no : is_same_copy w.sheet w.sheet ≡ false = subst (λ v. is_same_copy v.sheet w.sheet ≡ false) same es in let yes = same_copy-refl w.sheet in absurd (cc)
  go false eb false es e' rest = rest e'

-- the next one to try waits, and is of a job that came
pub next-waits : (lines : Backlog) (after : Option SheetId) (marks : List Bool) → IfSome (next_to_try lines after marks) (λ copy. IsSome (find_waiting copy lines.waiting))
next-waits lines after marks = go (find (λ w. comes_after after w.sheet && is_open lines.jobs marks w) lines.waiting) refl where
  go : (r : Option WaitingCopy) → find (λ w. comes_after after w.sheet && is_open lines.jobs marks w) lines.waiting ≡ r → IfSome (option_map (λ w. w.sheet) r) (λ copy. IsSome (find_waiting copy lines.waiting))
  go None e = tt
  go (Some w) e = found-waits (λ v. comes_after after v.sheet && is_open lines.jobs marks v) lines.waiting w e

found-all : (P : WaitingCopy → Type 0) (q : WaitingCopy → Bool) (waiting : List WaitingCopy) (w : WaitingCopy) → All P waiting → find q waiting ≡ Some w → P w
found-all P q [] w all e = absurd (cc)
found-all P q (x ∷ xs) w all e = go (q x) e (found-all P q xs w (All-tail P x xs all)) where
  go : (b : Bool) → cond b (Some x) (find q xs) ≡ Some w → (find q xs ≡ Some w → P w) → P w
  go true e' rest = let same : x ≡ w = cc in subst P same (All-head P x xs all)
  go false e' rest = rest e'

pub next-of_job : (lines : Backlog) (after : Option SheetId) (marks : List Bool) → All (IsOfJob lines.jobs) lines.waiting → IfSome (next_to_try lines after marks) (λ copy. copy.job < length lines.jobs)
next-of_job lines after marks all = go (find (λ w. comes_after after w.sheet && is_open lines.jobs marks w) lines.waiting) refl where
  go : (r : Option WaitingCopy) → find (λ w. comes_after after w.sheet && is_open lines.jobs marks w) lines.waiting ≡ r → IfSome (option_map (λ w. w.sheet) r) (λ copy. copy.job < length lines.jobs)
  go None e = tt
  go (Some w) e = found-all (IsOfJob lines.jobs) (λ v. comes_after after v.sheet && is_open lines.jobs marks v) lines.waiting w all e
