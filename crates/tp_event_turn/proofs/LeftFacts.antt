-- The copies that are left in a phase of asks, and the next of them whose line is open.
use Rattle.std.proofs.Common.{◌≡◌, inl, inr, Bool, true, false, cond, ◌&&◌, not, List, [], ◌∷◌, filter, find, Option, Some, None, refl, sym, ap, ◌∙◌, subst, arith, All, AllPairs, Contains, IsTrue}
use Rattle.std.specs.Option.{option_map}
use Rattle.std.proofs.lemmas.Bool.{not_from_false}
use Rattle.std.proofs.lemmas.List.Elements.{All-head, All-tail, All-contains}
use Rattle.tp_schedule.proofs.CopyFacts.{before-asym, before-not_same, before-not_same', before-trans, same_copy-refl}
use Rattle.tp_schedule.proofs.Membership.{Contains-cons_cases, Contains-filter_from}
use Rattle.tp_schedule.proofs.Pairs.{AllPairs-head, AllPairs-tail}
use Rattle.tp_schedule.specs.Plans.{is_before, is_same_copy}
use Rattle.tp_schedule.specs.declared.parts.SheetId.{SheetId}
use Rattle.tp_jobs.specs.Backlogs.{Backlog}
use Rattle.tp_jobs.specs.NextTry.{comes_after, is_open, next_to_try}
use Rattle.tp_jobs.specs.WaitingCopies.{find_waiting, without_waiting}
use Rattle.tp_jobs.specs.declared.parts.WaitingCopy.{WaitingCopy}
use Rattle.tp_event_rules.proofs.ListFacts.{find-Some}

abbrev Before : WaitingCopy → WaitingCopy → Type 0
Before v w = IsTrue (is_before v.sheet w.sheet)

-- the copies behind the one that was tried last
abbrev pub left : Option SheetId → List WaitingCopy → List WaitingCopy
left after waiting = filter (λ w. comes_after after w.sheet) waiting

pub left-all : (waiting : List WaitingCopy) → left None waiting ≡ waiting
left-all [] = refl
left-all (w ∷ waiting) = ap (λ ws. w ∷ ws) (left-all waiting)

-- a stricter filter behind a looser one
pub filter-stricter : {X : Type 0} (p q : X → Bool) → ((x : X) → q x ≡ true → p x ≡ true) → (xs : List X) → filter q (filter p xs) ≡ filter q xs
filter-stricter p q each [] = refl
filter-stricter {X} p q each (x ∷ xs) = go (p x) refl (q x) refl (filter-stricter p q each xs) where
  go : (b : Bool) → p x ≡ b → (c : Bool) → q x ≡ c → filter q (filter p xs) ≡ filter q xs → filter q (cond b (x ∷ filter p xs) (filter p xs)) ≡ cond c (x ∷ filter q xs) (filter q xs)
  go true e true f rest = rw f (ap (λ l. x ∷ l) rest)
  go true e false f rest = rw f rest
  go false e true f rest = absurd (let yes = each x f in cc)
  go false e false f rest = rest

pub find-both : {X : Type 0} (p q : X → Bool) (xs : List X) → find (λ x. p x && q x) xs ≡ find q (filter p xs)
find-both p q [] = refl
find-both {X} p q (x ∷ xs) = go (p x) (find-both p q xs) where
  go : (b : Bool) → find (λ x. p x && q x) xs ≡ find q (filter p xs) → cond (b && q x) (Some x) (find (λ x. p x && q x) xs) ≡ find q (cond b (x ∷ filter p xs) (filter p xs))
  go true rest = ap (cond (q x) (Some x)) rest
  go false rest = rest

-- a copy that waits is found by its number
pub found-itself : (waiting : List WaitingCopy) (w : WaitingCopy) → AllPairs Before waiting → Contains waiting w → find_waiting w.sheet waiting ≡ Some w
found-itself [] w in_order in' = absurd (omega (arith, in'.1))
found-itself (v ∷ waiting) w in_order in' = elim (Contains-cons_cases v waiting w in') [
  | inl is ↦ subst (λ (u : WaitingCopy). find_waiting u.sheet (v ∷ waiting) ≡ Some u) is (rw (same_copy-refl v.sheet) refl)
  | inr later ↦ rw (before-not_same v.sheet w.sheet (All-contains (Before v) waiting w (AllPairs-head Before v waiting in_order) later)) (found-itself waiting w (AllPairs-tail Before v waiting in_order) later)
]

-- the next one to try is one of those that are left
pub record IsNext (lines : Backlog) (after : Option SheetId) (marks : List Bool) (copy : SheetId) : Type 0 where
  pub w : WaitingCopy
  pub sheet : w.sheet ≡ copy
  pub first : find (is_open lines.jobs marks) (left after lines.waiting) ≡ Some w
  pub here : Contains lines.waiting w
  pub after_last : comes_after after w.sheet ≡ true

pub is-next : (lines : Backlog) (after : Option SheetId) (marks : List Bool) (copy : SheetId) → next_to_try lines after marks ≡ Some copy
    → IsNext lines after marks copy
is-next lines after marks copy e = go (find (is_open lines.jobs marks) (left after lines.waiting)) refl
    (sym (ap (option_map (λ w. w.sheet)) (find-both (λ w. comes_after after w.sheet) (is_open lines.jobs marks) lines.waiting)) ∙ e) where
      go : (o : Option WaitingCopy) → find (is_open lines.jobs marks) (left after lines.waiting) ≡ o → option_map (λ w. w.sheet) o ≡ Some copy → IsNext lines after marks copy
      go None f is = absurd (cc)
      go (Some w) f is =
          let in' = (find-Some (is_open lines.jobs marks) (left after lines.waiting) w f).0 in
          let from = Contains-filter_from (λ v. comes_after after v.sheet) lines.waiting w in' in
          record { w = w; sheet = cc; first = f; here = from.0; after_last = from.1 }

pub none-next : (lines : Backlog) (after : Option SheetId) (marks : List Bool) → next_to_try lines after marks ≡ None → find (is_open lines.jobs marks) (left after lines.waiting) ≡ None
none-next lines after marks e = go (find (is_open lines.jobs marks) (left after lines.waiting)) refl
    (sym (ap (option_map (λ w. w.sheet)) (find-both (λ w. comes_after after w.sheet) (is_open lines.jobs marks) lines.waiting)) ∙ e) where
      go : (o : Option WaitingCopy) → find (is_open lines.jobs marks) (left after lines.waiting) ≡ o → option_map (λ w. w.sheet) o ≡ None → o ≡ None
      go None f is = refl
      go (Some w) f is = absurd (cc)

comes-later : (after : Option SheetId) (copy other : SheetId) → comes_after after copy ≡ true → is_before copy other ≡ true → comes_after after other ≡ true
comes-later None copy other e f = refl
comes-later (Some last) copy other e f = before-trans last copy other e f

-- those that are left after a copy are those behind it among those that were left
pub left-behind : (after : Option SheetId) (copy : SheetId) (waiting : List WaitingCopy) → comes_after after copy ≡ true → filter (λ v. is_before copy v.sheet) (left after waiting) ≡ left (Some copy) waiting
left-behind after copy waiting e = filter-stricter (λ v. comes_after after v.sheet) (λ v. is_before copy v.sheet) (λ v f. comes-later after copy v.sheet e f) waiting

-- the same are left where the copy itself waits no more
pub left-without : (copy : SheetId) (waiting : List WaitingCopy) → left (Some copy) (without_waiting copy waiting) ≡ left (Some copy) waiting
left-without copy waiting = filter-stricter (λ v. not (is_same_copy v.sheet copy)) (λ v. is_before copy v.sheet) (λ v f. not_from_false (is_same_copy v.sheet copy) (before-not_same' copy v.sheet f)) waiting

-- behind the head all are, and behind a later one the head is not
pub behind-head : (w : WaitingCopy) (ws : List WaitingCopy) → AllPairs Before (w ∷ ws) → filter (λ v. is_before w.sheet v.sheet) (w ∷ ws) ≡ ws
behind-head w ws in_order = rw (irrefl w.sheet) (all ws (AllPairs-head Before w ws in_order)) where
  irrefl : (c : SheetId) → is_before c c ≡ false
  irrefl c = go (is_before c c) refl where
    go : (b : Bool) → is_before c c ≡ b → b ≡ false
    go true e = absurd (let f = before-asym c c e in cc)
    go false e = refl

  all : (vs : List WaitingCopy) → All (Before w) vs → filter (λ v. is_before w.sheet v.sheet) vs ≡ vs
  all [] h = refl
  all (v ∷ vs) h = rw (All-head (Before w) v vs h) (ap (λ l. v ∷ l) (all vs (All-tail (Before w) v vs h)))

pub behind-later : (v w : WaitingCopy) (vs : List WaitingCopy) → AllPairs Before (v ∷ vs) → Contains vs w → filter (λ u. is_before w.sheet u.sheet) (v ∷ vs) ≡ filter (λ u. is_before w.sheet u.sheet) vs
behind-later v w vs in_order in' =
    let before : is_before v.sheet w.sheet ≡ true = All-contains (Before v) vs w (AllPairs-head Before v vs in_order) in' in
    rw (before-asym v.sheet w.sheet before) refl
