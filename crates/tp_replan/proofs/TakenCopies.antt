-- The copies that wait, one after another, of which those of a job are taken.
use Rattle.std.proofs.Common.{◌≡◌, ℕ, zero, suc, ◌+◌, Bool, true, false, cond, not, ◌&&◌, ◌==◌, List, [], ◌∷◌, ◌++◌, length, map, filter}
use Rattle.std.proofs.Common.{find, take, drop, slice_get, Option, Some, None, option_map, AllPairs, Contains, refl, sym, ap, ◌∙◌, arith, inl, inr, subst, add-one}
use Rattle.std.proofs.lemmas.Bool.Decides.{nat_tests}
use Rattle.std.proofs.lemmas.List.{append-nil, append_assoc}
use Rattle.std.proofs.lemmas.List.Elements.{filter-append}
use Rattle.tp_base.proofs.SliceFacts.{All-at}
use Rattle.tp_schedule.specs.Plans.{is_before, is_same_copy}
use Rattle.tp_schedule.specs.declared.parts.SheetId.{SheetId}
use Rattle.tp_schedule.proofs.CopyFacts.{before-asym, before-not_same, before-not_same', same_copy-refl}
use Rattle.tp_schedule.proofs.Membership.{Contains-cons_cases, Contains-filter_from, Contains-here, Contains-later}
use Rattle.tp_schedule.proofs.Pairs.{AllPairs-head, AllPairs-tail}
use Rattle.std.proofs.lemmas.List.Elements.{All-contains, All-head}
use Rattle.tp_machine.specs.declared.parts.LocId.{LocId}
use Rattle.tp_jobs.specs.Backlogs.{WaitsBefore, tray_of, unmarked}
use Rattle.tp_jobs.specs.NextTry.{comes_after, is_blocked, is_open, next_to_try}
use Rattle.tp_jobs.specs.WaitingCopies.{without_waiting}
use Rattle.tp_jobs.specs.declared.parts.Job.{Job}
use Rattle.tp_jobs.specs.declared.parts.WaitingCopy.{WaitingCopy}
use Rattle.tp_event_rules.specs.Lines.{is_of_job}
use Rattle.tp_replan.proofs.FateFacts.{kept-more, take-next}
use Rattle.tp_replan.proofs.LeftFacts.{drop_from}

-- the copy that was passed last
abbrev pub last_at : ℕ → List WaitingCopy → Option SheetId
last_at zero ws = None
last_at (suc k) ws = option_map (λ w. w.sheet) (slice_get ws k)

-- what waits yet after the first so many had their turn
abbrev pub others : ℕ → WaitingCopy → Bool
others job w = not (is_of_job job w)

abbrev pub left_to : ℕ → ℕ → List WaitingCopy → List WaitingCopy
left_to job i ws = filter (others job) (take i ws) ++ drop i ws

itself : (a : SheetId) → is_before a a ≡ false
itself a = grind (arith, nat_tests)

-- none of the first ones comes after the last of them
not-after : (ws : List WaitingCopy) (k : ℕ) (v : WaitingCopy) → AllPairs WaitsBefore ws → slice_get ws k ≡ Some v → (w : WaitingCopy) → Contains (take (suc k) ws) w → is_before v.sheet w.sheet ≡ false
not-after [] k v in_order at w in' = absurd cc
not-after (x ∷ ws) zero v in_order at w in' = elim (Contains-cons_cases x [] w in') [
  | inl same ↦ let is : x ≡ v = cc in ap (λ (a : WaitingCopy). is_before v.sheet a.sheet) (sym same ∙ is) ∙ itself v.sheet
  | inr later ↦ absurd (omega (arith, later.1))
]
not-after (x ∷ ws) (suc k) v in_order at w in' = elim (Contains-cons_cases x (take (suc k) ws) w in') [
  | inl same ↦
      ap (λ (a : WaitingCopy). is_before v.sheet a.sheet) (sym same)
      ∙ before-asym x.sheet v.sheet (All-at (WaitsBefore x) ws k v (AllPairs-head WaitsBefore x ws in_order) at)
  | inr later ↦ not-after ws k v (AllPairs-tail WaitsBefore x ws in_order) at w later
]

-- the first ones come before the one at the place, and the later ones behind it
earlier : (ws : List WaitingCopy) (i : ℕ) (v : WaitingCopy) → AllPairs WaitsBefore ws → slice_get ws i ≡ Some v → (w : WaitingCopy) → Contains (take i ws) w → is_before w.sheet v.sheet ≡ true
earlier [] i v in_order at w in' = absurd cc
earlier (x ∷ ws) zero v in_order at w in' = absurd (omega (arith, in'.1))
earlier (x ∷ ws) (suc i) v in_order at w in' = elim (Contains-cons_cases x (take i ws) w in') [
  | inl same ↦ ap (λ (a : WaitingCopy). is_before a.sheet v.sheet) (sym same) ∙ All-at (WaitsBefore x) ws i v (AllPairs-head WaitsBefore x ws in_order) at
  | inr later ↦ earlier ws i v (AllPairs-tail WaitsBefore x ws in_order) at w later
]

later : (ws : List WaitingCopy) (i : ℕ) (v : WaitingCopy) → AllPairs WaitsBefore ws → slice_get ws i ≡ Some v → (w : WaitingCopy) → Contains (drop (suc i) ws) w → is_before v.sheet w.sheet ≡ true
later [] i v in_order at w in' = absurd cc
later (x ∷ ws) zero v in_order at w in' =
    let is : x ≡ v = cc in
    ap (λ (a : WaitingCopy). is_before a.sheet w.sheet) (sym is) ∙ All-contains (WaitsBefore x) ws w (AllPairs-head WaitsBefore x ws in_order) in'
later (x ∷ ws) (suc i) v in_order at w in' = later ws i v (AllPairs-tail WaitsBefore x ws in_order) at w in'

next-before : (ws : List WaitingCopy) (k : ℕ) (v w : WaitingCopy) → AllPairs WaitsBefore ws → slice_get ws k ≡ Some v → slice_get ws (suc k) ≡ Some w → is_before v.sheet w.sheet ≡ true
next-before [] k v w in_order at next = absurd cc
next-before (x ∷ []) zero v w in_order at next = absurd cc
next-before (x ∷ y ∷ ws) zero v w in_order at next =
    let is : x ≡ v = cc in
    let is' : y ≡ w = cc in
    ap (λ (a : WaitingCopy). is_before a.sheet w.sheet) (sym is) ∙ ap (λ (a : WaitingCopy). is_before x.sheet a.sheet) (sym is') ∙ All-head (WaitsBefore x) y ws (AllPairs-head WaitsBefore x (y ∷ ws) in_order)
next-before (x ∷ ws) (suc k) v w in_order at next = next-before ws k v w (AllPairs-tail WaitsBefore x ws in_order) at next

-- the first that passes is behind those that don't
find-after : (test : WaitingCopy → Bool) (ws later : List WaitingCopy) (w : WaitingCopy) → ((x : WaitingCopy) → Contains ws x → test x ≡ false) → test w ≡ true → find test (ws ++ w ∷ later) ≡ Some w
find-after test [] later w none passes = go (test w) passes where
  go : (b : Bool) → b ≡ true → cond b (Some w) (find test later) ≡ Some w
  go true e = refl
  go false e = absurd cc
find-after test (x ∷ ws) later w none passes = go (test x) (none x (Contains-here x ws)) (find-after test ws later w (λ y in'. none y (Contains-later x ws y in')) passes) where
  go : (b : Bool) → b ≡ false → find test (ws ++ w ∷ later) ≡ Some w → cond b (Some x) (find test (ws ++ w ∷ later)) ≡ Some w
  go true e rest = absurd cc
  go false e rest = rest

none-open : (a b : Bool) → a ≡ false → (a && b) ≡ false
none-open true b e = absurd cc
none-open false b e = refl

opened : (a b : Bool) → a ≡ true → b ≡ false → (a && not b) ≡ true
opened true true e f = absurd cc
opened true false e f = refl
opened false b e f = absurd cc

-- the next one that is tried is the one at the place
pub next-at : (jobs : List Job) (marks : List Bool) (job i : ℕ) (ws : List WaitingCopy) (w : WaitingCopy) → AllPairs WaitsBefore ws → ((loc : LocId) → is_blocked marks loc ≡ false)
    → slice_get ws i ≡ Some w → next_to_try (unmarked jobs (left_to job i ws)) (last_at i ws) marks ≡ Some w.sheet
next-at jobs marks job i ws w in_order free at = split i at where
  found : (last : Option SheetId) (n : ℕ) → slice_get ws n ≡ Some w → ((x : WaitingCopy) → Contains (filter (others job) (take n ws)) x → comes_after last x.sheet ≡ false) → comes_after last w.sheet ≡ true
      → next_to_try (unmarked jobs (left_to job n ws)) last marks ≡ Some w.sheet
  found last n here none passes =
      ap (λ rest. option_map (λ v. v.sheet) (find (λ v. comes_after last v.sheet && is_open jobs marks v) (filter (others job) (take n ws) ++ rest))) (drop_from ws n w here)
      ∙ ap (option_map (λ (v : WaitingCopy). v.sheet))
      (find-after (λ v. comes_after last v.sheet && is_open jobs marks v) (filter (others job) (take n ws)) (drop (n + 1) ws) w
      (λ x in'. none-open (comes_after last x.sheet) (is_open jobs marks x) (none x in'))
      (opened (comes_after last w.sheet) (is_blocked marks (tray_of jobs w.sheet)) passes (free (tray_of jobs w.sheet))))

  behind : (k : ℕ) → slice_get ws (suc k) ≡ Some w → (o : Option WaitingCopy) → slice_get ws k ≡ o → next_to_try (unmarked jobs (left_to job (suc k) ws)) (option_map (λ v. v.sheet) o) marks ≡ Some w.sheet
  behind k here None e = absurd (gone ws k e here) where
    gone : (vs : List WaitingCopy) (n : ℕ) → slice_get vs n ≡ None → slice_get vs (suc n) ≡ Some w → ⊥
    gone [] n e f = cc
    gone (x ∷ vs) zero e f = cc
    gone (x ∷ vs) (suc n) e f = gone vs n e f
  behind k here (Some v) e = found (Some v.sheet) (suc k) here
      (λ x in'. not-after ws k v in_order e x (Contains-filter_from (others job) (take (suc k) ws) x in').0)
      (next-before ws k v w in_order e here)

  split : (n : ℕ) → slice_get ws n ≡ Some w → next_to_try (unmarked jobs (left_to job n ws)) (last_at n ws) marks ≡ Some w.sheet
  split zero here = found None zero here (λ x in'. absurd (omega (arith, in'.1))) refl
  split (suc k) here = behind k here (slice_get ws k) refl

kept-all : {X : Type 0} (test : X → Bool) (xs : List X) → ((x : X) → Contains xs x → test x ≡ true) → filter test xs ≡ xs
kept-all test [] all = refl
kept-all test (x ∷ xs) all = go (test x) (all x (Contains-here x xs)) (kept-all test xs (λ y in'. all y (Contains-later x xs y in'))) where
  go : (b : Bool) → b ≡ true → filter test xs ≡ xs → cond b (x ∷ filter test xs) (filter test xs) ≡ x ∷ xs
  go true e rest = ap (λ ys. x ∷ ys) rest
  go false e rest = absurd cc

-- the copy at the place, taken or not
pub left-next : (job i : ℕ) (ws : List WaitingCopy) (w : WaitingCopy) → AllPairs WaitsBefore ws → slice_get ws i ≡ Some w
    → cond (w.sheet.job == job) (without_waiting w.sheet (left_to job i ws)) (left_to job i ws) ≡ left_to job (i + 1) ws
left-next job i ws w in_order at = go (w.sheet.job == job) refl where
  before : List WaitingCopy
  before = filter (others job) (take i ws)

  behind : List WaitingCopy
  behind = drop (i + 1) ws

  test : WaitingCopy → Bool
  test x = not (is_same_copy x.sheet w.sheet)

  here : left_to job i ws ≡ before ++ w ∷ behind
  here = ap (λ rest. before ++ rest) (drop_from ws i w at)

  next : filter (others job) (take (i + 1) ws) ≡ before ++ cond (others job w) (w ∷ []) []
  next = ap (filter (others job)) (take-next ws i w at) ∙ filter-append (others job) (take i ws) (w ∷ [])

  kept-before : (x : WaitingCopy) → Contains before x → test x ≡ true
  kept-before x in' = ap not (before-not_same x.sheet w.sheet (earlier ws i w in_order at x (Contains-filter_from (others job) (take i ws) x in').0))

  kept-behind : (x : WaitingCopy) → Contains behind x → test x ≡ true
  kept-behind x in' = ap not (before-not_same' w.sheet x.sheet (later ws i w in_order at x (subst (λ n. Contains (drop n ws) x) (add-one i) in')))

  go : (b : Bool) → (w.sheet.job == job) ≡ b → cond b (without_waiting w.sheet (left_to job i ws)) (left_to job i ws) ≡ left_to job (i + 1) ws
  go true e =
      ap (without_waiting w.sheet) here ∙ filter-append test before (w ∷ behind)
      ∙ (λ k. kept-all test before kept-before k ++ cond (not (same_copy-refl w.sheet k)) (w ∷ kept-all test behind kept-behind k) (kept-all test behind kept-behind k))
      ∙ ap (λ ys. ys ++ behind) (sym (next ∙ ap (λ b. before ++ cond (not b) (w ∷ []) []) e ∙ append-nil before))
  go false e =
      here ∙ sym (append_assoc before (w ∷ []) behind)
      ∙ ap (λ ys. ys ++ behind) (sym (next ∙ ap (λ b. before ++ cond (not b) (w ∷ []) []) e))

pub taken-next : (job i : ℕ) (ws : List WaitingCopy) (w : WaitingCopy) (old : List SheetId) → slice_get ws i ≡ Some w → old ≡ map (λ v. v.sheet) (filter (is_of_job job) (take i ws))
    → old ++ cond (w.sheet.job == job) (w.sheet ∷ []) [] ≡ map (λ v. v.sheet) (filter (is_of_job job) (take (i + 1) ws))
taken-next job i ws w old at before =
    (λ k. before k ++ go (w.sheet.job == job) k) ∙ sym (kept-more (is_of_job job) (λ v. v.sheet) ws i w at) where
      go : (b : Bool) → cond b (w.sheet ∷ []) [] ≡ map (λ (v : WaitingCopy). v.sheet) (cond b (w ∷ []) [])
      go true = refl
      go false = refl

-- in the end all had their turn
pub take-whole : {X : Type 0} (xs : List X) (n : ℕ) → n ≡ length xs → take n xs ≡ xs
take-whole [] zero e = refl
take-whole [] (suc n) e = refl
take-whole (x ∷ xs) zero e = absurd (omega arith)
take-whole (x ∷ xs) (suc n) e = ap (λ ys. x ∷ ys) (take-whole xs n (omega arith))

pub drop-whole : {X : Type 0} (xs : List X) (n : ℕ) → n ≡ length xs → drop n xs ≡ []
drop-whole [] zero e = refl
drop-whole [] (suc n) e = refl
drop-whole (x ∷ xs) zero e = absurd (omega arith)
drop-whole (x ∷ xs) (suc n) e = drop-whole xs n (omega arith)

pub left-whole : (job n : ℕ) (ws : List WaitingCopy) → n ≡ length ws → left_to job n ws ≡ filter (others job) ws
left-whole job n ws e = (λ k. filter (others job) (take-whole ws n e k) ++ drop-whole ws n e k) ∙ append-nil (filter (others job) ws)

pub last-next : (i : ℕ) (ws : List WaitingCopy) (w : WaitingCopy) → slice_get ws i ≡ Some w → last_at (i + 1) ws ≡ Some w.sheet
last-next i ws w at = ap (λ n. last_at n ws) (add-one i) ∙ ap (option_map (λ (v : WaitingCopy). v.sheet)) at
