-- Putting saved lower bounds back, and which was saved last for a point.
use Rattle.std.proofs.Common.{suc, zero, ◌≡◌, ◌≢◌, ℕ, ◌+◌, ◌<◌, ◌≤◌, List, [], ◌∷◌, ◌++◌, length, slice_index, take, drop, set, Some, sym, refl, ap, ◌∙◌, subst, arith, ◌⊎◌, inl, inr, cond, eqb}
use Rattle.std.proofs.lemmas.Bool.{cases_eq, eq-eqb, ne_eqb}
use Rattle.std.proofs.lemmas.Option.{none-some, same_Some}
use Rattle.std.proofs.lemmas.List.{length-set, set-set, set_comm, get_or-set_same, get_or-set_other, take_at, drop-append-le}
use Rattle.std.proofs.Common.{append_assoc, append-nil, length-append}
use Rattle.std.specs.List.{slice_get}
use Rattle.tp_base.proofs.SliceFacts.{take_set, slice_get_left, slice_get_last}
use Rattle.tp_stn_core.specs.declared.saved_low.SavedLow.{SavedLow}
use Rattle.tp_stn_core.specs.Saved.{restored, relinked, newest_from, newest_of}

-- ---- lower bounds put back
pub restored-append : (ss rs : List SavedLow) (lows : List ℕ) → restored (ss ++ rs) lows ≡ restored ss (restored rs lows)
restored-append [] rs lows = refl
restored-append (s ∷ ss) rs lows = ap (λ ls. set ls s.point.0 s.low) (restored-append ss rs lows)

pub length-restored : (ss : List SavedLow) (lows : List ℕ) → length (restored ss lows) ≡ length lows
length-restored [] lows = refl
length-restored (s ∷ ss) lows = length-set (restored ss lows) s.point.0 s.low ∙ length-restored ss lows

pub take-restored : (n : ℕ) (ss : List SavedLow) (lows : List ℕ) → take n (restored ss lows) ≡ restored ss (take n lows)
take-restored n [] lows = refl
take-restored n (s ∷ ss) lows = take_set n (restored ss lows) s.point.0 s.low ∙ ap (λ ls. set ls s.point.0 s.low) (take-restored n ss lows)

-- a point that is written over anyway
restored_over : (ss : List SavedLow) (lows : List ℕ) (p x y : ℕ) → set (restored ss (set lows p x)) p y ≡ set (restored ss lows) p y
restored_over [] lows p x y = set-set lows p x y
restored_over (s ∷ ss) lows p x y =
    let a = restored ss (set lows p x) in
    let b = restored ss lows in
    let i : set a p y ≡ set b p y = restored_over ss lows p x y in
    elim (cases_eq s.point.0 p) [
      | inl e ↦ subst (λ q. set (set a q s.low) p y ≡ set (set b q s.low) p y) (sym e) (set-set a p s.low y ∙ i ∙ sym (set-set b p s.low y))
      | inr ne ↦ set_comm a s.point.0 p s.low y ne ∙ ap (λ ls. set ls s.point.0 s.low) i ∙ sym (set_comm b s.point.0 p s.low y ne)
    ]

-- a point that is put back: what it was before is the same whatever it is now
pub restored_ignores : (ss : List SavedLow) (lows : List ℕ) (p x k : ℕ) (s : SavedLow) → slice_get ss k ≡ Some s → s.point.0 ≡ p → restored ss (set lows p x) ≡ restored ss lows
restored_ignores [] lows p x k s h e = absurd (none-some s h)
restored_ignores (r ∷ ss) lows p x zero s h e =
    let q : r.point.0 ≡ p = ap (λ (t : SavedLow). t.point.0) (same_Some r s h) ∙ e in
    subst (λ v. set (restored ss (set lows p x)) v r.low ≡ set (restored ss lows) v r.low) (sym q) (restored_over ss lows p x r.low)
restored_ignores (r ∷ ss) lows p x (suc k) s h e = ap (λ ls. set ls r.point.0 r.low) (restored_ignores ss lows p x k s h e)

-- ---- the place of the last one
newest-least : (k last : ℕ) (ss : List SavedLow) (v : ℕ) → last ≤ k → last ≤ newest_from k last ss v
newest-least k last [] v h = omega arith
newest-least k last (s ∷ ss) v h = elim (cases_eq s.point.0 v) [
  | inl e ↦ rw (eq-eqb s.point.0 v e) (let i = newest-least (suc k) (suc k) ss v (omega arith) in omega arith)
  | inr ne ↦ rw (ne_eqb s.point.0 v ne) (newest-least (suc k) last ss v (omega arith))
]

newest_from-late : (k last : ℕ) (ss : List SavedLow) (v i : ℕ) (s : SavedLow) → last ≤ k → slice_get ss i ≡ Some s → s.point.0 ≡ v → k + i < newest_from k last ss v
newest_from-late k last [] v i s h g e = absurd (none-some s g)
newest_from-late k last (r ∷ ss) v zero s h g e =
    let q : r.point.0 ≡ v = ap (λ (t : SavedLow). t.point.0) (same_Some r s g) ∙ e in
    rw (eq-eqb r.point.0 v q) (let i = newest-least (suc k) (suc k) ss v (omega arith) in omega arith)
newest_from-late k last (r ∷ ss) v (suc i) s h g e = elim (cases_eq r.point.0 v) [
  | inl p ↦ rw (eq-eqb r.point.0 v p) (let j = newest_from-late (suc k) (suc k) ss v i s (omega arith) g e in omega arith)
  | inr p ↦ rw (ne_eqb r.point.0 v p) (let j = newest_from-late (suc k) last ss v i s (omega arith) g e in omega arith)
]

-- the last one does not stand before one of the point's
pub newest_late : (ss : List SavedLow) (v i : ℕ) (s : SavedLow) → slice_get ss i ≡ Some s → s.point.0 ≡ v → i < newest_of ss v
newest_late ss v i s g e = let j = newest_from-late 0 0 ss v i s (omega arith) g e in omega arith

-- the entry that a place names
pub record Names (k : ℕ) (ss : List SavedLow) (v place : ℕ) : Type 0 where
  pub at : ℕ
  pub entry : SavedLow
  pub get : slice_get ss at ≡ Some entry
  pub point : entry.point.0 ≡ v
  pub place_is : place ≡ suc (k + at)

newest_from-names : (k last : ℕ) (ss : List SavedLow) (v : ℕ) → last ≤ k → (newest_from k last ss v ≡ last) ⊎ Names k ss v (newest_from k last ss v)
newest_from-names k last [] v h = inl refl
newest_from-names k last (s ∷ ss) v h = elim (cases_eq s.point.0 v) [
  | inl e ↦ rw (eq-eqb s.point.0 v e) (elim (newest_from-names (suc k) (suc k) ss v (omega arith)) [
    | inl p ↦ inr (record { at = 0; entry = s; get = refl; point = e; place_is = omega arith })
    | inr n ↦ inr (let q = n.place_is in record { at = suc n.at; entry = n.entry; get = n.get; point = n.point; place_is = omega arith })
  ])
  | inr ne ↦ rw (ne_eqb s.point.0 v ne) (elim (newest_from-names (suc k) last ss v (omega arith)) [
    | inl p ↦ inl p
    | inr n ↦ inr (let q = n.place_is in record { at = suc n.at; entry = n.entry; get = n.get; point = n.point; place_is = omega arith })
  ])
]

pub newest_names : (ss : List SavedLow) (v : ℕ) → (newest_of ss v ≡ 0) ⊎ Names 0 ss v (newest_of ss v)
newest_names ss v = newest_from-names 0 0 ss v (omega arith)

newest_from-push : (k last : ℕ) (ss : List SavedLow) (s : SavedLow) (v : ℕ) → newest_from k last (ss ++ s ∷ []) v ≡ cond (eqb s.point.0 v) (suc (k + length ss)) (newest_from k last ss v)
newest_from-push k last [] s v = let e : k + 0 ≡ k = omega arith in rw e refl
newest_from-push k last (r ∷ ss) s v =
    let e : suc k + length ss ≡ k + suc (length ss) = omega arith in
    subst (λ n. newest_from k last (r ∷ (ss ++ s ∷ [])) v ≡ cond (eqb s.point.0 v) (suc n) (newest_from k last (r ∷ ss) v)) e (newest_from-push (suc k) (cond (eqb r.point.0 v) (suc k) last) ss s v)

pub newest-push_same : (ss : List SavedLow) (s : SavedLow) (v : ℕ) → s.point.0 ≡ v → newest_of (ss ++ s ∷ []) v ≡ length ss + 1
newest-push_same ss s v e = newest_from-push 0 0 ss s v ∙ ap (λ b. cond b (suc (0 + length ss)) (newest_of ss v)) (eq-eqb s.point.0 v e) ∙ omega arith

pub newest-push_other : (ss : List SavedLow) (s : SavedLow) (v : ℕ) → s.point.0 ≢ v → newest_of (ss ++ s ∷ []) v ≡ newest_of ss v
newest-push_other ss s v ne = newest_from-push 0 0 ss s v ∙ ap (λ b. cond b (suc (0 + length ss)) (newest_of ss v)) (ne_eqb s.point.0 v ne)

-- ---- the places put back
pub length-relinked : (ss : List SavedLow) (newest : List ℕ) → length (relinked ss newest) ≡ length newest
length-relinked [] newest = refl
length-relinked (s ∷ ss) newest = length-set (relinked ss newest) s.point.0 s.older ∙ length-relinked ss newest

pub relinked-append : (ss rs : List SavedLow) (newest : List ℕ) → relinked (ss ++ rs) newest ≡ relinked ss (relinked rs newest)
relinked-append [] rs newest = refl
relinked-append (s ∷ ss) rs newest = ap (λ ls. set ls s.point.0 s.older) (relinked-append ss rs newest)

-- each entry tells where the one before it for its point stands
abbrev pub AreLinked : List SavedLow → Type 0
AreLinked saved = (j : ℕ) (s : SavedLow) → slice_get saved j ≡ Some s → s.older ≡ newest_of (take j saved) s.point.0

pub relinked_newest : (before ss : List SavedLow) (newest : List ℕ) (v : ℕ) → v < length newest → AreLinked (before ++ ss) → slice_index newest v ≡ newest_of (before ++ ss) v → slice_index (relinked ss newest) v ≡ newest_of before v
relinked_newest before [] newest v h linked is = is ∙ ap (λ xs. newest_of xs v) (append-nil before)
relinked_newest before (s ∷ ss) newest v h linked is =
    let assoc : (before ++ s ∷ []) ++ ss ≡ before ++ s ∷ ss = append_assoc before (s ∷ []) ss in
    let i : slice_index (relinked ss newest) v ≡ newest_of (before ++ s ∷ []) v =
    relinked_newest (before ++ s ∷ []) ss newest v h (subst AreLinked (sym assoc) linked) (is ∙ ap (λ xs. newest_of xs v) (sym assoc)) in
    let l = length-relinked ss newest in
    elim (cases_eq v s.point.0) [
      | inl e ↦ (
          let at : slice_get (before ++ s ∷ ss) (length before) ≡ Some s = ap (λ xs. slice_get xs (length before)) (sym assoc) ∙ slice_get_left (before ++ s ∷ []) ss (length before) (omega (arith, length-append before (s ∷ []))) ∙ slice_get_last before s in
          let older : s.older ≡ newest_of before s.point.0 = linked (length before) s at ∙ ap (λ xs. newest_of xs s.point.0) (take_at before (s ∷ ss) (length before) refl) in
          ap (slice_index (set (relinked ss newest) s.point.0 s.older)) e ∙ get_or-set_same (relinked ss newest) s.point.0 s.older 0 (omega arith) ∙ older ∙ ap (newest_of before) (sym e))
      | inr ne ↦ get_or-set_other (relinked ss newest) s.point.0 v s.older 0 ne ∙ i ∙ newest-push_other before s v (λ e. ne (sym e))
    ]

-- ---- taking the last one off
pub restored-pop : (to : ℕ) (xs ys : List SavedLow) (s : SavedLow) (lows : List ℕ) → ys ≡ xs ++ s ∷ [] → to ≤ length xs → restored (drop to xs) (set lows s.point.0 s.low) ≡ restored (drop to ys) lows
restored-pop to xs ys s lows e h = sym (ap (λ zs. restored (drop to zs) lows) e ∙ ap (λ zs. restored zs lows) (drop-append-le to xs (s ∷ []) h) ∙ restored-append (drop to xs) (s ∷ []) lows)

pub relinked-pop : (to : ℕ) (xs ys : List SavedLow) (s : SavedLow) (newest : List ℕ) → ys ≡ xs ++ s ∷ [] → to ≤ length xs → relinked (drop to xs) (set newest s.point.0 s.older) ≡ relinked (drop to ys) newest
relinked-pop to xs ys s newest e h = sym (ap (λ zs. relinked (drop to zs) newest) e ∙ ap (λ zs. relinked zs newest) (drop-append-le to xs (s ∷ []) h) ∙ relinked-append (drop to xs) (s ∷ []) newest)
