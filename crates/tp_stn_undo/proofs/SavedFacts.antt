-- Putting points back, and which entry of a list is the newest for a point.
use Rattle.std.proofs.Common.{suc, zero, ◌≡◌, ◌≢◌, ℕ, ◌+◌, ◌<◌, ◌≤◌, List, [], ◌∷◌, ◌++◌, length, slice_index, take, drop, set, Some, sym, refl, ap, ◌∙◌, subst, arith, ◌⊎◌, inl, inr, cond, eqb}
use Rattle.std.proofs.lemmas.Bool.{cases_eq, eq-eqb, ne_eqb}
use Rattle.std.proofs.lemmas.Option.{none-some, same_Some}
use Rattle.std.proofs.lemmas.List.{length-set, set-set, set_comm, get_or-set_same, get_or-set_other, take_at, drop-append-le}
use Rattle.std.proofs.Common.{append_assoc, append-nil, length-append}
use Rattle.std.specs.List.{slice_get}
use Rattle.tp_base.proofs.SliceFacts.{take_set, slice_get_left, slice_get_last}
use Rattle.tp_stn_undo.specs.declared.point_state.PointState.{PointState}
use Rattle.tp_stn_undo.specs.declared.point_state.SavedState.{SavedState}
use Rattle.tp_stn_undo.specs.declared.link.Link.{Link}
use Rattle.tp_stn_undo.specs.Saved.{restored, relinked, by_link, newest_from, newest_of}

-- ---- lower bounds put back
pub restored-append : (ss rs : List SavedState) (lows : List PointState) → restored (ss ++ rs) lows ≡ restored ss (restored rs lows)
restored-append [] rs lows = refl
restored-append (s ∷ ss) rs lows = ap (λ ls. set ls s.point.0 s.state) (restored-append ss rs lows)

pub length-restored : (ss : List SavedState) (lows : List PointState) → length (restored ss lows) ≡ length lows
length-restored [] lows = refl
length-restored (s ∷ ss) lows = length-set (restored ss lows) s.point.0 s.state ∙ length-restored ss lows

pub take-restored : (n : ℕ) (ss : List SavedState) (lows : List PointState) → take n (restored ss lows) ≡ restored ss (take n lows)
take-restored n [] lows = refl
take-restored n (s ∷ ss) lows = take_set n (restored ss lows) s.point.0 s.state ∙ ap (λ ls. set ls s.point.0 s.state) (take-restored n ss lows)

-- a point that is written over anyway
restored_over : (ss : List SavedState) (lows : List PointState) (p : ℕ) (x y : PointState) → set (restored ss (set lows p x)) p y ≡ set (restored ss lows) p y
restored_over [] lows p x y = set-set lows p x y
restored_over (s ∷ ss) lows p x y =
    let a = restored ss (set lows p x) in
    let b = restored ss lows in
    let i : set a p y ≡ set b p y = restored_over ss lows p x y in
    elim (cases_eq s.point.0 p) [
      | inl e ↦ subst (λ q. set (set a q s.state) p y ≡ set (set b q s.state) p y) (sym e) (set-set a p s.state y ∙ i ∙ sym (set-set b p s.state y))
      | inr ne ↦ set_comm a s.point.0 p s.state y ne ∙ ap (λ ls. set ls s.point.0 s.state) i ∙ sym (set_comm b s.point.0 p s.state y ne)
    ]

-- a point that is put back: what it was before is the same whatever it is now
pub restored_ignores : (ss : List SavedState) (lows : List PointState) (p : ℕ) (x : PointState) (k : ℕ) (s : SavedState) → slice_get ss k ≡ Some s → s.point.0 ≡ p → restored ss (set lows p x) ≡ restored ss lows
restored_ignores [] lows p x k s h e = absurd (none-some s h)
restored_ignores (r ∷ ss) lows p x zero s h e =
    let q : r.point.0 ≡ p = ap (λ (t : SavedState). t.point.0) (same_Some r s h) ∙ e in
    subst (λ v. set (restored ss (set lows p x)) v r.state ≡ set (restored ss lows) v r.state) (sym q) (restored_over ss lows p x r.state)
restored_ignores (r ∷ ss) lows p x (suc k) s h e = ap (λ ls. set ls r.point.0 r.state) (restored_ignores ss lows p x k s h e)

-- ---- the place of the last one
newest-least : {X : Type 0} (by : X → ℕ) (k last : ℕ) (ss : List X) (v : ℕ) → last ≤ k → last ≤ newest_from by k last ss v
newest-least by k last [] v h = omega arith
newest-least by k last (s ∷ ss) v h = elim (cases_eq (by s) v) [
  | inl e ↦ rw (eq-eqb (by s) v e) (let i = newest-least by (suc k) (suc k) ss v (omega arith) in omega arith)
  | inr ne ↦ rw (ne_eqb (by s) v ne) (newest-least by (suc k) last ss v (omega arith))
]

newest_from-late : {X : Type 0} (by : X → ℕ) (k last : ℕ) (ss : List X) (v i : ℕ) (s : X) → last ≤ k → slice_get ss i ≡ Some s → by s ≡ v → k + i < newest_from by k last ss v
newest_from-late by k last [] v i s h g e = absurd (none-some s g)
newest_from-late by k last (r ∷ ss) v zero s h g e =
    let q : by r ≡ v = ap by (same_Some r s g) ∙ e in
    rw (eq-eqb (by r) v q) (let i = newest-least by (suc k) (suc k) ss v (omega arith) in omega arith)
newest_from-late by k last (r ∷ ss) v (suc i) s h g e = elim (cases_eq (by r) v) [
  | inl p ↦ rw (eq-eqb (by r) v p) (let j = newest_from-late by (suc k) (suc k) ss v i s (omega arith) g e in omega arith)
  | inr p ↦ rw (ne_eqb (by r) v p) (let j = newest_from-late by (suc k) last ss v i s (omega arith) g e in omega arith)
]

-- the last one does not stand before one of the point's
pub newest_late : {X : Type 0} (by : X → ℕ) (ss : List X) (v i : ℕ) (s : X) → slice_get ss i ≡ Some s → by s ≡ v → i < newest_of by ss v
newest_late by ss v i s g e = let j = newest_from-late by 0 0 ss v i s (omega arith) g e in omega arith

-- the entry that a place names
pub record Names {X : Type 0} (by : X → ℕ) (k : ℕ) (ss : List X) (v place : ℕ) : Type 0 where
  pub at : ℕ
  pub entry : X
  pub get : slice_get ss at ≡ Some entry
  pub point : by entry ≡ v
  pub place_is : place ≡ suc (k + at)

newest_from-names : {X : Type 0} (by : X → ℕ) (k last : ℕ) (ss : List X) (v : ℕ) → last ≤ k → (newest_from by k last ss v ≡ last) ⊎ Names by k ss v (newest_from by k last ss v)
newest_from-names by k last [] v h = inl refl
newest_from-names by k last (s ∷ ss) v h = elim (cases_eq (by s) v) [
  | inl e ↦ rw (eq-eqb (by s) v e) (elim (newest_from-names by (suc k) (suc k) ss v (omega arith)) [
    | inl p ↦ inr (record { at = 0; entry = s; get = refl; point = e; place_is = omega arith })
    | inr n ↦ inr (let q = n.place_is in record { at = suc n.at; entry = n.entry; get = n.get; point = n.point; place_is = omega arith })
  ])
  | inr ne ↦ rw (ne_eqb (by s) v ne) (elim (newest_from-names by (suc k) last ss v (omega arith)) [
    | inl p ↦ inl p
    | inr n ↦ inr (let q = n.place_is in record { at = suc n.at; entry = n.entry; get = n.get; point = n.point; place_is = omega arith })
  ])
]

pub newest_names : {X : Type 0} (by : X → ℕ) (ss : List X) (v : ℕ) → (newest_of by ss v ≡ 0) ⊎ Names by 0 ss v (newest_of by ss v)
newest_names by ss v = newest_from-names by 0 0 ss v (omega arith)

newest_from-push : {X : Type 0} (by : X → ℕ) (k last : ℕ) (ss : List X) (s : X) (v : ℕ) → newest_from by k last (ss ++ s ∷ []) v ≡ cond (eqb (by s) v) (suc (k + length ss)) (newest_from by k last ss v)
newest_from-push by k last [] s v = let e : k + 0 ≡ k = omega arith in rw e refl
newest_from-push by k last (r ∷ ss) s v =
    let e : suc k + length ss ≡ k + suc (length ss) = omega arith in
    subst (λ n. newest_from by k last (r ∷ (ss ++ s ∷ [])) v ≡ cond (eqb (by s) v) (suc n) (newest_from by k last (r ∷ ss) v)) e (newest_from-push by (suc k) (cond (eqb (by r) v) (suc k) last) ss s v)

pub newest-push_same : {X : Type 0} (by : X → ℕ) (ss : List X) (s : X) (v : ℕ) → by s ≡ v → newest_of by (ss ++ s ∷ []) v ≡ length ss + 1
newest-push_same by ss s v e = newest_from-push by 0 0 ss s v ∙ ap (λ b. cond b (suc (0 + length ss)) (newest_of by ss v)) (eq-eqb (by s) v e) ∙ omega arith

pub newest-push_other : {X : Type 0} (by : X → ℕ) (ss : List X) (s : X) (v : ℕ) → by s ≢ v → newest_of by (ss ++ s ∷ []) v ≡ newest_of by ss v
newest-push_other by ss s v ne = newest_from-push by 0 0 ss s v ∙ ap (λ b. cond b (suc (0 + length ss)) (newest_of by ss v)) (ne_eqb (by s) v ne)

-- ---- the newest edges put back
pub length-relinked : (ls : List Link) (heads : List ℕ) → length (relinked ls heads) ≡ length heads
length-relinked [] heads = refl
length-relinked (l ∷ ls) heads = length-set (relinked ls heads) l.edge.from.0 l.older ∙ length-relinked ls heads

pub relinked-append : (ls rs : List Link) (heads : List ℕ) → relinked (ls ++ rs) heads ≡ relinked ls (relinked rs heads)
relinked-append [] rs heads = refl
relinked-append (l ∷ ls) rs heads = ap (λ hs. set hs l.edge.from.0 l.older) (relinked-append ls rs heads)

-- each edge tells where the one before it from its point stands
abbrev pub AreLinked : List Link → Type 0
AreLinked links = (j : ℕ) (l : Link) → slice_get links j ≡ Some l → l.older ≡ newest_of by_link (take j links) l.edge.from.0

pub relinked_newest : (before ls : List Link) (heads : List ℕ) (v : ℕ) → v < length heads → AreLinked (before ++ ls) → slice_index heads v ≡ newest_of by_link (before ++ ls) v → slice_index (relinked ls heads) v ≡ newest_of by_link before v
relinked_newest before [] heads v h linked is = is ∙ ap (λ xs. newest_of by_link xs v) (append-nil before)
relinked_newest before (s ∷ ss) heads v h linked is =
    let assoc : (before ++ s ∷ []) ++ ss ≡ before ++ s ∷ ss = append_assoc before (s ∷ []) ss in
    let i : slice_index (relinked ss heads) v ≡ newest_of by_link (before ++ s ∷ []) v =
    relinked_newest (before ++ s ∷ []) ss heads v h (subst AreLinked (sym assoc) linked) (is ∙ ap (λ xs. newest_of by_link xs v) (sym assoc)) in
    let l = length-relinked ss heads in
    let p = s.edge.from.0 in
    elim (cases_eq v p) [
      | inl e ↦ (
          let at : slice_get (before ++ s ∷ ss) (length before) ≡ Some s = ap (λ xs. slice_get xs (length before)) (sym assoc) ∙ slice_get_left (before ++ s ∷ []) ss (length before) (omega (arith, length-append before (s ∷ []))) ∙ slice_get_last before s in
          let older : s.older ≡ newest_of by_link before p = linked (length before) s at ∙ ap (λ xs. newest_of by_link xs p) (take_at before (s ∷ ss) (length before) refl) in
          ap (slice_index (set (relinked ss heads) p s.older)) e ∙ get_or-set_same (relinked ss heads) p s.older 0 (omega arith) ∙ older ∙ ap (newest_of by_link before) (sym e))
      | inr ne ↦ get_or-set_other (relinked ss heads) p v s.older 0 ne ∙ i ∙ newest-push_other by_link before s v (λ e. ne (sym e))
    ]

-- ---- taking the last one off
pub restored-pop : (to : ℕ) (xs ys : List SavedState) (s : SavedState) (lows : List PointState) → ys ≡ xs ++ s ∷ [] → to ≤ length xs → restored (drop to xs) (set lows s.point.0 s.state) ≡ restored (drop to ys) lows
restored-pop to xs ys s lows e h = sym (ap (λ zs. restored (drop to zs) lows) e ∙ ap (λ zs. restored zs lows) (drop-append-le to xs (s ∷ []) h) ∙ restored-append (drop to xs) (s ∷ []) lows)

pub relinked-pop : (to : ℕ) (xs ys : List Link) (l : Link) (heads : List ℕ) → ys ≡ xs ++ l ∷ [] → to ≤ length xs → relinked (drop to xs) (set heads l.edge.from.0 l.older) ≡ relinked (drop to ys) heads
relinked-pop to xs ys l heads e h = sym (ap (λ zs. relinked (drop to zs) heads) e ∙ ap (λ zs. relinked zs heads) (drop-append-le to xs (l ∷ []) h) ∙ relinked-append (drop to xs) (l ∷ []) heads)
