-- Saved lower bounds stay linked, and between two marks each point has one at most.
use Rattle.std.proofs.Common.{suc, zero, ◌≡◌, ◌≢◌, ℕ, ◌+◌, ◌-◌, ◌*◌, ◌<◌, ◌≤◌, true, false, List, [], ◌∷◌, ◌++◌, length, slice_index, take, drop, map, Option, Some, None, sym, refl, ap, ◌∙◌, arith, inl, inr}
use Rattle.std.proofs.lemmas.Bool.{cases_lt, leb-true, leb-false, false≢true}
use Rattle.std.proofs.lemmas.Option.{none-some, same_Some, slice_get_within, get_or_from_slice_get, slice_get-map}
use Rattle.std.proofs.lemmas.List.{length-append, length-map, length-drop, get_or_append_left, get_or_at}
use Rattle.std.specs.List.{slice_get}
use Rattle.std.specs.Option.{option_map}
use Rattle.tp_base.specs.Refute.{AreApart}
use Rattle.tp_base.proofs.SliceFacts.{found, slice_get_drop}
use Rattle.tp_base.proofs.TraceFacts.{apart-push, apart-short}
use Rattle.tp_stn_core.specs.declared.marks.PlainMark.{PlainMark}
use Rattle.tp_stn_core.specs.declared.saved_low.SavedLow.{SavedLow}
use Rattle.tp_stn_core.specs.Saved.{is_due, is_due_at}
use Rattle.tp_stn_core.specs.Marks.{AreStacked, AreSaved}
use Rattle.tp_stn_core.proofs.SavedFacts.{newest_late}

pub slice_get_kept : {X : Type 0} (n : ℕ) (xs : List X) (k : ℕ) → k < n → slice_get (take n xs) k ≡ slice_get xs k
slice_get_kept zero xs k h = absurd (omega arith)
slice_get_kept (suc n) [] k h = refl
slice_get_kept (suc n) (x ∷ xs) zero h = refl
slice_get_kept (suc n) (x ∷ xs) (suc k) h = slice_get_kept n xs k (omega arith)

-- ---- the newest mark
-- the newest mark, which is not before that place
pub record Due (marks : List PlainMark) (newest : ℕ) : Type 0 where
  pub place : ℕ
  pub mark : PlainMark
  pub get : slice_get marks place ≡ Some mark
  pub last : place + 1 ≡ length marks
  pub since : newest ≤ mark.saved

due_at : (marks : List PlainMark) (newest : ℕ) (o : Option PlainMark) → slice_get marks (length marks - 1) ≡ o → is_due_at o newest ≡ true → Due marks newest
due_at marks newest None e h = absurd (false≢true h)
due_at marks newest (Some m) e h =
    let w = slice_get_within marks (length marks - 1) m e in
    record { place = length marks - 1; mark = m; get = e; last = omega arith; since = leb-true newest m.saved h }

pub due : (marks : List PlainMark) (newest : ℕ) → is_due marks newest ≡ true → Due marks newest
due marks newest h = due_at marks newest (slice_get marks (length marks - 1)) refl h

not_due_at : (newest : ℕ) (o : Option PlainMark) (m : PlainMark) → o ≡ Some m → is_due_at o newest ≡ false → m.saved < newest
not_due_at newest None m e h = absurd (none-some m e)
not_due_at newest (Some n) m e h = let a = leb-false newest n.saved h in let b = ap (λ (x : PlainMark). x.saved) (same_Some n m e) in omega arith

-- where nothing is due, each mark stands before what was saved last
pub not_due : (marks : List PlainMark) (points edges saved capacity newest k : ℕ) (m : PlainMark) → AreStacked marks points edges saved capacity → is_due marks newest ≡ false → slice_get marks k ≡ Some m → m.saved < newest
not_due marks points edges saved capacity newest k m s h at =
    let w = slice_get_within marks k m at in
    let f = found marks (length marks - 1) (omega arith) in
    let top : f.0.saved < newest = not_due_at newest (slice_get marks (length marks - 1)) f.0 f.1 h in
    elim (cases_lt k (length marks - 1)) [
      | inl p ↦ (let a = s.saved_rise k (length marks - 1) m f.0 p at f.1 in omega arith)
      | inr p ↦ (let e : k ≡ length marks - 1 = omega arith in
          let q : m ≡ f.0 = same_Some m f.0 (sym at ∙ ap (slice_get marks) e ∙ f.1) in
          let r = ap (λ (x : PlainMark). x.saved) q in omega arith)
    ]

-- ---- how many there are
module _ (marks : List PlainMark) (saved : List SavedLow) (newest : List ℕ) (points edges capacity : ℕ)
    (s : AreStacked marks points edges (length saved) capacity) (a : AreSaved marks saved newest points) (fits : points ≤ capacity) where
  -- the marks before or at a place stand at most where the newest does
  below_last : (k j : ℕ) (m n : PlainMark) → k + 1 ≡ length marks → slice_get marks k ≡ Some m → slice_get marks j ≡ Some n → n.saved ≤ m.saved
  below_last k j m n last at bt =
      let w = slice_get_within marks j n bt in
      elim (cases_lt j k) [
        | inl p ↦ s.saved_rise j k n m p bt at
        | inr p ↦ (let e : j ≡ k = omega arith in let r = ap (λ (x : PlainMark). x.saved) (same_Some n m (sym bt ∙ ap (slice_get marks) e ∙ at)) in omega arith)
      ]

  module _ (k : ℕ) (m : PlainMark) (last : k + 1 ≡ length marks) (at : slice_get marks k ≡ Some m) where
    -- the points whose lower bounds were saved since the newest mark
    abbrev since : List ℕ
    since = map (λ (e : SavedLow). e.point.0) (drop m.saved saved)

    since_at : (i : ℕ) → i < length since → (e : SavedLow) × (slice_get saved (m.saved + i) ≡ Some e) × (e.point.0 ≡ slice_index since i)
    since_at i h =
        let l = length-map (drop m.saved saved) (λ (e : SavedLow). e.point.0) in
        let f = found (drop m.saved saved) i (omega arith) in (
          f.0,
          sym (slice_get_drop m.saved saved i) ∙ f.1,
          sym (get_or_from_slice_get since i f.0.point.0 0 (slice_get-map (λ (e : SavedLow). e.point.0) (drop m.saved saved) i ∙ ap (option_map (λ (e : SavedLow). e.point.0)) f.1)),
        )

    since_apart : AreApart since
    since_apart i j h g e =
        let x = since_at i (omega arith) in
        let y = since_at j g in
        let p = a.parted (m.saved + j) y.0 y.1 in
        let b = below_last k p.0 m p.1 last at p.2 in
        let wi = slice_get_within saved (m.saved + i) x.0 x.1 in
        let kept : slice_get (take (m.saved + j) saved) (m.saved + i) ≡ Some x.0 = slice_get_kept (m.saved + j) saved (m.saved + i) (omega arith) ∙ x.1 in
        let l = newest_late (take (m.saved + j) saved) y.0.point.0 (m.saved + i) x.0 kept (x.2 ∙ e ∙ sym y.2) in
        let o = a.linked (m.saved + j) y.0 y.1 in
        let c = p.3 in
        omega arith

    since_below : (i : ℕ) → i < length since → slice_index since i < capacity
    since_below i h = let x = since_at i h in let b = a.known (m.saved + i) x.0 x.1 in let e = x.2 in omega arith

    -- where a point's lower bound is due, there is room for it
    pub capacity_due : (p : ℕ) → p < points → slice_index newest p ≤ m.saved → length saved < length marks * capacity
    capacity_due p h due =
        let l = length-map (drop m.saved saved) (λ (e : SavedLow). e.point.0) in
        let d = length-drop m.saved saved in
        let below = s.saved_below k m at in
        let in_capacity = s.in_capacity k m at in
        let n = length-append since (p ∷ []) in
        let fresh : (i : ℕ) → i < length since → slice_index since i ≢ p = λ i g e. (
        let x = since_at i g in
        let late = newest_late saved p (m.saved + i) x.0 x.1 (x.2 ∙ e) in
        let is = a.newest_is p h in
        omega arith) in
        let short : length (since ++ p ∷ []) ≤ capacity = apart-short (since ++ p ∷ []) capacity (apart-push since p since_apart fresh) (λ i g. elim (cases_lt i (length since)) [
          | inl q ↦ (let b = since_below i q in let e = get_or_append_left since (p ∷ []) 0 i q in omega arith)
          | inr q ↦ (let e = get_or_at since p [] 0 i (omega arith) in omega arith)
        ]) in
        let all : length marks * capacity ≡ (k + 1) * capacity = ap (λ i. i * capacity) (sym last) in
        omega arith
