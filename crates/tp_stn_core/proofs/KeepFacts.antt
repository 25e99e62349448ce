-- What each change keeps of the saved lower bounds.
use Rattle.std.proofs.Common.{◌≡◌, ℕ, ◌+◌, ◌*◌, ◌<◌, ◌≤◌, Bool, true, false, List, [], ◌∷◌, ◌++◌, length, slice_index, take, drop, set, Some, sym, refl, ap, ◌∙◌, subst, arith, inl, inr, cond}
use Rattle.std.proofs.lemmas.Bool.{cases_eq, cases_lt}
use Rattle.std.proofs.lemmas.Option.{same_Some, slice_get_within}
use Rattle.std.proofs.lemmas.List.{length-append, length-set, length-take-le, take-append-le, take-append-drop, take_at, take-take, get_or-set_same, get_or-set_other, get_or_append_left, get_or_at, get_or-take}
use Rattle.std.specs.List.{slice_get}
use Rattle.tp_base.specs.declared.edges.PointId.{PointId}
use Rattle.tp_base.proofs.SliceFacts.{slice_get_left, slice_get_end, slice_get_take}
use Rattle.tp_stn_core.specs.declared.marks.PlainMark.{PlainMark}
use Rattle.tp_stn_core.specs.declared.saved_low.SavedLow.{SavedLow}
use Rattle.tp_stn_core.specs.Saved.{relinked, newest_of, is_due, saved_after, newest_after}
use Rattle.tp_stn_core.specs.Marks.{AreStacked, AreSaved}
use Rattle.tp_stn_core.proofs.SavedFacts.{newest_names, newest-push_same, newest-push_other, length-relinked, relinked_newest}
use Rattle.tp_stn_core.proofs.LinkFacts.{Due, due, capacity_due, slice_get_kept}

-- one more saved lower bound, where it is due
module _ (marks : List PlainMark) (saved : List SavedLow) (newest : List ℕ) (points edges capacity : ℕ) (p : PointId) (low : ℕ)
    (s : AreStacked marks points edges (length saved) capacity) (a : AreSaved marks saved newest points) (h : p.0 < points) where
  abbrev entry : SavedLow
  entry = record { point = p; low = low; older = slice_index newest p.0 }

  pub saved_pushed : Due marks (slice_index newest p.0) → AreSaved marks (saved ++ entry ∷ []) (set newest p.0 (length saved + 1)) points
  saved_pushed d = record {
    len = length-set newest p.0 (length saved + 1) ∙ a.len;
    newest_is = λ v k. elim (cases_eq v p.0) [
      | inl e ↦ (let l = a.len in ap (slice_index (set newest p.0 (length saved + 1))) e ∙ get_or-set_same newest p.0 (length saved + 1) 0 (omega arith) ∙ sym (newest-push_same saved entry v (sym e)))
      | inr ne ↦ get_or-set_other newest p.0 v (length saved + 1) 0 ne ∙ a.newest_is v k ∙ sym (newest-push_other saved entry v (λ e. ne (sym e)))
    ];
    linked = λ j e g. elim (slice_get_end saved entry j e g) [
      | inl q ↦ (let w = slice_get_within saved j e q in a.linked j e q ∙ ap (λ xs. newest_of xs e.point.0) (sym (take-append-le j saved (entry ∷ []) (omega arith))))
      | inr q ↦ subst (λ (x : SavedLow). x.older ≡ newest_of (take j (saved ++ entry ∷ [])) x.point.0) q.1 (a.newest_is p.0 h ∙ ap (λ xs. newest_of xs p.0) (sym (take_at saved (entry ∷ []) j (sym q.0))))
    ];
    parted = λ j e g. elim (slice_get_end saved entry j e g) [
      | inl q ↦ a.parted j e q
      | inr q ↦ (let b = s.saved_below d.place d.mark d.get in let o = d.since in let r = ap (λ (x : SavedLow). x.older) q.1 in let i = q.0 in
          (d.place, d.mark, d.get, omega arith, omega arith))
    ];
    known = λ j e g. elim (slice_get_end saved entry j e g) [
      | inl q ↦ a.known j e q
      | inr q ↦ (let r = ap (λ (x : SavedLow). x.point.0) q.1 in omega arith)
    ];
    known_then = λ k m j e at i g. elim (slice_get_end saved entry j e g) [
      | inl q ↦ a.known_then k m j e at i q
      | inr q ↦ absurd (let b = s.saved_below k m at in let r = q.0 in omega arith)
    ];
  }

-- one more mark
pub saved_marked : (marks : List PlainMark) (saved : List SavedLow) (newest : List ℕ) (points : ℕ) (m : PlainMark) → m.points ≡ points → m.saved ≡ length saved → AreSaved marks saved newest points → AreSaved (marks ++ m ∷ []) saved newest points
saved_marked marks saved newest points m mp ms a = record {
  len = a.len;
  newest_is = a.newest_is;
  linked = a.linked;
  parted = λ j e g. (let p = a.parted j e g in (p.0, p.1, slice_get_left marks (m ∷ []) p.0 (slice_get_within marks p.0 p.1 p.2) ∙ p.2, p.3, p.4));
  known = a.known;
  known_then = λ k n j e at i g. elim (slice_get_end marks m k n at) [
    | inl q ↦ a.known_then k n j e q i g
    | inr q ↦ (let b = a.known j e g in let r = ap (λ (x : PlainMark). x.points) q.1 in omega arith)
  ];
}

-- one more point
pub saved_pointed : (marks : List PlainMark) (saved : List SavedLow) (newest : List ℕ) (points : ℕ) → AreSaved marks saved newest points → AreSaved marks saved (newest ++ 0 ∷ []) (points + 1)
saved_pointed marks saved newest points a = record {
  len = (let l = length-append newest (0 ∷ []) in let n = a.len in omega arith);
  newest_is = λ v h. (let n = a.len in elim (cases_lt v points) [
    | inl q ↦ get_or_append_left newest (0 ∷ []) 0 v (omega arith) ∙ a.newest_is v q
    | inr q ↦ get_or_at newest 0 [] 0 v (omega arith) ∙ elim (newest_names saved v) [
      | inl z ↦ sym z
      | inr w ↦ absurd (let b = a.known w.at w.entry w.get in let e = w.point in omega arith)
    ]
  ]);
  linked = a.linked;
  parted = a.parted;
  known = λ j e g. (let b = a.known j e g in omega arith);
  known_then = a.known_then;
}

-- back to a mark
pub saved_undone : (marks : List PlainMark) (saved : List SavedLow) (newest : List ℕ) (points edges capacity k : ℕ) (m : PlainMark) → slice_get marks k ≡ Some m → AreStacked marks points edges (length saved) capacity → AreSaved marks saved newest points
    → AreSaved (take k marks) (take m.saved saved) (relinked (drop m.saved saved) (take m.points newest)) m.points
saved_undone marks saved newest points edges capacity k m at s a =
    let below = s.points_below k m at in
    let len : length (take m.points newest) ≡ m.points = (let l = a.len in length-take-le m.points newest (omega arith)) in
    let whole : take m.saved saved ++ drop m.saved saved ≡ saved = take-append-drop m.saved saved in
    record {
      len = length-relinked (drop m.saved saved) (take m.points newest) ∙ len;
      newest_is = λ v h. relinked_newest (take m.saved saved) (drop m.saved saved) (take m.points newest) v (omega arith) (rw whole a.linked)
          (get_or-take m.points newest v 0 h ∙ a.newest_is v (omega arith) ∙ ap (λ xs. newest_of xs v) (sym whole));
      linked = λ j e g. (let t = slice_get_take m.saved saved j e g in let i = t.0 in
          a.linked j e t.1 ∙ ap (λ xs. newest_of xs e.point.0) (sym (take-take j m.saved saved (omega arith))));
      parted = λ j e g. (
          let t = slice_get_take m.saved saved j e g in
          let i = t.0 in
          let p = a.parted j e t.1 in
          let before = p.4 in
          let earlier : p.0 < k = elim (cases_lt p.0 k) [
            | inl q ↦ q
            | inr q ↦ elim (cases_eq p.0 k) [
              | inl z ↦ absurd (let r = ap (λ (x : PlainMark). x.saved) (same_Some p.1 m (sym p.2 ∙ ap (slice_get marks) z ∙ at)) in omega arith)
              | inr z ↦ absurd (let r = s.saved_rise k p.0 m p.1 (omega arith) at p.2 in omega arith)
            ]
          ] in
          (p.0, p.1, slice_get_kept k marks p.0 earlier ∙ p.2, p.3, p.4));
      known = λ j e g. (let t = slice_get_take m.saved saved j e g in a.known_then k m j e at t.0 t.1);
      known_then = λ i n j e g h l. a.known_then i n j e (slice_get_take k marks i n g).1 h (slice_get_take m.saved saved j e l).1;
    }

-- a lower bound rises: it is saved where that is due
module _ (marks : List PlainMark) (saved : List SavedLow) (newest : List ℕ) (points edges capacity : ℕ) (p : PointId) (low : ℕ)
    (s : AreStacked marks points edges (length saved) capacity) (a : AreSaved marks saved newest points) (h : p.0 < points) (fits : points ≤ capacity) where
  raised_by : (b : Bool) → is_due marks (slice_index newest p.0) ≡ b
      → AreSaved marks (cond b (saved ++ entry marks saved newest points edges capacity p low s a h ∷ []) saved) (cond b (set newest p.0 (length saved + 1)) newest) points
  raised_by true e = saved_pushed marks saved newest points edges capacity p low s a h (due marks (slice_index newest p.0) e)
  raised_by false e = a

  pub saved_raised : AreSaved marks (saved_after marks saved newest p low) (newest_after marks saved newest p) points
  saved_raised = raised_by (is_due marks (slice_index newest p.0)) refl

  pub has_capacity : is_due marks (slice_index newest p.0) ≡ true → length saved < length marks * capacity
  has_capacity e =
      let d = due marks (slice_index newest p.0) e in
      capacity_due marks saved newest points edges capacity s a fits d.place d.mark d.last d.get p.0 h d.since

  length_by : (b : Bool) → is_due marks (slice_index newest p.0) ≡ b → length saved ≤ length marks * capacity
      → (length saved ≤ length (cond b (saved ++ entry marks saved newest points edges capacity p low s a h ∷ []) saved)) × (length (cond b (saved ++ entry marks saved newest points edges capacity p low s a h ∷ []) saved) ≤ length marks * capacity)
  length_by true e m =
      let l = length-append saved (entry marks saved newest points edges capacity p low s a h ∷ []) in
      let r = has_capacity e in
      (omega arith, omega arith)
  length_by false e m = (omega arith, m)

  -- and there is room for it
  pub length_raised : length saved ≤ length marks * capacity → (length saved ≤ length (saved_after marks saved newest p low)) × (length (saved_after marks saved newest p low) ≤ length marks * capacity)
  length_raised m = length_by (is_due marks (slice_index newest p.0)) refl m

pub same_saved : (ms ms' : List PlainMark) (ss ss' : List SavedLow) (ns ns' : List ℕ) (n n' : ℕ) → ms' ≡ ms → ss' ≡ ss → ns' ≡ ns → n' ≡ n → AreSaved ms ss ns n → AreSaved ms' ss' ns' n'
same_saved ms ms' ss ss' ns ns' n n' p q r s a =
    subst (λ (x : List PlainMark). AreSaved x ss' ns' n') (sym p)
    (subst (λ (x : List SavedLow). AreSaved ms x ns' n') (sym q)
    (subst (λ (x : List ℕ). AreSaved ms ss x n') (sym r) (subst (λ (x : ℕ). AreSaved ms ss ns x) (sym s) a)))
