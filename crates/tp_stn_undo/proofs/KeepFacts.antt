-- What each change keeps of the saved points.
use Rattle.std.proofs.Common.{◌≡◌, ℕ, ◌+◌, ◌<◌, ◌≤◌, List, [], ◌∷◌, ◌++◌, length, take, Some, sym, ap, ◌∙◌, subst, arith, inl, inr}
use Rattle.std.specs.List.{slice_get}
use Rattle.tp_base.proofs.SliceFacts.{slice_get_end, slice_get_take}
use Rattle.tp_stn_undo.specs.declared.marks.LiveMark.{LiveMark}
use Rattle.tp_stn_undo.specs.declared.point_state.SavedState.{SavedState}
use Rattle.tp_stn_undo.specs.Marks.{AreSaved}
use Rattle.tp_stn_undo.proofs.LinkFacts.{slice_get_kept}

-- one more mark
pub saved_marked : (marks : List LiveMark) (saved : List SavedState) (points : ℕ) (m : LiveMark) → m.points ≡ points → m.saved ≡ length saved → AreSaved marks saved points → AreSaved (marks ++ m ∷ []) saved points
saved_marked marks saved points m mp ms a = record {
  known = a.known;
  known_then = λ k n j e at i g. elim (slice_get_end marks m k n at) [
    | inl q ↦ a.known_then k n j e q i g
    | inr q ↦ (let b = a.known j e g in let r = ap (λ (x : LiveMark). x.points) q.1 in omega arith)
  ];
}

-- one more point
pub saved_pointed : (marks : List LiveMark) (saved : List SavedState) (points : ℕ) → AreSaved marks saved points → AreSaved marks saved (points + 1)
saved_pointed marks saved points a = record {
  known = λ j e g. (let b = a.known j e g in omega arith);
  known_then = a.known_then;
}

-- back to a mark
pub saved_undone : (marks : List LiveMark) (saved : List SavedState) (points k : ℕ) (m : LiveMark) → slice_get marks k ≡ Some m → AreSaved marks saved points
    → AreSaved (take k marks) (take m.saved saved) m.points
saved_undone marks saved points k m at a = record {
  known = λ j e g. (let t = slice_get_take m.saved saved j e g in a.known_then k m j e at t.0 t.1);
  known_then = λ i n j e g h l. a.known_then i n j e (slice_get_take k marks i n g).1 h (slice_get_take m.saved saved j e l).1;
}

-- what the marks stand on is the same, and what was saved since is of known points
pub saved_kept : (marks : List LiveMark) (saved saved' : List SavedState) (points from : ℕ) → ((k : ℕ) (m : LiveMark) → slice_get marks k ≡ Some m → m.saved ≤ from) → take from saved' ≡ take from saved
    → ((j : ℕ) (e : SavedState) → slice_get saved' j ≡ Some e → e.point.0 < points) → AreSaved marks saved points → AreSaved marks saved' points
saved_kept marks saved saved' points from below same known a = record {
  known = known;
  known_then = λ k m j e at h g. (
      let b = below k m at in
      a.known_then k m j e at h (sym (slice_get_kept from saved j (omega arith)) ∙ ap (λ (x : List SavedState). slice_get x j) (sym same) ∙ slice_get_kept from saved' j (omega arith) ∙ g));
}

pub same_saved : (ms ms' : List LiveMark) (ss ss' : List SavedState) (n n' : ℕ) → ms' ≡ ms → ss' ≡ ss → n' ≡ n → AreSaved ms ss n → AreSaved ms' ss' n'
same_saved ms ms' ss ss' n n' p q s a =
    subst (λ (x : List LiveMark). AreSaved x ss' n') (sym p)
    (subst (λ (x : List SavedState). AreSaved ms x n') (sym q)
    (subst (λ (x : ℕ). AreSaved ms ss x) (sym s) a))
