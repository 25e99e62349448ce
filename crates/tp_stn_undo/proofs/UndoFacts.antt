-- What stands after going back to a mark.
use Rattle.std.proofs.Common.{◌≡◌, ℕ, ◌<◌, ◌≤◌, List, length, take, drop, Some, sym, ap, ◌∙◌, subst}
use Rattle.std.proofs.lemmas.Option.{slice_get-map}
use Rattle.std.proofs.lemmas.List.{length-take-le}
use Rattle.std.specs.List.{All, slice_get}
use Rattle.std.specs.Option.{option_map}
use Rattle.tp_stn_undo.specs.declared.point_state.PointState.{PointState}
use Rattle.tp_stn_undo.specs.declared.link.Link.{Link}
use Rattle.tp_base.proofs.SliceFacts.{found, All-at}
use Rattle.tp_stn_undo.specs.declared.marks.LiveMark.{LiveMark}
use Rattle.tp_stn_undo.specs.declared.point_state.SavedState.{SavedState}
use Rattle.tp_stn_undo.specs.Saved.{restored}
use Rattle.tp_stn_undo.specs.Marks.{core_at, past_of, IsAt, AreStacked}
use Rattle.tp_stn_undo.specs.States.{Core, IsSound}
use Rattle.tp_stn_undo.proofs.SavedFacts.{length-restored}
use Rattle.tp_stn_undo.proofs.PastFacts.{same_core}

pub record Undone (marks : List LiveMark) (saved : List SavedState) (states : List PointState) (caps : List ℕ) (links : List Link) (k : ℕ) (states' : List PointState) (caps' : List ℕ) (links' : List Link) (saved' : List SavedState) : Type 0 where
  pub mark : LiveMark
  pub at : slice_get marks k ≡ Some mark
  pub core : ◌≡◌ {A = Core} (record { states = states'; caps = caps'; links = links' }) (core_at saved states caps links mark)
  pub sound : IsSound (record { states = states'; caps = caps'; links = links' })
  pub points_len : length states' ≡ mark.points
  pub edges_len : length links' ≡ mark.edges
  pub saved_len : length saved' ≡ mark.saved
  pub points_in : mark.points ≤ length states
  pub edges_in : mark.edges ≤ length links

pub undone : (marks : List LiveMark) (saved : List SavedState) (states : List PointState) (caps : List ℕ) (links : List Link) (capacity k : ℕ) (states' : List PointState) (caps' : List ℕ) (links' : List Link) (saved' : List SavedState) → k < length marks
    → IsAt marks k (λ m. states' ≡ restored (drop m.saved saved) (take m.points states)) → IsAt marks k (λ m. caps' ≡ take m.points caps) → IsAt marks k (λ m. links' ≡ take m.edges links) → IsAt marks k (λ m. saved' ≡ take m.saved saved)
    → AreStacked marks (length states) (length links) (length saved) capacity → All IsSound (past_of marks saved states caps links) → Undone marks saved states caps links k states' caps' links' saved'
undone marks saved states caps links capacity k states' caps' links' saved' h l c e s st all =
    let f = found marks k h in
    let m : LiveMark = f.0 in
    let at : slice_get marks k ≡ Some m = f.1 in
    let core = same_core states' (restored (drop m.saved saved) (take m.points states)) caps' (take m.points caps) links' (take m.edges links) (l m at) (c m at) (e m at) in
    record {
      mark = m;
      at = at;
      core = core;
      sound = subst IsSound (sym core) (All-at IsSound (past_of marks saved states caps links) k (core_at saved states caps links m) all (slice_get-map (core_at saved states caps links) marks k ∙ ap (option_map (core_at saved states caps links)) at));
      points_len = ap length (l m at) ∙ length-restored (drop m.saved saved) (take m.points states) ∙ length-take-le m.points states (st.points_below k m at);
      edges_len = ap length (e m at) ∙ length-take-le m.edges links (st.edges_below k m at);
      saved_len = ap length (s m at) ∙ length-take-le m.saved saved (st.saved_below k m at);
      points_in = st.points_below k m at;
      edges_in = st.edges_below k m at;
    }

pub same_past : (ms ms' : List LiveMark) (ss ss' : List SavedState) (ls ls' : List PointState) (cs cs' : List ℕ) (es es' : List Link) → ms ≡ ms' → ss ≡ ss' → ls ≡ ls' → cs ≡ cs' → es ≡ es' → past_of ms ss ls cs es ≡ past_of ms' ss' ls' cs' es'
same_past ms ms' ss ss' ls ls' cs cs' es es' m s l c e =
    ap (λ (x : List LiveMark). past_of x ss ls cs es) m ∙ ap (λ (x : List SavedState). past_of ms' x ls cs es) s ∙ ap (λ (x : List PointState). past_of ms' ss' x cs es) l ∙ ap (λ (x : List ℕ). past_of ms' ss' ls' x es) c ∙ ap (λ (x : List Link). past_of ms' ss' ls' cs' x) e
