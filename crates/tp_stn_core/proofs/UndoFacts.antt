-- What stands after going back to a mark.
use Rattle.std.proofs.Common.{◌≡◌, ℕ, ◌≤◌, List, length, take, drop, Some, sym, ap, ◌∙◌, subst}
use Rattle.std.proofs.lemmas.Option.{slice_get-map}
use Rattle.std.proofs.lemmas.List.{length-take-le}
use Rattle.std.specs.List.{All, slice_get}
use Rattle.std.specs.Option.{option_map}
use Rattle.tp_base.specs.declared.edges.Edge.{Edge}
use Rattle.tp_base.specs.Net.{Net}
use Rattle.tp_base.proofs.SliceFacts.{All-at}
use Rattle.tp_stn_core.specs.declared.marks.PlainMark.{PlainMark}
use Rattle.tp_stn_core.specs.declared.saved_low.SavedLow.{SavedLow}
use Rattle.tp_stn_core.specs.Saved.{restored}
use Rattle.tp_stn_core.specs.Marks.{net_at, past_of, AreStacked}
use Rattle.tp_stn_core.specs.Sound.{IsSound}
use Rattle.tp_stn_core.proofs.SavedFacts.{length-restored}
use Rattle.tp_stn_core.proofs.PastFacts.{same_net}

pub record Undone (marks : List PlainMark) (saved : List SavedLow) (lows caps : List ℕ) (edges : List Edge) (mark : PlainMark) (lows' caps' : List ℕ) (edges' : List Edge) (saved' : List SavedLow) : Type 0 where
  pub net : ◌≡◌ {A = Net} (record { lows = lows'; caps = caps'; edges = edges' }) (net_at saved lows caps edges mark)
  pub sound : IsSound (record { lows = lows'; caps = caps'; edges = edges' })
  pub lows_len : length lows' ≡ mark.points
  pub edges_len : length edges' ≡ mark.edges
  pub saved_len : length saved' ≡ mark.saved
  pub points_in : mark.points ≤ length lows
  pub edges_in : mark.edges ≤ length edges

pub undone : (marks : List PlainMark) (saved : List SavedLow) (lows caps : List ℕ) (edges : List Edge) (capacity k : ℕ) (m : PlainMark) (lows' caps' : List ℕ) (edges' : List Edge) (saved' : List SavedLow) → slice_get marks k ≡ Some m
    → lows' ≡ restored (drop m.saved saved) (take m.points lows) → caps' ≡ take m.points caps → edges' ≡ take m.edges edges → saved' ≡ take m.saved saved
    → AreStacked marks (length lows) (length edges) (length saved) capacity → All IsSound (past_of marks saved lows caps edges) → Undone marks saved lows caps edges m lows' caps' edges' saved'
undone marks saved lows caps edges capacity k m lows' caps' edges' saved' at l c e s st all =
    let net = same_net lows' (restored (drop m.saved saved) (take m.points lows)) caps' (take m.points caps) edges' (take m.edges edges) l c e in
    record {
      net = net;
      sound = subst IsSound (sym net) (All-at IsSound (past_of marks saved lows caps edges) k (net_at saved lows caps edges m) all (slice_get-map (net_at saved lows caps edges) marks k ∙ ap (option_map (net_at saved lows caps edges)) at));
      lows_len = ap length l ∙ length-restored (drop m.saved saved) (take m.points lows) ∙ length-take-le m.points lows (st.points_below k m at);
      edges_len = ap length e ∙ length-take-le m.edges edges (st.edges_below k m at);
      saved_len = ap length s ∙ length-take-le m.saved saved (st.saved_below k m at);
      points_in = st.points_below k m at;
      edges_in = st.edges_below k m at;
    }

pub same_past : (ms ms' : List PlainMark) (ss ss' : List SavedLow) (ls ls' cs cs' : List ℕ) (es es' : List Edge) → ms ≡ ms' → ss ≡ ss' → ls ≡ ls' → cs ≡ cs' → es ≡ es' → past_of ms ss ls cs es ≡ past_of ms' ss' ls' cs' es'
same_past ms ms' ss ss' ls ls' cs cs' es es' m s l c e =
    ap (λ (x : List PlainMark). past_of x ss ls cs es) m ∙ ap (λ (x : List SavedLow). past_of ms' x ls cs es) s ∙ ap (λ (x : List ℕ). past_of ms' ss' x cs es) l ∙ ap (λ (x : List ℕ). past_of ms' ss' ls' x es) c ∙ ap (λ (x : List Edge). past_of ms' ss' ls' cs' x) e
