-- The nets at the marks in force stay as the net changes, and going back gives them.
use Rattle.std.proofs.Common.{◌≡◌, ℕ, ◌-◌, ◌<◌, ◌≤◌, Bool, true, false, List, [], ◌∷◌, ◌++◌, length, slice_index, get_or, take, drop, set, Some, sym, refl, ap, ◌∙◌, arith, cond, inl, inr}
use Rattle.std.proofs.lemmas.List.{map-append, drop-append-le, take-append-le, take_all, take-take, take-map, take-append-drop, set-set, set-get_or, length-take-le, drop_all}
use Rattle.std.specs.List.{slice_get}
use Rattle.tp_base.specs.declared.edges.Edge.{Edge}
use Rattle.tp_base.specs.declared.edges.PointId.{PointId}
use Rattle.tp_base.specs.Net.{Net}
use Rattle.tp_base.proofs.SliceFacts.{map_same, take_set, slice_get_take, slice_get_drop}
use Rattle.tp_stn_core.specs.declared.marks.PlainMark.{PlainMark}
use Rattle.tp_stn_core.specs.declared.saved_low.SavedLow.{SavedLow}
use Rattle.tp_stn_core.specs.Saved.{restored, is_due, saved_after}
use Rattle.tp_stn_core.specs.Marks.{net_at, past_of, AreStacked, AreSaved}
use Rattle.tp_stn_core.proofs.SavedFacts.{restored-append, take-restored, restored_ignores, newest_names}
use Rattle.tp_stn_core.proofs.LinkFacts.{not_due}

-- nets with equal parts
pub same_net : (l l' c c' : List ℕ) (e e' : List Edge) → l ≡ l' → c ≡ c' → e ≡ e' → ◌≡◌ {A = Net} (record { lows = l; caps = c; edges = e }) (record { lows = l'; caps = c'; edges = e' })
same_net l l' c c' e e' p q r = cc

module _ (marks : List PlainMark) (saved : List SavedLow) (lows caps : List ℕ) (edges : List Edge) (capacity : ℕ)
    (s : AreStacked marks (length lows) (length edges) (length saved) capacity) where
  pub past_edge : (more : List Edge) → past_of marks saved lows caps (edges ++ more) ≡ past_of marks saved lows caps edges
  past_edge more = map_same (net_at saved lows caps (edges ++ more)) (net_at saved lows caps edges) marks (λ k m g.
      same_net _ _ _ _ _ _ refl refl (take-append-le m.edges edges more (s.edges_below k m g)))

  pub past_point : (low cap : ℕ) → length caps ≡ length lows → past_of marks saved (lows ++ low ∷ []) (caps ++ cap ∷ []) edges ≡ past_of marks saved lows caps edges
  past_point low cap n = map_same (net_at saved (lows ++ low ∷ []) (caps ++ cap ∷ []) edges) (net_at saved lows caps edges) marks (λ k m g.
      let b = s.points_below k m g in
      same_net _ _ _ _ _ _ (ap (restored (drop m.saved saved)) (take-append-le m.points lows (low ∷ []) b)) (take-append-le m.points caps (cap ∷ []) (omega arith)) refl)

  pub past_marked : (m : PlainMark) → m.points ≡ length lows → m.edges ≡ length edges → m.saved ≡ length saved → length caps ≡ length lows
      → past_of (marks ++ m ∷ []) saved lows caps edges ≡ past_of marks saved lows caps edges ++ record { lows = lows; caps = caps; edges = edges } ∷ []
  past_marked m mp me ms n =
      let new : net_at saved lows caps edges m ≡ record { lows = lows; caps = caps; edges = edges } =
      same_net _ _ _ _ _ _ (ap (λ ss. restored ss (take m.points lows)) (drop_all m.saved saved (omega arith)) ∙ take_all m.points lows (omega arith)) (take_all m.points caps (omega arith)) (take_all m.edges edges (omega arith)) in
      map-append (net_at saved lows caps edges) marks (m ∷ []) ∙ ap (λ n. past_of marks saved lows caps edges ++ n ∷ []) new

  -- a lower bound rises, and what it was is saved where it is due
  module _ (newest : List ℕ) (p : PointId) (x low d : ℕ) (a : AreSaved marks saved newest (length lows)) (h : p.0 < length lows) (was : low ≡ get_or lows p.0 d) where
    abbrev entry : SavedLow
    entry = record { point = p; low = low; older = slice_index newest p.0 }

    raised_due : (m : PlainMark) → m.saved ≤ length saved → restored (drop m.saved (saved ++ entry ∷ [])) (take m.points (set lows p.0 x)) ≡ restored (drop m.saved saved) (take m.points lows)
    raised_due m b =
        ap (λ ss. restored ss (take m.points (set lows p.0 x))) (drop-append-le m.saved saved (entry ∷ []) b)
        ∙ restored-append (drop m.saved saved) (entry ∷ []) (take m.points (set lows p.0 x))
        ∙ ap (restored (drop m.saved saved))
        (sym (take_set m.points (set lows p.0 x) p.0 low)
        ∙ ap (take m.points) (set-set lows p.0 x low ∙ ap (set lows p.0) was ∙ set-get_or lows p.0 d))

    raised_not_due : (m : PlainMark) → m.saved < slice_index newest p.0 → restored (drop m.saved saved) (take m.points (set lows p.0 x)) ≡ restored (drop m.saved saved) (take m.points lows)
    raised_not_due m b =
        let is = a.newest_is p.0 h in
        elim (newest_names saved p.0) [
          | inl z ↦ absurd (omega arith)
          | inr n ↦ (
              let place = n.place_is in
              let at : slice_get (drop m.saved saved) (n.at - m.saved) ≡ Some n.entry = slice_get_drop m.saved saved (n.at - m.saved) ∙ ap (slice_get saved) (omega arith) ∙ n.get in
              ap (restored (drop m.saved saved)) (take_set m.points lows p.0 x) ∙ restored_ignores (drop m.saved saved) (take m.points lows) p.0 x (n.at - m.saved) n.entry at n.point)
        ]

    past_raised_by : (b : Bool) → is_due marks (slice_index newest p.0) ≡ b → past_of marks (cond b (saved ++ entry ∷ []) saved) (set lows p.0 x) caps edges ≡ past_of marks saved lows caps edges
    past_raised_by true e = map_same (net_at (saved ++ entry ∷ []) (set lows p.0 x) caps edges) (net_at saved lows caps edges) marks (λ k m g.
        same_net _ _ _ _ _ _ (raised_due m (s.saved_below k m g)) refl refl)
    past_raised_by false e = map_same (net_at saved (set lows p.0 x) caps edges) (net_at saved lows caps edges) marks (λ k m g.
        same_net _ _ _ _ _ _ (raised_not_due m (not_due marks (length lows) (length edges) (length saved) capacity (slice_index newest p.0) k m s e g)) refl refl)

    pub past_raised : past_of marks (saved_after marks saved newest p low) (set lows p.0 x) caps edges ≡ past_of marks saved lows caps edges
    past_raised = past_raised_by (is_due marks (slice_index newest p.0)) refl

  -- back to a mark
  pub past_undone : (k : ℕ) (m : PlainMark) → slice_get marks k ≡ Some m
      → past_of (take k marks) (take m.saved saved) (restored (drop m.saved saved) (take m.points lows)) (take m.points caps) (take m.edges edges) ≡ take k (past_of marks saved lows caps edges)
  past_undone k m at =
      map_same (net_at (take m.saved saved) (restored (drop m.saved saved) (take m.points lows)) (take m.points caps) (take m.edges edges)) (net_at saved lows caps edges) (take k marks) (λ j n g.
      let t = slice_get_take k marks j n g in
      let ps = s.points_rise j k n m t.0 t.1 at in
      let ss = s.saved_rise j k n m t.0 t.1 at in
      let b = s.saved_below k m at in
      let parts : drop n.saved saved ≡ drop n.saved (take m.saved saved) ++ drop m.saved saved =
      ap (drop n.saved) (sym (take-append-drop m.saved saved)) ∙ drop-append-le n.saved (take m.saved saved) (drop m.saved saved) (omega (arith, length-take-le m.saved saved b)) in
      same_net _ _ _ _ _ _
      (ap (restored (drop n.saved (take m.saved saved))) (take-restored n.points (drop m.saved saved) (take m.points lows) ∙ ap (restored (drop m.saved saved)) (take-take n.points m.points lows ps))
      ∙ sym (restored-append (drop n.saved (take m.saved saved)) (drop m.saved saved) (take n.points lows)) ∙ ap (λ xs. restored xs (take n.points lows)) (sym parts))
      (take-take n.points m.points caps ps)
      (take-take n.edges m.edges edges (s.edges_rise j k n m t.0 t.1 at)))
      ∙ sym (take-map (net_at saved lows caps edges) k marks)
