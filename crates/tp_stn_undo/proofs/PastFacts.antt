-- The networks at the marks in force stay as the net changes, and going back gives them.
use Rattle.std.proofs.Common.{◌≡◌, ℕ, ◌≤◌, List, [], ◌∷◌, ◌++◌, length, take, drop, Some, sym, refl, ap, ◌∙◌, arith}
use Rattle.std.proofs.lemmas.List.{map-append, drop-append-le, take-append-le, take_all, take-take, take-map, take-append-drop, length-take-le, drop_all}
use Rattle.std.specs.List.{slice_get}
use Rattle.tp_stn_undo.specs.States.{Core}
use Rattle.tp_stn_undo.specs.declared.point_state.PointState.{PointState}
use Rattle.tp_stn_undo.specs.declared.link.Link.{Link}
use Rattle.tp_base.proofs.SliceFacts.{map_same, slice_get_take}
use Rattle.tp_stn_undo.specs.declared.marks.LiveMark.{LiveMark}
use Rattle.tp_stn_undo.specs.declared.point_state.SavedState.{SavedState}
use Rattle.tp_stn_undo.specs.Saved.{restored}
use Rattle.tp_stn_undo.specs.Marks.{core_at, past_of, AreStacked}
use Rattle.tp_stn_undo.proofs.SavedFacts.{restored-append, take-restored}

-- networks with equal parts
pub same_core : (l l' : List PointState) (c c' : List ℕ) (e e' : List Link) → l ≡ l' → c ≡ c' → e ≡ e' → ◌≡◌ {A = Core} (record { states = l; caps = c; links = e }) (record { states = l'; caps = c'; links = e' })
same_core l l' c c' e e' p q r = cc

module _ (marks : List LiveMark) (saved : List SavedState) (states : List PointState) (caps : List ℕ) (links : List Link) (capacity : ℕ)
    (s : AreStacked marks (length states) (length links) (length saved) capacity) where
  pub past_edge : (more : List Link) → past_of marks saved states caps (links ++ more) ≡ past_of marks saved states caps links
  past_edge more = map_same (core_at saved states caps (links ++ more)) (core_at saved states caps links) marks (λ k m g.
      same_core _ _ _ _ _ _ refl refl (take-append-le m.edges links more (s.edges_below k m g)))

  pub past_point : (state : PointState) (cap : ℕ) → length caps ≡ length states → past_of marks saved (states ++ state ∷ []) (caps ++ cap ∷ []) links ≡ past_of marks saved states caps links
  past_point state cap n = map_same (core_at saved (states ++ state ∷ []) (caps ++ cap ∷ []) links) (core_at saved states caps links) marks (λ k m g.
      let b = s.points_below k m g in
      same_core _ _ _ _ _ _ (ap (restored (drop m.saved saved)) (take-append-le m.points states (state ∷ []) b)) (take-append-le m.points caps (cap ∷ []) (omega arith)) refl)

  pub past_marked : (m : LiveMark) → m.points ≡ length states → m.edges ≡ length links → m.saved ≡ length saved → length caps ≡ length states
      → past_of (marks ++ m ∷ []) saved states caps links ≡ past_of marks saved states caps links ++ record { states = states; caps = caps; links = links } ∷ []
  past_marked m mp me ms n =
      let new : core_at saved states caps links m ≡ record { states = states; caps = caps; links = links } =
      same_core _ _ _ _ _ _ (ap (λ ss. restored ss (take m.points states)) (drop_all m.saved saved (omega arith)) ∙ take_all m.points states (omega arith)) (take_all m.points caps (omega arith)) (take_all m.edges links (omega arith)) in
      map-append (core_at saved states caps links) marks (m ∷ []) ∙ ap (λ n. past_of marks saved states caps links ++ n ∷ []) new

  -- back to a mark
  pub past_undone : (k : ℕ) (m : LiveMark) → slice_get marks k ≡ Some m
      → past_of (take k marks) (take m.saved saved) (restored (drop m.saved saved) (take m.points states)) (take m.points caps) (take m.edges links) ≡ take k (past_of marks saved states caps links)
  past_undone k m at =
      map_same (core_at (take m.saved saved) (restored (drop m.saved saved) (take m.points states)) (take m.points caps) (take m.edges links)) (core_at saved states caps links) (take k marks) (λ j n g.
      let t = slice_get_take k marks j n g in
      let ps = s.points_rise j k n m t.0 t.1 at in
      let ss = s.saved_rise j k n m t.0 t.1 at in
      let b = s.saved_below k m at in
      let parts : drop n.saved saved ≡ drop n.saved (take m.saved saved) ++ drop m.saved saved =
      ap (drop n.saved) (sym (take-append-drop m.saved saved)) ∙ drop-append-le n.saved (take m.saved saved) (drop m.saved saved) (omega (arith, length-take-le m.saved saved b)) in
      same_core _ _ _ _ _ _
      (ap (restored (drop n.saved (take m.saved saved))) (take-restored n.points (drop m.saved saved) (take m.points states) ∙ ap (restored (drop m.saved saved)) (take-take n.points m.points states ps))
      ∙ sym (restored-append (drop n.saved (take m.saved saved)) (drop m.saved saved) (take n.points states)) ∙ ap (λ xs. restored xs (take n.points states)) (sym parts))
      (take-take n.points m.points caps ps)
      (take-take n.edges m.edges links (s.edges_rise j k n m t.0 t.1 at)))
      ∙ sym (take-map (core_at saved states caps links) k marks)

-- what was saved up to a place that no mark is behind is the same, and what was saved since leads back through a change
pub past_kept : (marks : List LiveMark) (saved : List SavedState) (states : List PointState) (caps : List ℕ) (links : List Link) (saved' noted : List SavedState) (from : ℕ) → ((k : ℕ) (m : LiveMark) → slice_get marks k ≡ Some m → m.saved ≤ from) → from ≤ length saved → take from saved' ≡ take from saved
    → ((xs : List PointState) → restored (drop from saved') xs ≡ restored (drop from saved) (restored noted xs))
    → past_of marks saved' states caps links ≡ past_of marks saved (restored noted states) caps links
past_kept marks saved states caps links saved' noted from below within same back =
    map_same (core_at saved' states caps links) (core_at saved (restored noted states) caps links) marks (λ k m g.
    let b = below k m g in
    let l = length-take-le from saved within in
    let parts : (xs : List SavedState) → take from xs ≡ take from saved → drop m.saved xs ≡ drop m.saved (take from saved) ++ drop from xs = (λ xs e.
    ap (drop m.saved) (sym (take-append-drop from xs)) ∙ ap (λ (ys : List SavedState). drop m.saved (ys ++ drop from xs)) e ∙ drop-append-le m.saved (take from saved) (drop from xs) (omega arith)) in
    same_core _ _ _ _ _ _
    (ap (λ (ss : List SavedState). restored ss (take m.points states)) (parts saved' same)
    ∙ restored-append (drop m.saved (take from saved)) (drop from saved') (take m.points states)
    ∙ ap (restored (drop m.saved (take from saved))) (back (take m.points states) ∙ ap (restored (drop from saved)) (sym (take-restored m.points noted states)))
    ∙ sym (restored-append (drop m.saved (take from saved)) (drop from saved) (take m.points (restored noted states)))
    ∙ ap (λ (ss : List SavedState). restored ss (take m.points (restored noted states))) (sym (parts saved refl)))
    refl refl)
