use Rattle.std.proofs.Common.{arith, ◌≡◌, ◌≤◌, ◌∙◌, ◌-◌, ◌++◌, length, take, drop, ap, sym, subst, Some, ℕ, List}
use Rattle.std.proofs.lemmas.Option.{get_or_from_slice_get}
use Rattle.std.specs.List.{slice_get}
use Rattle.tp_base.proofs.LeastFacts.{mut_items}
use Rattle.tp_stn_undo.specs.declared.marks.LiveMark.{LiveMark}
use Rattle.tp_stn_undo.specs.Saved.{restored, relinked}
use Rattle.tp_base.proofs.SliceFacts.{found}
use Rattle.tp_stn_undo.proofs.SavedFacts.{take-restored}
use Rattle.tp_stn_undo.proofs.NoteFacts.{known_all}
use Rattle.tp_stn_undo.specs.declared.point_state.PointState.{PointState}
use Rattle.tp_stn_undo.specs.declared.point_state.SavedState.{SavedState}
use Rattle.tp_stn_undo.specs.declared.link.Link.{Link}
use Rattle.tp_stn_undo.specs.Restored.{Lists}
use Rattle.tp_stn_undo.proofs.undo.restore.Goals as goal
use Rattle.tp_stn_undo.proofs.undo.restore.Goals.{After-index-at}

place_is : (c : After-index-at) → c.len-place.result - 1 ≡ length c.args.marks.now.items - 1
place_is c = omega (arith, c.len-place.ensures, c.args.marks.now.ok.0)

mark_at : (c : After-index-at) (m : LiveMark) → slice_get c.args.marks.now.items (c.len-place.result - 1) ≡ Some m → c.index-at.result.now ≡ m
mark_at c m g = c.index-at.ensures ∙ get_or_from_slice_get c.args.marks.now.items (c.len-place.result - 1) m c.index-at.result.now g

mark_is : (c : After-index-at) (m : LiveMark) → slice_get c.args.marks.now.items (length c.args.marks.now.items - 1) ≡ Some m → c.index-at.result.now ≡ m
mark_is c m g = mark_at c m (ap (slice_get c.args.marks.now.items) (place_is c) ∙ g)

-- what the marks stand on, at the one that is gone back to
below : (c : After-index-at) → c.index-at.result.now.saved ≤ length c.args.changes.now.older
below c =
    let st = c.requires.stack in
    let some = c.requires.newest.some in
    let p = place_is c in
    let f = found c.args.marks.now.items (c.len-place.result - 1) (omega arith) in
    let is = mark_at c f.0 f.1 in
    let b = st.2.stacked.saved_below (c.len-place.result - 1) f.0 f.1 in
    rw is b

pub back_to-requires-clause-to : goal.back_to-requires-clause-to
back_to-requires-clause-to c = below (goal.at.back_to-requires-clause-to c).After-index-at

pub back_to-requires-clause-known : goal.back_to-requires-clause-known
back_to-requires-clause-known c = rw c.deref_mut.ensures.value (known_all c.args.changes.now.older (length c.args.states.now.items) c.requires.stack.2.kept.known)

abbrev lists_of : List PointState → List ℕ → List Link → List ℕ → List SavedState → Lists
lists_of states caps links heads saved = record { states = states; caps = caps; links = links; heads = heads; saved = saved }

-- lists with the same parts
same_lists : (states states' : List PointState) (caps caps' : List ℕ) (links links' : List Link) (heads heads' : List ℕ) (saved saved' : List SavedState) → states ≡ states' → caps ≡ caps' → links ≡ links' → heads ≡ heads' → saved ≡ saved'
    → lists_of states caps links heads saved ≡ lists_of states' caps' links' heads' saved'
same_lists states states' caps caps' links links' heads heads' saved saved' s c l h o =
    ap (λ (x : List PointState). lists_of x caps links heads saved) s
    ∙ ap (λ (x : List ℕ). lists_of states' x links heads saved) c
    ∙ ap (λ (x : List Link). lists_of states' caps' x heads saved) l
    ∙ ap (λ (x : List ℕ). lists_of states' caps' links' x saved) h
    ∙ ap (lists_of states' caps' links' heads') o

pub returns-clause-back : goal.returns-clause-back
returns-clause-back c = λ m g.
    let is = mark_is (goal.at.returns-clause-back c).After-index-at m g in
    same_lists _ _ _ _ _ _ _ _ _ _
    (subst (λ (x : LiveMark). c.truncate.new.self.items ≡ restored (drop x.saved c.args.changes.now.older) (take x.points c.args.states.now.items)) is (c.truncate.ensures.items ∙ ap (take c.index-at.result.now.points) (mut_items c.args.states.now.len c.back_to.new.states c.args.states.now.items (c.back_to.auto.states ∙ ap length c.deref_mut.ensures.value ∙ sym c.args.states.now.ok.0) ∙ c.back_to.ensures.states ∙ ap (restored (drop c.index-at.result.now.saved c.args.changes.now.older)) c.deref_mut.ensures.value) ∙ take-restored c.index-at.result.now.points (drop c.index-at.result.now.saved c.args.changes.now.older) c.args.states.now.items))
    (subst (λ (x : LiveMark). c.truncate-3.new.self.items ≡ take x.points c.args.caps.now.items) is (c.truncate-3.ensures.items))
    (subst (λ (x : LiveMark). c.unlink.new.links.items ≡ take x.edges c.args.links.now.items) is (c.unlink.ensures.links))
    (subst (λ (x : LiveMark). take c.truncate-2.new.self.len (c.unlink.new.heads ++ drop (length c.unlink.new.heads) c.truncate-2.new.self.items) ≡ relinked (drop x.edges c.args.links.now.items) (take x.points c.args.heads.now.items)) is (mut_items c.truncate-2.new.self.len c.unlink.new.heads c.truncate-2.new.self.items (c.unlink.auto.heads ∙ ap length c.deref_mut-2.ensures.value ∙ sym c.truncate-2.new.self.ok.0) ∙ c.unlink.ensures.heads ∙ ap (relinked (drop c.index-at.result.now.edges c.args.links.now.items)) (c.deref_mut-2.ensures.value ∙ c.truncate-2.ensures.items)))
    (subst (λ (x : LiveMark). c.back_to.new.self.older ≡ take x.saved c.args.changes.now.older) is (c.back_to.ensures.older))
