use Rattle.std.proofs.Common.{arith, ◌≡◌, ℕ, List, [], ◌∷◌, ◌++◌, length, take, ap, subst, sym, refl, ◌∙◌, ◌+◌}
use Rattle.std.specs.Vec.{with_items}
use Rattle.std.proofs.lemmas.List.{length-append, map-append, take_at}
use Rattle.tp_stn_undo.specs.declared.point_state.PointState.{PointState}
use Rattle.tp_base.specs.Net.{with_point, with_edges}
use Rattle.tp_base.specs.Kept.{net_of, KeptRefutes}
use Rattle.tp_base.proofs.LeastFacts.{mut_items}
use Rattle.tp_base.proofs.RisenFacts.{kept_refutes}
use Rattle.tp_stn_undo.specs.declared.live_net.LiveNet.TheInside.{Inside}
use Rattle.tp_stn_undo.specs.States.{net_of_core, edges_of, lows_of}
use Rattle.tp_stn_undo.specs.Marks.{AreLinks, nets_of}
use Rattle.tp_stn_undo.specs.Live.{core_in}
use Rattle.tp_stn_undo.specs.LiveState.{LiveState}
use Rattle.tp_stn_undo.specs.AddedEdges.{Adds, new_state}
use Rattle.tp_stn_undo.proofs.RaiseFacts.{lows_len}
use Rattle.tp_stn_undo.proofs.SoundFacts.{links_len}
use Rattle.tp_stn_undo.proofs.LinkedFacts.{same_links}
use Rattle.tp_stn_undo.proofs.ChangeFacts.{stack_of, can_save, stack_by, past_by}
use Rattle.tp_stn_undo.proofs.AddFacts.{linked_len, points_cut, linked_edges}
use Rattle.tp_stn_undo.proofs.ChangedFacts.{IsChanged, HoldsTogether, point_pushed, changed_live, changed_past, added_holds}
use Rattle.tp_base.specs.Refute.{IsLateChain}
use Rattle.tp_base.specs.Grows.{IsKnown}
use Rattle.std.specs.List.{All}
use Rattle.tp_base.proofs.RefuteFacts.{chain_refutes}
use Rattle.tp_stn_undo.proofs.LateFacts.{late_point, same_net}
use Rattle.tp_stn_undo.proofs.network.LiveNetNetwork.extend.Goals as goal
use Rattle.tp_stn_undo.proofs.network.LiveNetNetwork.extend.Goals.{After-self-1, After-push_point, In-Ok, In-Err, After-save_changes, After-kept-in-Err-1}

-- the points and the upper bounds, with the new one
abbrev states1 : After-push_point → List PointState
states1 c = c.self.inside.states.items ++ new_state c.args.low ∷ []

abbrev caps1 : After-push_point → List ℕ
caps1 c = c.self.inside.caps.items ++ c.args.cap ∷ []

abbrev heads1 : After-push_point → List ℕ
heads1 c = c.self.inside.heads.items ++ 0 ∷ []

pushed : (c : After-push_point) → HoldsTogether c.self.inside (states1 c) (caps1 c) c.self.inside.links.items (heads1 c) c.self.inside.working.changes.older
pushed c =
    let v = ap (λ (s : LiveState). length s.net.lows) c.self.view_is in
    let r = ap (λ (s : LiveState). s.max_points) c.self.view_is in
    let n = lows_len c.self.inside.states.items in
    let q = c.requires.capacity in
    let f = c.if-low-cap.false in
    point_pushed c.self.inside c.self.invariant c.args.low c.args.cap (omega arith) (omega arith)

pub add_edges-requires-clause-ready : goal.add_edges-requires-clause-ready
add_edges-requires-clause-ready c =
    let k = (goal.at.add_edges-requires-clause-ready c).After-push_point in
    let a = c.self.inside in
    let inv = c.self.invariant in
    let h = pushed k in
    let p = h.points in
    let r = inv.capacity.working in
    let w = inv.capacity.narrow in
    let r1 = r.waits in
    let r2 = r.noted in
    let r3 = r.path in
    let r4 = r.places in
    rw (c.deref.ensures.value ∙ c.push_point.ensures.caps, c.deref_mut.ensures.value ∙ c.push_point.ensures.heads, c.deref_mut-2.ensures.value ∙ c.push_point.ensures.states) (record {
      sound = h.sound;
      linked = h.linked;
      small = omega arith;
      capacity = record { waits = omega arith; noted = omega arith; path = omega arith; places = omega arith };
      idle = inv.rest.idle;
      none = inv.rest.none;
      zeros = inv.rest.zeros;
    })

added : (c : In-Ok) → Adds c.args.edges.now (c.self.inside.caps.items ++ c.args.cap ∷ []) c.self.inside.links.items c.add_edges.new.links.items (c.self.inside.states.items ++ new_state c.args.low ∷ []) c.add_edges.new.states c.add_edges.new.working.changes.entries
added c = rw (c.deref.ensures.value ∙ c.push_point.ensures.caps, c.deref_mut-2.ensures.value ∙ c.push_point.ensures.states) at c.in-Ok.ensures.added

abbrev after : After-save_changes → Inside
after c = record {
  max_points = c.self.inside.max_points;
  max_edges = c.self.inside.max_edges;
  max_marks = c.self.inside.max_marks;
  states = with_items c.push_point.new.states c.add_edges.new.states;
  caps = c.push_point.new.caps;
  links = c.add_edges.new.links;
  heads = with_items c.push_point.new.heads c.add_edges.new.heads;
  working = record { waiting = c.add_edges.new.working.waiting; changes = c.save_changes.new.changes; path = c.add_edges.new.working.path; places = c.add_edges.new.working.places };
  kept = c.self.inside.kept;
  marks = c.self.inside.marks;
}

changed : (c : After-save_changes) → IsChanged c.self.inside (after c) c.add_edges.new.states (c.self.inside.caps.items ++ c.args.cap ∷ []) c.add_edges.new.links.items c.add_edges.new.heads
changed c =
    let p = c.push_point.new in
    let q = c.push_point.ensures in
    let e = c.add_edges.ensures in
    let s = c.save_changes.ensures in
    record {
      states = mut_items p.states.len c.add_edges.new.states _ (c.add_edges.auto.states ∙ ap length c.deref_mut-2.ensures.value ∙ sym p.states.ok.0);
      caps = q.caps;
      links = refl;
      heads = mut_items p.heads.len c.add_edges.new.heads _ (c.add_edges.auto.heads ∙ ap length c.deref_mut.ensures.value ∙ sym p.heads.ok.0);
      marks = refl;
      points_same = refl;
      edges_same = refl;
      marks_same = refl;
      states_capacity = q.states_kept;
      caps_capacity = q.caps_kept;
      links_capacity = e.capacity;
      heads_capacity = q.heads_kept;
      marks_capacity = refl;
      waits = e.sizes.waits;
      noted = s.capacity ∙ e.sizes.noted.capacity;
      most = s.most ∙ e.sizes.noted.most;
      path = e.sizes.path;
      places = e.sizes.places;
      rest = record { idle = e.quiet.idle; none = e.quiet.none; unchanged = s.none; zeros = e.zeros };
    }

holds : (c : After-save_changes) → HoldsTogether c.self.inside c.add_edges.new.states (c.self.inside.caps.items ++ c.args.cap ∷ []) c.add_edges.new.links.items c.add_edges.new.heads c.save_changes.new.changes.older
holds c =
    let a = c.self.inside in
    let k = (goal.at.invariant_of-self-in-Ok c).After-push_point in
    let ad = added (goal.at.invariant_of-self-in-Ok c).In-Ok in
    let n = linked_len a.links.items c.add_edges.new.links.items c.args.edges.now ad.linked in
    let v = ap (λ (s : LiveState). length s.net.edges) c.self.view_is in
    let r = ap (λ (s : LiveState). s.max_edges) c.self.view_is in
    let l = links_len a.links.items in
    let q = c.requires.spare in
    added_holds a c.self.invariant (states1 k) c.add_edges.new.states (caps1 k) c.add_edges.new.links.items (heads1 k) c.args.edges.now c.add_edges.new.working.changes.entries c.save_changes.new.changes.older
    (pushed k) ad (omega arith) c.add_edges.new.heads (rw (c.deref_mut-2.ensures.value ∙ c.push_point.ensures.states) at c.add_edges.ensures.linked) (stack_by a.marks.items _ a.working.changes c.add_edges.new.working.changes c.save_changes.new.changes.older c.deref-in-Ok.ensures.value c.add_edges.ensures.sizes.noted c.save_changes.ensures.stack) (past_by a.marks.items _ a.working.changes c.add_edges.new.working.changes c.save_changes.new.changes.older c.deref-in-Ok.ensures.value c.add_edges.ensures.sizes.noted c.save_changes.ensures.past)

pub save_changes-requires : goal.save_changes-requires
save_changes-requires c =
    let a = c.self.inside in
    let k = (goal.at.save_changes-requires c).After-push_point in
    let h = pushed k in
    record { ready = rw c.deref-in-Ok.ensures.value (can_save a c.self.invariant c.add_edges.new.working.changes (length (states1 k)) (length a.links.items) c.add_edges.ensures.sizes.noted h.points h.stack (added (goal.at.save_changes-requires c).In-Ok).known) }

pub invariant_of-self-in-Ok : goal.invariant_of-self-in-Ok
invariant_of-self-in-Ok c = changed_live c.self.inside c.self.invariant (after c) c.add_edges.new.states (c.self.inside.caps.items ++ c.args.cap ∷ []) c.add_edges.new.links.items c.add_edges.new.heads (changed c) (holds c)

pub returns-in-Ok-clause-solved : goal.returns-in-Ok-clause-solved
returns-in-Ok-clause-solved c = (_, (invariant_of-self-in-Ok c).sound.least)

pub returns-in-Ok-clause-past : goal.returns-in-Ok-clause-past
returns-in-Ok-clause-past c = ap nets_of (changed_past c.self.inside c.self.invariant (after c) c.add_edges.new.states (c.self.inside.caps.items ++ c.args.cap ∷ []) c.add_edges.new.links.items c.add_edges.new.heads (changed c) (holds c)) ∙ ap (λ (s : LiveState). s.past) c.self.view_is

-- what the lists are once the change is taken back
abbrev undone : After-kept-in-Err-1 → Inside
undone c = record {
  max_points = c.self.inside.max_points;
  max_edges = c.self.inside.max_edges;
  max_marks = c.self.inside.max_marks;
  states = c.truncate.new.self;
  caps = c.truncate-in-Err.new.self;
  links = c.add_edges.new.links;
  heads = c.truncate-in-Err-2.new.self;
  working = c.add_edges.new.working;
  kept = c.in-Err.kept;
  marks = c.self.inside.marks;
}

undone_changed : (c : After-kept-in-Err-1) → IsChanged c.self.inside (undone c) c.self.inside.states.items c.self.inside.caps.items c.self.inside.links.items (take (length c.self.inside.states.items) c.add_edges.new.heads)
undone_changed c =
    let a = c.self.inside in
    let inv = c.self.invariant in
    let p = c.push_point.new in
    let q = c.push_point.ensures in
    let e = c.add_edges.ensures in
    let f = c.in-Err.ensures in
    let count : c.len-count.result ≡ length a.states.items = omega (arith, c.len-count.ensures, a.states.ok.0) in
    let nc : length a.caps.items ≡ c.len-count.result = omega (arith, count, inv.sound.caps) in
    let states = mut_items p.states.len c.add_edges.new.states _ (c.add_edges.auto.states ∙ ap length c.deref_mut-2.ensures.value ∙ sym p.states.ok.0) ∙ f.taken_back.same_states ∙ c.deref_mut-2.ensures.value ∙ q.states in
    let heads = mut_items p.heads.len c.add_edges.new.heads _ (c.add_edges.auto.heads ∙ ap length c.deref_mut.ensures.value ∙ sym p.heads.ok.0) in
    record {
      states = c.truncate.ensures.items ∙ ap (take c.len-count.result) states ∙ take_at a.states.items (new_state c.args.low ∷ []) c.len-count.result (sym count);
      caps = c.truncate-in-Err.ensures.items ∙ ap (take c.len-count.result) q.caps ∙ take_at a.caps.items (c.args.cap ∷ []) c.len-count.result nc;
      links = f.taken_back.same_links;
      heads = c.truncate-in-Err-2.ensures.items ∙ ap (take c.len-count.result) heads ∙ ap (λ i. take i c.add_edges.new.heads) count;
      marks = refl;
      points_same = refl;
      edges_same = refl;
      marks_same = refl;
      states_capacity = c.truncate.ensures.capacity ∙ q.states_kept;
      caps_capacity = c.truncate-in-Err.ensures.capacity ∙ q.caps_kept;
      links_capacity = e.capacity;
      heads_capacity = c.truncate-in-Err-2.ensures.capacity ∙ q.heads_kept;
      marks_capacity = refl;
      waits = e.sizes.waits;
      noted = e.sizes.noted.capacity;
      most = e.sizes.noted.most;
      path = e.sizes.path;
      places = e.sizes.places;
      rest = record { idle = e.quiet.idle; none = e.quiet.none; unchanged = f.taken_back.none; zeros = e.zeros };
    }

undone_holds : (c : After-kept-in-Err-1) → HoldsTogether c.self.inside c.self.inside.states.items c.self.inside.caps.items c.self.inside.links.items (take (length c.self.inside.states.items) c.add_edges.new.heads) c.add_edges.new.working.changes.older
undone_holds c =
    let a = c.self.inside in
    let inv = c.self.invariant in
    let q = c.push_point.ensures in
    let e = c.add_edges.ensures in
    let f = c.in-Err.ensures in
    let points = length-append a.states.items (new_state c.args.low ∷ []) in
    let linked : AreLinks a.links.items c.add_edges.new.heads (length (a.states.items ++ new_state c.args.low ∷ [])) = same_links _ _ _ _ _ _ (sym f.taken_back.same_links) refl (sym (ap length (c.deref_mut-2.ensures.value ∙ q.states))) e.linked in
    subst (HoldsTogether a a.states.items a.caps.items a.links.items (take (length a.states.items) c.add_edges.new.heads)) (sym e.sizes.noted.older) (record {
      points = inv.points;
      edges = inv.edges;
      stack = stack_of a inv (length a.links.items) (omega arith);
      past = refl;
      linked = points_cut a.links.items c.add_edges.new.heads (length (a.states.items ++ new_state c.args.low ∷ [])) (length a.states.items) (omega arith) linked;
      sound = inv.sound;
    })

pub invariant_of-self-in-Err : goal.invariant_of-self-in-Err
invariant_of-self-in-Err c = changed_live c.self.inside c.self.invariant (undone c) _ _ _ _ (undone_changed c) (undone_holds c)

pub returns-in-Err-clause-kept : goal.returns-in-Err-clause-kept
returns-in-Err-clause-kept c =
    let h = undone_changed c in
    same_net _ _ _ _ _ _ (ap lows_of h.states) h.caps (ap edges_of h.links) ∙ ap (λ (s : LiveState). s.net) c.self.view_is

pub returns-in-Err-clause-past : goal.returns-in-Err-clause-past
returns-in-Err-clause-past c = ap nets_of (changed_past c.self.inside c.self.invariant (undone c) _ _ _ _ (undone_changed c) (undone_holds c)) ∙ ap (λ (s : LiveState). s.past) c.self.view_is

refuted : (c : In-Err) → KeptRefutes (with_edges (with_point (net_of_core (core_in c.self.inside)) c.args.low c.args.cap) c.args.edges.now) c.in-Err.kept c.add_edges.new.working.path.items
refuted c =
    let a = c.self.inside in
    let q = c.push_point.ensures in
    subst (λ (ls : List ℕ). KeptRefutes (net_of ls (a.caps.items ++ c.args.cap ∷ []) (edges_of a.links.items ++ c.args.edges.now)) c.in-Err.kept c.add_edges.new.working.path.items) (map-append (λ (s : PointState). s.low) a.states.items (new_state c.args.low ∷ []))
    (rw (c.deref.ensures.value ∙ q.caps, c.deref_mut-2.ensures.value ∙ q.states) at c.in-Err.ensures.refuted)

pub returns-in-Err-clause-refused : goal.returns-in-Err-clause-refused
returns-in-Err-clause-refused c =
    subst (λ (s : LiveState). KeptRefutes (with_edges (with_point s.net c.args.low c.args.cap) c.args.edges.now) c.in-Err.kept c.add_edges.new.working.path.items) c.self.view_is (refuted (goal.at.returns-in-Err-clause-refused c).In-Err)

pub returns-in-Err-clause-late : goal.returns-in-Err-clause-late
returns-in-Err-clause-late c = kept_refutes _ c.in-Err.kept c.add_edges.new.working.path.items (subst (λ (s : LiveState). KeptRefutes (with_edges (with_point s.net c.args.low c.args.cap) c.args.edges.now) c.in-Err.kept c.add_edges.new.working.path.items) c.self.view_is (refuted (goal.at.returns-in-Err-clause-late c).In-Err))

-- the new point shows that there is no solution
late : (c : After-self-1) → IsLateChain (with_edges (with_point c.args.self.now.net c.args.low c.args.cap) c.args.edges.now) c.len-count.result []
late c =
    let a = c.self.inside in
    let h = c.if-low-cap.true in
    let caps = ap (λ (s : LiveState). length s.net.caps) c.self.view_is in
    let lows = ap (λ (s : LiveState). length s.net.lows) c.self.view_is in
    let same = c.self.invariant.sound.caps in
    let n = lows_len a.states.items in
    late_point c.args.self.now.net c.args.low c.args.cap c.args.edges.now c.len-count.result (omega arith) (omega (arith, c.len-count.ensures, a.states.ok.0)) h

pub returns-then-low-cap-clause-refused : goal.returns-then-low-cap-clause-refused
returns-then-low-cap-clause-refused c = rw c.clear.ensures.items (late c)

pub returns-then-low-cap-clause-late : goal.returns-then-low-cap-clause-late
returns-then-low-cap-clause-late c = chain_refutes (with_edges (with_point c.args.self.now.net c.args.low c.args.cap) c.args.edges.now) c.len-count.result [] (late c)

pub push_point-requires-clause-states_capacity : goal.push_point-requires-clause-states_capacity
push_point-requires-clause-states_capacity c =
    let v = ap (λ (s : LiveState). length s.net.lows) c.self.view_is in
    let r = ap (λ (s : LiveState). s.max_points) c.self.view_is in
    let n = lows_len c.self.inside.states.items in
    let q = c.requires.capacity in
    let k = c.self.invariant.capacity.states in
    omega arith

pub push_point-requires-clause-caps_capacity : goal.push_point-requires-clause-caps_capacity
push_point-requires-clause-caps_capacity c =
    let v = ap (λ (s : LiveState). length s.net.caps) c.self.view_is in
    let w = ap (λ (s : LiveState). length s.net.lows) c.self.view_is in
    let r = ap (λ (s : LiveState). s.max_points) c.self.view_is in
    let n = lows_len c.self.inside.states.items in
    let same = c.self.invariant.sound.caps in
    let q = c.requires.capacity in
    let k = c.self.invariant.capacity.caps in
    omega arith

pub push_point-requires-clause-heads_capacity : goal.push_point-requires-clause-heads_capacity
push_point-requires-clause-heads_capacity c =
    let v = ap (λ (s : LiveState). length s.net.lows) c.self.view_is in
    let r = ap (λ (s : LiveState). s.max_points) c.self.view_is in
    let n = lows_len c.self.inside.states.items in
    let same = c.self.invariant.linked.len in
    let q = c.requires.capacity in
    let k = c.self.invariant.capacity.heads in
    omega arith

pub add_edges-requires-clause-known : goal.add_edges-requires-clause-known
add_edges-requires-clause-known c =
    let a = c.self.inside in
    let v = ap (λ (s : LiveState). length s.net.lows) c.self.view_is in
    let n = lows_len a.states.items in
    let l = length-append a.states.items (new_state c.args.low ∷ []) in
    let d = ap length (c.deref_mut-2.ensures.value ∙ c.push_point.ensures.states) in
    let e : length c.args.self.now.net.lows + 1 ≡ length c.deref_mut-2.result.now = omega arith in
    subst (λ n. All (IsKnown n) c.args.edges.now) e c.requires.known

pub returns-in-Ok-clause-added : goal.returns-in-Ok-clause-added
returns-in-Ok-clause-added c =
    let a = c.self.inside in
    let d = added (goal.at.returns-in-Ok-clause-added c).In-Ok in
    let h = changed c in
    same_net _ _ _ _ _ _ (ap lows_of h.states ∙ d.lows ∙ map-append (λ (s : PointState). s.low) a.states.items (new_state c.args.low ∷ [])) h.caps (linked_edges a.links.items c.add_edges.new.links.items c.args.edges.now d.linked)
    ∙ ap (λ (s : LiveState). with_edges (with_point s.net c.args.low c.args.cap) c.args.edges.now) c.self.view_is

pub add_edges-requires-clause-room : goal.add_edges-requires-clause-room
add_edges-requires-clause-room c =
    let v = ap (λ (s : LiveState). length s.net.edges) c.self.view_is in
    let r = ap (λ (s : LiveState). s.max_edges) c.self.view_is in
    let n = links_len c.self.inside.links.items in
    let q = c.requires.spare in
    let k = c.self.invariant.capacity.links in
    let g = c.self.ranges in
    record { fits = omega arith; few = omega arith }
