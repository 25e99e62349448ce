use Rattle.std.proofs.Common.{arith, ℕ, ◌≡◌, ◌<◌, ◌≤◌, List, [], length, ap, subst, sym, ◌∙◌, slice_index, set, refl}
use Rattle.std.proofs.lemmas.List.{get_or_read, length-map, length-set, nil_from_length}
use Rattle.std.proofs.lemmas.List.Elements.{All-nil}
use Rattle.std.specs.List.{All}
use Rattle.tp_base.specs.Net.{IsEarliest, IsLeast, with_bounds_at}
use Rattle.tp_base.specs.Kept.{net_of}
use Rattle.tp_stn_undo.specs.declared.marks.LiveMark.{LiveMark}
use Rattle.tp_stn_undo.specs.declared.point_state.PointState.{PointState}
use Rattle.tp_stn_undo.specs.Live.{core_in, past_in}
use Rattle.tp_stn_undo.specs.LiveState.{LiveState}
use Rattle.tp_stn_undo.specs.Marks.{core_at, nets_of, past_of}
use Rattle.tp_stn_undo.specs.States.{IsSound, edges_of, lows_of, net_of_core, times_of}
use Rattle.tp_stn_undo.proofs.BoundFacts.{least_moved, lowered, lows_lowered, sound_moved}
use Rattle.tp_stn_undo.proofs.CauseFacts.{no_state}
use Rattle.tp_stn_undo.proofs.RaiseFacts.{lows_len}
use Rattle.tp_stn_undo.proofs.network.LiveNetNetwork.set_bounds.Goals as goal
use Rattle.tp_stn_undo.proofs.network.LiveNetNetwork.set_bounds.Goals.{After-index_mut-2}

none : (c : After-index_mut-2) → c.self.inside.marks.items ≡ []
none c =
    let a = c.self.inside in
    let v = ap (λ (s : LiveState). length s.past) c.self.view_is in
    let l = length-map a.marks.items (core_at a.working.changes.older a.states.items a.caps.items a.links.items) in
    let m = length-map (past_in a) net_of_core in
    let e = ap length c.requires.unmarked in
    nil_from_length a.marks.items (omega arith)

known : (c : After-index_mut-2) → c.args.point.0 < length c.self.inside.states.items
known c =
    let v = ap (λ (s : LiveState). length s.net.lows) c.self.view_is in
    let n = lows_len c.self.inside.states.items in
    let k = c.requires.known in
    omega arith

more : (c : After-index_mut-2) → slice_index (lows_of c.self.inside.states.items) c.args.point.0 ≤ c.args.low
more c = subst (λ (s : LiveState). slice_index s.net.lows c.args.point.0 ≤ c.args.low) (sym c.self.view_is) c.requires.more

around : (c : After-index_mut-2) (x : ℕ → ℕ) → IsLeast (net_of_core (core_in c.self.inside)) x → (c.args.low ≤ x c.args.point.0) × (x c.args.point.0 ≤ c.args.cap)
around c x is =
    let p = c.args.point.0 in
    c.requires.around (x p) (subst (λ (s : LiveState). IsEarliest s.net p (x p)) c.self.view_is (x, is, refl))

-- the point as it was read
abbrev after : After-index_mut-2 → List PointState
after c = set c.self.inside.states.items c.args.point.0 (record { low = c.args.low; time = c.index-state.result.now.time; cause = c.index-state.result.now.cause })

read : (c : After-index_mut-2) → lowered c.self.inside.states.items c.args.point.0 c.args.low ≡ after c
read c =
    let state = get_or_read c.self.inside.states.items c.args.point.0 c.index-state.result.now (known c) c.index-state.ensures no_state in
    ap (λ (s : PointState). set c.self.inside.states.items c.args.point.0 (record { low = c.args.low; time = s.time; cause = s.cause })) (sym state)

pub returns-clause-moved : goal.returns-clause-moved
returns-clause-moved c =
    let k = (goal.at.returns-clause-moved c).After-index_mut-2 in
    let a = c.self.inside in
    let p = c.args.point.0 in
    let lows : lows_of (after k) ≡ set (lows_of a.states.items) p c.args.low = ap lows_of (sym (read k)) ∙ lows_lowered a.states.items p c.args.low in
    ap (λ (ls : List ℕ). net_of ls (set a.caps.items p c.args.cap) (edges_of a.links.items)) lows
    ∙ ap (λ (s : LiveState). with_bounds_at s.net p c.args.low c.args.cap) c.self.view_is

pub returns-clause-same_least : goal.returns-clause-same_least
returns-clause-same_least c x is =
    let k = (goal.at.returns-clause-same_least c).After-index_mut-2 in
    let a = c.self.inside in
    let inside = subst (λ (s : LiveState). IsLeast s.net x) (sym c.self.view_is) is in
    let b = around k x inside in
    subst (λ (ss : List PointState). IsLeast (net_of (lows_of ss) (set a.caps.items c.args.point.0 c.args.cap) (edges_of a.links.items)) x) (read k)
    (least_moved a.states.items a.caps.items a.links.items c.args.point.0 c.args.low c.args.cap x c.self.invariant.sound.caps (known k) (more k) b.0 b.1 inside)

pub returns-clause-past : goal.returns-clause-past
returns-clause-past c =
    let k = (goal.at.returns-clause-past c).After-index_mut-2 in
    let a = c.self.inside in
    ap (λ (ms : List LiveMark). nets_of (past_of ms a.working.changes.older (after k) (set a.caps.items c.args.point.0 c.args.cap) a.links.items)) (none k)

pub invariant_of-self : goal.invariant_of-self
invariant_of-self c =
    let k = (goal.at.invariant_of-self c).After-index_mut-2 in
    let a = c.self.inside in
    let inv = c.self.invariant in
    let p = c.args.point.0 in
    let n : length (after k) ≡ length a.states.items = length-set a.states.items p (record { low = c.args.low; time = c.index-state.result.now.time; cause = c.index-state.result.now.cause }) in
    let b = around k (slice_index (times_of a.states.items)) inv.sound.least in
    let q = inv.points in
    record {
      points = omega arith;
      edges = inv.edges;
      marks = inv.marks;
      saved = inv.saved;
      capacity = record {
        states = inv.capacity.states;
        caps = inv.capacity.caps;
        links = inv.capacity.links;
        heads = inv.capacity.heads;
        working = inv.capacity.working;
        saved = inv.capacity.saved;
        marks = inv.capacity.marks;
        narrow = inv.capacity.narrow;
      };
      rest = inv.rest;
      stacked = rw n inv.stacked;
      kept = rw n inv.kept;
      linked = rw n inv.linked;
      sound = subst (λ (ss : List PointState). IsSound (record { states = ss; caps = set a.caps.items p c.args.cap; links = a.links.items })) (read k)
          (sound_moved a.states.items a.caps.items a.links.items p c.args.low c.args.cap inv.sound (known k) (more k) b.0 b.1);
      past = subst (λ (ms : List LiveMark). All IsSound (past_of ms a.working.changes.older (after k) (set a.caps.items p c.args.cap) a.links.items)) (sym (none k)) (All-nil IsSound);
    }

pub index-state-requires : goal.index-state-requires
index-state-requires c =
    let v = ap (λ (s : LiveState). length s.net.lows) c.self.view_is in
    let n = lows_len c.self.inside.states.items in
    let k = c.requires.known in
    let h : c.args.point.0 < c.self.inside.states.len = omega (arith, c.self.inside.states.ok.0) in
    h

pub index_mut-requires : goal.index_mut-requires
index_mut-requires c =
    let v = ap (λ (s : LiveState). length s.net.lows) c.self.view_is in
    let n = lows_len c.self.inside.states.items in
    let k = c.requires.known in
    let h : c.args.point.0 < c.self.inside.states.len = omega (arith, c.self.inside.states.ok.0) in
    h

pub index_mut-requires-2 : goal.index_mut-requires-2
index_mut-requires-2 c =
    let v = ap (λ (s : LiveState). length s.net.lows) c.self.view_is in
    let n = lows_len c.self.inside.states.items in
    let k = c.requires.known in
    let e = c.self.invariant.sound.caps in
    let h : c.args.point.0 < c.self.inside.caps.len = omega (arith, c.self.inside.caps.ok.0) in
    h
