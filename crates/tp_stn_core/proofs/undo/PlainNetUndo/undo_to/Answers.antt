use Rattle.std.proofs.Common.{arith, ◌≡◌, ◌<◌, ◌*◌, length, take, vec_capacity, ap, subst, sym, ◌∙◌, Some}
use Rattle.std.specs.List.{All, slice_get}
use Rattle.std.specs.Option.{option_map}
use Rattle.std.proofs.lemmas.List.{length-map, length-take-le}
use Rattle.std.proofs.lemmas.List.Elements.{All-take}
use Rattle.std.proofs.lemmas.Option.{slice_get-map, slice_get-get_or}
use Rattle.tp_base.specs.Net.{Net}
use Rattle.tp_stn_core.specs.Marks.{net_at}
use Rattle.tp_stn_core.specs.Sound.{IsSound}
use Rattle.tp_stn_core.specs.PlainState.{PlainState}
use Rattle.tp_stn_core.proofs.StackFacts.{stacked_undone}
use Rattle.tp_stn_core.proofs.KeepFacts.{saved_undone, same_saved}
use Rattle.tp_stn_core.proofs.PastFacts.{past_undone}
use Rattle.tp_stn_core.proofs.UndoFacts.{Undone, undone, same_past}
use Rattle.tp_stn_core.proofs.undo.PlainNetUndo.undo_to.Goals as goal
use Rattle.tp_stn_core.proofs.undo.PlainNetUndo.undo_to.Goals.{After-restore}

in_force : (c : After-restore) → c.args.mark.0 < length c.self.inside.marks.items
in_force c =
    let a = c.self.inside in
    let r = c.requires in
    let v = ap (λ (s : PlainState). length s.past) c.self.view_is in
    let l = length-map a.marks.items (net_at a.saved.items a.lows.items a.caps.items a.edges.items) in
    omega arith

at : (c : After-restore) → slice_get c.self.inside.marks.items c.args.mark.0 ≡ Some c.index.result.now
at c = slice_get-get_or c.self.inside.marks.items c.args.mark.0 _ (in_force c) ∙ ap Some (sym c.index.ensures)

went : (c : After-restore) → Undone c.self.inside.marks.items c.self.inside.saved.items c.self.inside.lows.items c.self.inside.caps.items c.self.inside.edges.items c.index.result.now c.restore.new.lows.items c.restore.new.caps.items c.restore.new.edges.items c.restore.new.saved.items
went c =
    let a = c.self.inside in
    let inv = c.self.invariant in
    undone a.marks.items a.saved.items a.lows.items a.caps.items a.edges.items a.max_points c.args.mark.0 c.index.result.now _ _ _ _ (at c) c.restore.ensures.lows c.restore.ensures.caps c.restore.ensures.edges c.restore.ensures.saved inv.stacked inv.past

pub solve-requires-clause-caps : goal.solve-requires-clause-caps
solve-requires-clause-caps c =
    let u = went (goal.at.solve-requires-clause-caps c).After-restore in
    rw (c.deref-2.ensures.value, c.deref.ensures.value) u.sound.caps

pub solve-requires-clause-within : goal.solve-requires-clause-within
solve-requires-clause-within c =
    let u = went (goal.at.solve-requires-clause-within c).After-restore in
    rw (c.deref-2.ensures.value, c.deref.ensures.value) u.sound.within

pub solve-requires-clause-known : goal.solve-requires-clause-known
solve-requires-clause-known c =
    let u = went (goal.at.solve-requires-clause-known c).After-restore in
    rw (c.deref.ensures.value, c.deref-3.ensures.value) u.sound.known

pub solve-requires-clause-capacity : goal.solve-requires-clause-capacity
solve-requires-clause-capacity c =
    let u = went (goal.at.solve-requires-clause-capacity c).After-restore in
    let e = ap length c.deref.ensures.value in
    let p = c.self.invariant.points in
    let w = c.self.invariant.capacity.working in
    let w1 = w.times in
    let w2 = w.causes in
    let w3 = w.path in
    let w4 = w.places in
    let l = u.lows_len in
    let q = u.points_in in
    record { times = omega arith; causes = omega arith; path = omega arith; places = omega arith }

pub unreachable-requires : goal.unreachable-requires
unreachable-requires c =
    let u = went (goal.at.unreachable-requires c).After-restore in
    let none = rw (c.deref.ensures.value, c.deref-2.ensures.value, c.deref-3.ensures.value) at c.in_default.ensures.none in
    none u.sound.solved.0 u.sound.solved.1.solution

pub returns-clause-content : goal.returns-clause-content
returns-clause-content c =
    let k = (goal.at.returns-clause-content c).After-restore in
    let a = c.self.inside in
    let f = net_at a.saved.items a.lows.items a.caps.items a.edges.items in
    ap (λ (s : PlainState). slice_get s.past c.args.mark.0) (sym c.self.view_is) ∙ slice_get-map f a.marks.items c.args.mark.0 ∙ ap (option_map f) (at k) ∙ ap (λ (n : Net). Some n) (sym (went k).net)

pub returns-clause-past : goal.returns-clause-past
returns-clause-past c =
    let k = (goal.at.returns-clause-past c).After-restore in
    let a = c.self.inside in
    let m = c.index.result.now in
    let r = c.restore.ensures in
    same_past _ _ _ _ _ _ _ _ _ _ c.truncate.ensures.items r.saved r.lows r.caps r.edges
    ∙ (past_undone a.marks.items a.saved.items a.lows.items a.caps.items a.edges.items a.max_points c.self.invariant.stacked c.args.mark.0 m (at k)
    ∙ ap (λ (s : PlainState). take c.args.mark.0 s.past) c.self.view_is)

pub invariant_of-self : goal.invariant_of-self
invariant_of-self c =
    let k = (goal.at.invariant_of-self c).After-restore in
    let u = went k in
    let inv = c.self.invariant in
    let a = c.self.inside in
    let m = c.index.result.now in
    let here = at k in
    let force = in_force k in
    let em = c.truncate.ensures.items in
    let nm = ap length em ∙ length-take-le c.args.mark.0 a.marks.items (omega arith) in
    let p : length c.truncate.new.self.items * a.max_points ≡ c.args.mark.0 * a.max_points = ap (λ i. i * a.max_points) nm in
    let b = inv.stacked.in_capacity c.args.mark.0 m here in
    let least = rw (c.deref.ensures.value, c.deref-2.ensures.value, c.deref-3.ensures.value) at c.in-Ok.ensures.least in
    let l1 = u.lows_len in
    let l2 = u.edges_len in
    let l3 = u.saved_len in
    let q1 = u.points_in in
    let q2 = u.edges_in in
    let i1 = inv.points in
    let i2 = inv.edges in
    let i3 = inv.marks in
    let r0 = inv.capacity in
    let r1 = c.restore.ensures.lows_capacity in
    let r2 = c.restore.ensures.caps_capacity in
    let r3 = c.restore.ensures.edges_capacity in
    let r4 = c.restore.ensures.saved_capacity in
    let r5 = c.truncate.ensures.capacity in
    let r6 = c.restore.ensures.newest_capacity in
    let x = c.swap.ensures.x_after in
    let xc = ap (λ v. vec_capacity v) x in
    let yc = ap (λ v. vec_capacity v) c.swap.ensures.y_after in
    let w = c.in-Ok.ensures.capacity a.max_points inv.capacity.working in
    let wt = w.times in
    record {
      points = omega arith;
      edges = omega arith;
      marks = omega arith;
      saved = omega arith;
      capacity = record {
        lows = omega arith;
        caps = omega arith;
        edges = omega arith;
        times = omega arith;
        working = record { times = omega arith; causes = w.causes; path = w.path; places = w.places };
        path = inv.capacity.path;
        saved = omega arith;
        newest = omega arith;
        marks = omega arith;
      };
      stacked = rw (em, l1, l2, l3) (stacked_undone a.marks.items (length a.lows.items) (length a.edges.items) (length a.saved.items) a.max_points c.args.mark.0 m here inv.stacked);
      links = same_saved _ _ _ _ _ _ _ _ em c.restore.ensures.saved c.restore.ensures.newest l1 (saved_undone a.marks.items a.saved.items a.newest.items (length a.lows.items) (length a.edges.items) a.max_points c.args.mark.0 m here inv.stacked inv.links);
      sound = u.sound;
      times = ap (λ v. length v.items) x ∙ c.in-Ok.ensures.len ∙ ap length c.deref.ensures.value;
      least = rw x least;
      past = subst (All IsSound) (sym (same_past _ _ _ _ _ _ _ _ _ _ em c.restore.ensures.saved c.restore.ensures.lows c.restore.ensures.caps c.restore.ensures.edges
          ∙ past_undone a.marks.items a.saved.items a.lows.items a.caps.items a.edges.items a.max_points inv.stacked c.args.mark.0 m here)) (All-take IsSound c.args.mark.0 _ inv.past);
    }
