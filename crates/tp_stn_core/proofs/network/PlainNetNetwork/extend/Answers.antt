use Rattle.std.proofs.Common.{arith, ◌≡◌, ◌+◌, [], ◌∷◌, ◌++◌, length, ap, subst, sym, ◌∙◌, slice_index, vec_capacity, take}
use Rattle.std.proofs.lemmas.List.{length-append, take_at}
use Rattle.std.proofs.lemmas.List.Elements.{All-append}
use Rattle.std.specs.List.{All}
use Rattle.tp_base.specs.Grows.{IsKnown}
use Rattle.tp_base.specs.Net.{Net, with_point, with_edges}
use Rattle.tp_base.specs.Refute.{IsLateChain}
use Rattle.tp_base.proofs.RefuteFacts.{chain_refutes}
use Rattle.tp_base.proofs.LeastFacts.{point_within, point_known}
use Rattle.tp_stn_core.specs.Marks.{past_of}
use Rattle.tp_stn_core.specs.Sound.{IsSound}
use Rattle.tp_stn_core.specs.Plain.{past_in}
use Rattle.tp_stn_core.specs.PlainState.{PlainState}
use Rattle.tp_stn_core.proofs.StackFacts.{stacked_grown}
use Rattle.tp_stn_core.proofs.KeepFacts.{saved_pointed}
use Rattle.tp_stn_core.proofs.PastFacts.{past_edge, past_point, same_net}
use Rattle.tp_stn_core.proofs.LateFacts.{late_point}
use Rattle.tp_stn_core.proofs.network.PlainNetNetwork.extend.Goals as goal
use Rattle.tp_stn_core.proofs.network.PlainNetNetwork.extend.Goals.{After-self-1, In-Ok, After-kept-in-Err-1}

known : (c : In-Ok) → All (IsKnown (length c.push_reserved.new.self.items)) c.extend_from_slice.new.self.items
known c =
    let a = c.self.inside in
    let inv = c.self.invariant in
    let f = c.if-low-cap.false in
    let n = length-append a.lows.items (c.args.low ∷ []) in
    let p = ap (λ (s : PlainState). length s.net.lows) c.self.view_is in
    let q : length c.args.self.now.net.lows + 1 ≡ length (a.lows.items ++ c.args.low ∷ []) = omega arith in
    rw (c.push_reserved.ensures.items, c.in-Ok.ensures.items) (All-append (IsKnown (length (a.lows.items ++ c.args.low ∷ []))) a.edges.items c.args.edges.now
    (point_known a.lows.items a.caps.items a.times.items a.edges.items c.args.low c.args.cap inv.sound.caps inv.times (omega arith) inv.sound.known) (subst (λ k. All (IsKnown k) c.args.edges.now) q c.requires.known))

past_is : (c : In-Ok) → past_of c.self.inside.marks.items c.self.inside.saved.items c.push_reserved.new.self.items c.push_reserved-2.new.self.items c.extend_from_slice.new.self.items ≡ past_in c.self.inside
past_is c =
    let a = c.self.inside in
    let inv = c.self.invariant in
    let lows = a.lows.items ++ c.args.low ∷ [] in
    let caps = a.caps.items ++ c.args.cap ∷ [] in
    let n = length-append a.lows.items (c.args.low ∷ []) in
    ap (λ ls. past_of a.marks.items a.saved.items ls c.push_reserved-2.new.self.items c.extend_from_slice.new.self.items) c.push_reserved.ensures.items
    ∙ ap (λ cs. past_of a.marks.items a.saved.items lows cs c.extend_from_slice.new.self.items) c.push_reserved-2.ensures.items
    ∙ ap (past_of a.marks.items a.saved.items lows caps) c.in-Ok.ensures.items
    ∙ past_edge a.marks.items a.saved.items lows caps a.edges.items a.max_points (stacked_grown a.marks.items _ _ _ _ _ _ _ (omega arith) (omega arith) (omega arith) inv.stacked) c.args.edges.now
    ∙ past_point a.marks.items a.saved.items a.lows.items a.caps.items a.edges.items a.max_points inv.stacked c.args.low c.args.cap inv.sound.caps

pub invariant_of-self-in-Ok-solve : goal.invariant_of-self-in-Ok-solve
invariant_of-self-in-Ok-solve c =
    let k = (goal.at.invariant_of-self-in-Ok-solve c).In-Ok in
    let inv = c.self.invariant in
    let a = c.self.inside in
    let el = c.push_reserved.ensures.items in
    let ec = c.push_reserved-2.ensures.items in
    let nl = ap length el ∙ length-append a.lows.items (c.args.low ∷ []) in
    let nc = ap length ec ∙ length-append a.caps.items (c.args.cap ∷ []) in
    let ne = ap length c.in-Ok.ensures.items ∙ length-append a.edges.items c.args.edges.now in
    let f = c.if-low-cap.false in
    let v1 = ap (λ (s : PlainState). length s.net.lows) c.self.view_is in
    let v2 = ap (λ (s : PlainState). length s.net.edges) c.self.view_is in
    let v3 = ap (λ (s : PlainState). s.max_points) c.self.view_is in
    let v4 = ap (λ (s : PlainState). s.max_edges) c.self.view_is in
    let q1 = c.requires.capacity in
    let q2 = c.requires.spare in
    let x = c.swap.ensures.x_after in
    let xc = ap (λ v. vec_capacity v) x in
    let yc = ap (λ v. vec_capacity v) c.swap.ensures.y_after in
    let r = inv.capacity in
    let r1 = r.lows in
    let r2 = r.caps in
    let r3 = r.times in
    let r4 = r.newest in
    let r5 = r.edges in
    let k1 = c.push_reserved.ensures.capacity in
    let k2 = c.push_reserved-2.ensures.capacity in
    let k3 = c.push_reserved-3.ensures.capacity in
    let k4 = c.in-Ok.ensures.capacity in
    let w = c.in-Ok-solve.ensures.capacity a.max_points inv.capacity.working in
    let wt = w.times in
    let m = inv.sound.caps in
    let least = rw (c.deref.ensures.value, c.deref-2.ensures.value, c.deref-3.ensures.value) at c.in-Ok-solve.ensures.least in
    record {
      points = omega arith;
      edges = omega arith;
      marks = inv.marks;
      saved = inv.saved;
      capacity = record {
        lows = omega arith;
        caps = omega arith;
        edges = omega arith;
        times = omega arith;
        working = record { times = omega arith; causes = w.causes; path = w.path; places = w.places };
        path = r.path;
        saved = r.saved;
        newest = omega arith;
        marks = r.marks;
      };
      stacked = stacked_grown a.marks.items _ _ _ _ _ _ _ (omega arith) (omega arith) (omega arith) inv.stacked;
      links = rw (c.push_reserved-3.ensures.items, nl) (saved_pointed a.marks.items a.saved.items a.newest.items (length a.lows.items) inv.links);
      sound = record {
        caps = omega arith;
        within = rw (ec, el) (point_within a.lows.items a.caps.items a.times.items a.edges.items c.args.low c.args.cap inv.sound.caps inv.times (omega arith) inv.sound.known inv.sound.within);
        known = known k;
        solved = (slice_index c.solve.new.working.times.items, least);
      };
      times = ap (λ v. length v.items) x ∙ c.in-Ok-solve.ensures.len ∙ ap length c.deref.ensures.value;
      least = rw x least;
      past = subst (All IsSound) (sym (past_is k)) inv.past;
    }

pub returns-in-Ok-solve-clause-past : goal.returns-in-Ok-solve-clause-past
returns-in-Ok-solve-clause-past c = past_is (goal.at.returns-in-Ok-solve-clause-past c).In-Ok ∙ ap (λ (s : PlainState). s.past) c.self.view_is

-- the lists are as they were once the change is taken back
record IsUndone (c : After-kept-in-Err-1) : Type 0 where
  lows : c.truncate.new.self.items ≡ c.self.inside.lows.items
  caps : c.truncate-in-Err.new.self.items ≡ c.self.inside.caps.items
  newest : c.truncate-in-Err-2.new.self.items ≡ c.self.inside.newest.items
  edges : c.truncate-in-Err-3.new.self.items ≡ c.self.inside.edges.items

undone : (c : After-kept-in-Err-1) → IsUndone c
undone c =
    let inv = c.self.invariant in
    let a = c.self.inside in
    let points : length a.lows.items ≡ c.len-points.result = omega (arith, c.len-points.ensures, a.lows.ok.0) in
    let count : length a.edges.items ≡ c.len-count.result = omega (arith, c.len-count.ensures, a.edges.ok.0) in
    let m = inv.sound.caps in
    let o = inv.links.len in
    record {
      lows = c.truncate.ensures.items ∙ ap (take c.len-points.result) c.push_reserved.ensures.items ∙ take_at a.lows.items (c.args.low ∷ []) c.len-points.result points;
      caps = c.truncate-in-Err.ensures.items ∙ ap (take c.len-points.result) c.push_reserved-2.ensures.items ∙ take_at a.caps.items (c.args.cap ∷ []) c.len-points.result (omega arith);
      newest = c.truncate-in-Err-2.ensures.items ∙ ap (take c.len-points.result) c.push_reserved-3.ensures.items ∙ take_at a.newest.items (0 ∷ []) c.len-points.result (omega arith);
      edges = c.truncate-in-Err-3.ensures.items ∙ ap (take c.len-count.result) c.in-Ok.ensures.items ∙ take_at a.edges.items c.args.edges.now c.len-count.result count;
    }

pub invariant_of-self-in-Err : goal.invariant_of-self-in-Err
invariant_of-self-in-Err c =
    let inv = c.self.invariant in
    let a = c.self.inside in
    let u = undone c in
    let el = u.lows in
    let ec = u.caps in
    let en = u.newest in
    let ee = u.edges in
    let r = inv.capacity in
    let r1 = r.lows in
    let r2 = r.caps in
    let r3 = r.newest in
    let r4 = r.path in
    let r5 = r.edges in
    let k1 = c.push_reserved.ensures.capacity in
    let k2 = c.push_reserved-2.ensures.capacity in
    let k3 = c.push_reserved-3.ensures.capacity in
    let k4 = c.in-Ok.ensures.capacity in
    let t1 = c.truncate.ensures.capacity in
    let t2 = c.truncate-in-Err.ensures.capacity in
    let t3 = c.truncate-in-Err-2.ensures.capacity in
    let t4 = c.truncate-in-Err-3.ensures.capacity in
    let w = c.in-Err.ensures.capacity a.max_points inv.capacity.working in
    let wp = w.path in
    let xc = ap (λ v. vec_capacity v) c.swap-in-Err.ensures.x_after in
    let yc = ap (λ v. vec_capacity v) c.swap-in-Err.ensures.y_after in
    record {
      points = rw el inv.points;
      edges = rw ee inv.edges;
      marks = inv.marks;
      saved = inv.saved;
      capacity = record {
        lows = omega arith;
        caps = omega arith;
        edges = omega arith;
        times = r.times;
        working = record { times = w.times; causes = w.causes; path = omega arith; places = w.places };
        path = omega arith;
        saved = r.saved;
        newest = omega arith;
        marks = r.marks;
      };
      stacked = rw (el, ee) inv.stacked;
      links = rw (en, el) inv.links;
      sound = rw (el, ec, ee) inv.sound;
      times = rw el inv.times;
      least = rw (el, ec, ee) inv.least;
      past = rw (el, ec, ee) inv.past;
    }

pub returns-in-Err-clause-kept : goal.returns-in-Err-clause-kept
returns-in-Err-clause-kept c = let u = undone c in same_net _ _ _ _ _ _ u.lows u.caps u.edges ∙ ap (λ (s : PlainState). s.net) c.self.view_is

pub returns-in-Err-clause-past : goal.returns-in-Err-clause-past
returns-in-Err-clause-past c =
    let u = undone c in
    let a = c.self.inside in
    ap (λ (n : Net). past_of a.marks.items a.saved.items n.lows n.caps n.edges) (same_net _ _ _ _ _ _ u.lows u.caps u.edges) ∙ ap (λ (s : PlainState). s.past) c.self.view_is

pub returns-in-Err-clause-late : goal.returns-in-Err-clause-late
returns-in-Err-clause-late c =
    let none = rw (c.deref.ensures.value ∙ c.push_reserved.ensures.items, c.deref-2.ensures.value ∙ c.push_reserved-2.ensures.items, c.deref-3.ensures.value ∙ c.in-Ok.ensures.items) at c.in-Err.ensures.none in
    rw (sym c.self.view_is) none

-- the new point shows that there is no solution
late : (c : After-self-1) → IsLateChain (with_edges (with_point c.args.self.now.net c.args.low c.args.cap) c.args.edges.now) c.len-points.result []
late c =
    let a = c.self.inside in
    let caps = ap (λ (s : PlainState). length s.net.caps) c.self.view_is in
    let lows = ap (λ (s : PlainState). length s.net.lows) c.self.view_is in
    let same = c.self.invariant.sound.caps in
    late_point c.args.self.now.net c.args.low c.args.cap c.args.edges.now c.len-points.result (omega arith) (omega (arith, c.len-points.ensures, a.lows.ok.0)) c.if-low-cap.true

pub returns-then-low-cap-clause-refused : goal.returns-then-low-cap-clause-refused
returns-then-low-cap-clause-refused c = rw c.clear.ensures.items (late c)

pub returns-then-low-cap-clause-late : goal.returns-then-low-cap-clause-late
returns-then-low-cap-clause-late c = chain_refutes (with_edges (with_point c.args.self.now.net c.args.low c.args.cap) c.args.edges.now) c.len-points.result [] (late c)

pub solve-requires-clause-within : goal.solve-requires-clause-within
solve-requires-clause-within c =
    let a = c.self.inside in
    let inv = c.self.invariant in
    let f = c.if-low-cap.false in
    rw (c.deref-2.ensures.value ∙ c.push_reserved-2.ensures.items, c.deref.ensures.value ∙ c.push_reserved.ensures.items)
    (point_within a.lows.items a.caps.items a.times.items a.edges.items c.args.low c.args.cap inv.sound.caps inv.times (omega arith) inv.sound.known inv.sound.within)
