use Rattle.std.proofs.Common.{arith, ◌≡◌, ◌++◌, length, ap, subst, sym, ◌∙◌, slice_index, vec_capacity, take}
use Rattle.std.proofs.lemmas.List.{length-append, take_at}
use Rattle.std.proofs.lemmas.List.Elements.{All-append}
use Rattle.std.specs.List.{All}
use Rattle.tp_base.specs.Grows.{IsKnown}
use Rattle.tp_stn_core.specs.Marks.{past_of}
use Rattle.tp_stn_core.specs.Sound.{IsSound}
use Rattle.tp_stn_core.specs.PlainState.{PlainState}
use Rattle.tp_stn_core.proofs.StackFacts.{stacked_grown}
use Rattle.tp_stn_core.proofs.PastFacts.{past_edge}
use Rattle.tp_stn_core.proofs.network.PlainNetNetwork.require_all.Goals as goal
use Rattle.tp_stn_core.proofs.network.PlainNetNetwork.require_all.Goals.{In-Ok}

known : (c : In-Ok) → All (IsKnown (length c.self.inside.lows.items)) c.extend_from_slice.new.self.items
known c =
    let a = c.self.inside in
    let p = ap (λ (s : PlainState). length s.net.lows) c.self.view_is in
    rw c.in-Ok.ensures.items (All-append (IsKnown (length a.lows.items)) a.edges.items c.args.edges.now c.self.invariant.sound.known (subst (λ n. All (IsKnown n) c.args.edges.now) (sym p) c.requires.known))

pub solve-requires-clause-known : goal.solve-requires-clause-known
solve-requires-clause-known k =
    rw (k.deref.ensures.value, k.deref-3.ensures.value) (known (goal.at.solve-requires-clause-known k).In-Ok)

pub invariant_of-self : goal.invariant_of-self
invariant_of-self k =
    let inv = k.self.invariant in
    let a = k.self.inside in
    let e : k.extend_from_slice.new.self.items ≡ a.edges.items ++ k.args.edges.now = k.in-Ok.ensures.items in
    let n = ap length e ∙ length-append a.edges.items k.args.edges.now in
    let v = ap (λ (s : PlainState). length s.net.edges) k.self.view_is in
    let r = ap (λ (s : PlainState). s.max_edges) k.self.view_is in
    let q = k.requires.spare in
    let x = k.swap.ensures.x_after in
    let xc = ap (λ v. vec_capacity v) x in
    let yc = ap (λ v. vec_capacity v) k.swap.ensures.y_after in
    let r1 = inv.capacity.times in
    let r5 = inv.capacity.edges in
    let s4 = k.in-Ok.ensures.capacity in
    let w = k.in-Ok-solve.ensures.capacity a.max_points inv.capacity.working in
    let wt = w.times in
    let least = rw (k.deref.ensures.value, k.deref-2.ensures.value, k.deref-3.ensures.value) at k.in-Ok-solve.ensures.least in
    record {
      points = inv.points;
      edges = omega arith;
      marks = inv.marks;
      saved = inv.saved;
      capacity = record {
        lows = inv.capacity.lows;
        caps = inv.capacity.caps;
        edges = omega arith;
        times = omega arith;
        working = record { times = omega arith; causes = w.causes; path = w.path; places = w.places };
        path = inv.capacity.path;
        saved = inv.capacity.saved;
        newest = inv.capacity.newest;
        marks = inv.capacity.marks;
      };
      stacked = stacked_grown a.marks.items _ _ _ _ _ _ _ (omega arith) (omega arith) (omega arith) inv.stacked;
      links = inv.links;
      sound = record {
        caps = inv.sound.caps;
        within = inv.sound.within;
        known = known (goal.at.invariant_of-self k).In-Ok;
        solved = (slice_index k.solve.new.working.times.items, least);
      };
      times = ap (λ v. length v.items) x ∙ k.in-Ok-solve.ensures.len ∙ ap length k.deref.ensures.value;
      least = rw x least;
      past = subst (All IsSound) (sym (ap (past_of a.marks.items a.saved.items a.lows.items a.caps.items) e ∙ past_edge a.marks.items a.saved.items a.lows.items a.caps.items a.edges.items a.max_points inv.stacked k.args.edges.now)) inv.past;
    }

pub returns-in-Ok-solve-clause-past : goal.returns-in-Ok-solve-clause-past
returns-in-Ok-solve-clause-past c =
    let a = c.self.inside in
    ap (past_of a.marks.items a.saved.items a.lows.items a.caps.items) c.in-Ok.ensures.items ∙ past_edge a.marks.items a.saved.items a.lows.items a.caps.items a.edges.items a.max_points c.self.invariant.stacked c.args.edges.now ∙ ap (λ (s : PlainState). s.past) c.self.view_is

pub returns-in-Err-clause-late : goal.returns-in-Err-clause-late
returns-in-Err-clause-late c =
    let none = rw (c.deref.ensures.value, c.deref-2.ensures.value, c.deref-3.ensures.value, c.in-Ok.ensures.items) at c.in-Err.ensures.none in
    rw (sym c.self.view_is) none

pub invariant_of-self-in-Err : goal.invariant_of-self-in-Err
invariant_of-self-in-Err c =
    let inv = c.self.invariant in
    let a = c.self.inside in
    let k : length a.edges.items ≡ c.len-count.result = omega (arith, c.len-count.ensures, a.edges.ok.0) in
    let e : c.truncate.new.self.items ≡ a.edges.items =
    c.truncate.ensures.items ∙ ap (take c.len-count.result) c.in-Ok.ensures.items ∙ take_at a.edges.items c.args.edges.now c.len-count.result k in
    let en = ap length e in
    let re = inv.edges in
    let r4 = inv.capacity.path in
    let r5 = inv.capacity.edges in
    let s4 = c.in-Ok.ensures.capacity in
    let s5 = c.truncate.ensures.capacity in
    let w = c.in-Err.ensures.capacity a.max_points inv.capacity.working in
    let wp = w.path in
    let xc = ap (λ v. vec_capacity v) c.swap-in-Err.ensures.x_after in
    let yc = ap (λ v. vec_capacity v) c.swap-in-Err.ensures.y_after in
    record {
      points = inv.points;
      edges = omega arith;
      marks = inv.marks;
      saved = inv.saved;
      capacity = record {
        lows = inv.capacity.lows;
        caps = inv.capacity.caps;
        edges = omega arith;
        times = inv.capacity.times;
        working = record { times = w.times; causes = w.causes; path = omega arith; places = w.places };
        path = omega arith;
        saved = inv.capacity.saved;
        newest = inv.capacity.newest;
        marks = inv.capacity.marks;
      };
      stacked = rw e inv.stacked;
      links = inv.links;
      sound = rw e inv.sound;
      times = inv.times;
      least = rw e inv.least;
      past = rw e inv.past;
    }
