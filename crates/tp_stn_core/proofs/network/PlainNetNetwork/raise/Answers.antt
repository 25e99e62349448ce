use Rattle.std.proofs.Common.{arith, ◌≡◌, ◌<◌, ◌≤◌, [], length, ap, subst, sym, ◌∙◌, slice_index, vec_capacity, set, refl}
use Rattle.std.proofs.Math.Nat.{mul-le-mul_left}
use Rattle.std.proofs.lemmas.List.{length-set, set-set, set-get_or, get_or_read}
use Rattle.std.specs.List.{All}
use Rattle.tp_base.specs.Net.{with_low}
use Rattle.tp_base.specs.Refute.{IsLateChain}
use Rattle.tp_base.proofs.LeastFacts.{raised_chain, raised_within}
use Rattle.tp_base.proofs.RefuteFacts.{chain_refutes}
use Rattle.tp_stn_core.specs.Marks.{past_of}
use Rattle.tp_stn_core.specs.Sound.{IsSound}
use Rattle.tp_stn_core.specs.Plain.{net_in, past_in}
use Rattle.tp_stn_core.specs.PlainState.{PlainState}
use Rattle.tp_stn_core.proofs.StackFacts.{stacked_grown}
use Rattle.tp_stn_core.proofs.KeepFacts.{saved_raised, has_capacity, length_raised, same_saved}
use Rattle.tp_stn_core.proofs.PastFacts.{same_net, past_raised}
use Rattle.tp_base.proofs.LeastFacts.{mut_items}
use Rattle.tp_stn_core.specs.Saved.{saved_after, newest_after}
use Rattle.tp_stn_core.proofs.network.PlainNetNetwork.raise.Goals as goal
use Rattle.tp_stn_core.proofs.network.PlainNetNetwork.raise.Goals.{After-self-1, After-swap}

saved_is : (c : After-swap) → c.save.new.saved.items ≡ saved_after c.self.inside.marks.items c.self.inside.saved.items c.self.inside.newest.items c.args.point c.index-old.result.now
saved_is c = rw (c.deref-in-Ok.ensures.value, c.deref_mut.ensures.value) at c.save.ensures.saved

newest_is : (c : After-swap) → c.save.new.newest ≡ newest_after c.self.inside.marks.items c.self.inside.saved.items c.self.inside.newest.items c.args.point
newest_is c = rw (c.deref-in-Ok.ensures.value, c.deref_mut.ensures.value) at c.save.ensures.newest

in_lows : (c : After-swap) → c.args.point.0 < length c.self.inside.lows.items
in_lows c = let v = ap (λ (s : PlainState). length s.net.lows) c.self.view_is in let k = c.requires.known in omega arith

past_is : (c : After-swap) → past_of c.self.inside.marks.items c.save.new.saved.items (set c.self.inside.lows.items c.args.point.0 c.args.low) c.self.inside.caps.items c.self.inside.edges.items ≡ past_in c.self.inside
past_is c =
    let a = c.self.inside in
    let inv = c.self.invariant in
    ap (λ ss. past_of a.marks.items ss (set a.lows.items c.args.point.0 c.args.low) a.caps.items a.edges.items) (saved_is c)
    ∙ past_raised a.marks.items a.saved.items a.lows.items a.caps.items a.edges.items a.max_points inv.stacked a.newest.items c.args.point c.args.low c.index-old.result.now c.index-old.result.now inv.links (in_lows c) c.index-old.ensures

-- the point shows that there is no solution
late : (c : After-self-1) → IsLateChain (with_low c.args.self.now.net c.args.point.0 c.args.low) c.args.point.0 []
late c =
    let a = c.self.inside in
    let p = c.args.point.0 in
    let n = c.self.invariant.sound.caps in
    let v = ap (λ (s : PlainState). length s.net.lows) c.self.view_is in
    let k = c.requires.known in
    let i = get_or_read a.caps.items p c.index.result.now (omega arith) c.index.ensures 0 in
    let h : slice_index a.caps.items p < c.args.low = omega arith in
    let chain = raised_chain (net_in a) p c.args.low (omega arith) h in
    subst (λ (s : PlainState). IsLateChain (with_low s.net p c.args.low) p []) c.self.view_is chain

pub returns-then-low-index-clause-refused : goal.returns-then-low-index-clause-refused
returns-then-low-index-clause-refused c = rw c.clear.ensures.items (late c)

pub returns-then-low-index-clause-late : goal.returns-then-low-index-clause-late
returns-then-low-index-clause-late c = chain_refutes (with_low c.args.self.now.net c.args.point.0 c.args.low) c.args.point.0 [] (late c)

pub solve-requires-clause-within : goal.solve-requires-clause-within
solve-requires-clause-within c =
    let a = c.self.inside in
    let m = c.self.invariant.sound.caps in
    let v = ap (λ (s : PlainState). length s.net.lows) c.self.view_is in
    let k = c.requires.known in
    let i = get_or_read a.caps.items c.args.point.0 c.index.result.now (omega arith) c.index.ensures 0 in
    let at_most : c.args.low ≤ slice_index a.caps.items c.args.point.0 = omega arith in
    rw (c.deref-2.ensures.value, c.deref.ensures.value) (raised_within a.lows.items a.caps.items c.args.point.0 c.args.low (omega arith) at_most c.self.invariant.sound.within)

pub save-requires-clause-capacity : goal.save-requires-clause-capacity
save-requires-clause-capacity c h =
    let a = c.self.inside in
    let inv = c.self.invariant in
    let v = ap (λ (s : PlainState). length s.net.lows) c.self.view_is in
    let k = c.requires.known in
    let due = rw (c.deref-in-Ok.ensures.value, c.deref_mut.ensures.value) at h in
    let below = has_capacity a.marks.items a.saved.items a.newest.items (length a.lows.items) (length a.edges.items) a.max_points c.args.point c.index-old.result.now inv.stacked inv.links (omega arith) inv.points due in
    let r = inv.capacity.saved in
    let m = mul-le-mul_left a.max_points inv.marks in
    omega arith

pub invariant_of-self-in-Ok : goal.invariant_of-self-in-Ok
invariant_of-self-in-Ok c =
    let inv = c.self.invariant in
    let a = c.self.inside in
    let n = length-set a.lows.items c.args.point.0 c.args.low in
    let x = c.swap.ensures.x_after in
    let least = rw (c.deref.ensures.value, c.deref-2.ensures.value, c.deref-3.ensures.value) at c.in-Ok.ensures.least in
    let m = inv.sound.caps in
    let known = in_lows c in
    let i = get_or_read a.caps.items c.args.point.0 c.index.result.now (omega arith) c.index.ensures 0 in
    let at_most : c.args.low ≤ slice_index a.caps.items c.args.point.0 = omega arith in
    let xc = ap (λ v. vec_capacity v) x in
    let yc = ap (λ v. vec_capacity v) c.swap.ensures.y_after in
    let p = inv.points in
    let r0 = inv.capacity in
    let w = c.in-Ok.ensures.capacity a.max_points inv.capacity.working in
    let wt = w.times in
    let sc = c.save.ensures.capacity in
    let long = length_raised a.marks.items a.saved.items a.newest.items (length a.lows.items) (length a.edges.items) a.max_points c.args.point c.index-old.result.now inv.stacked inv.links known inv.points inv.saved in
    let saved_len = ap length (saved_is c) in
    let long_0 = long.0 in
    let long_1 = long.1 in
    let items = mut_items a.newest.len c.save.new.newest a.newest.items (c.save.auto.newest ∙ ap length c.deref_mut.ensures.value ∙ sym a.newest.ok.0) in
    record {
      points = omega arith;
      edges = inv.edges;
      marks = inv.marks;
      saved = omega arith;
      capacity = record {
        lows = inv.capacity.lows;
        caps = inv.capacity.caps;
        edges = inv.capacity.edges;
        times = omega arith;
        working = record { times = omega arith; causes = w.causes; path = w.path; places = w.places };
        path = inv.capacity.path;
        saved = omega arith;
        newest = inv.capacity.newest;
        marks = inv.capacity.marks;
      };
      stacked = stacked_grown a.marks.items _ _ _ _ _ _ _ (omega arith) (omega arith) (omega arith) inv.stacked;
      links = same_saved _ _ _ _ _ _ _ _ refl (saved_is c) (items ∙ newest_is c) n (saved_raised a.marks.items a.saved.items a.newest.items (length a.lows.items) (length a.edges.items) a.max_points c.args.point c.index-old.result.now inv.stacked inv.links known inv.points);
      sound = record {
        caps = inv.sound.caps ∙ sym n;
        within = raised_within a.lows.items a.caps.items c.args.point.0 c.args.low known at_most inv.sound.within;
        known = rw n inv.sound.known;
        solved = (slice_index c.solve.new.working.times.items, least);
      };
      times = ap (λ v. length v.items) x ∙ c.in-Ok.ensures.len ∙ ap length c.deref.ensures.value;
      least = rw x least;
      past = subst (All IsSound) (sym (past_is c)) inv.past;
    }

pub returns-in-Ok-clause-past : goal.returns-in-Ok-clause-past
returns-in-Ok-clause-past c = past_is c ∙ ap (λ (s : PlainState). s.past) c.self.view_is

pub returns-in-Err-clause-late : goal.returns-in-Err-clause-late
returns-in-Err-clause-late c =
    let none = rw (c.deref.ensures.value, c.deref-2.ensures.value, c.deref-3.ensures.value) at c.in-Err.ensures.none in
    rw (sym c.self.view_is) none

pub returns-in-Err-clause-kept : goal.returns-in-Err-clause-kept
returns-in-Err-clause-kept c =
    let a = c.self.inside in
    let e : set (set a.lows.items c.args.point.0 c.args.low) c.args.point.0 c.index-old.result.now ≡ a.lows.items =
    set-set a.lows.items c.args.point.0 c.args.low c.index-old.result.now ∙ ap (set a.lows.items c.args.point.0) c.index-old.ensures ∙ set-get_or a.lows.items c.args.point.0 c.index-old.result.now in
    same_net _ _ _ _ _ _ e refl refl ∙ ap (λ (s : PlainState). s.net) c.self.view_is

pub returns-in-Err-clause-past : goal.returns-in-Err-clause-past
returns-in-Err-clause-past c =
    let a = c.self.inside in
    let e : set (set a.lows.items c.args.point.0 c.args.low) c.args.point.0 c.index-old.result.now ≡ a.lows.items =
    set-set a.lows.items c.args.point.0 c.args.low c.index-old.result.now ∙ ap (set a.lows.items c.args.point.0) c.index-old.ensures ∙ set-get_or a.lows.items c.args.point.0 c.index-old.result.now in
    ap (λ ls. past_of a.marks.items a.saved.items ls a.caps.items a.edges.items) e ∙ ap (λ (s : PlainState). s.past) c.self.view_is

pub invariant_of-self-in-Err : goal.invariant_of-self-in-Err
invariant_of-self-in-Err c =
    let inv = c.self.invariant in
    let a = c.self.inside in
    let e : set (set a.lows.items c.args.point.0 c.args.low) c.args.point.0 c.index-old.result.now ≡ a.lows.items =
    set-set a.lows.items c.args.point.0 c.args.low c.index-old.result.now ∙ ap (set a.lows.items c.args.point.0) c.index-old.ensures ∙ set-get_or a.lows.items c.args.point.0 c.index-old.result.now in
    let r4 = inv.capacity.path in
    let w = c.in-Err.ensures.capacity a.max_points inv.capacity.working in
    let wp = w.path in
    let xc = ap (λ v. vec_capacity v) c.swap-in-Err.ensures.x_after in
    let yc = ap (λ v. vec_capacity v) c.swap-in-Err.ensures.y_after in
    record {
      points = rw e inv.points;
      edges = inv.edges;
      marks = inv.marks;
      saved = inv.saved;
      capacity = record {
        lows = inv.capacity.lows;
        caps = inv.capacity.caps;
        edges = inv.capacity.edges;
        times = inv.capacity.times;
        working = record { times = w.times; causes = w.causes; path = omega arith; places = w.places };
        path = omega arith;
        saved = inv.capacity.saved;
        newest = inv.capacity.newest;
        marks = inv.capacity.marks;
      };
      stacked = rw e inv.stacked;
      links = rw e inv.links;
      sound = rw e inv.sound;
      times = rw e inv.times;
      least = rw e inv.least;
      past = rw e inv.past;
    }
