use Rattle.std.proofs.Common.{arith, ◌≡◌, ℕ, ◌<◌, ◌≤◌, List, [], ◌++◌, length, ap, subst, sym, refl, ◌∙◌, slice_index, take, drop, inl}
use Rattle.std.proofs.lemmas.List.{get_or_read}
use Rattle.std.specs.Vec.{with_items}
use Rattle.tp_stn_undo.specs.declared.live_net.LiveNet.TheInside.{Inside}
use Rattle.tp_base.specs.Net.{with_low}
use Rattle.tp_base.specs.Refute.{IsLateChain}
use Rattle.tp_base.specs.Grows.{AreWithin, IsKnown}
use Rattle.tp_base.specs.Kept.{net_of, KeptRefutes}
use Rattle.tp_base.proofs.LeastFacts.{mut_items, raised_chain}
use Rattle.tp_base.proofs.RisenFacts.{kept_refutes}
use Rattle.tp_stn_undo.specs.declared.point_state.PointState.{PointState}
use Rattle.tp_stn_undo.specs.declared.point_state.SavedState.{SavedState}
use Rattle.tp_stn_undo.specs.States.{IsSound, net_of_core, lows_of, times_of, edges_of}
use Rattle.tp_stn_undo.specs.Flags.{AreKnown, IsSameSave}
use Rattle.tp_stn_undo.specs.Live.{core_in}
use Rattle.tp_stn_undo.specs.Marks.{past_of, nets_of}
use Rattle.tp_stn_undo.specs.Saved.{restored}
use Rattle.tp_stn_undo.specs.Stacks.{IsStack}
use Rattle.tp_stn_undo.specs.RaisedBounds.{Lifts}
use Rattle.tp_stn_undo.specs.Propagation.{LeadsBack}
use Rattle.tp_stn_undo.specs.LiveState.{LiveState}
use Rattle.tp_stn_undo.proofs.RaiseFacts.{times_len, lows_len}
use Rattle.tp_stn_undo.proofs.SoundFacts.{within_of, kept_of}
use Rattle.tp_stn_undo.proofs.ChangeFacts.{can_save, stack_of, stack_by, past_by, sound_lift}
use Rattle.tp_stn_undo.specs.declared.working.Working.{Working}
use Rattle.tp_stn_undo.specs.WorkingRoom.{KeepsSizes}
use Rattle.tp_stn_undo.proofs.NoteFacts.{same_saves}
use Rattle.tp_stn_undo.proofs.ChangedFacts.{IsChanged, HoldsTogether, as_it_was, changed_live, changed_past}
use Rattle.tp_base.proofs.RefuteFacts.{chain_refutes}
use Rattle.std.specs.List.{All}
use Rattle.tp_stn_undo.proofs.network.LiveNetNetwork.raise.Goals as goal
use Rattle.tp_stn_undo.proofs.network.LiveNetNetwork.raise.Goals.{After-self-1, After-lift, After-save_changes, After-kept-in-Err-1}

known : (c : After-lift) → c.args.point.0 < length c.self.inside.states.items
known c = let v = ap (λ (s : LiveState). length s.net.lows) c.self.view_is in let n = lows_len c.self.inside.states.items in let k = c.requires.known in omega arith

more : (c : After-lift) → slice_index (lows_of c.self.inside.states.items) c.args.point.0 ≤ c.args.low
more c = subst (λ (s : LiveState). slice_index s.net.lows c.args.point.0 ≤ c.args.low) (sym c.self.view_is) c.requires.more

lifts : (c : After-lift) → Lifts c.self.inside.states.items c.lift.new.states c.args.point.0 c.args.low c.self.inside.working.waiting.flags c.lift.new.waiting.flags
lifts c = rw c.deref_mut.ensures.value at c.lift.ensures.lifts

lift_len : (c : After-lift) → length c.lift.new.states ≡ c.self.inside.states.len
lift_len c = (lifts c).len ∙ sym c.self.inside.states.ok.0

lifted : (c : After-lift) → take c.self.inside.states.len (c.lift.new.states ++ drop (length c.lift.new.states) c.self.inside.states.items) ≡ c.lift.new.states
lifted c = mut_items c.self.inside.states.len c.lift.new.states c.self.inside.states.items (lift_len c)

-- the point shows that there is no solution
late : (c : After-self-1) → IsLateChain (with_low c.args.self.now.net c.args.point.0 c.args.low) c.args.point.0 []
late c =
    let a = c.self.inside in
    let p = c.args.point.0 in
    let n = c.self.invariant.sound.caps in
    let v = ap (λ (s : LiveState). length s.net.lows) c.self.view_is in
    let nl = lows_len a.states.items in
    let k = c.requires.known in
    let i = get_or_read a.caps.items p c.index.result.now (omega arith) c.index.ensures 0 in
    let h : slice_index a.caps.items p < c.args.low = omega arith in
    let chain = raised_chain (net_of_core (core_in a)) p c.args.low (omega arith) h in
    subst (λ (s : LiveState). IsLateChain (with_low s.net p c.args.low) p []) c.self.view_is chain

pub returns-then-low-index-clause-refused : goal.returns-then-low-index-clause-refused
returns-then-low-index-clause-refused c = rw c.clear.ensures.items (late c)

pub returns-then-low-index-clause-late : goal.returns-then-low-index-clause-late
returns-then-low-index-clause-late c = chain_refutes (with_low c.args.self.now.net c.args.point.0 c.args.low) c.args.point.0 [] (late c)

pub index-requires : goal.index-requires
index-requires c =
    let v = ap (λ (s : LiveState). length s.net.lows) c.self.view_is in
    let n = lows_len c.self.inside.states.items in
    let k = c.requires.known in
    let e = c.self.invariant.sound.caps in
    let h : c.args.point.0 < c.self.inside.caps.len = omega (arith, c.self.inside.caps.ok.0) in
    h

pub lift-requires-clause-known : goal.lift-requires-clause-known
lift-requires-clause-known c =
    let v = ap (λ (s : LiveState). length s.net.lows) c.self.view_is in
    let n = lows_len c.self.inside.states.items in
    let k = c.requires.known in
    let d = ap length c.deref_mut.ensures.value in
    omega arith

pub spread-requires-clause-kept : goal.spread-requires-clause-kept
spread-requires-clause-kept c =
    let k = (goal.at.spread-requires-clause-kept c).After-lift in
    let a = c.self.inside in
    rw (c.deref_mut-2.ensures.value ∙ lifted k, c.deref-2.ensures.value) (λ i e g f _. (lifts k).kept (edges_of a.links.items) (kept_of (edges_of a.links.items) (slice_index (times_of a.states.items)) a.working.waiting.flags c.self.invariant.sound.least.solution.keeps) i e g f)

noted : (c : After-lift) → AreKnown (length c.self.inside.states.items) c.lift.new.changes.entries
noted c = (rw c.deref_mut.ensures.value at c.lift.ensures.known) (λ k d h. absurd (let e = ap length c.self.invariant.rest.unchanged in omega arith))

changed : (c : After-lift) (states' : List PointState) (entries' : List SavedState) → LeadsBack c.self.inside.links.items c.lift.new.states states' c.lift.new.changes.entries entries' → AreKnown (length c.self.inside.states.items) entries'
changed c states' entries' b = subst (λ n. AreKnown n entries') (lifts c).len (b.known (subst (λ n. AreKnown n c.lift.new.changes.entries) (sym (lifts c).len) (noted c)))

saves : (c : After-lift) (w : Working) → KeepsSizes (record c.self.inside.working { waiting = c.lift.new.waiting; changes = c.lift.new.changes }) w → IsSameSave c.self.inside.working.changes w.changes
saves c w s = same_saves c.lift.ensures.same s.noted

pub save_changes-requires : goal.save_changes-requires
save_changes-requires c =
    let k = (goal.at.save_changes-requires c).After-lift in
    let b : LeadsBack c.self.inside.links.items c.lift.new.states c.spread.new.states c.lift.new.changes.entries c.spread.new.working.changes.entries = rw (c.deref-2.ensures.value, c.deref_mut-2.ensures.value ∙ lifted k) at c.spread.ensures.back in
    let a = c.self.inside in
    let inv = c.self.invariant in
    record { ready = rw c.deref-in-Ok.ensures.value (can_save a inv c.spread.new.working.changes (length a.states.items) (length a.links.items) (saves k c.spread.new.working c.spread.ensures.sizes) inv.points (stack_of a inv (length a.links.items) (omega arith)) (changed k _ _ b)) }

back : (c : After-save_changes) → LeadsBack c.self.inside.links.items c.lift.new.states c.spread.new.states c.lift.new.changes.entries c.spread.new.working.changes.entries
back c = rw (c.deref-2.ensures.value, c.deref_mut-2.ensures.value ∙ lifted (goal.at.invariant_of-self-in-Ok c).After-lift) at c.spread.ensures.back

before : (c : After-lift) → restored c.lift.new.changes.entries c.lift.new.states ≡ c.self.inside.states.items
before c = (rw c.deref_mut.ensures.value at c.lift.ensures.back) ∙ ap (λ (es : List SavedState). restored es c.self.inside.states.items) c.self.invariant.rest.unchanged

same_states : (c : After-save_changes) → take c.self.inside.states.len (c.spread.new.states ++ drop (length c.spread.new.states) (take c.self.inside.states.len (c.lift.new.states ++ drop (length c.lift.new.states) c.self.inside.states.items))) ≡ c.spread.new.states
same_states c = mut_items c.self.inside.states.len c.spread.new.states _ ((back c).len ∙ lift_len (goal.at.invariant_of-self-in-Ok c).After-lift)

sound : (c : After-save_changes) → IsSound (record { states = c.spread.new.states; caps = c.self.inside.caps.items; links = c.self.inside.links.items })
sound c =
    let k = (goal.at.invariant_of-self-in-Ok c).After-lift in
    let a = c.self.inside in
    sound_lift a.states.items c.lift.new.states c.spread.new.states a.caps.items a.links.items c.args.point.0 c.args.low a.working.waiting.flags c.lift.new.waiting.flags c.lift.new.changes.entries c.spread.new.working.changes.entries c.self.invariant.sound (known k) (more k) (lifts k) (back c)
    (rw (c.deref-2.ensures.value, c.deref_mut-2.ensures.value ∙ lifted k) at c.in-Ok.ensures.settled.rises)
    (rw c.deref.ensures.value at c.spread.ensures.below)
    (rw c.deref-2.ensures.value at c.in-Ok.ensures.settled.kept)

holds : (c : After-save_changes) → HoldsTogether c.self.inside c.spread.new.states c.self.inside.caps.items c.self.inside.links.items c.self.inside.heads.items c.save_changes.new.changes.older
holds c =
    let k = (goal.at.invariant_of-self-in-Ok c).After-lift in
    let a = c.self.inside in
    let inv = c.self.invariant in
    let b = back c in
    let n : length c.spread.new.states ≡ length a.states.items = b.len ∙ (lifts k).len in
    let known : AreKnown (length c.spread.new.states) c.spread.new.working.changes.entries = rw n (changed k _ _ b) in
    let same = saves k c.spread.new.working c.spread.ensures.sizes in
    let base : IsStack a.marks.items a.working.changes.older (length c.spread.new.states) (length a.links.items) a.working.changes.capacity = rw n (stack_of a inv (length a.links.items) (omega arith)) in
    let p = inv.points in
    record {
      points = omega arith;
      edges = inv.edges;
      stack = stack_by a.marks.items _ a.working.changes c.spread.new.working.changes c.save_changes.new.changes.older c.deref-in-Ok.ensures.value same c.save_changes.ensures.stack (length c.spread.new.states) (length a.links.items) known base;
      past = past_by a.marks.items _ a.working.changes c.spread.new.working.changes c.save_changes.new.changes.older c.deref-in-Ok.ensures.value same c.save_changes.ensures.past c.spread.new.states a.caps.items a.links.items (length a.links.items) base ∙ ap (λ (ss : List PointState). past_of a.marks.items a.working.changes.older ss a.caps.items a.links.items) (b.back ∙ before k);
      linked = rw n inv.linked;
      sound = sound c;
    }

abbrev after : After-save_changes → Inside
after c = record {
  max_points = c.self.inside.max_points;
  max_edges = c.self.inside.max_edges;
  max_marks = c.self.inside.max_marks;
  states = with_items (with_items c.self.inside.states c.lift.new.states) c.spread.new.states;
  caps = c.self.inside.caps;
  links = c.self.inside.links;
  heads = c.self.inside.heads;
  working = record { waiting = c.spread.new.working.waiting; changes = c.save_changes.new.changes; path = c.spread.new.working.path; places = c.spread.new.working.places };
  kept = c.self.inside.kept;
  marks = c.self.inside.marks;
}

changed_to : (c : After-save_changes) → IsChanged c.self.inside (after c) c.spread.new.states c.self.inside.caps.items c.self.inside.links.items c.self.inside.heads.items
changed_to c =
    let e = c.spread.ensures in
    let s = c.save_changes.ensures in
    record {
      states = same_states c;
      caps = refl;
      links = refl;
      heads = refl;
      marks = refl;
      points_same = refl;
      edges_same = refl;
      marks_same = refl;
      states_capacity = refl;
      caps_capacity = refl;
      links_capacity = refl;
      heads_capacity = refl;
      marks_capacity = refl;
      waits = e.sizes.waits ∙ c.lift.ensures.waits;
      noted = s.capacity ∙ e.sizes.noted.capacity ∙ c.lift.ensures.same.capacity;
      most = s.most ∙ e.sizes.noted.most ∙ c.lift.ensures.same.most;
      path = e.sizes.path;
      places = e.sizes.places;
      rest = record { idle = c.in-Ok.ensures.settled.idle; none = c.in-Ok.ensures.settled.none; unchanged = s.none; zeros = e.zeros };
    }

pub invariant_of-self-in-Ok : goal.invariant_of-self-in-Ok
invariant_of-self-in-Ok c = changed_live c.self.inside c.self.invariant (after c) c.spread.new.states c.self.inside.caps.items c.self.inside.links.items c.self.inside.heads.items (changed_to c) (holds c)

pub returns-in-Ok-clause-raised : goal.returns-in-Ok-clause-raised
returns-in-Ok-clause-raised c =
    let a = c.self.inside in
    let k = (goal.at.returns-in-Ok-clause-raised c).After-lift in
    ap (λ (ls : List ℕ). net_of ls a.caps.items (edges_of a.links.items)) (ap lows_of (same_states c) ∙ (back c).lows ∙ (lifts k).lows)
    ∙ ap (λ (s : LiveState). with_low s.net c.args.point.0 c.args.low) c.self.view_is

pub returns-in-Ok-clause-solved : goal.returns-in-Ok-clause-solved
returns-in-Ok-clause-solved c = (_, (invariant_of-self-in-Ok c).sound.least)

pub returns-in-Ok-clause-past : goal.returns-in-Ok-clause-past
returns-in-Ok-clause-past c = ap nets_of (changed_past c.self.inside c.self.invariant (after c) c.spread.new.states c.self.inside.caps.items c.self.inside.links.items c.self.inside.heads.items (changed_to c) (holds c)) ∙ ap (λ (s : LiveState). s.past) c.self.view_is

-- the points once the change is taken back
again : (c : After-kept-in-Err-1) → take c.self.inside.states.len (c.put_back.new.states ++ drop (length c.put_back.new.states) (take c.self.inside.states.len (c.spread.new.states ++ drop (length c.spread.new.states) (take c.self.inside.states.len (c.lift.new.states ++ drop (length c.lift.new.states) c.self.inside.states.items))))) ≡ c.self.inside.states.items
again c =
    let k = (goal.at.invariant_of-self-in-Err c).After-lift in
    let a = c.self.inside in
    let b : LeadsBack a.links.items c.lift.new.states c.spread.new.states c.lift.new.changes.entries c.spread.new.working.changes.entries = rw (c.deref-2.ensures.value, c.deref_mut-2.ensures.value ∙ lifted k) at c.spread.ensures.back in
    let v = c.deref_mut-in-Err.ensures.value ∙ mut_items a.states.len c.spread.new.states _ (b.len ∙ lift_len k) in
    mut_items a.states.len c.put_back.new.states _ (c.put_back.auto.states ∙ ap length v ∙ b.len ∙ lift_len k)
    ∙ c.put_back.ensures.states ∙ ap (restored c.spread.new.working.changes.entries) v ∙ b.back ∙ before k

older_same : (c : After-kept-in-Err-1) → c.put_back.new.self.older ≡ c.self.inside.working.changes.older
older_same c = c.put_back.ensures.same.older ∙ (saves (goal.at.invariant_of-self-in-Err c).After-lift c.spread.new.working c.spread.ensures.sizes).older

pub invariant_of-self-in-Err : goal.invariant_of-self-in-Err
invariant_of-self-in-Err c =
    let a = c.self.inside in
    let inv = c.self.invariant in
    let e = c.spread.ensures in
    changed_live a inv _ a.states.items a.caps.items a.links.items a.heads.items
    (record {
      states = again c;
      caps = refl;
      links = refl;
      heads = refl;
      marks = refl;
      points_same = refl;
      edges_same = refl;
      marks_same = refl;
      states_capacity = refl;
      caps_capacity = refl;
      links_capacity = refl;
      heads_capacity = refl;
      marks_capacity = refl;
      waits = c.clear-in-Err.ensures.len ∙ e.sizes.waits ∙ c.lift.ensures.waits;
      noted = c.put_back.ensures.same.capacity ∙ e.sizes.noted.capacity ∙ c.lift.ensures.same.capacity;
      most = c.put_back.ensures.same.most ∙ e.sizes.noted.most ∙ c.lift.ensures.same.most;
      path = e.sizes.path;
      places = e.sizes.places;
      rest = record { idle = c.clear-in-Err.ensures.idle; none = c.clear-in-Err.ensures.none; unchanged = c.put_back.ensures.entries; zeros = e.zeros };
    })
    (subst (HoldsTogether a a.states.items a.caps.items a.links.items a.heads.items) (sym (older_same c)) (as_it_was a inv))

pub returns-in-Err-clause-kept : goal.returns-in-Err-clause-kept
returns-in-Err-clause-kept c =
    let a = c.self.inside in
    ap (λ (ss : List PointState). net_of (lows_of ss) a.caps.items (edges_of a.links.items)) (again c) ∙ ap (λ (s : LiveState). s.net) c.self.view_is

pub returns-in-Err-clause-past : goal.returns-in-Err-clause-past
returns-in-Err-clause-past c =
    let a = c.self.inside in
    ap (λ (ss : List PointState). nets_of (past_of a.marks.items c.put_back.new.self.older ss a.caps.items a.links.items)) (again c)
    ∙ ap (λ (saved : List SavedState). nets_of (past_of a.marks.items saved a.states.items a.caps.items a.links.items)) (older_same c)
    ∙ ap (λ (s : LiveState). s.past) c.self.view_is

refuted : (c : After-kept-in-Err-1) → KeptRefutes (with_low c.args.self.now.net c.args.point.0 c.args.low) c.in-Err.kept c.spread.new.working.path.items
refuted c =
    let k = (goal.at.returns-in-Err-clause-late c).After-lift in
    let a = c.self.inside in
    let kept = c.in-Err.kept in
    let path = c.spread.new.working.path.items in
    let r : KeptRefutes (net_of (lows_of c.lift.new.states) a.caps.items (edges_of a.links.items)) kept path = rw (c.deref-2.ensures.value, c.deref.ensures.value, c.deref_mut-2.ensures.value ∙ lifted k) at c.in-Err.ensures.refuted in
    subst (λ (s : LiveState). KeptRefutes (with_low s.net c.args.point.0 c.args.low) kept path) c.self.view_is
    (subst (λ (ls : List ℕ). KeptRefutes (net_of ls a.caps.items (edges_of a.links.items)) kept path) (lifts k).lows r)

pub returns-in-Err-clause-refused : goal.returns-in-Err-clause-refused
returns-in-Err-clause-refused c = refuted c

pub returns-in-Err-clause-late : goal.returns-in-Err-clause-late
returns-in-Err-clause-late c = kept_refutes _ c.in-Err.kept c.spread.new.working.path.items (refuted c)

pub put_back-requires : goal.put_back-requires
put_back-requires c =
    let k = (goal.at.put_back-requires c).After-lift in
    let a = c.self.inside in
    let b : LeadsBack a.links.items c.lift.new.states c.spread.new.states c.lift.new.changes.entries c.spread.new.working.changes.entries = rw (c.deref-2.ensures.value, c.deref_mut-2.ensures.value ∙ lifted k) at c.spread.ensures.back in
    let v = c.deref_mut-in-Err.ensures.value ∙ mut_items a.states.len c.spread.new.states _ (b.len ∙ lift_len k) in
    subst (λ n. AreKnown n c.spread.new.working.changes.entries) (sym (ap length v ∙ b.len ∙ (lifts k).len)) (changed k _ _ b)

pub spread-requires-clause-reached : goal.spread-requires-clause-reached
spread-requires-clause-reached c = inl refl

pub spread-requires-clause-ready : goal.spread-requires-clause-ready
spread-requires-clause-ready c =
    let k = (goal.at.spread-requires-clause-ready c).After-lift in
    let a = c.self.inside in
    let inv = c.self.invariant in
    let nc = inv.sound.caps in
    let kn = known k in
    let i = get_or_read a.caps.items c.args.point.0 c.index.result.now (omega arith) c.index.ensures 0 in
    let fit = c.if-low-index.false in
    let nt = times_len a.states.items in
    let n1 = times_len c.lift.new.states in
    let ll = (lifts k).len in
    let within : AreWithin a.caps.items (times_of c.lift.new.states) = λ j h. (lifts k).below (slice_index a.caps.items) (λ m g. within_of (core_in a) inv.sound m (omega arith)) (omega arith) j (omega arith) in
    let links = a.links.items in
    let states = c.lift.new.states in
    let r = inv.capacity.working in
    let points = inv.points in
    let narrow = inv.capacity.narrow in
    let w = r.waits in
    let w2 = c.lift.ensures.waits in
    let p = r.path in
    let q = r.places in
    let n3 = r.noted in
    let n4 = c.lift.ensures.same.capacity in
    rw (c.deref.ensures.value, c.deref_mut-2.ensures.value ∙ lifted k, c.deref-2.ensures.value) (record {
      bounded = record {
        known = subst (λ n. All (IsKnown n) (edges_of links)) (sym ll) inv.sound.known;
        all_capped = inv.sound.caps ∙ sym ll;
        below = within;
      };
      supported = (lifts k).supported links inv.sound.supported;
      numbered = (lifts k).numbered links inv.sound.numbered;
      small = omega arith;
      capacity = record { waits = omega arith; noted = omega arith; path = omega arith; places = omega arith };
      zeros = inv.rest.zeros;
    })
