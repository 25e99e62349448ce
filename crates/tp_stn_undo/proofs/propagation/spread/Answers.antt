use Rattle.std.proofs.Common.{arith, ◌≡◌, ℕ, ◌∙◌, ◌<◌, ◌≤◌, ◌-◌, pos, ◌+ℤ◌, Bool, List, length, slice_index, false, refl, sym, ap, subst, get_or}
use Rattle.std.proofs.lemmas.Int.{ints}
use Rattle.std.proofs.lemmas.List.{length-set}
use Rattle.std.proofs.lemmas.List.Elements.{All-tail}
use Rattle.std.specs.List.{All}
use Rattle.tp_base.specs.Grows.{IsKnown, IsSupported, cause_of}
use Rattle.tp_stn_undo.specs.States.{times_of, edges_of, causes_of}
use Rattle.tp_stn_undo.specs.declared.point_state.PointState.{PointState}
use Rattle.tp_stn_undo.specs.declared.link.Link.{Link}
use Rattle.tp_stn_undo.specs.Marks.{AreLinks}
use Rattle.tp_stn_undo.specs.Flags.{flag, AreBelow}
use Rattle.tp_stn_undo.specs.Propagation.{KeptFrom, Reached}
use Rattle.tp_base.specs.declared.edges.Edge.{Edge}
use Rattle.std.proofs.lemmas.Option.{same_Some}
use Rattle.tp_stn_undo.proofs.CauseFacts.{no_link, edge_at}
use Rattle.tp_stn_undo.proofs.RaiseFacts.{time_at, met_same, asks_more, known as edge_known}
use Rattle.tp_stn_undo.proofs.FollowFacts.{risen_supported}
use Rattle.tp_stn_undo.proofs.SpreadFacts.{Next, States-trans, LeadsBack-trans, reached_head, reached_from, kept_head, kept_end, next_of, kept_next, all_kept, reached_within}
use Rattle.tp_stn_undo.proofs.NoteFacts.{same_saves}
use Rattle.tp_base.specs.Kept.{net_of, KeptRefutes}
use Rattle.tp_stn_undo.proofs.propagation.spread.Goals as goal
use Rattle.tp_stn_undo.proofs.propagation.spread.Goals.{then-reach-from+in-Ok, else-reach-from}

pub returns-in-Err-clause-back : goal.returns-in-Err-clause-back
returns-in-Err-clause-back c = LeadsBack-trans c.args.links.now c.args.states.now c.edges.states c.follow.new.states c.args.working.now.changes.entries c.edges.working.changes.entries c.follow.new.working.changes.entries c.edges.invariant.back c.follow.ensures.back

pub bounds-links-left : goal.bounds-links-left
bounds-links-left c =
    let r = reached_within c.args.links.now c.points.point c.edges.left c.edges.invariant.reached in
    let t = c.edges-test.true in
    omega arith

-- the edge at hand, and the one after it
module _ (links : List Link) (heads : List ℕ) (base states : List PointState) (point left : ℕ) (heads_are : AreLinks links heads (length base)) (all_known : All (IsKnown (length base)) (edges_of links))
    (len : length states ≡ length base) (reached : Reached links point left) (some : 0 < left) where
  within : left ≤ length links
  within = reached_within links point left reached

  all : All (IsKnown (length states)) (edges_of links)
  all = subst (λ (n : ℕ). All (IsKnown n) (edges_of links)) (sym len) all_known

  is_known : IsKnown (length states) (get_or links (left - 1) no_link).edge
  is_known = edge_known links states left some within all

  point_known : point < length states
  point_known = let b = reached_from links point left reached some in let f = is_known.from in omega arith

  next : Next links point left (get_or links (left - 1) no_link).older
  next = next_of links heads (length base) point left (get_or links (left - 1) no_link).older heads_are reached some refl

pub bounds-states-link : goal.bounds-states-link
bounds-states-link c = (is_known c.args.links.now c.args.heads.now c.args.states.now c.edges.states c.points.point c.edges.left c.requires.heads c.requires.ready.bounded.known c.edges.invariant.back.len c.edges.invariant.reached c.edges-test.true).to

pub overflow_add-reach : goal.overflow_add-reach
overflow_add-reach c =
    let k = is_known c.args.links.now c.args.heads.now c.args.states.now c.edges.states c.points.point c.edges.left c.requires.heads c.requires.ready.bounded.known c.edges.invariant.back.len c.edges.invariant.reached c.edges-test.true in
    let a = k.least in
    let b = k.most in
    omega (arith, ints)

pub bounds-states-point : goal.bounds-states-point
bounds-states-point c = point_known c.args.links.now c.args.heads.now c.args.states.now c.edges.states c.points.point c.edges.left c.requires.heads c.requires.ready.bounded.known c.edges.invariant.back.len c.edges.invariant.reached c.edges-test.true

pub edges-smaller : goal.edges-smaller
edges-smaller c = (next c.args.links.now c.args.heads.now c.args.states.now c.edges.states c.points.point c.edges.left c.requires.heads c.requires.ready.bounded.known c.edges.invariant.back.len c.edges.invariant.reached c.edges-test.true).less

pub edges-preserved : goal.edges-preserved
edges-preserved c = elim c.if-reach-from.branch [
  | then-reach-from+in-Ok w ↦ (
      let links = c.args.links.now in
      let inv = c.edges.invariant in
      let e = w.follow.ensures in
      let o = w.in-Ok.ensures in
      let point = c.points.point in
      let n = inv.back.len in
      let less = inv.less in
      let less2 = o.follows.less in
      let p1 = inv.sizes.path in
      let p2 = e.sizes.path in
      let q1 = inv.sizes.places in
      let q2 = e.sizes.places in
      rw (w.states-is, w.working-is) (record {
        back = LeadsBack-trans links c.args.states.now c.edges.states w.follow.new.states c.args.working.now.changes.entries c.edges.working.changes.entries w.follow.new.working.changes.entries inv.back e.back;
        rises = States-trans links c.args.states.now c.edges.states w.follow.new.states n inv.rises o.follows.rises;
        below = e.below;
        sizes = record { waits = e.sizes.waits ∙ inv.sizes.waits; noted = same_saves inv.sizes.noted e.sizes.noted; path = omega arith; places = omega arith };
        waiting = subst (λ (m : ℕ). AreBelow m w.follow.new.working.waiting.points) n (e.known (subst (λ (m : ℕ). AreBelow m c.edges.working.waiting.points) (sym n) inv.waiting));
        reached = (next c.args.links.now c.args.heads.now c.args.states.now c.edges.states c.points.point c.edges.left c.requires.heads c.requires.ready.bounded.known c.edges.invariant.back.len c.edges.invariant.reached c.edges-test.true).reached;
        kept = kept_next links point c.edges.left _ (slice_index (times_of w.follow.new.states)) w.follow.new.working.waiting.flags (next c.args.links.now c.args.heads.now c.args.states.now c.edges.states c.points.point c.edges.left c.requires.heads c.requires.ready.bounded.known c.edges.invariant.back.len c.edges.invariant.reached c.edges-test.true) c.edges-test.true (o.follows.kept (edges_of links) point c.edges.left inv.kept) o.follows.met;
        less = omega arith;
        zeros = e.zeros;
      }))
  | else-reach-from w ↦ (
      let links = c.args.links.now in
      let states = c.edges.states in
      let inv = c.edges.invariant in
      let known = is_known c.args.links.now c.args.heads.now c.args.states.now c.edges.states c.points.point c.edges.left c.requires.heads c.requires.ready.bounded.known c.edges.invariant.back.len c.edges.invariant.reached c.edges-test.true in
      let least = known.least in
      let most = known.most in
      let d = (get_or links (c.edges.left - 1) no_link).edge in
      let begins = reached_from links c.points.point c.edges.left c.edges.invariant.reached c.edges-test.true in
      let here : slice_index (times_of states) c.points.point ≡ slice_index (times_of states) d.from.0 = ap (slice_index (times_of states)) (sym begins) in
      let at_from = time_at states c.points.point (point_known c.args.links.now c.args.heads.now c.args.states.now c.edges.states c.points.point c.edges.left c.requires.heads c.requires.ready.bounded.known c.edges.invariant.back.len c.edges.invariant.reached c.edges-test.true) in
      let at_to = time_at states d.to.0 known.to in
      let test = w.if-reach-from.false in
      rw (w.states-is, w.working-is) (record {
        back = inv.back;
        rises = inv.rises;
        below = inv.below;
        sizes = inv.sizes;
        waiting = inv.waiting;
        reached = (next c.args.links.now c.args.heads.now c.args.states.now c.edges.states c.points.point c.edges.left c.requires.heads c.requires.ready.bounded.known c.edges.invariant.back.len c.edges.invariant.reached c.edges-test.true).reached;
        kept = kept_next links c.points.point c.edges.left _ (slice_index (times_of states)) c.edges.working.waiting.flags (next c.args.links.now c.args.heads.now c.args.states.now c.edges.states c.points.point c.edges.left c.requires.heads c.requires.ready.bounded.known c.edges.invariant.back.len c.edges.invariant.reached c.edges-test.true) c.edges-test.true inv.kept
            (met_same links states c.edges.left c.edges-test.true (within c.args.links.now c.args.heads.now c.args.states.now c.edges.states c.points.point c.edges.left c.requires.heads c.requires.ready.bounded.known c.edges.invariant.back.len c.edges.invariant.reached c.edges-test.true) (all c.args.links.now c.args.heads.now c.args.states.now c.edges.states c.points.point c.edges.left c.requires.heads c.requires.ready.bounded.known c.edges.invariant.back.len c.edges.invariant.reached c.edges-test.true) c.edges.working.waiting.flags (omega (arith, ints)));
        less = inv.less;
        zeros = inv.zeros;
      }))
]

pub bounds-heads-next : goal.bounds-heads-next
bounds-heads-next c =
    let k = (subst (AreBelow (length c.args.states.now)) c.in-Some.ensures.first c.edges.invariant.waiting) 0 c.in-Some.next (omega arith) in
    let l = c.requires.heads.len in
    omega arith

pub points-preserved : goal.points-preserved
points-preserved c =
    let links = c.args.links.now in
    let heads = c.args.heads.now in
    let point = c.in-Some.next in
    let inv = c.edges.invariant in
    let k : point < length c.args.states.now = (subst (AreBelow (length c.args.states.now)) c.in-Some.ensures.first inv.waiting) 0 point (omega arith) in
    let f = c.in-Some.ensures.flags in
    let l = ap length f ∙ length-set c.edges.working.waiting.flags point false in
    let end : c.edges.left ≡ 0 = omega (arith, c.edges-test.false) in
    let all = kept_end (edges_of links) c.points.point (slice_index (times_of c.edges.states)) c.edges.working.waiting.flags (subst (KeptFrom (edges_of links) (slice_index (times_of c.edges.states)) c.edges.working.waiting.flags c.points.point) end inv.kept) in
    record {
      back = inv.back;
      rises = inv.rises;
      below = inv.below;
      sizes = record { waits = l ∙ inv.sizes.waits; noted = inv.sizes.noted; path = inv.sizes.path; places = inv.sizes.places };
      waiting = All-tail (λ p. p < length c.args.states.now) point c.pop.new.self.points (subst (AreBelow (length c.args.states.now)) c.in-Some.ensures.first inv.waiting);
      reached = reached_head links heads (length c.args.states.now) point (slice_index heads point) c.requires.heads k refl;
      kept = subst (λ (fs : List Bool). KeptFrom (edges_of links) (slice_index (times_of c.edges.states)) fs point (slice_index heads point)) (sym f)
          (kept_head links heads (length c.args.states.now) point (slice_index heads point) (slice_index (times_of c.edges.states)) c.edges.working.waiting.flags c.requires.heads k refl all);
      zeros = inv.zeros;
    }

pub follow-requires-clause-asks : goal.follow-requires-clause-asks
follow-requires-clause-asks c = record {
  some = c.edges-test.true;
  within = reached_within c.args.links.now c.points.point c.edges.left c.edges.invariant.reached;
  more = (
      let links = c.args.links.now in
      let states = c.edges.states in
      let w = is_known c.args.links.now c.args.heads.now c.args.states.now c.edges.states c.points.point c.edges.left c.requires.heads c.requires.ready.bounded.known c.edges.invariant.back.len c.edges.invariant.reached c.edges-test.true in
      let least = w.least in
      let most = w.most in
      let d = (get_or links (c.edges.left - 1) no_link).edge in
      let begins = reached_from links c.points.point c.edges.left c.edges.invariant.reached c.edges-test.true in
      let here : slice_index (times_of states) c.points.point ≡ slice_index (times_of states) d.from.0 = ap (slice_index (times_of states)) (sym begins) in
      let at_from = time_at states c.points.point (point_known c.args.links.now c.args.heads.now c.args.states.now c.edges.states c.points.point c.edges.left c.requires.heads c.requires.ready.bounded.known c.edges.invariant.back.len c.edges.invariant.reached c.edges-test.true) in
      let at_to = time_at states d.to.0 w.to in
      let test = c.if-reach-from.true in
      asks_more links states c.edges.left c.edges-test.true (within c.args.links.now c.args.heads.now c.args.states.now c.edges.states c.points.point c.edges.left c.requires.heads c.requires.ready.bounded.known c.edges.invariant.back.len c.edges.invariant.reached c.edges-test.true) (all c.args.links.now c.args.heads.now c.args.states.now c.edges.states c.points.point c.edges.left c.requires.heads c.requires.ready.bounded.known c.edges.invariant.back.len c.edges.invariant.reached c.edges-test.true) (omega (arith, ints)));
  asked = λ e g. (
      let links = c.args.links.now in
      let states = c.edges.states in
      let w = is_known c.args.links.now c.args.heads.now c.args.states.now c.edges.states c.points.point c.edges.left c.requires.heads c.requires.ready.bounded.known c.edges.invariant.back.len c.edges.invariant.reached c.edges-test.true in
      let least = w.least in
      let most = w.most in
      let d = (get_or links (c.edges.left - 1) no_link).edge in
      let begins = reached_from links c.points.point c.edges.left c.edges.invariant.reached c.edges-test.true in
      let here : slice_index (times_of states) c.points.point ≡ slice_index (times_of states) d.from.0 = ap (slice_index (times_of states)) (sym begins) in
      let at_from = time_at states c.points.point (point_known c.args.links.now c.args.heads.now c.args.states.now c.edges.states c.points.point c.edges.left c.requires.heads c.requires.ready.bounded.known c.edges.invariant.back.len c.edges.invariant.reached c.edges-test.true) in
      let same : d ≡ e = same_Some d e (sym (edge_at links c.edges.left no_link c.edges-test.true (within c.args.links.now c.args.heads.now c.args.states.now c.edges.states c.points.point c.edges.left c.requires.heads c.requires.ready.bounded.known c.edges.invariant.back.len c.edges.invariant.reached c.edges-test.true)) ∙ g) in
      let moved : (pos (slice_index (times_of states) d.from.0) +ℤ d.weight) ≡ (pos (slice_index (times_of states) e.from.0) +ℤ e.weight) = ap (λ (x : Edge). pos (slice_index (times_of states) x.from.0) +ℤ x.weight) same in
      omega (arith, ints));
}

pub follow-requires-clause-ready : goal.follow-requires-clause-ready
follow-requires-clause-ready c =
    let links = c.args.links.now in
    let states = c.edges.states in
    let inv = c.edges.invariant in
    let ready = c.requires.ready in
    let n = inv.back.len in
    let small = ready.small in
    let w = ready.capacity.waits in
    let w2 = inv.sizes.waits in
    let k = ready.capacity.noted in
    let k2 = inv.sizes.noted.capacity in
    let p = ready.capacity.path in
    let p2 = inv.sizes.path in
    let q = ready.capacity.places in
    let q2 = inv.sizes.places in
    record {
      bounded = record {
        known = all c.args.links.now c.args.heads.now c.args.states.now c.edges.states c.points.point c.edges.left c.requires.heads c.requires.ready.bounded.known c.edges.invariant.back.len c.edges.invariant.reached c.edges-test.true;
        all_capped = ready.bounded.all_capped ∙ sym n;
        below = inv.below;
      };
      supported = subst (λ (ls : List ℕ). IsSupported ls (edges_of links) (slice_index (times_of states)) (cause_of (causes_of (edges_of links) states))) (sym inv.back.lows)
          (risen_supported links c.args.states.now states c.args.caps.now ready.supported inv.back.len inv.rises);
      numbered = inv.back.numbered ready.numbered;
      small = omega arith;
      capacity = record { waits = omega arith; noted = omega arith; path = omega arith; places = omega arith };
      zeros = inv.zeros;
    }

pub returns-in-Err-clause-refuted : goal.returns-in-Err-clause-refuted
returns-in-Err-clause-refuted c =
    subst (λ (ls : List ℕ). KeptRefutes (net_of ls c.args.caps.now (edges_of c.args.links.now)) c.in-Err.kept c.follow.new.working.path.items) c.edges.invariant.back.lows c.in-Err.ensures.refuted

pub returns-in-None-clause-settled : goal.returns-in-None-clause-settled
returns-in-None-clause-settled c =
    let links = c.args.links.now in
    let inv = c.edges.invariant in
    let end : c.edges.left ≡ 0 = omega (arith, c.edges-test.false) in
    let begun = kept_end (edges_of links) c.points.point (slice_index (times_of c.edges.states)) c.edges.working.waiting.flags (subst (KeptFrom (edges_of links) (slice_index (times_of c.edges.states)) c.edges.working.waiting.flags c.points.point) end inv.kept) in
    record {
      rises = inv.rises;
      kept = all_kept (edges_of links) (slice_index (times_of c.edges.states)) c.edges.working.waiting.flags begun
          (λ v. ap (λ (fs : List Bool). flag fs v) (sym c.in-None.ensures.same) ∙ c.in-None.ensures.idle v);
      idle = c.in-None.ensures.idle;
      none = c.in-None.ensures.none;
    }
