use Rattle.std.proofs.Common.{arith, ◌≡◌, ◌≢◌, ℕ, ◌<◌, ◌≤◌, ◌+◌, ◌-◌, List, Option, length, refl, get_or, slice_index}
use Rattle.std.proofs.lemmas.List.{length-map, length-set}
use Rattle.std.proofs.lemmas.Option.{slice_get_within}
use Rattle.std.specs.List.{All}
use Rattle.tp_base.specs.declared.edges.Edge.{Edge}
use Rattle.tp_base.proofs.TraceFacts.{IsWayBack, WayBack-short, WayBack-push, WayBack-chain, WayBack-circle}
use Rattle.tp_base.proofs.WalkFacts.{AreMarked, AreMarked-push}
use Rattle.tp_stn_undo.specs.declared.point_state.PointState.{PointState}
use Rattle.tp_stn_undo.specs.declared.link.Link.{Link}
use Rattle.tp_stn_undo.specs.States.{edges_of, causes_of, numbered}
use Rattle.tp_stn_undo.proofs.CauseFacts.{no_state, no_link, cause_none, cause_some}
use Rattle.tp_stn_undo.proofs.TracedFacts.{marked_ways}
use Rattle.tp_stn_undo.proofs.cause_trace.walk_back.Goals as goal

causes_len : (links : List Link) (states : List PointState) → length (causes_of (edges_of links) states) ≡ length states
causes_len links states = length-map states (λ (s : PointState). numbered (edges_of links) s.cause)

-- the point was not passed yet
module _ (causes : List (Option Edge)) (places : List ℕ) (path : List Edge) (from at : ℕ) (m : AreMarked (length places) places path) (w : IsWayBack causes from path at) (n : length causes ≤ length places) (z : slice_index places at ≤ 0) where
  free : All (λ (e : Edge). e.to.0 ≢ at) path
  free = let k = w.known in m.free at (omega arith) (omega arith)

  short : length path < length causes
  short = WayBack-short causes from at path w free

pub back-preserved : goal.back-preserved
back-preserved c =
    let links = c.args.links.now in
    let states = c.args.states.now in
    let causes = causes_of (edges_of links) states in
    let at = c.back.at.0 in
    let places = c.back.places in
    let path = c.back.path.items in
    let w = c.back.invariant.way in
    let m = c.back.invariant.marked in
    let len = causes_len links states in
    let a = c.back.auto.places in
    let r = c.requires.places_capacity in
    let z : slice_index places at ≤ 0 = c.if-place-gt0.false in
    let none = free causes places path c.args.from.0 at m w (omega arith) z in
    let k = w.known in
    let known : at < length states = omega arith in
    let q = c.if-cause-eq0.false in
    let some : 0 < (get_or states at no_state).cause = omega arith in
    let is = cause_some links states at known no_link some (c.requires.numbered at no_state known) in
    let e = (get_or links ((get_or states at no_state).cause - 1) no_link).edge in
    let to = (c.requires.causes at e k is).0 in
    let n : c.len.result ≡ length path + 1 = omega (arith, c.len.ensures, c.push_reserved.ensures.len, c.back.path.ok.0) in
    let kept = c.back.invariant.path_kept in
    let cap = c.push_reserved.ensures.capacity in
    let ls = length-set places at (length path + 1) in
    record {
      way = rw c.push_reserved.ensures.items (WayBack-push causes c.args.from.0 at path e w none c.requires.causes is);
      marked = rw (c.push_reserved.ensures.items, n, ls) (AreMarked-push (length places) places path at e m (omega arith) to);
      path_kept = omega arith;
    }

pub back-smaller : goal.back-smaller
back-smaller c =
    let links = c.args.links.now in
    let states = c.args.states.now in
    let len = causes_len links states in
    let a = c.back.auto.places in
    let r = c.requires.places_capacity in
    let s = short (causes_of (edges_of links) states) c.back.places c.back.path.items c.args.from.0 c.back.at.0 c.back.invariant.marked c.back.invariant.way (omega arith) c.if-place-gt0.false in
    let h = c.push_reserved.ensures.len in
    let n = c.back.path.ok.0 in
    let m = c.push_reserved.new.self.ok.0 in
    omega arith

pub overflow_cast-places : goal.overflow_cast-places
overflow_cast-places c =
    let links = c.args.links.now in
    let states = c.args.states.now in
    let len = causes_len links states in
    let a = c.back.auto.places in
    let r = c.requires.places_capacity in
    let s = short (causes_of (edges_of links) states) c.back.places c.back.path.items c.args.from.0 c.back.at.0 c.back.invariant.marked c.back.invariant.way (omega arith) c.if-place-gt0.false in
    let h = c.push_reserved.ensures.len in
    let n = c.back.path.ok.0 in
    let m = c.push_reserved.new.self.ok.0 in
    let l = c.len.ensures in
    let small = c.requires.small in
    omega arith

pub push_reserved-requires : goal.push_reserved-requires
push_reserved-requires c =
    let links = c.args.links.now in
    let states = c.args.states.now in
    let len = causes_len links states in
    let a = c.back.auto.places in
    let r = c.requires.places_capacity in
    let s = short (causes_of (edges_of links) states) c.back.places c.back.path.items c.args.from.0 c.back.at.0 c.back.invariant.marked c.back.invariant.way (omega arith) c.if-place-gt0.false in
    let n = c.back.path.ok.0 in
    let p = c.requires.path_capacity in
    let q = c.back.invariant.path_kept in
    omega arith

pub returns-then-cause-eq0-clause-marked : goal.returns-then-cause-eq0-clause-marked
returns-then-cause-eq0-clause-marked c =
    let len = causes_len c.args.links.now c.args.states.now in
    let a = c.back.auto.places in
    let r = c.requires.places_capacity in
    marked_ways c.back.places c.back.path.items (causes_of (edges_of c.args.links.now) c.args.states.now) c.args.from.0 c.back.at.0 c.back.invariant.marked c.back.invariant.way (omega arith)

pub returns-then-cause-eq0-clause-traced : goal.returns-then-cause-eq0-clause-traced
returns-then-cause-eq0-clause-traced c =
    let links = c.args.links.now in
    let states = c.args.states.now in
    let causes = causes_of (edges_of links) states in
    let at = c.back.at.0 in
    let w = c.back.invariant.way in
    let len = causes_len links states in
    let a = c.back.auto.places in
    let r = c.requires.places_capacity in
    let none = free causes c.back.places c.back.path.items c.args.from.0 at c.back.invariant.marked w (omega arith) c.if-place-gt0.false in
    let k = w.known in
    (refl, WayBack-chain causes c.args.from.0 at c.back.path.items w none (cause_none links states at (omega arith) c.if-cause-eq0.true))

pub returns-then-place-gt0-clause-marked : goal.returns-then-place-gt0-clause-marked
returns-then-place-gt0-clause-marked c =
    let len = causes_len c.args.links.now c.args.states.now in
    let a = c.back.auto.places in
    let r = c.requires.places_capacity in
    marked_ways c.back.places c.back.path.items (causes_of (edges_of c.args.links.now) c.args.states.now) c.args.from.0 c.back.at.0 c.back.invariant.marked c.back.invariant.way (omega arith)

pub returns-then-place-gt0-clause-traced : goal.returns-then-place-gt0-clause-traced
returns-then-place-gt0-clause-traced c =
    let links = c.args.links.now in
    let states = c.args.states.now in
    let causes = causes_of (edges_of links) states in
    let at = c.back.at.0 in
    let path = c.back.path.items in
    let w = c.back.invariant.way in
    let len = causes_len links states in
    let a = c.back.auto.places in
    let r = c.requires.places_capacity in
    let k = w.known in
    let place = slice_index c.back.places at in
    let some : 0 < place = c.if-place-gt0.true in
    let f = c.back.invariant.marked.held at (place - 1) (omega arith) (omega arith) in
    (slice_get_within path (place - 1) f.0 f.1, WayBack-circle causes c.args.from.0 at path (place - 1) f.0 w f.1 f.2)
