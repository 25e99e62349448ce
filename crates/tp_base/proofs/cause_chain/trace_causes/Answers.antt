use Rattle.std.proofs.Common.{arith, ◌≡◌, ◌<◌, ◌+◌, ◌-◌, length, ap, ◌∙◌, take}
use Rattle.tp_base.proofs.TraceFacts.{WayBack-short, WayBack-push, WayBack-chain, WayBack-circle}
use Rattle.tp_base.proofs.WalkFacts.{AreMarked-push, free_at, held_at, place_within}
use Rattle.tp_base.proofs.cause_chain.trace_causes.Goals as goal

pub overflow_sub-len : goal.overflow_sub-len
overflow_sub-len c =
    let k = place_within (length c.args.causes.now) c.back.places.items c.back.path.items c.back.at.0 c.index-place.result.now c.back.invariant.marked c.back.invariant.way.known c.index-place.ensures c.if-place-gt0.true in
    let n = c.back.path.ok.0 in
    let l = c.reverse.ensures.len in
    omega arith

pub push_reserved-requires : goal.push_reserved-requires
push_reserved-requires c =
    let none = free_at (length c.args.causes.now) c.back.places.items c.back.path.items c.back.at.0 c.index-place.result.now c.back.invariant.marked c.back.invariant.way.known c.index-place.ensures c.if-place-gt0.false in
    let k : length c.back.path.items < length c.args.causes.now = WayBack-short c.args.causes.now c.args.from.0 c.back.at.0 c.back.path.items c.back.invariant.way none in
    let n = c.back.path.ok.0 in
    let r = c.requires.path_capacity in
    let p = c.back.invariant.path_kept in
    omega arith

pub back-smaller : goal.back-smaller
back-smaller c =
    let none = free_at (length c.args.causes.now) c.back.places.items c.back.path.items c.back.at.0 c.index-place.result.now c.back.invariant.marked c.back.invariant.way.known c.index-place.ensures c.if-place-gt0.false in
    let k : length c.back.path.items < length c.args.causes.now = WayBack-short c.args.causes.now c.args.from.0 c.back.at.0 c.back.path.items c.back.invariant.way none in
    let h = c.push_reserved.ensures.len in
    let n = c.back.path.ok.0 in
    let m = c.push_reserved.new.self.ok.0 in
    omega arith

pub back-preserved : goal.back-preserved
back-preserved c =
    let none = free_at (length c.args.causes.now) c.back.places.items c.back.path.items c.back.at.0 c.index-place.result.now c.back.invariant.marked c.back.invariant.way.known c.index-place.ensures c.if-place-gt0.false in
    let e = c.in-Some.edge in
    let to = (c.requires.causes c.back.at.0 e c.back.invariant.way.known c.in-Some.is).0 in
    let n : c.len-in-back.result ≡ length c.back.path.items + 1 = omega (arith, c.len-in-back.ensures, c.push_reserved.ensures.len, c.back.path.ok.0) in
    record {
      way = rw c.push_reserved.ensures.items (WayBack-push c.args.causes.now c.args.from.0 c.back.at.0 c.back.path.items e c.back.invariant.way none c.requires.causes c.in-Some.is);
      marked = rw (c.push_reserved.ensures.items, n) (AreMarked-push (length c.args.causes.now) c.back.places.items c.back.path.items c.back.at.0 e c.back.invariant.marked c.back.invariant.way.known to);
      path_kept = omega arith;
      places_kept = omega arith;
    }

pub returns-in_default-causes-clause-chain : goal.returns-in_default-causes-clause-chain
returns-in_default-causes-clause-chain c =
    let none = free_at (length c.args.causes.now) c.back.places.items c.back.path.items c.back.at.0 c.index-place.result.now c.back.invariant.marked c.back.invariant.way.known c.index-place.ensures c.if-place-gt0.false in
    rw c.reverse-in_default-causes.ensures.items (WayBack-chain c.args.causes.now c.args.from.0 c.back.at.0 c.back.path.items c.back.invariant.way none c.in_default-causes.is)

pub returns-then-place-gt0-clause-circle : goal.returns-then-place-gt0-clause-circle
returns-then-place-gt0-clause-circle c =
    let place = c.index-place.result.now in
    let some = c.if-place-gt0.true in
    let w = held_at (length c.args.causes.now) c.back.places.items c.back.path.items c.back.at.0 place c.back.invariant.marked c.back.invariant.way.known c.index-place.ensures some in
    let k = place_within (length c.args.causes.now) c.back.places.items c.back.path.items c.back.at.0 place c.back.invariant.marked c.back.invariant.way.known c.index-place.ensures some in
    let n = c.back.path.ok.0 in
    let l = c.reverse.ensures.len in
    let q : c.len.result + 1 - place ≡ length c.back.path.items - (place - 1) = omega arith in
    let e : c.truncate.new.self.items ≡ take (length c.back.path.items - (place - 1)) c.reverse.new.self.items = c.truncate.ensures.items ∙ ap (λ k. take k c.reverse.new.self.items) q in
    rw (e, c.reverse.ensures.items) (WayBack-circle c.args.causes.now c.args.from.0 c.back.at.0 c.back.path.items (place - 1) w.0 c.back.invariant.way w.1 w.2)
