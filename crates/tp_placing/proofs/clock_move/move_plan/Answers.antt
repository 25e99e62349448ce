use Rattle.std.proofs.Common.{◌≡◌, ◌∙◌, suc, ◌+◌, ◌<◌, length, ap, arith, false, slice_index, sym}
use Rattle.tp_schedule.specs.Times.{ticks_from}
use Rattle.tp_constraints.specs.Gaps.{low_of, cap_of}
use Rattle.tp_placing.specs.ClockMove.{with_bounds_from}
use Rattle.tp_placing.proofs.MovedBounds.{bounds-next, bounds-so-far, earliest-around, replaced-none}
use Rattle.tp_placing.proofs.NetworkFacts.{same-size-itself, same-size-then}
use Rattle.tp_placing.proofs.clock_move.move_plan.Goals as goal
use Rattle.tp_placing.proofs.clock_move.move_plan.Goals.{After-earliest-time}

pub loop-at-init : goal.loop-at-init
loop-at-init g c = record {
  moved = (λ i. record { lows = sym (replaced-none c.args.first (g.N.Network.reading.net c.args.net.now).lows) i; caps = sym (replaced-none c.args.first (g.N.Network.reading.net c.args.net.now).caps) i; edges = (g.N.Network.reading.net c.args.net.now).edges });
  least = λ x l. l;
  past = c.requires.unmarked;
  same_size = same-size-itself g.N.Network.reading c.args.net.now;
}

-- the point is there
less : (g : _) (c : After-earliest-time g) → c.args.first + c.loop-at.at < length (g.N.Network.reading.net c.args.net.now).lows
less g c = omega (arith, c.requires.known, c.len-at-end.ensures.len, c.loop-at-test.true)

-- the lower bounds so far
lows-are : (g : _) (c : After-earliest-time g) → (length (g.N.Network.reading.net c.loop-at.net).lows ≡ length (g.N.Network.reading.net c.args.net.now).lows)
    × (slice_index (g.N.Network.reading.net c.loop-at.net).lows (c.args.first + c.loop-at.at) ≡ slice_index (g.N.Network.reading.net c.args.net.now).lows (c.args.first + c.loop-at.at))
lows-are g c =
    bounds-so-far c.args.first c.loop-at.at (c.args.first + c.loop-at.at) (low_of c.args.floor (λ _. false) c.args.plan.now) (cap_of c.args.horizon c.args.plan.now) (g.N.Network.reading.net c.args.net.now) (g.N.Network.reading.net c.loop-at.net)
    (omega arith) (less g c) c.loop-at.invariant.moved

pub set_bounds-requires-clause-more : goal.set_bounds-requires-clause-more
set_bounds-requires-clause-more g c =
    let k = (goal.at.set_bounds-requires-clause-more g c).After-earliest-time in
    let old = c.requires.more c.loop-at.at (omega (arith, c.len-at-end.ensures.len, c.loop-at-test.true)) in
    omega (arith, old, (lows-are g k).1, c.lowest-low.ensures)

pub set_bounds-requires-clause-around : goal.set_bounds-requires-clause-around
set_bounds-requires-clause-around g c t e =
    let k = (goal.at.set_bounds-requires-clause-around g c).After-earliest-time in
    earliest-around (g.N.Network.reading.net c.loop-at.net) (c.args.first + c.loop-at.at) c.earliest-time.result c.lowest-low.result c.highest-cap.result t
    (omega (arith, less g k, (lows-are g k).0)) c.earliest-time.ensures c.if-time-low.false c.if-cap-time.false e

pub loop-at-preserved : goal.loop-at-preserved
loop-at-preserved g c =
    let k = (goal.at.loop-at-preserved g c).After-earliest-time in
    let v = c.loop-at.invariant in
    let s = c.set_bounds.ensures in
    record {
      moved = bounds-next c.args.first c.loop-at.at (c.args.first + c.loop-at.at) (low_of c.args.floor (λ _. false) c.args.plan.now) (cap_of c.args.horizon c.args.plan.now)
          (g.N.Network.reading.net c.args.net.now) (g.N.Network.reading.net c.loop-at.net) (g.N.Network.reading.net c.set_bounds.new.self) c.lowest-low.result c.highest-cap.result
          (omega arith) (less g k) c.requires.caps v.moved c.lowest-low.ensures c.highest-cap.ensures s.moved;
      least = λ x l. s.same_least x (v.least x l);
      past = s.past;
      same_size = same-size-then v.same_size s.same_size;
    }

pub returns-clause-moved : goal.returns-clause-moved
returns-clause-moved g c _ =
    let end = c.loop-at-test.false in
    let within = c.loop-at.auto.at-end in
    let len = c.len-at-end.ensures.len in
    let all : c.loop-at.at ≡ suc (length c.args.plan.now.acts) = omega arith in
    c.loop-at.invariant.moved
    ∙ ap (λ n. with_bounds_from c.args.first (ticks_from (low_of c.args.floor (λ _. false) c.args.plan.now) 0 n) (ticks_from (cap_of c.args.horizon c.args.plan.now) 0 n) (g.N.Network.reading.net c.args.net.now)) all
