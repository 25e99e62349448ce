use Rattle.std.proofs.Common.{◌≡◌, ◌∙◌, ◌+◌, ◌≤◌, ap, arith, false, length, refl, slice_index, subst, sym, take}
use Rattle.std.specs.List.{flat_map}
use Rattle.tp_base.specs.Net.{Net}
use Rattle.tp_schedule.specs.Plans.{IsFormed}
use Rattle.tp_schedule.specs.declared.parts.Plan.{Plan}
use Rattle.tp_constraints.specs.Gaps.{low_of, cap_of}
use Rattle.tp_placing.specs.LoadedNet.{lows_of, point_count}
use Rattle.tp_placing.proofs.LoadPoints.{count-more, count-within}
use Rattle.tp_placing.proofs.MovedBounds.{row-at, rows-all, rows-length, rows-more, rows-next}
use Rattle.tp_placing.proofs.NetworkFacts.{same-size-itself, same-size-then}
use Rattle.tp_placing.proofs.clock_move.move_points.Goals as goal
use Rattle.tp_placing.proofs.clock_move.move_points.Goals.{After-plan-item}

pub loop-plan-init : goal.loop-plan-init
loop-plan-init g c = record {
  first = refl;
  lows = refl;
  caps = refl;
  edges = refl;
  least = λ x l. l;
  past = c.requires.unmarked;
  same_size = same-size-itself g.N.Network.reading c.args.net.now;
}

module _ (g : _) (c : After-plan-item g) where
  -- how many points there are up to the end of this plan
  counted : point_count (take (c.loop-plan.plan-index + 1) c.args.plans.now) ≡ c.loop-plan.first + (length c.plan-item.result.acts + 1)
  counted =
      let m = count-more c.loop-plan.plan-index c.args.plans.now c.plan-item.result c.loop-plan-test.true in
      let same = ap (λ (p : Plan). length p.acts) c.plan-item.is in
      omega (arith, m, same, c.loop-plan.invariant.first)

  fits : c.loop-plan.first + (length c.plan-item.result.acts + 1) ≤ point_count c.args.plans.now
  fits = omega (arith, counted, count-within (c.loop-plan.plan-index + 1) c.args.plans.now)

  lows-length : length (g.N.Network.reading.net c.loop-plan.net).lows ≡ length (g.N.Network.reading.net c.args.net.now).lows
  lows-length =
      rows-length (low_of c.args.floor (λ _. false)) c.args.plans.now c.loop-plan.plan-index c.loop-plan.first (g.N.Network.reading.net c.args.net.now).lows (g.N.Network.reading.net c.loop-plan.net).lows
      c.loop-plan.invariant.first (omega (arith, fits, c.requires.known)) c.loop-plan.invariant.lows

  caps-length : length (g.N.Network.reading.net c.loop-plan.net).caps ≡ length (g.N.Network.reading.net c.args.net.now).caps
  caps-length =
      rows-length (cap_of c.args.horizon) c.args.plans.now c.loop-plan.plan-index c.loop-plan.first (g.N.Network.reading.net c.args.net.now).caps (g.N.Network.reading.net c.loop-plan.net).caps
      c.loop-plan.invariant.first (omega (arith, fits, c.requires.known, c.requires.caps)) c.loop-plan.invariant.caps

pub move_plan-requires-clause-formed : goal.move_plan-requires-clause-formed
move_plan-requires-clause-formed g c = subst IsFormed (sym c.plan-item.is) (c.requires.formed c.loop-plan.plan-index c.plan-item.result c.loop-plan-test.true)

pub move_plan-requires-clause-known : goal.move_plan-requires-clause-known
move_plan-requires-clause-known g c =
    let k = (goal.at.move_plan-requires-clause-known g c).After-plan-item in
    omega (arith, fits g k, lows-length g k, c.requires.known)

pub move_plan-requires-clause-caps : goal.move_plan-requires-clause-caps
move_plan-requires-clause-caps g c =
    let k = (goal.at.move_plan-requires-clause-caps g c).After-plan-item in
    caps-length g k ∙ c.requires.caps ∙ sym (lows-length g k)

pub move_plan-requires-clause-fits : goal.move_plan-requires-clause-fits
move_plan-requires-clause-fits g c =
    let k = (goal.at.move_plan-requires-clause-fits g c).After-plan-item in
    omega (arith, fits g k, c.requires.fits)

pub move_plan-requires-clause-more : goal.move_plan-requires-clause-more
move_plan-requires-clause-more g c i le =
    let k = (goal.at.move_plan-requires-clause-more g c).After-plan-item in
    let old = rows-next (low_of c.args.floor (λ _. false)) c.args.plans.now c.loop-plan.plan-index c.loop-plan.first (g.N.Network.reading.net c.args.net.now).lows (g.N.Network.reading.net c.loop-plan.net).lows i
    c.loop-plan.invariant.first c.loop-plan.invariant.lows in
    let new = row-at (low_of c.args.floor (λ _. false)) c.args.plans.now c.loop-plan.plan-index c.plan-item.result c.loop-plan-test.true c.plan-item.is i le in
    let at = ap (λ n. slice_index (flat_map (lows_of c.args.floor) c.args.plans.now) (n + i)) c.loop-plan.invariant.first in
    let more = c.requires.more (c.loop-plan.first + i) (omega (arith, fits g k)) in
    omega (arith, old, new, at, more)

pub returns-then-not-move_plan-clause-least : goal.returns-then-not-move_plan-clause-least
returns-then-not-move_plan-clause-least g c x l = c.move_plan.ensures.least x (c.loop-plan.invariant.least x l)

pub overflow_add-first : goal.overflow_add-first
overflow_add-first g c =
    let k = (goal.at.overflow_add-first g c).After-plan-item in
    omega (arith, fits g k, c.requires.fits, c.len.ensures.len)

pub overflow_add-first-in-loop-plan : goal.overflow_add-first-in-loop-plan
overflow_add-first-in-loop-plan g c =
    let k = (goal.at.overflow_add-first-in-loop-plan g c).After-plan-item in
    omega (arith, fits g k, c.requires.fits, c.len.ensures.len)

pub loop-plan-preserved : goal.loop-plan-preserved
loop-plan-preserved g c =
    let k = (goal.at.loop-plan-preserved g c).After-plan-item in
    let v = c.loop-plan.invariant in
    let m = c.move_plan.ensures in
    let moved = m.moved c.if-not-move_plan.false in
    rw c.len.ensures.len (record {
      first = omega (arith, counted g k);
      lows = rows-more (low_of c.args.floor (λ _. false)) c.args.plans.now c.loop-plan.plan-index c.loop-plan.first c.plan-item.result (g.N.Network.reading.net c.args.net.now).lows (g.N.Network.reading.net c.loop-plan.net).lows (g.N.Network.reading.net c.move_plan.new.net).lows
          c.loop-plan-test.true c.plan-item.is v.first v.lows (ap (λ (n : Net). n.lows) moved);
      caps = rows-more (cap_of c.args.horizon) c.args.plans.now c.loop-plan.plan-index c.loop-plan.first c.plan-item.result (g.N.Network.reading.net c.args.net.now).caps (g.N.Network.reading.net c.loop-plan.net).caps (g.N.Network.reading.net c.move_plan.new.net).caps
          c.loop-plan-test.true c.plan-item.is v.first v.caps (ap (λ (n : Net). n.caps) moved);
      edges = ap (λ (n : Net). n.edges) moved ∙ v.edges;
      least = λ x l. m.least x (v.least x l);
      past = m.past;
      same_size = same-size-then v.same_size m.same_size;
    })

pub returns-clause-lows : goal.returns-clause-lows
returns-clause-lows g c _ =
    rows-all (low_of c.args.floor (λ _. false)) c.args.plans.now c.loop-plan.plan-index c.loop-plan.first (g.N.Network.reading.net c.args.net.now).lows (g.N.Network.reading.net c.loop-plan.net).lows
    (omega (arith, c.loop-plan-test.false)) c.loop-plan.invariant.first c.requires.known c.loop-plan.invariant.lows

pub returns-clause-caps : goal.returns-clause-caps
returns-clause-caps g c _ =
    rows-all (cap_of c.args.horizon) c.args.plans.now c.loop-plan.plan-index c.loop-plan.first (g.N.Network.reading.net c.args.net.now).caps (g.N.Network.reading.net c.loop-plan.net).caps
    (omega (arith, c.loop-plan-test.false)) c.loop-plan.invariant.first (c.requires.known ∙ sym c.requires.caps) c.loop-plan.invariant.caps
