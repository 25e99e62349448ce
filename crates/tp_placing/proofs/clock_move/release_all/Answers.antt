-- Each plan is as it was until it is released.
use Rattle.std.proofs.Common.{◌+◌, ℕ, ◌<◌, length, arith, rules}
use Rattle.tp_schedule.specs.Plans.{IsFormed, point}
use Rattle.tp_placing.proofs.MovedPlans.{further-next, next-of}
use Rattle.tp_placing.proofs.clock_move.release_all.Goals as goal
use Rattle.tp_placing.proofs.clock_move.release_all.Goals.{then-not-live, else-not-live}

pub can_release-requires-clause-formed : goal.can_release-requires-clause-formed
can_release-requires-clause-formed c =
    let h = c.loop-at in
    next-of IsFormed c.args.machine.now c.args.now h.at c.args.plans.now.items h.plans.items c.index-plan.result.now c.requires.formed h.invariant.further
    (let within = c.loop-at-test.true in let end = c.len-at-end.ensures in let same = h.invariant.count in search rules) h.invariant.count c.index-plan.ensures

pub can_release-requires-clause-rise : goal.can_release-requires-clause-rise
can_release-requires-clause-rise c =
    let h = c.loop-at in
    next-of (λ p. (i : ℕ) → i < length p.acts → point p i < point p (i + 1)) c.args.machine.now c.args.now h.at c.args.plans.now.items h.plans.items c.index-plan.result.now c.requires.rise h.invariant.further
    (let within = c.loop-at-test.true in let end = c.len-at-end.ensures in let same = h.invariant.count in search rules) h.invariant.count c.index-plan.ensures

pub loop-at-preserved : goal.loop-at-preserved
loop-at-preserved c =
    let h = c.loop-at in
    let within : h.at < length h.plans.items = (let within = c.loop-at-test.true in let end = c.len-at-end.ensures in let same = h.invariant.count in search rules) in record {
      over = elim c.if-not-live.branch [ then-not-live w ↦ omega arith | else-not-live w ↦ omega arith ];
      count = search rules;
      further = further-next c.args.machine.now c.args.now h.at (h.at + 1) c.released_in-released.result c.args.plans.now.items h.plans.items c.index-plan.result.now c.index_mut.result.now (omega arith) within c.index-plan.ensures c.index_mut.ensures.value
          (c.can_release.ensures c.if-not-can_release.false) h.invariant.further;
      space = search rules;
    }
