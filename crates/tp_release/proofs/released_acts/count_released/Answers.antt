-- One action more counts where it is due, and none is due that is released.
use Rattle.std.proofs.Common.{◌≡◌, ◌∙◌, ◌+◌, ap, arith, length}
use Rattle.std.proofs.lemmas.Option.{get_or_from_slice_get}
use Rattle.tp_schedule.specs.Plans.{point}
use Rattle.tp_release.proofs.DueRuns.{count-takes, due-none, due-skips, due-whole}
use Rattle.tp_release.proofs.released_acts.count_released.Goals as goal
use Rattle.tp_release.proofs.released_acts.count_released.Goals.{then-get-last, else-get-last}

pub loop-at-init : goal.loop-at-init
loop-at-init c =
    let none = ap length (due-none c.args.last c.args.plan.now) in
    record { count = omega arith; few = omega arith }

pub loop-at-preserved : goal.loop-at-preserved
loop-at-preserved c =
    let p = c.args.plan.now in
    let start : point p c.loop-at.at ≡ c.get.result = get_or_from_slice_get p.points c.loop-at.at c.get.result 0 c.get.ensures in
    let len = c.len-at-end.ensures.len in
    let within = c.loop-at-test.true in
    let high = c.loop-at.auto.at in
    let count = c.loop-at.invariant.count in
    let few = c.loop-at.invariant.few in
    elim c.if-get-last.branch [
      | then-get-last w ↦ (
          let early = w.if-get-last.true in
          let more = count-takes c.args.last p c.loop-at.at c.requires.formed (omega arith) (omega arith) (omega arith) in
          let is = w.released-is in
          record { count = omega arith; few = omega arith })
      | else-get-last w ↦ (
          let late = w.if-get-last.false in
          let same = ap length (due-skips c.args.last p c.loop-at.at c.requires.formed (omega arith) (omega arith) (omega arith)) in
          let is = w.released-is in
          record { count = omega arith; few = omega arith })
    ]

pub returns : goal.returns
returns c =
    let len = c.len-at-end.ensures.len in
    let done = c.loop-at-test.false in
    let fits = c.requires.formed.released in
    let end = c.loop-at.auto.at-end in
    c.loop-at.invariant.count ∙ ap (λ due. c.args.plan.now.released + length due) (due-whole c.args.last c.args.plan.now c.loop-at.at c.requires.formed (omega arith))
