use Rattle.std.proofs.Common.{◌∙◌, ap, length, take}
use Rattle.std.proofs.Math.Seq.{take-append_seam}
use Rattle.tp_schedule_check.proofs.PlanFacts.{rest-of}
use Rattle.tp_schedule_check.proofs.asked.behind.Goals as goal

pub returns-then-not-are_same_acts : goal.returns-then-not-are_same_acts
returns-then-not-are_same_acts c = λ route is. (
    let t = c.are_same_acts.ensures.1 (ap (take (length c.args.first.now)) is ∙ take-append_seam c.args.first.now route) in
    let f = c.if-not-are_same_acts.true in
    absurd cc)

pub returns : goal.returns
returns c = rest-of c.args.first.now c.args.acts.now (c.are_same_acts.ensures.0 c.if-not-are_same_acts.false)
