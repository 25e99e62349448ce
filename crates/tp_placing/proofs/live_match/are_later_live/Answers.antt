use Rattle.std.proofs.Common.{◌∙◌, ◌≡◌, ◌+◌, ◌-◌, true, arith, length, subst, sym}
use Rattle.std.specs.List.{AllWithin}
use Rattle.tp_schedule.specs.LivePlans.{is_live}
use Rattle.tp_placing.proofs.BehindCopies.{Before}
use Rattle.tp_placing.proofs.FollowedPlans.{failed-before}
use Rattle.tp_placing.proofs.live_match.are_later_live.Goals as goal

pub returns-then-is_earlier : goal.returns-then-is_earlier
returns-then-is_earlier c _ =
    let test = c.back-test.true in
    let v = c.back.invariant in
    let within = v.within in
    let next : c.back.left ≡ c.back.left - 1 + 1 = omega arith in
    let live = subst (λ k. AllWithin (λ p. is_live c.args.machine.now c.args.now p ≡ true) c.args.plans.now k (length c.args.plans.now)) next v.live in
    failed-before (is_live c.args.machine.now c.args.now) c.args.copy c.args.plans.now (c.back.left - 1) c.index-plans-left.result c.requires.in_order (omega arith) c.index-plans-left.is
    (subst (Before c.args.copy) (sym c.index-plans-left.is) (sym c.is_earlier.ensures ∙ c.if-is_earlier.true)) live
