-- The points of a plan rise.
use Rattle.std.proofs.Common.{◌≡◌, ◌<◌, arith, subst, sym}
use Rattle.std.proofs.lemmas.Bool.Decides.{nat_tests}
use Rattle.std.proofs.lemmas.Option.{get_or_from_slice_get}
use Rattle.tp_schedule.specs.Plans.{point}
use Rattle.tp_placing.proofs.MovedPlans.{starts-late}
use Rattle.tp_placing.proofs.clock_move.begins_after.Goals as goal

pub returns-else-released-len : goal.returns-else-released-len
returns-else-released-len c late =
    let plan = c.args.plan.now in
    let here : c.get.result ≡ point plan c.args.released = sym (get_or_from_slice_get plan.points c.args.released c.get.result 0 c.get.ensures) in
    let above : c.args.floor < c.get.result = grind (arith, nat_tests, late) in
    starts-late plan c.args.released c.args.floor c.requires.rise (subst (λ x. c.args.floor < x) here above)
