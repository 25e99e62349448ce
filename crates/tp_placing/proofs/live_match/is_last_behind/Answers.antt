use Rattle.std.proofs.Common.{◌∙◌, ◌-◌, arith, length, sym}
use Rattle.tp_placing.proofs.FollowedPlans.{last-behind}
use Rattle.tp_placing.proofs.live_match.is_last_behind.Goals as goal

pub returns-else-last-eq0 : goal.returns-else-last-eq0
returns-else-last-eq0 c is =
    let some = c.requires.some in
    let more = c.if-last-eq0.false in
    last-behind c.args.plans.now (length c.args.plans.now - 1) c.index-plans-last.result c.index-plans-last-else-last-eq0.result (omega arith) (omega arith) c.requires.in_order (sym c.is_earlier.ensures ∙ is)
