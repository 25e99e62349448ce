use Rattle.std.proofs.Common.{◌≡◌, length, ◌∙◌, arith}
use Rattle.rows_engines.proofs.LaidWays.{can_settle-first}
use Rattle.rows_engines.proofs.planned_rows.first_settled.Goals as goal

pub settle-requires-clause-can_settle : goal.settle-requires-clause-can_settle
settle-requires-clause-can_settle g c =
    let two : length c.args.schedule.now.plans ≡ 2 = let len = c.len.ensures.len in let is = c.if-len-ne2.false in omega arith in
    can_settle-first c.args.machine.now 0 c.args.schedule.now.plans c.reserve.new.self.plans c.put.new.self.plans c.plan_at.result.now c.copy.result c.requires.plan_on two c.plan_at.ensures.plan
    c.put.ensures.plans c.copy.ensures.same (c.reserve.ensures.plans ∙ c.new-alone.ensures.empty)
