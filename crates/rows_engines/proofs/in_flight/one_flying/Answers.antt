use Rattle.std.proofs.Common.{◌≡◌, ◌<◌, ◌≤◌, length, ◌∙◌, arith}
use Rattle.rows_engines.proofs.InFlightFacts.{plan_on-front}
use Rattle.rows_engines.proofs.in_flight.one_flying.Goals as goal

pub returns : goal.returns
returns c =
    let one : length c.args.schedule.now.plans ≡ 1 = let len = c.len.ensures.len in let is = c.if-len-ne1.false in omega arith in
    let some : 0 < c.args.count = let not_none = c.if-count-eq0.false in omega arith in
    let within : c.args.count ≤ length c.plan_at-plan.result.now.acts = let len = c.len-else-count-eq0.ensures.len in let few = c.if-count-len.false in omega arith in
    record {
      plan_on = plan_on-front c.args.machine.now c.args.count c.args.schedule.now.plans c.reserve.new.self.plans c.put.new.self.plans c.plan_at-plan.result.now c.front_plan.result c.requires.plan_on one c.plan_at-plan.ensures.plan
          some within c.put.ensures.plans c.front_plan.ensures (c.reserve.ensures.plans ∙ c.new-flying.ensures.empty);
    }
