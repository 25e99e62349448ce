use Rattle.std.proofs.Common.{◌∙◌, sym, arith}
use Rattle.rows_engines.proofs.LaidWays.{can_ask-few, only-live}
use Rattle.rows_engines.proofs.laid_ways.is_askable.Goals as goal

pub returns-then-len-eq0 : goal.returns-then-len-eq0
returns-then-len-eq0 c live =
    let len = c.len-2.ensures.len in
    let none = c.if-len-eq0.true in
    can_ask-few c.args.machine.now c.args.ask.now c.args.schedule.now.plans c.requires.plan_on c.requires.new c.requires.goal c.in_default.ensures (omega arith) (λ p in'. absurd (omega (arith, in'.1)))

pub returns : goal.returns
returns c live =
    let len = c.len.ensures.len in
    let few = c.if-len-gt1.false in
    can_ask-few c.args.machine.now c.args.ask.now c.args.schedule.now.plans c.requires.plan_on c.requires.new c.requires.goal c.in_default.ensures (omega arith)
    (only-live c.args.machine.now c.args.ask.now.now c.args.schedule.now.plans c.plan_at.result.now (omega arith) c.plan_at.ensures.plan (sym c.is_plan_live.ensures ∙ live))
