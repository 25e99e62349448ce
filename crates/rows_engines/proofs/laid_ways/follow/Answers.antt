use Rattle.rows_engines.proofs.LaidWays.{committed}
use Rattle.rows_engines.proofs.laid_ways.follow.Goals as goal

pub returns-clause-plan_on : goal.returns-clause-plan_on
returns-clause-plan_on g c =
    committed _ c.args.machine.now c.args.ask.now _ c.commit.new.schedule.plans _ c.in_ok-first.ensures.laid.asked c.commit.ensures.alternative c.requires.new c.requires.plan_on.now_at_most
