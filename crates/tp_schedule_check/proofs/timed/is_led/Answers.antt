use Rattle.std.proofs.Common.{refl, arith}
use Rattle.tp_schedule_check.specs.Timed.{LeadsFrom}
use Rattle.tp_schedule_check.proofs.ListFacts.{any-at, none-any, none-more}
use Rattle.tp_schedule_check.proofs.timed.is_led.Goals as goal

pub feeders-preserved : goal.feeders-preserved
feeders-preserved c =
    none-more (LeadsFrom c.args.machine.now c.args.plan.now) c.args.machine.now.feeders c.feeders.at c.get-feeder.result.now c.get-feeder.ensures
    (λ led. let told = c.is_led_from.ensures.1 led in let not = c.if-is_led_from.false in absurd cc) c.feeders.invariant

pub returns-then-is_led_from : goal.returns-then-is_led_from
returns-then-is_led_from c =
    (λ t. any-at (LeadsFrom c.args.machine.now c.args.plan.now) c.args.machine.now.feeders c.feeders.at c.get-feeder.result.now c.get-feeder.ensures (c.is_led_from.ensures.0 c.if-is_led_from.true), λ any. refl)

pub returns : goal.returns
returns c = (
  λ t. absurd cc,
  λ any. absurd (none-any (LeadsFrom c.args.machine.now c.args.plan.now) c.args.machine.now.feeders c.feeders.at c.feeders.invariant (omega arith) any),
)
