use Rattle.std.proofs.Common.{refl, ◌∙◌, arith}
use Rattle.tp_schedule.specs.Plans.{IsEarlier}
use Rattle.tp_snapshot_rules.proofs.Neighbours.{neighbours-fail, plans-from-next}
use Rattle.tp_snapshot_rules.proofs.order.are_in_order.Goals as goal

pub returns-then-not-is_earlier : goal.returns-then-not-is_earlier
returns-then-not-is_earlier c = (
  λ t. absurd cc,
  λ order. absurd (neighbours-fail IsEarlier c.args.plans.now c.plans.at c.index-plans-before.result c.index-plans-at.result (omega arith) (omega arith) c.index-plans-before.is c.index-plans-at.is
      (λ earlier. (let test = c.is_earlier.ensures in let not = c.if-not-is_earlier.true in absurd cc)) order),
)

pub returns : goal.returns
returns c = (λ t. plans-from-next c.plans.at c.args.plans.now (omega arith) c.plans.invariant, λ order. refl)
