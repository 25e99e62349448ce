use Rattle.std.proofs.Common.{refl, ◌∙◌, arith}
use Rattle.tp_snapshot_rules.proofs.Neighbours.{neighbours-fail, waiting-from-next}
use Rattle.tp_snapshot_rules.specs.Rules.{WaitsBefore}
use Rattle.tp_snapshot_rules.proofs.order.are_waiting_in_order.Goals as goal

pub returns-then-not-is_earlier : goal.returns-then-not-is_earlier
returns-then-not-is_earlier c = (
  λ t. absurd cc,
  λ order. absurd (neighbours-fail WaitsBefore c.args.waiting.now c.waiting.at c.index-waiting-before.result c.index-waiting-at.result (omega arith) (omega arith) c.index-waiting-before.is c.index-waiting-at.is
      (λ earlier. (let test = c.is_earlier.ensures in let not = c.if-not-is_earlier.true in absurd cc)) order),
)

pub returns : goal.returns
returns c = (λ t. waiting-from-next c.waiting.at c.args.waiting.now (omega arith) c.waiting.invariant, λ order. refl)
