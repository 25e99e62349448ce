use Rattle.std.proofs.Common.{refl, ◌∙◌, arith}
use Rattle.tp_jobs.specs.declared.parts.WaitingCopy.{WaitingCopy}
use Rattle.tp_schedule.proofs.Pairs.{AllPairs-map_from}
use Rattle.tp_snapshot_rules.proofs.Neighbours.{IsOfOther, apart-from-next, neighbours-fail}
use Rattle.tp_snapshot_rules.specs.Rules.{AreOfOthers}
use Rattle.tp_snapshot_rules.proofs.order.are_waiting_apart.Goals as goal

pub returns-then-is_same_sheet : goal.returns-then-is_same_sheet
returns-then-is_same_sheet c = (
  λ t. absurd cc,
  λ apart. absurd (neighbours-fail IsOfOther c.args.waiting.now c.waiting.at c.index-waiting-before.result c.index-waiting-at.result (omega arith) (omega arith) c.index-waiting-before.is c.index-waiting-at.is
      (λ other. (let test = c.is_same_sheet.ensures in let same = c.if-is_same_sheet.true in absurd cc))
      (AllPairs-map_from AreOfOthers (λ (w : WaitingCopy). w.sheet) c.args.waiting.now apart)),
)

pub returns : goal.returns
returns c = (λ t. apart-from-next c.waiting.at c.args.waiting.now (omega arith) c.requires c.waiting.invariant, λ apart. refl)
