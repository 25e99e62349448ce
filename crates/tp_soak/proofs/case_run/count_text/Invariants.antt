use Rattle.std.proofs.Common.{◌≡◌, List, length}
use Rattle.tp_log.specs.Logs.{IsLog, log_text}
use Rattle.tp_log.specs.declared.item.Item.{Item}
use Rattle.tp_soak.proofs.CountedLines.{IsReadTo}
use Rattle.tp_soak.proofs.case_run.count_text.Given as goal

abbrev pub invariant-lines : goal.invariant-lines
invariant-lines l = record {
  read : (items : List Item) → IsLog items → l.text ≡ log_text items → IsReadTo items l.text l.rest l.counts;
}

abbrev pub decreases-lines : goal.decreases-lines
decreases-lines l = length l.rest
