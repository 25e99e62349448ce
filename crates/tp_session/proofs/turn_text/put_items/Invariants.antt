use Rattle.std.proofs.Common.{◌≡◌, ◌++◌, All, false, length}
use Rattle.tp_bounds.specs.Trees.{IsPrintable}
use Rattle.tp_log.specs.Grammar.{IsRecord}
use Rattle.tp_log.specs.Logs.{IsItem, log_text}
use Rattle.tp_run_laws.specs.Runs.{items_with}
use Rattle.tp_session.specs.Texts.{IsLonger}
use Rattle.tp_session.proofs.turn_text.put_items.Given as goal

-- what is written, and then what is still to come, is all of it
abbrev pub invariant-records : goal.invariant-records
invariant-records l = record {
  told : l.out.items ++ log_text (items_with l.of_plan l.rest l.left) ≡ l.initial.out.items ++ log_text (items_with false l.records l.trees);
  spelled : All IsItem (items_with l.of_plan l.rest l.left) → All IsItem (items_with false l.records l.trees);
  lines : All IsRecord l.rest;
  printable : All IsPrintable l.left;
  grows : IsLonger l.initial.out.items l.out.items;
}

abbrev pub decreases-records : goal.decreases-records
decreases-records l = length l.rest
