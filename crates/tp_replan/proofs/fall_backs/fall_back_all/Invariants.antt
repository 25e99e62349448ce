use Rattle.std.proofs.Common.{◌≡◌, ◌++◌, drop}
use Rattle.tp_event_rules.specs.FallBacks.{fall_back_unless_broken}
use Rattle.tp_event_rules.specs.LiveStates.{seen}
use Rattle.tp_event_rules.specs.States.{for_each}
use Rattle.tp_replan.specs.Displacement.{CanAllFall}
use Rattle.tp_replan.proofs.fall_backs.fall_back_all.Given as goal

abbrev pub invariant-loop-at : goal.invariant-loop-at
invariant-loop-at l = record {
  marked : l.state.lines.kept ≡ l.fn.state.lines.kept;
  can : CanAllFall (drop l.at l.copies) (seen l.state);
  told : l.notes.items ++ (for_each fall_back_unless_broken (drop l.at l.copies) (seen l.state)).records
      ≡ l.fn.notes.items ++ (for_each fall_back_unless_broken l.copies (seen l.fn.state)).records;
  state : (for_each fall_back_unless_broken (drop l.at l.copies) (seen l.state)).state
      ≡ (for_each fall_back_unless_broken l.copies (seen l.fn.state)).state;
}
