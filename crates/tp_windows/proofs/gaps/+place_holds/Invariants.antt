use Rattle.std.proofs.Common.{ℕ, ◌<◌, ◌-◌, ◌+◌, length}
use Rattle.tp_windows.specs.Rows.{AllStandIn, IsEnd, StandsInRow}
use Rattle.tp_windows.specs.Spans.{IsIn, IsWithin}
use Rattle.tp_windows.proofs.gaps.+place_holds.Given as goal

abbrev pub decreases-place_holds : goal.decreases-place_holds
decreases-place_holds l = length l.holds.now

abbrev pub invariant-gaps : goal.invariant-gaps
invariant-gaps l = record {
  kept : (e : ℕ) → IsEnd l.fn.ends.items e → IsEnd l.ends.items e;
  covered : (s e g : ℕ) → IsIn l.span s e → IsWithin l.ground.least l.ground.most s e → g < l.gap → StandsInRow l.row.gap l.row.rule l.row.kept.now s e g → AllStandIn l.ground.machine.now l.ground.rows.now.rows l.rest s e → IsEnd l.ends.items e;
}

abbrev pub decreases-gaps : goal.decreases-gaps
decreases-gaps l = (length l.row.kept.now + 1) - l.gap
