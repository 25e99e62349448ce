use Rattle.std.proofs.Common.{arith}
use Rattle.tp_windows.proofs.gaps.first_gap.Goals as goal

pub halves-preserved-then-is_too_early : goal.halves-preserved-then-is_too_early
halves-preserved-then-is_too_early c =
    let order = c.halves-test.true in
    let within = c.halves.invariant.within in
    record {
      order = omega (arith, order);
      within = within;
      behind = λ start end g is stands. let less = c.is_too_early.ensures c.if-is_too_early.true start end g is stands in omega (arith, less);
    }
