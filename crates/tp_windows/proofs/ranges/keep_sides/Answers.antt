use Rattle.std.proofs.Common.{arith, refl}
use Rattle.tp_windows.proofs.ranges.keep_sides.Goals as goal

pub returns-then-not-keep_side-clause-kept : goal.returns-then-not-keep_side-clause-kept
returns-then-not-keep_side-clause-kept c = λ y keeps before sides. c.if-not-keep_side.ensures.kept y keeps (c.sides.invariant.kept y keeps before sides) (sides c.sides.number _ c.sides-test.true)

pub sides-preserved : goal.sides-preserved
sides-preserved c =
    let new = c.keep_side.ensures.wide in
    let new-low = new.0 in
    let new-high = new.1 in
    let old = c.sides.invariant.wide in
    let old-low = old.0 in
    record {
      wide = (omega (arith, new-low, old-low), omega (arith, new-high, old-low));
      kept = λ y keeps before sides. (c.keep_side.ensures.kept y keeps (c.sides.invariant.kept y keeps before sides) (sides c.sides.number _ c.sides-test.true)).1;
    }

pub returns-clause-kept : goal.returns-clause-kept
returns-clause-kept c = λ y keeps before sides. (refl, c.sides.invariant.kept y keeps before sides)
