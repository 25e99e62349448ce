use Rattle.std.proofs.Common.{arith, refl}
use Rattle.tp_windows.proofs.times.spread_up.Goals as goal

pub returns-then-not-raise_all-clause-between : goal.returns-then-not-raise_all-clause-between
returns-then-not-raise_all-clause-between c = λ y keeps before. c.raise_all.ensures.between y keeps (c.points.invariant.between y keeps before)

pub returns-then-not-raise_all-clause-refused : goal.returns-then-not-raise_all-clause-refused
returns-then-not-raise_all-clause-refused c = λ e y keeps before. c.if-not-raise_all.ensures.refused refl y keeps (c.points.invariant.between y keeps before)

pub points-preserved : goal.points-preserved
points-preserved c = record {
  same = let s = c.raise_all.ensures.same in let o = c.points.invariant.same in omega (arith, s, o);
  between = λ y keeps before. c.raise_all.ensures.between y keeps (c.points.invariant.between y keeps before);
}
