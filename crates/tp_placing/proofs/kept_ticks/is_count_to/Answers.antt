use Rattle.std.proofs.Common.{◌-◌, ap, arith}
use Rattle.std.proofs.lemmas.Bool.Decides.{nat_tests}
use Rattle.std.proofs.lemmas.List.{get_or_default}
use Rattle.tp_base.specs.declared.edges.PointId.{PointId}
use Rattle.tp_placing.proofs.kept_ticks.is_count_to.Goals as goal

-- what an index reads beyond the end
abbrev nothing : PointId
nothing = record { 0 = 0 }

pub returns-then-count-firsts-2-clause-before : goal.returns-then-count-firsts-2-clause-before
returns-then-count-firsts-2-clause-before c _ = λ k d from below.
    let rise = c.requires k (c.args.count - 1) d (omega arith) (omega arith) in
    let same = ap (λ (f : PointId). f.0) (get_or_default c.args.firsts.now (c.args.count - 1) d nothing (omega arith)) in
    omega arith

pub returns-clause-before : goal.returns-clause-before
returns-clause-before c so = λ k d from below.
    let rise = c.requires k (c.args.count - 1) d (omega arith) (omega arith) in
    let same = ap (λ (f : PointId). f.0) (get_or_default c.args.firsts.now (c.args.count - 1) d nothing (omega arith)) in
    omega arith

pub returns-clause-behind : goal.returns-clause-behind
returns-clause-behind c so = λ k d from below.
    let rise = c.requires c.args.count k d from below in
    let same = ap (λ (f : PointId). f.0) (get_or_default c.args.firsts.now c.args.count d nothing (omega arith)) in
    grind (arith, nat_tests)
