use Rattle.std.proofs.Common.{leb, arith, rules}
use Rattle.std.proofs.lemmas.Bool.Decides.{nat_tests}
use Rattle.std.proofs.lemmas.List.Sorted.{IsPartitionPoint-from_clause, IsPartitionedBy-leb}
use Rattle.tp_base.specs.declared.edges.PointId.{PointId}
use Rattle.tp_placing.proofs.kept_ticks.count_to.Goals as goal

pub returns-clause-before : goal.returns-clause-before
returns-clause-before c = λ k d from below.
    let part = IsPartitionPoint-from_clause (λ (f : PointId). leb f.0 c.args.point.0) c.args.firsts.now c.partition_point.result c.partition_point.ensures.partitioned
    (IsPartitionedBy-leb (λ (f : PointId). f.0) c.args.firsts.now c.args.point.0 c.requires) (λ a r f h. search rules) in
    let test = part.0 k d from below in
    grind (arith, nat_tests)

pub returns-clause-behind : goal.returns-clause-behind
returns-clause-behind c = λ k d from below.
    let part = IsPartitionPoint-from_clause (λ (f : PointId). leb f.0 c.args.point.0) c.args.firsts.now c.partition_point.result c.partition_point.ensures.partitioned
    (IsPartitionedBy-leb (λ (f : PointId). f.0) c.args.firsts.now c.args.point.0 c.requires) (λ a r f h. search rules) in
    let test = part.1 k d from below in
    grind (arith, nat_tests)
