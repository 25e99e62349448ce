-- The binary search finds the first plan behind the copy.
use Rattle.std.proofs.Common.{◌∙◌, not, rules, sym}
use Rattle.std.proofs.lemmas.List.Sorted.{IsPartitionPoint-from_clause}
use Rattle.tp_schedule.specs.Plans.{is_before}
use Rattle.tp_schedule.specs.declared.parts.Plan.{Plan}
use Rattle.tp_schedule.proofs.PutFacts.{position-or_length}
use Rattle.tp_schedule.proofs.SearchFacts.{behind-partitioned, place-behind}
use Rattle.tp_schedule.proofs.copies.place_of.Goals as goal

pub returns : goal.returns
returns c =
    sym
    (position-or_length (λ q. is_before c.args.copy q.sheet) c.args.plans.now
    ∙ place-behind c.args.copy (λ (p : Plan). p.sheet) c.args.plans.now c.partition_point.result c.partition_point.ensures.bound
    (IsPartitionPoint-from_clause (λ p. not (is_before c.args.copy p.sheet)) c.args.plans.now c.partition_point.result c.partition_point.ensures.partitioned
    (behind-partitioned c.args.copy (λ (p : Plan). p.sheet) c.args.plans.now c.requires) (λ a r f' called. search rules)))
