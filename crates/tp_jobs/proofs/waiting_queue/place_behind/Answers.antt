-- The binary search finds the first copy behind this one.
use Rattle.std.proofs.Common.{◌≤◌, length, sym, not, rules}
use Rattle.std.proofs.lemmas.List.Sorted.{IsPartitionPoint-from_clause}
use Rattle.tp_schedule.proofs.SearchFacts.{behind-partitioned, place-behind}
use Rattle.tp_schedule.specs.Plans.{is_before}
use Rattle.tp_jobs.specs.declared.parts.WaitingCopy.{WaitingCopy}
use Rattle.tp_jobs.proofs.waiting_queue.place_behind.Goals as goal

pub returns-clause-place : goal.returns-clause-place
returns-clause-place c =
    let within : c.partition_point.result ≤ length c.args.waiting.now.items = search rules in
    sym
    (place-behind c.args.copy (λ (w : WaitingCopy). w.sheet) c.args.waiting.now.items c.partition_point.result within
    (IsPartitionPoint-from_clause (λ w. not (is_before c.args.copy w.sheet)) c.args.waiting.now.items c.partition_point.result c.partition_point.ensures.partitioned
    (behind-partitioned c.args.copy (λ (w : WaitingCopy). w.sheet) c.args.waiting.now.items c.requires) (λ a r f' called. search rules)))
