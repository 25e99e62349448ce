-- The binary search ends at the copy's plan, or the copy has none.
use Rattle.std.proofs.Common.{◌≡◌, ◌<◌, ◌∙◌, arith, rules, get_or, sym, true, false}
use Rattle.std.proofs.lemmas.List.Sorted.{IsPartitionPoint-from_clause}
use Rattle.tp_schedule.specs.Plans.{is_before, is_same_copy}
use Rattle.tp_schedule.specs.declared.parts.Plan.{Plan}
use Rattle.tp_schedule.proofs.SearchFacts.{IsPlaceBefore, before-partitioned, place-there, no-place, no-place-behind, same_copy-fields}
use Rattle.tp_schedule.proofs.copies.copy_place.Goals as goal
use Rattle.tp_schedule.proofs.copies.copy_place.Goals.{else-at-plans-via-then-at-plans+else-eq, else-at-plans-via-else-at-plans}

pub returns-then-eq-clause-place : goal.returns-then-eq-clause-place
returns-then-eq-clause-place c =
    let p = c.index-plans-at.result in
    let point : IsPlaceBefore c.args.copy c.args.plans.now c.partition_point-at.result =
    IsPartitionPoint-from_clause (λ (q : Plan). is_before q.sheet c.args.copy) c.args.plans.now c.partition_point-at.result c.partition_point-at.ensures.partitioned
    (before-partitioned c.args.copy c.args.plans.now c.requires.in_order) (λ a r f' called. search rules) in
    let same : is_same_copy (get_or c.args.plans.now c.partition_point-at.result p).sheet c.args.copy ≡ true = sym (same_copy-fields (get_or c.args.plans.now c.partition_point-at.result p).sheet c.args.copy) ∙ sym c.eq.ensures ∙ c.if-eq.true in
    sym (place-there c.args.copy c.args.plans.now c.partition_point-at.result p c.if-at-plans.true point same)

pub returns-else-at-plans-clause-place : goal.returns-else-at-plans-clause-place
returns-else-at-plans-clause-place c =
    let point : IsPlaceBefore c.args.copy c.args.plans.now c.partition_point-at.result =
    IsPartitionPoint-from_clause (λ (q : Plan). is_before q.sheet c.args.copy) c.args.plans.now c.partition_point-at.result c.partition_point-at.ensures.partitioned
    (before-partitioned c.args.copy c.args.plans.now c.requires.in_order) (λ a r f' called. search rules) in
    elim c.else-at-plans.branch [
      | else-at-plans-via-then-at-plans+else-eq w ↦
          let p = w.index-plans-at.result in
          let other : is_same_copy (get_or c.args.plans.now c.partition_point-at.result p).sheet c.args.copy ≡ false = sym (same_copy-fields (get_or c.args.plans.now c.partition_point-at.result p).sheet c.args.copy) ∙ sym w.eq.ensures ∙ w.if-eq.false in
          sym (no-place c.args.copy c.args.plans.now c.partition_point-at.result p c.requires.in_order point (λ below. other))
      | else-at-plans-via-else-at-plans w ↦
          sym (no-place-behind c.args.copy c.args.plans.now c.partition_point-at.result c.requires.in_order point (omega (arith, w.if-at-plans.false)))
    ]
