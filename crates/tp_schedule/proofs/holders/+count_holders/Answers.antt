-- The first action counts where it holds, and the later ones by the recursion.
use Rattle.std.proofs.Common.{◌+◌}
use Rattle.std.proofs.lemmas.List.{take_rest}
use Rattle.tp_schedule.proofs.RunFacts.{count_with_first}
use Rattle.tp_schedule.proofs.holders.+count_holders.Goals as goal

pub returns-then-is_any_held-clause-count : goal.returns-then-is_any_held-clause-count
returns-then-is_any_held-clause-count t c = λ sheet number.
    rw c.if-is_any_held.true at (count_with_first c.args.machine.now c.args.resource.0 c.args.at sheet number c.args.acts.now c.args.points.now _ c.is_any_held.result c.count_holders-after.result c.in-len1-up.len_at_least c.in-len2-up.len_at_least (rw c.holds_of.ensures at c.is_any_held.ensures) (rw (take_rest c.args.acts.now 1, take_rest c.args.points.now 1) at (c.count_holders-after.ensures.count sheet (number + 1))))

pub returns-else-is_any_held-clause-count : goal.returns-else-is_any_held-clause-count
returns-else-is_any_held-clause-count t c = λ sheet number.
    rw c.if-is_any_held.false at (count_with_first c.args.machine.now c.args.resource.0 c.args.at sheet number c.args.acts.now c.args.points.now _ c.is_any_held.result c.count_holders-after.result c.in-len1-up.len_at_least c.in-len2-up.len_at_least (rw c.holds_of.ensures at c.is_any_held.ensures) (rw (take_rest c.args.acts.now 1, take_rest c.args.points.now 1) at (c.count_holders-after.ensures.count sheet (number + 1))))
