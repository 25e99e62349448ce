use Rattle.std.proofs.Common.{◌∙◌, ◌≤◌, All, List, ap, length, subst, sym}
use Rattle.tp_machine.specs.Limits.{most_act_holds}
use Rattle.tp_machine.specs.declared.parts.HoldRule.{HoldRule}
use Rattle.tp_schedule.specs.Holders.{holds_of_act}
use Rattle.tp_schedule.proofs.Membership.{All-from_contains}
use Rattle.tp_bound_check.specs.Points.{HasOffsets}
use Rattle.tp_bound_check.proofs.orders.holds_of.Goals as goal

pub returns-in-Some-clause-holds : goal.returns-in-Some-clause-holds
returns-in-Some-clause-holds c = c.as_slice.ensures ∙ ap holds_of_act c.in-Some.ensures

pub returns-in-Some-clause-offsets : goal.returns-in-Some-clause-offsets
returns-in-Some-clause-offsets c =
    let a = c.in-Some.action.now in
    subst (All HasOffsets) (sym c.as_slice.ensures) (All-from_contains HasOffsets a.holds (λ rule in'. c.machine_law.ensures.offsets c.args.act.0 a (sym c.in-Some.ensures) rule in'))

pub returns-in-Some-clause-few : goal.returns-in-Some-clause-few
returns-in-Some-clause-few c =
    subst (λ (holds : List HoldRule). length holds ≤ most_act_holds) (sym c.as_slice.ensures) (c.machine_law.ensures.few_holds c.args.act.0 c.in-Some.action.now (sym c.in-Some.ensures))
