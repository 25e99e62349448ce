-- The last action of a plan in time is the machine's.
use Rattle.std.proofs.Common.{◌-◌, IsSomeAnd, arith, ap, sym, subst, ◌∙◌}
use Rattle.tp_base.proofs.SliceFacts.{All-at}
use Rattle.tp_machine.specs.ModuleUse.{action_at}
use Rattle.tp_schedule.specs.Answers.{acts_in}
use Rattle.tp_schedule.specs.Plans.{IsTimedPlan}
use Rattle.tp_event_records.specs.RecordNames.{IsKnown}
use Rattle.tp_event_records.proofs.NameFacts.{acts-known, last-is}
use Rattle.tp_event_rules.specs.Labels.{last_of}
use Rattle.tp_event_rules.specs.Loops.{module_in}
use Rattle.tp_replan.proofs.unplanned_copy.last_module.Goals as goal

pub get-requires : goal.get-requires
get-requires c =
    let p = c.plan_at-plan.result.now in
    let its = sym c.place_of.ensures.plan ∙ c.plan_at-plan.ensures.plan in
    let timed = subst (λ o. IsSomeAnd o (IsTimedPlan c.args.machine.now)) its c.requires in
    let known = All-at (IsKnown c.args.machine.now) p.acts _ c.get-last.result (acts-known c.args.machine.now p timed) c.get-last.ensures in
    omega (arith, known, c.from.ensures)

pub returns-clause-is : goal.returns-clause-is
returns-clause-is c =
    let m = c.args.machine.now in
    let p = c.plan_at-plan.result.now in
    let its = sym c.place_of.ensures.plan ∙ c.plan_at-plan.ensures.plan in
    let some = c.plan_at-plan.ensures.formed.some in
    let last = last-is p.acts (c.len.result - 1) c.get-last.result (omega (arith, c.len.ensures.len, some)) c.get-last.ensures in
    sym (ap (λ o. module_in (action_at m (last_of (acts_in o)).0)) its
    ∙ ap (λ a. module_in (action_at m a.0)) last
    ∙ ap (λ n. module_in (action_at m n)) (sym c.from.ensures)
    ∙ ap module_in c.get.ensures)
