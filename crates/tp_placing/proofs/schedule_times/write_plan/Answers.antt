use Rattle.std.proofs.Common.{ap, sym, ◌∙◌, subst, AllPairs, IsSome}
use Rattle.tp_schedule.specs.Plans.{IsEarlier, put_plan}
use Rattle.tp_schedule.proofs.ChangeFacts.{IsOrdered-change_plan, IsOrdered-put_plan}
use Rattle.tp_schedule.proofs.PlanOrder.{put-in_place, without-none}
use Rattle.tp_placing.proofs.WriteAsked.{none-planned, place-planned}
use Rattle.tp_placing.proofs.schedule_times.write_plan.Goals as goal

pub replace-requires-clause-planned : goal.replace-requires-clause-planned
replace-requires-clause-planned c = place-planned c.args.plan.sheet c.args.schedule.now.plans c.in-Some.field-0 (sym c.in-Some.is ∙ c.find.ensures)

pub put-requires-clause-new_copy : goal.put-requires-clause-new_copy
put-requires-clause-new_copy c = none-planned c.args.plan.sheet c.args.schedule.now.plans (sym c.in-None.is ∙ c.find.ensures)

pub put-requires-clause-room : goal.put-requires-clause-room
put-requires-clause-room c = c.requires.capacity (none-planned c.args.plan.sheet c.args.schedule.now.plans (sym c.in-None.is ∙ c.find.ensures))

pub returns-in-Some-clause-plans : goal.returns-in-Some-clause-plans
returns-in-Some-clause-plans c =
    c.replace.ensures.plans ∙ put-in_place c.args.plan c.args.schedule.now.plans c.ordered.ensures.ordered.in_order (place-planned c.args.plan.sheet c.args.schedule.now.plans c.in-Some.field-0 (sym c.in-Some.is ∙ c.find.ensures))

pub returns-in-Some-clause-new_copy : goal.returns-in-Some-clause-new_copy
returns-in-Some-clause-new_copy c none =
    let planned = subst IsSome none (place-planned c.args.plan.sheet c.args.schedule.now.plans c.in-Some.field-0 (sym c.in-Some.is ∙ c.find.ensures)) in
    absurd cc

pub returns-in-Some-clause-in_order : goal.returns-in-Some-clause-in_order
returns-in-Some-clause-in_order c = subst (AllPairs IsEarlier) (sym c.replace.ensures.plans) (IsOrdered-change_plan c.args.schedule.now.plans c.args.plan c.ordered.ensures.ordered c.requires.formed).in_order

pub returns-in-None-clause-plans : goal.returns-in-None-clause-plans
returns-in-None-clause-plans c =
    c.put.ensures.plans ∙ ap (put_plan c.args.plan) (sym (without-none c.args.plan.sheet c.args.schedule.now.plans (none-planned c.args.plan.sheet c.args.schedule.now.plans (sym c.in-None.is ∙ c.find.ensures))))

pub returns-in-None-clause-in_flight : goal.returns-in-None-clause-in_flight
returns-in-None-clause-in_flight c planned =
    let none = subst IsSome (none-planned c.args.plan.sheet c.args.schedule.now.plans (sym c.in-None.is ∙ c.find.ensures)) planned in
    absurd cc

pub returns-in-None-clause-in_order : goal.returns-in-None-clause-in_order
returns-in-None-clause-in_order c =
    subst (AllPairs IsEarlier) (sym c.put.ensures.plans)
    (IsOrdered-put_plan c.args.schedule.now.plans c.args.plan c.ordered.ensures.ordered c.requires.formed (none-planned c.args.plan.sheet c.args.schedule.now.plans (sym c.in-None.is ∙ c.find.ensures))).in_order
