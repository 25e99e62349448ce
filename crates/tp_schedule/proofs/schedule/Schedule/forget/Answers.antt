-- What is left is a part of the plans, in their order.
use Rattle.std.proofs.Common.{◌≡◌, arith, rules, filter}
use Rattle.std.proofs.lemmas.Fn.{filter_same}
use Rattle.std.proofs.lemmas.List.Elements.{All-filter}
use Rattle.std.proofs.lemmas.List.Kept.{AllPairs-filter}
use Rattle.tp_schedule.specs.LivePlans.{is_live}
use Rattle.tp_schedule.specs.Plans.{IsEarlier, IsFormed}
use Rattle.tp_schedule.proofs.schedule.Schedule.forget.Goals as goal

pub returns-clause-plans : goal.returns-clause-plans
returns-clause-plans c = rw (← c.self.view_is) (filter_same _ (is_live c.args.machine.now c.args.now) _ (λ x b f' k. search rules) _ _ c.retain.ensures.filtered)

pub invariant_of-self : goal.invariant_of-self
invariant_of-self c =
    let live = is_live c.args.machine.now c.args.now in
    let kept : c.retain.new.self.items ≡ filter live c.self.inside.plans.items = filter_same _ live _ (λ x b f' k. search rules) _ _ c.retain.ensures.filtered in (
      omega (arith, c.retain.ensures.bound, c.self.invariant.0),
      rw kept (record {
        formed = All-filter live IsFormed c.self.inside.plans.items c.self.invariant.1.formed;
        in_order = AllPairs-filter IsEarlier live c.self.inside.plans.items c.self.invariant.1.in_order;
      }),
    )
