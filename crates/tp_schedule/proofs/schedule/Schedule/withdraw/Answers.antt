-- What is left is a part of the plans, in their order.
use Rattle.std.proofs.Common.{◌≡◌, arith, rules, filter}
use Rattle.std.specs.Prelude.{Bool, not}
use Rattle.std.proofs.lemmas.Fn.{filter_same}
use Rattle.std.proofs.lemmas.List.Elements.{All-filter}
use Rattle.std.proofs.lemmas.List.Kept.{AllPairs-filter}
use Rattle.tp_schedule.specs.Plans.{IsEarlier, IsFormed, is_same_copy}
use Rattle.tp_schedule.specs.declared.parts.Plan.{Plan}
use Rattle.tp_schedule.proofs.schedule.Schedule.withdraw.Goals as goal

pub returns-clause-plans : goal.returns-clause-plans
returns-clause-plans c =
    let others : Plan → Bool = λ p. not (is_same_copy p.sheet c.args.sheet) in
    rw (← c.self.view_is) (filter_same _ others _ (λ x b f' k. search rules) _ _ c.retain.ensures.filtered)

pub invariant_of-self : goal.invariant_of-self
invariant_of-self c =
    let others : Plan → Bool = λ p. not (is_same_copy p.sheet c.args.sheet) in
    let kept : c.retain.new.self.items ≡ filter others c.self.inside.plans.items = filter_same _ others _ (λ x b f' k. search rules) _ _ c.retain.ensures.filtered in (
      omega (arith, c.retain.ensures.bound, c.self.invariant.0),
      rw kept (record {
        formed = All-filter others IsFormed c.self.inside.plans.items c.self.invariant.1.formed;
        in_order = AllPairs-filter IsEarlier others c.self.inside.plans.items c.self.invariant.1.in_order;
      }),
    )
