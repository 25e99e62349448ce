use Rattle.std.proofs.Common.{ap, ◌∙◌}
use Rattle.std.specs.Prelude.{insert, slice_set}
use Rattle.tp_timelines.specs.Orders.{order_on}
use Rattle.tp_placing.proofs.candidates.insert_hold.Goals as goal

pub returns-clause-inserted : goal.returns-clause-inserted
returns-clause-inserted c = record {
  orders = c.in-Ok.ensures.ok ∙ ap (λ n. slice_set c.args.timelines.now.orders c.args.hold.rule.resource.0 (insert (order_on c.args.timelines.now.orders c.args.hold.rule.resource.0) c.args.place n)) (c.len-id.ensures ∙ c.args.held.now.ok.0);
  past = c.in-Ok.ensures.past;
  hold_capacity = c.in-Ok.ensures.holds;
  max_marks = c.in-Ok.ensures.marks;
  held = c.push_reserved.ensures.items;
  steps = c.push_reserved-2.ensures.items;
}
