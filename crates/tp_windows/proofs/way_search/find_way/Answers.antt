use Rattle.std.proofs.Common.{arith, List, Option, subst}
use Rattle.tp_windows.proofs.FrontSteps.{front-begins, none-keyed}
use Rattle.tp_windows.specs.WaitingLabels.{IsKeyed, IsTaken}
use Rattle.tp_windows.specs.declared.front.Stay.{Stay}
use Rattle.tp_windows.proofs.way_search.find_way.Goals as goal

pub steps-init : goal.steps-init
steps-init c = record {
  less = omega arith;
  keyed = c.begin.ensures.keyed (none-keyed (IsKeyed c.args.sought.rests.now.rests.items c.clear.new.self.arrivals.items) c.clear.new.self.waiting.items c.clear.ensures.waiting);
  front = front-begins c.args.sought c.begin.new.front (λ s tick taken. c.clear.ensures.taken s tick (subst (λ (xs : List (Option Stay)). IsTaken xs s tick) c.begin.ensures.grows.taken taken)) (c.begin.ensures.starts c.if-not-begin.false);
}

pub steps-preserved : goal.steps-preserved
steps-preserved c = record {
  less = (let before = c.steps.invariant.less in let now = c.less.ensures in omega (arith, before, now));
  keyed = c.search_on.ensures.keyed;
  front = c.search_on.ensures.front c.in_default.is c.steps.invariant.front;
}
