use Rattle.tp_constraints.proofs.PlanFacts.{plan_order}
use Rattle.tp_constraints.proofs.PlanHopFacts.{other_ask, plan_hops}
use Rattle.tp_constraints.proofs.PlanNets.{plan_net}
use Rattle.tp_constraints.proofs.growth.plans_are_added.Goals as goal

pub returns-clause-order : goal.returns-clause-order
returns-clause-order c = plan_order

pub returns-clause-net : goal.returns-clause-net
returns-clause-net c = plan_net

pub returns-clause-hops : goal.returns-clause-hops
returns-clause-hops c = plan_hops

pub returns-clause-other_ask : goal.returns-clause-other_ask
returns-clause-other_ask c = other_ask
