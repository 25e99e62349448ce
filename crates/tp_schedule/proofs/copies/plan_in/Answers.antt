-- The copy has a plan, and it stands at its place.
use Rattle.std.proofs.Common.{sym, ◌∙◌}
use Rattle.tp_schedule.proofs.ChangeFacts.{plan_of-at, planned-has_place}
use Rattle.tp_schedule.proofs.copies.plan_in.Goals as goal

pub unreachable-requires : goal.unreachable-requires
unreachable-requires c = planned-has_place c.args.copy c.args.plans.now c.requires.planned (sym c.in-None.is ∙ c.copy_place.ensures.place)

pub returns : goal.returns
returns c = plan_of-at c.args.copy c.args.plans.now c.in-Some.at c.index-plans-at.result (sym c.in-Some.is ∙ c.copy_place.ensures.place) c.in-Some.ensures.within c.index-plans-at.is
