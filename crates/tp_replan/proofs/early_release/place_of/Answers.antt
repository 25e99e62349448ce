-- A copy with a plan has a place.
use Rattle.std.proofs.Common.{rules, sym, ◌∙◌}
use Rattle.tp_schedule.proofs.ChangeFacts.{planned-has_place}
use Rattle.tp_replan.proofs.ReleaseFacts.{place-is}
use Rattle.tp_replan.proofs.early_release.place_of.Goals as goal

pub unreachable-requires : goal.unreachable-requires
unreachable-requires c = planned-has_place c.args.sheet c.args.schedule.now.plans c.requires (sym c.in-None.is ∙ c.find.ensures)

pub returns-clause-plan : goal.returns-clause-plan
returns-clause-plan c = place-is c.args.sheet c.args.schedule.now.plans c.in-Some.at (sym c.in-Some.is ∙ c.find.ensures) (search rules) c.requires
