use Rattle.std.proofs.Common.{ap, sym, ◌∙◌}
use Rattle.tp_schedule.specs.Answers.{acts_in}
use Rattle.tp_schedule.specs.declared.parts.Plan.{Plan}
use Rattle.tp_schedule.proofs.ChangeFacts.{plan_of-at}
use Rattle.tp_placing.proofs.WriteAsked.{none-planned}
use Rattle.tp_placing.proofs.asked.acts_so_far.Goals as goal

pub returns-in-Some : goal.returns-in-Some
returns-in-Some c =
    c.copy.ensures.same ∙ ap (λ (r : Plan). r.acts) (sym c.index-plans-place.is) ∙ ap acts_in (sym (plan_of-at c.args.copy c.args.plans.now c.in-Some.place c.index-plans-place.result (sym c.in-Some.is ∙ c.copy_place.ensures.place) c.in-Some.ensures.within c.index-plans-place.is))

pub returns-in-None : goal.returns-in-None
returns-in-None c = c.new.ensures ∙ ap acts_in (sym (none-planned c.args.copy c.args.plans.now (sym c.in-None.is ∙ c.copy_place.ensures.place)))
