-- The hold on the resource is the one that was found.
use Rattle.std.proofs.Common.{◌∙◌, subst, sym, w64}
use Rattle.std.proofs.lemmas.Int.{to_z-of_z}
use Rattle.tp_log_planner.specs.Breaches.{BeginsIn}
use Rattle.tp_log_planner.proofs.BeginFacts.{begins-in, never-in}
use Rattle.tp_log_planner.proofs.faults.begin_by.Goals as goal

pub returns-in-Some : goal.returns-in-Some
returns-in-Some c =
    let begin = c.begin_between.result in
    subst (BeginsIn c.args.machine.now c.args.plan.now c.args.number c.args.resource) (sym (to_z-of_z w64 begin (record { sfits = c.begin_between.type_inv })))
    (begins-in c.args.machine.now c.args.plan.now c.args.number c.requires.some c.get.result c.get.ensures c.holds_of-holds.result.now c.holds_of-holds.ensures c.args.resource
    c.in-Some.rule (sym c.in-Some.is ∙ c.hold_on.ensures) c.get-start.result c.get-end.result c.get-start.ensures c.get-end.ensures begin c.begin_between.ensures)

pub returns-in-None : goal.returns-in-None
returns-in-None c =
    never-in c.args.machine.now c.args.plan.now c.args.number c.requires.some c.get.result c.get.ensures c.holds_of-holds.result.now c.holds_of-holds.ensures c.args.resource
    (sym c.hold_on.ensures ∙ c.in-None.is)
