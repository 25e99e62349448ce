use Rattle.std.proofs.Common.{sym}
use Rattle.tp_schedule_check.proofs.PartingFacts.{first-parting, no-parting}
use Rattle.tp_schedule_check.proofs.parting.first_parting.Goals as goal

pub returns-in-Some : goal.returns-in-Some
returns-in-Some c =
    first-parting c.args.before.now c.args.after.now c.count_common-at.result c.count_common-at.ensures c.held_at-stood.result c.held_at-stands.result c.held_at-stood.ensures c.held_at-stands.ensures
    c.in-Some.resource (sym c.in-Some.ensures) c.hold_on.result c.hold_on-in-Some.result c.hold_on.ensures c.hold_on-in-Some.ensures

pub returns-in-None : goal.returns-in-None
returns-in-None c =
    no-parting c.args.before.now c.args.after.now c.count_common-at.result c.count_common-at.ensures c.held_at-stood.result c.held_at-stands.result c.held_at-stood.ensures c.held_at-stands.ensures
    (sym c.in-None.ensures)
