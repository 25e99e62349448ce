-- A point that could stand earlier is reported as it was found.
use Rattle.tp_log_planner.proofs.ReasonFacts.{asked-times}
use Rattle.tp_log_planner.proofs.told_answer.check_answer.Goals as goal

pub returns-in-Ok-Some-clause-why : goal.returns-in-Ok-Some-clause-why
returns-in-Ok-Some-clause-why c =
    asked-times c.args.machine.now c.args.before.now.plans c.args.ask.now c.args.after.now.plans c.in-Ok-Some.fault c.stop_of.result.reason (rw c.in-Ok-Some.field-0-is at c.in-Ok-Some.ensures.fault) c.stop_of.ensures
