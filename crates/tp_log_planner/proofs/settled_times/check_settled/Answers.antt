-- A point that could stand earlier is reported as it was found.
use Rattle.tp_log_planner.proofs.ReasonFacts.{settling-times}
use Rattle.tp_log_planner.proofs.settled_times.check_settled.Goals as goal

pub returns-in-Ok-Some-clause-why : goal.returns-in-Ok-Some-clause-why
returns-in-Ok-Some-clause-why c =
    settling-times c.args.machine.now c.args.now c.args.before.now.plans c.args.after.now.plans c.in-Ok-Some.fault c.stop_of.result.reason (rw c.in-Ok-Some.field-0-is at c.in-Ok-Some.ensures.fault) c.stop_of.ensures
