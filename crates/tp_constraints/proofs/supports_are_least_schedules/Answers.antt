use Rattle.tp_constraints.proofs.SupportClosure.{least_is_supported}
use Rattle.tp_constraints.proofs.SupportedPoints.{supported-least, unmarked-later}
use Rattle.tp_constraints.proofs.supports_are_least_schedules.Goals as goal

pub returns-clause-least : goal.returns-clause-least
returns-clause-least c = supported-least

pub returns-clause-supported : goal.returns-clause-supported
returns-clause-supported c = least_is_supported

pub returns-clause-later : goal.returns-clause-later
returns-clause-later c machine now exempt plans marked load only_shape horizon marking p in' i le e = unmarked-later machine now exempt plans load only_shape horizon marked marking p in' i le e
