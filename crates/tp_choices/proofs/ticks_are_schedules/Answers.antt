use Rattle.tp_choices.proofs.RetimedSchedules.{ticks_retime, retimed_ticks}
use Rattle.tp_choices.proofs.ticks_are_schedules.Goals as goal

pub returns-clause-to : goal.returns-clause-to
returns-clause-to c = ticks_retime

pub returns-clause-back : goal.returns-clause-back
returns-clause-back c = retimed_ticks
