-- A session on the machine of the name.
use Rattle.tp_program.proofs.machines.find_session.Goals as goal

pub returns-in-Ok-new-clause-begins : goal.returns-in-Ok-new-clause-begins
returns-in-Ok-new-clause-begins g c = record { machine = c.in-Ok.machine; text = c.in-Ok.ensures.found; begins = c.in-Ok-new.ensures.standing }
