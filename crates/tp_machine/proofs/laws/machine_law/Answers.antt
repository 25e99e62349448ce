-- The machine's own facts.
use Rattle.tp_machine.proofs.MachineFacts.{is_machine}
use Rattle.tp_machine.proofs.laws.machine_law.Goals as goal

pub returns : goal.returns
returns c = is_machine c.args.machine.now
