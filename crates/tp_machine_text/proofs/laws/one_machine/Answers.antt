use Rattle.tp_machine_text.proofs.OneMachine.{one_of_table, one_of_text}
use Rattle.tp_machine_text.proofs.laws.one_machine.Goals as goal

pub returns : goal.returns
returns c = record { of_text = one_of_text; of_table = one_of_table }
