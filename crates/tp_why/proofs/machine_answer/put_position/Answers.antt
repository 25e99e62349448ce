use Rattle.tp_why.proofs.machine_answer.put_position.Goals as goal

pub returns : goal.returns
returns c = c.put_numbers.ensures
