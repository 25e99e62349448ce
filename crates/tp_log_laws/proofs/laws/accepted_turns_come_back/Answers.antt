use Rattle.tp_log_laws.proofs.Back.{turns-come_back}
use Rattle.tp_log_laws.proofs.laws.accepted_turns_come_back.Goals as goal

pub returns : goal.returns
returns c = turns-come_back
