use Rattle.tp_log_laws.proofs.AlongTurn.{turns-follow}
use Rattle.tp_log_laws.proofs.laws.lawful_turns_are_accepted.Goals as goal

pub returns : goal.returns
returns c = turns-follow
