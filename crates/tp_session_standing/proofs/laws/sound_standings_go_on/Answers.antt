use Rattle.tp_session_standing.proofs.GoesOn.{goes-on}
use Rattle.tp_session_standing.proofs.laws.sound_standings_go_on.Goals as goal

pub returns : goal.returns
returns c machine t sound = goes-on machine t sound
