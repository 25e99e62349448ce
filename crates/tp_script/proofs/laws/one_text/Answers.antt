use Rattle.tp_script.proofs.Echoed.{same_event}
use Rattle.tp_script.proofs.laws.one_text.Goals as goal

pub returns : goal.returns
returns c = same_event
