use Rattle.tp_script.proofs.Events.{event_takes, event_only}
use Rattle.tp_script.proofs.laws.reading_is_grammar.Goals as goal

pub returns : goal.returns
returns c words e = (event_takes words e, event_only words e)
