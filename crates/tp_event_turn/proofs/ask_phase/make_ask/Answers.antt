-- The ask has the name and the tray of the copy's job, and the want of the copy.
use Rattle.tp_event_rules.specs.LiveStates.{seen}
use Rattle.tp_event_turn.proofs.AskFacts.{ask-made}
use Rattle.tp_event_turn.proofs.ask_phase.make_ask.Goals as goal

pub returns : goal.returns
returns c = ask-made c.args.machine.now (seen c.args.state.now) c.args.copy c.name_of.result c.want_of.result c.tray_of.result c.empty_feeders.result c.empty_feeders.ensures c.requires.waits c.name_of.ensures c.want_of.ensures c.tray_of.ensures
