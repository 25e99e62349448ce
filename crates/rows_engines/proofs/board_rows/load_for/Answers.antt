use Rattle.rows_engines.proofs.AskFacts.{can_ask}
use Rattle.rows_engines.proofs.board_rows.load_for.Goals as goal

pub load-requires-clause-can_ask : goal.load-requires-clause-can_ask
load-requires-clause-can_ask g c =
    rw c.new-schedule.ensures.empty (can_ask c.args.machine.now c.ask_for-ask.result c.ask_for-ask.ensures.now c.ask_for-ask.ensures.origin (rw c.ask_for-ask.ensures.goal (c.requires.goal c.ask_for-ask.result)))
