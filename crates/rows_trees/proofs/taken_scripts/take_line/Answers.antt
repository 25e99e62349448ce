-- The stock is kept through the turn of any event.
use Rattle.std.proofs.Common.{◌≤◌, arith}
use Rattle.tp_event_rules.specs.LiveStates.{seen}
use Rattle.tp_event_rules.specs.Ready.{last_copy}
use Rattle.tp_event_rules.proofs.ReadyTurns.{events-more}
use Rattle.tp_event_rules.proofs.StockKept.{stock-more}
use Rattle.rows_trees.proofs.taken_scripts.take_line.Goals as goal

pub take_event-requires-clause-can : goal.take_event-requires-clause-can
take_event-requires-clause-can g c = events-more c.args.machine.now c.args.taken last_copy (seen c.args.state.now) (omega (arith, c.requires.few)) c.requires.can

pub take_event-requires-clause-stocked : goal.take_event-requires-clause-stocked
take_event-requires-clause-stocked g c = stock-more c.args.machine.now c.args.taken last_copy (seen c.args.state.now) (omega (arith, c.requires.few)) c.requires.stocked

pub returns-in-Ok-clause-stocked : goal.returns-in-Ok-clause-stocked
returns-in-Ok-clause-stocked g c =
    let noted = c.in-Ok.ensures.turn in
    c.turns_keep_stock.ensures c.args.machine.now c.args.taken c.args.taken c.in_ok-event.event (seen c.args.state.now) c.args.planner.now noted.0 (seen c.take_event.new.state) c.take_event.new.planner c.requires.can.kept noted.2 c.requires.stocked

pub returns-in-Ok-clause-can : goal.returns-in-Ok-clause-can
returns-in-Ok-clause-can g c = c.in-Ok.ensures.kept c.args.taken c.requires.can
