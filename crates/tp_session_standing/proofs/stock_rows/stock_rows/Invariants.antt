use Rattle.std.proofs.Common.{◌≡◌, map, take}
use Rattle.tp_event_rules.specs.LiveStates.{seen}
use Rattle.tp_session_standing.specs.StandingStates.{free_sheets}
use Rattle.tp_session_standing.proofs.stock_rows.stock_rows.Given as goal

abbrev pub invariant-feeders : goal.invariant-feeders
invariant-feeders l = l.rows ≡ map (free_sheets l.fn.machine (seen l.fn.state)) (take l.at l.fn.machine.feeders)
