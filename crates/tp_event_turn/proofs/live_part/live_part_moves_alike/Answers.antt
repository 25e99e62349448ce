use Rattle.tp_event_turn.proofs.ClockLeast.{least-clock}
use Rattle.tp_event_turn.proofs.LiveClock.{clock-leaves, clock-tells}
use Rattle.tp_event_turn.proofs.live_part.live_part_moves_alike.Goals as goal

pub returns-clause-tells : goal.returns-clause-tells
returns-clause-tells c = clock-tells

pub returns-clause-leaves : goal.returns-clause-leaves
returns-clause-leaves c = clock-leaves

pub returns-clause-least : goal.returns-clause-least
returns-clause-least c machine now to plans later can can' least = least-clock machine now to plans later can can' least
