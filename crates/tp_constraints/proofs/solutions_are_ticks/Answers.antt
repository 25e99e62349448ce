use Rattle.tp_constraints.proofs.Solutions.{board_solutions, loaded_solutions, board_late, board_least}
use Rattle.tp_constraints.proofs.solutions_are_ticks.Goals as goal

pub returns-clause-board : goal.returns-clause-board
returns-clause-board c = board_solutions

pub returns-clause-loaded : goal.returns-clause-loaded
returns-clause-loaded c = loaded_solutions

pub returns-clause-late : goal.returns-clause-late
returns-clause-late c = board_late

pub returns-clause-least : goal.returns-clause-least
returns-clause-least c = board_least
