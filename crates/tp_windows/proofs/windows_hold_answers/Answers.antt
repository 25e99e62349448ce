use Rattle.tp_windows.proofs.Standing.{lower_limit_law, relax_law, stand_law}
use Rattle.tp_windows.proofs.windows_hold_answers.Goals as goal

pub returns-clause-stand : goal.returns-clause-stand
returns-clause-stand c = stand_law

pub returns-clause-relax : goal.returns-clause-relax
returns-clause-relax c = relax_law

pub returns-clause-lower : goal.returns-clause-lower
returns-clause-lower c = lower_limit_law
