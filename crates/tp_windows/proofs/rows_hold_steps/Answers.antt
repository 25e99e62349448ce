use Rattle.tp_windows.proofs.RowSteps.{row_law}
use Rattle.tp_windows.proofs.rows_hold_steps.Goals as goal

pub returns : goal.returns
returns c = row_law
