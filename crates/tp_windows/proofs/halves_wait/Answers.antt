use Rattle.tp_windows.proofs.Waiting.{halves_begin, halves_close, halves_end, halves_lower, halves_refuse, halves_split}
use Rattle.tp_windows.proofs.halves_wait.Goals as goal

pub returns-clause-begin : goal.returns-clause-begin
returns-clause-begin c = halves_begin

pub returns-clause-lower : goal.returns-clause-lower
returns-clause-lower c = halves_lower

pub returns-clause-split : goal.returns-clause-split
returns-clause-split c = halves_split

pub returns-clause-close : goal.returns-clause-close
returns-clause-close c = halves_close

pub returns-clause-refuse : goal.returns-clause-refuse
returns-clause-refuse c = halves_refuse

pub returns-clause-end : goal.returns-clause-end
returns-clause-end c = halves_end
