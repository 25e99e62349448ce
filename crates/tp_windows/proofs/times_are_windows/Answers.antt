use Rattle.tp_windows.proofs.Arraying.{array_empty, array_halves, array_high, array_low, array_narrows, array_windows}
use Rattle.tp_windows.proofs.times_are_windows.Goals as goal

pub returns-clause-windows : goal.returns-clause-windows
returns-clause-windows c = array_windows

pub returns-clause-narrows : goal.returns-clause-narrows
returns-clause-narrows c = array_narrows

pub returns-clause-low : goal.returns-clause-low
returns-clause-low c = array_low

pub returns-clause-high : goal.returns-clause-high
returns-clause-high c = array_high

pub returns-clause-empty : goal.returns-clause-empty
returns-clause-empty c = array_empty

pub returns-clause-halves : goal.returns-clause-halves
returns-clause-halves c = array_halves
