use Rattle.tp_windows.proofs.conflicts.conflict.Given as goal

abbrev pub decreases-steps : goal.decreases-steps
decreases-steps l = l.left
