use Rattle.tp_windows.proofs.root.close.Given as goal

abbrev pub decreases-points : goal.decreases-points
decreases-points l = l.left
