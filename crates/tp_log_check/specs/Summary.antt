-- The line that tells what an accepted log has.
use Rattle.std.specs.Prelude.{List, ℕ, ◌++◌, codes, decimal}
use Rattle.tp_log_check.specs.declared.counts.Counts.{Counts}

-- with its LF
unfoldable pub counts_text : Counts → List ℕ
counts_text c =
    (codes "accepted " ++ decimal c.events) ++ (codes " events " ++ decimal c.plans) ++ (codes " plans " ++ decimal c.nones)
    ++ (codes " nones " ++ decimal c.budgets) ++ codes " budgets\n"
