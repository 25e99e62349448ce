use Rattle.std.proofs.Common.{◌≡◌, drop}
use Rattle.tp_jobs.specs.LineInvariants.{mark_all_whole}
use Rattle.tp_jobs.proofs.line_changes.make_whole.Given as goal

abbrev pub invariant-loop-job : goal.invariant-loop-job
invariant-loop-job l = mark_all_whole (drop l.job-index l.broken) l.jobs.items ≡ mark_all_whole l.broken l.fn.jobs.items
