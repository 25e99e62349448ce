use Rattle.std.proofs.Common.{◌≡◌, take}
use Rattle.std.specs.List.{IsDistinct}
use Rattle.std.specs.Str.{bytes_eq}
use Rattle.tp_jobs.specs.Backlogs.{names_of}
use Rattle.tp_jobs.proofs.given_lists.names_of.Given as goal

abbrev pub invariant-loop-job : goal.invariant-loop-job
invariant-loop-job l = record {
  names : l.names.keys ≡ names_of (take l.job-index l.fn.jobs);
  distinct : IsDistinct bytes_eq l.names.keys;
}
