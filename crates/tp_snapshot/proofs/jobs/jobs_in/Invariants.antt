use Rattle.std.proofs.Common.{◌≡◌, length}
use Rattle.tp_snapshot.specs.Jobs.{job_of}
use Rattle.tp_snapshot.proofs.Seen.{LeftToRead}
use Rattle.tp_snapshot.proofs.jobs.jobs_in.Given as goal

abbrev pub invariant-loop-value : goal.invariant-loop-value
invariant-loop-value l = record {
  reads : LeftToRead (job_of l.machine) l.jobs l.value-index l.values;
  many : length l.jobs ≡ l.value-index;
}
