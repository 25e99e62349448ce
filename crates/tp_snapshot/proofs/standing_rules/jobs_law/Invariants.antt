use Rattle.std.proofs.Common.{ℕ, ◌<◌, slice_index_or}
use Rattle.tp_jobs.specs.declared.parts.Job.{Job}
use Rattle.tp_words.specs.Fields.{IsName}
use Rattle.tp_snapshot.proofs.standing_rules.jobs_law.Given as goal

abbrev pub invariant-loop-job : goal.invariant-loop-job
invariant-loop-job l = (k : ℕ) (d : Job) → k < l.job-index → IsName (slice_index_or l.jobs k d).name
