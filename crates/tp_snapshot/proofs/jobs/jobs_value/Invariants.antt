use Rattle.std.proofs.Common.{◌≡◌, ◌++◌, true, length, map}
use Rattle.std.specs.List.{list_all}
use Rattle.serde_json.specs.View.{view}
use Rattle.tp_snapshot.specs.Written.{has_location, job_data}
use Rattle.tp_snapshot.proofs.jobs.jobs_value.Given as goal

abbrev pub invariant-jobs : goal.invariant-jobs
invariant-jobs l = record {
  known : list_all (has_location l.machine) l.rest ≡ true;
  whole : map view l.array.items ++ map (job_data l.machine) l.rest ≡ map (job_data l.machine) l.fn.jobs;
}

abbrev pub decreases-jobs : goal.decreases-jobs
decreases-jobs l = length l.rest
