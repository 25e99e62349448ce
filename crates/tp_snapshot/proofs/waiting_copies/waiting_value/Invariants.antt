use Rattle.std.proofs.Common.{◌≡◌, ◌++◌, true, length, map}
use Rattle.std.specs.List.{list_all}
use Rattle.serde_json.specs.View.{view}
use Rattle.tp_snapshot.specs.Written.{is_of_jobs, wait_data}
use Rattle.tp_snapshot.proofs.waiting_copies.waiting_value.Given as goal

abbrev pub invariant-waiting : goal.invariant-waiting
invariant-waiting l = record {
  known : list_all (is_of_jobs (length l.jobs)) l.rest ≡ true;
  whole : map view l.array.items ++ map (wait_data l.jobs) l.rest ≡ map (wait_data l.jobs) l.fn.waiting;
}

abbrev pub decreases-waiting : goal.decreases-waiting
decreases-waiting l = length l.rest
