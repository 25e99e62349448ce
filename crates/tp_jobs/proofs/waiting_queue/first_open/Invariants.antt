use Rattle.std.proofs.Common.{◌≡◌, find, drop, All}
use Rattle.std.specs.VecDeque.Iter.{deque_iter_rest}
use Rattle.tp_jobs.specs.Backlogs.{IsOfJob}
use Rattle.tp_jobs.specs.NextTry.{is_open}
use Rattle.tp_jobs.proofs.waiting_queue.first_open.Given as goal

abbrev pub invariant-loop-copy : goal.invariant-loop-copy
invariant-loop-copy l = record {
  jobs : All (IsOfJob l.jobs) (deque_iter_rest l.copy-iterator);
  found : find (is_open l.jobs l.blocked) (deque_iter_rest l.copy-iterator) ≡ find (is_open l.jobs l.blocked) (drop l.from l.waiting.items);
}
