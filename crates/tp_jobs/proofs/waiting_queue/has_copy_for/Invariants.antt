use Rattle.std.proofs.Common.{◌≡◌, All}
use Rattle.std.specs.VecDeque.Iter.{deque_iter_rest}
use Rattle.tp_jobs.specs.Backlogs.{IsOfJob}
use Rattle.tp_jobs.specs.WaitingCopies.{has_waiting}
use Rattle.tp_jobs.proofs.waiting_queue.has_copy_for.Given as goal

abbrev pub invariant-loop-copy : goal.invariant-loop-copy
invariant-loop-copy l = record {
  jobs : All (IsOfJob l.jobs) (deque_iter_rest l.copy-iterator);
  waits : has_waiting l.jobs (deque_iter_rest l.copy-iterator) l.tray ≡ has_waiting l.jobs l.waiting.items l.tray;
}
