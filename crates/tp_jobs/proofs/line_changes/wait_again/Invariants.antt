use Rattle.std.proofs.Common.{◌≡◌, take, deque_len, deque_capacity}
use Rattle.tp_jobs.proofs.line_changes.wait_again.Given as goal

abbrev pub invariant-loop-copy : goal.invariant-loop-copy
invariant-loop-copy l = record {
  waits : l.waiting.items ≡ take l.copy-index l.kept;
  len : deque_len l.waiting ≡ l.copy-index;
  room : deque_capacity l.waiting ≡ deque_capacity l.initial.waiting;
}
