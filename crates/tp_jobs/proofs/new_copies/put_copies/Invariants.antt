use Rattle.std.proofs.Common.{◌≡◌, ◌+◌, ◌++◌, replicate, vec_len}
use Rattle.tp_jobs.specs.WaitingCopies.{first_copies}
use Rattle.tp_jobs.proofs.new_copies.put_copies.Given as goal

abbrev pub invariant-loop-put : goal.invariant-loop-put
invariant-loop-put l = record {
  copies : l.copies.items ≡ l.fn.copies.items ++ first_copies l.job (vec_len l.fn.copies + 1) (replicate l.put l.want);
  len : vec_len l.copies ≡ vec_len l.fn.copies + l.put;
}
