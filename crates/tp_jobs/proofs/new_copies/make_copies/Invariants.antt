use Rattle.std.proofs.Common.{◌≡◌, take, vec_len}
use Rattle.tp_jobs.specs.JobRefusals.{sheet_count}
use Rattle.tp_jobs.specs.WaitingCopies.{first_copies, sheets_of}
use Rattle.tp_jobs.proofs.new_copies.make_copies.Given as goal

abbrev pub invariant-loop-group : goal.invariant-loop-group
invariant-loop-group l = record {
  copies : l.copies.items ≡ first_copies l.job 1 (sheets_of l.media (take l.group-index l.groups));
  len : vec_len l.copies ≡ sheet_count (take l.group-index l.groups);
}
