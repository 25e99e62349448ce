use Rattle.std.proofs.Common.{◌≡◌, ◌*◌, ◌≤◌, take}
use Rattle.tp_jobs.specs.JobRefusals.{sheet_count}
use Rattle.tp_jobs.proofs.job_check.count_sheets.Given as goal

abbrev pub invariant-loop-group : goal.invariant-loop-group
invariant-loop-group l = record {
  count : l.sheets ≡ sheet_count (take l.group-index l.groups);
  within : l.sheets ≤ 4096 * l.group-index;
}
