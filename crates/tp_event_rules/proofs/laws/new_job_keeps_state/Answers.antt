use Rattle.tp_event_rules.proofs.FirstCopies.{accepted-job}
use Rattle.tp_event_rules.proofs.NewJob.{jobs-job, lines-job}
use Rattle.tp_event_rules.proofs.NewSheets.{plans-job, sheets-job}
use Rattle.std.proofs.Common.{length}
use Rattle.tp_event_rules.proofs.laws.new_job_keeps_state.Goals as goal

pub returns-clause-jobs : goal.returns-clause-jobs
returns-clause-jobs c machine name tray media groups s accepted =
    jobs-job machine name tray media groups s (accepted-job machine s.jobs (length s.waiting) name tray media groups accepted)

pub returns-clause-plans : goal.returns-clause-plans
returns-clause-plans c machine name tray media groups s accepted =
    plans-job machine name tray media groups s (accepted-job machine s.jobs (length s.waiting) name tray media groups accepted)

pub returns-clause-lines : goal.returns-clause-lines
returns-clause-lines c machine name tray media groups s accepted =
    lines-job machine name tray media groups s (accepted-job machine s.jobs (length s.waiting) name tray media groups accepted)

pub returns-clause-sheets : goal.returns-clause-sheets
returns-clause-sheets c = sheets-job
