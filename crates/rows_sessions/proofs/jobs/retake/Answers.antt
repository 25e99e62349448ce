-- A copy that was taken can be put back.
use Rattle.std.proofs.Common.{ap, ◌∙◌}
use Rattle.tp_jobs.specs.WaitingCopies.{find_waiting}
use Rattle.tp_jobs.proofs.OrderFacts.{find-without}
use Rattle.rows_sessions.proofs.jobs.retake.Goals as goal

pub wait-requires-clause-new_copy : goal.wait-requires-clause-new_copy
wait-requires-clause-new_copy c =
    ap (λ lines. find_waiting c.in-Some.first lines.waiting) c.taken.ensures ∙ find-without c.in-Some.first c.args.lines.now.waiting
