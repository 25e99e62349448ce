use Rattle.std.proofs.Common.{◌≡◌, filter, map, take}
use Rattle.tp_event_rules.specs.Lines.{is_of_job}
use Rattle.tp_replan.proofs.TakenCopies.{last_at, left_to}
use Rattle.tp_replan.proofs.job_break.take_job.Given as goal

abbrev pub invariant-loop-turn : goal.invariant-loop-turn
invariant-loop-turn l = record {
  jobs : l.lines.jobs ≡ l.fn.lines.jobs;
  waiting : l.lines.waiting ≡ left_to l.job l._turn l.fn.lines.waiting;
  kept : l.lines.kept ≡ l.fn.lines.kept;
  copies : l.copies.items ≡ map (λ w. w.sheet) (filter (is_of_job l.job) (take l._turn l.fn.lines.waiting));
  last : l.last ≡ last_at l._turn l.fn.lines.waiting;
}
