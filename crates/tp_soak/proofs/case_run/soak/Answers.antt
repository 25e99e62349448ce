-- The line has the counts of a run for the case.
use Rattle.std.proofs.Common.{◌++◌, ap, subst, ◌∙◌}
use Rattle.std.specs.Prelude.{unwrap_or}
use Rattle.tp_soak.specs.SoakCounts.{summary_text}
use Rattle.tp_soak.specs.Summaries.{IsCountedRun}
use Rattle.tp_soak.proofs.Counted.{events_counted}
use Rattle.tp_soak.proofs.case_run.soak.Goals as goal

pub returns : goal.returns
returns c = record {
  machine = c.in_ok-case.case.machine;
  is_machine = c.in_ok-case.ensures.machine;
  counts = c.in_ok-counts.counts;
  run = subst (λ events. IsCountedRun c.in_ok-case.case.machine (unwrap_or c.args.budget c.in_ok-case.case.machine.budget) events c.in_ok-counts.counts) c.in_ok-case.ensures.events c.in_ok-counts.ensures;
  of_27 = events_counted _ _ _ _ c.in_ok-counts.ensures ∙ c.in_ok-case.ensures.count;
  is_line = c.in_ok-put_summary.ensures ∙ ap (λ t. t ++ summary_text c.args.arg c.in_ok-counts.counts) c.new-line.ensures.items;
}
