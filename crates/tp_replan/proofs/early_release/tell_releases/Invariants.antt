use Rattle.std.proofs.Common.{◌≡◌, ◌≤◌, ◌+◌, ◌++◌, length, map}
use Rattle.tp_event_rules.specs.Clock.{record_of, release_of}
use Rattle.tp_replan.proofs.DueRuns.{due_below}
use Rattle.tp_replan.proofs.early_release.tell_releases.Given as goal

abbrev pub invariant-loop-at : goal.invariant-loop-at
invariant-loop-at l = record {
  count : l.released ≡ l.plan.released + length (due_below l.last l.plan l.at);
  few : l.released ≤ l.at;
  told : l.notes.items ≡ l.fn.notes.items
      ++ map (λ run. record_of l.machine l.lines.jobs (release_of l.machine run).tell) (due_below l.last l.plan l.at);
}
