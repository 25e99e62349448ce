use Rattle.std.proofs.Common.{◌≡◌, ◌++◌, map}
use Rattle.tp_event_rules.specs.Clock.{release_of}
use Rattle.tp_release.proofs.DueRuns.{due_below}
use Rattle.tp_release.proofs.plan_records.tell_releases.Given as goal

abbrev pub invariant-loop-at : goal.invariant-loop-at
invariant-loop-at l = l.told.items ≡ l.fn.told.items ++ map (release_of l.machine) (due_below l.last l.plan l.at)
