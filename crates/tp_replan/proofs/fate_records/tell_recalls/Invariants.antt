use Rattle.std.proofs.Common.{◌≡◌, ◌++◌, filter, map, take}
use Rattle.tp_schedule.specs.Holders.{runs_of}
use Rattle.tp_schedule.specs.declared.records.Record.TheVariants.{Recall}
use Rattle.tp_event_rules.specs.Labels.{label}
use Rattle.tp_event_rules.specs.Moments.{is_recalled}
use Rattle.tp_replan.proofs.fate_records.tell_recalls.Given as goal

abbrev pub invariant-loop-at : goal.invariant-loop-at
invariant-loop-at l = l.notes.items ≡ l.fn.notes.items
    ++ map (λ run. Recall (label l.lines.jobs l.plan.sheet) run.number) (filter (is_recalled l.now l.plan) (take l.at (runs_of l.plan)))
