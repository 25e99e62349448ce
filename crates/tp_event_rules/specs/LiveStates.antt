-- The state of the definitions that a live state is.
use Rattle.tp_jobs.specs.Backlogs.{Kept}
use Rattle.tp_event_rules.specs.States.{SessionState}
use Rattle.tp_event_rules.specs.declared.live_state.LiveState.{LiveState}
use Rattle.tp_event_rules.specs.declared.live_state.Remembered.{Remembered}

abbrev pub seen : LiveState → SessionState
seen l = record {
  now = l.moment;
  plans = l.schedule.plans;
  lost = l.lost.items;
  jobs = l.lines.jobs;
  waiting = l.lines.waiting;
  outs = l.outs;
  refills = l.refills.0;
}

-- the state that is remembered, with the lines that were kept
abbrev pub remembered : Remembered → Kept → SessionState
remembered r kept = record {
  now = r.moment;
  plans = r.schedule.plans;
  lost = r.lost.items;
  jobs = kept.jobs;
  waiting = kept.waiting;
  outs = r.outs;
  refills = r.refills.0;
}
