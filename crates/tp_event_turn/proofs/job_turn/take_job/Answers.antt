-- A job that the lines refuse is reported refused; one that they add leads on to the phase of asks.
use Rattle.std.proofs.Common.{◌+◌, arith, length, sym, ap, subst}
use Rattle.std.proofs.lemmas.Result.{on_ok_weaker}
use Rattle.tp_jobs.specs.Backlogs.{Backlog}
use Rattle.tp_script.specs.declared.event.Event.TheVariants.{Job as NewJob}
use Rattle.tp_event_rules.specs.LiveStates.{seen}
use Rattle.tp_event_rules.specs.Planners.{right_steps}
use Rattle.tp_event_rules.specs.Refusals.{job_cause}
use Rattle.tp_event_rules.specs.Ready.{CanTakeEvents, KeepsLive, last_copy}
use Rattle.tp_event_turn.proofs.EventFacts.{accepted-by, refused-by, refused-event, seen-added}
use Rattle.tp_event_turn.proofs.KeptEvents.{events-job}
use Rattle.tp_event_turn.proofs.job_turn.take_job.Goals as goal
use Rattle.tp_event_rules.proofs.StockKept.{within-bounded}

pub ask_waiting-requires-clause-can : goal.ask_waiting-requires-clause-can
ask_waiting-requires-clause-can g c =
    let s = seen c.args.state.now in
    let o = c.args.order.now in
    subst (KeepsLive c.args.machine.now (last_copy + 1)) (sym (seen-added c.args.machine.now s c.args.state.now.lines.kept o.name o.tray o.media o.groups.now c.add.new.self c.in-Ok.ensures.added))
    (events-job c.args.machine.now o.name o.tray o.media o.groups.now s
    (accepted-by c.args.machine.now s.jobs (length s.waiting) o.name o.tray o.media o.groups.now c.in-Ok.ensures.refused) last_copy c.requires.ready.can).kept

pub returns-in-Err-clause-turn : goal.returns-in-Err-clause-turn
returns-in-Err-clause-turn g c =
    let s = seen c.args.state.now in
    let o = c.args.order.now in
    on_ok_weaker c.tell_job_refused.result
    (λ told. refused-event (right_steps g.P.Planner.rules c.args.machine.now) c.args.machine.now (NewJob o.name o.tray o.media o.groups.now)
    s c.args.planner.now c.args.notes.now.items c.tell_job_refused.new.notes.items (job_cause c.in-Err.fault)
    (λ cause. refused-by c.args.machine.now s.jobs (length s.waiting) o.name o.tray o.media o.groups.now c.in-Err.fault cause c.in-Err.ensures.refused)
    told _ (ap (λ (l : Backlog). record s { jobs = l.jobs; waiting = l.waiting }) c.in-Err.ensures.kept))
    c.tell_job_refused.ensures.told

pub returns-in-Ok-clause-kept : goal.returns-in-Ok-clause-kept
returns-in-Ok-clause-kept g c =
    let s = seen c.args.state.now in
    let o = c.args.order.now in
    on_ok_weaker c.ask_waiting.result
    (λ kept copies can. kept (copies + 1) (subst (CanTakeEvents c.args.machine.now (copies + 1)) (sym (seen-added c.args.machine.now s c.args.state.now.lines.kept o.name o.tray o.media o.groups.now c.add.new.self c.in-Ok.ensures.added))
    (events-job c.args.machine.now o.name o.tray o.media o.groups.now s
    (accepted-by c.args.machine.now s.jobs (length s.waiting) o.name o.tray o.media o.groups.now c.in-Ok.ensures.refused) copies can)))
    c.ask_waiting.ensures.kept

pub ask_waiting-requires-clause-bounded : goal.ask_waiting-requires-clause-bounded
ask_waiting-requires-clause-bounded g c = within-bounded last_copy c.args.state.now.refills.0 (omega arith) c.requires.ready.stocked.within
