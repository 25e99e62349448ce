-- The ask is that of the job's first copy, which can be put where fewer than 256 copies are live.
use Rattle.std.proofs.Common.{◌≡◌, false, length, sym, ap, ◌∙◌, subst, arith}
use Rattle.tp_schedule.specs.PlannerAnswers.{CanAsk}
use Rattle.tp_jobs.specs.JobRefusals.{tray_named}
use Rattle.tp_jobs.specs.WaitingCopies.{given_tray, has_waiting, sheets_of}
use Rattle.tp_script.specs.declared.event.Event.TheVariants.{Job as NewJob}
use Rattle.tp_event_rules.specs.LiveStates.{seen}
use Rattle.tp_event_rules.specs.Ready.{last_copy}
use Rattle.tp_event_turn.proofs.EventFacts.{accepted-by}
use Rattle.tp_event_turn.proofs.TurnFacts.{is-free}
use Rattle.tp_session.specs.Probes.{GivesProbe}
use Rattle.tp_session.proofs.ProbeFacts.{ask-first, can-ask-first, copy-first, probes-first}
use Rattle.tp_session.proofs.job_probe.ask_for_job.Goals as goal
use Rattle.tp_event_rules.proofs.StockKept.{within-bounded}

pub returns-clause-can_ask : goal.returns-clause-can_ask
returns-clause-can_ask c =
    let m = c.args.machine.now in
    let s = seen c.args.state.now in
    let name = c.args.name.now in
    let tray = c.args.tray.now in
    let media = c.args.media.now in
    let groups = c.args.groups.now in
    let first = copy-first (length s.jobs) (sheets_of media groups) c.first_sheet.result c.first_sheet.ensures in
    subst (CanAsk m s.plans) (sym (c.make_ask.ensures ∙ ask-first m name tray media groups s c.first_sheet.result c.in-Ok.loc c.in-Ok.ensures.tray))
    (can-ask-first m name tray media groups s last_copy (accepted-by m s.jobs (length s.waiting) name tray media groups c.in-Ok.ensures.refused) c.requires.can
    (record { sheet = record { job = length s.jobs; number = 1; copy = 1 }; want = c.first_sheet.result }) first
    (is-free m s c.live.result c.live.ensures (omega (arith, c.if-live-ge-MOST_LIVE.false))))

pub returns-clause-asked : goal.returns-clause-asked
returns-clause-asked c nodes =
    let m = c.args.machine.now in
    let s = seen c.args.state.now in
    let name = c.args.name.now in
    let tray = c.args.tray.now in
    let media = c.args.media.now in
    let groups = c.args.groups.now in
    let first = copy-first (length s.jobs) (sheets_of media groups) c.first_sheet.result c.first_sheet.ensures in
    let none : has_waiting s.jobs s.waiting (given_tray (tray_named m tray)) ≡ false =
    ap (λ t. has_waiting s.jobs s.waiting (given_tray t)) c.in-Ok.ensures.tray ∙ sym c.waits_for.ensures ∙ c.if-waits_for.false in
    subst (GivesProbe m nodes (NewJob name tray media groups) s) (sym (c.make_ask.ensures ∙ ask-first m name tray media groups s c.first_sheet.result c.in-Ok.loc c.in-Ok.ensures.tray))
    (probes-first m name tray media groups s nodes (accepted-by m s.jobs (length s.waiting) name tray media groups c.in-Ok.ensures.refused) none
    (is-free m s c.live.result c.live.ensures (omega (arith, c.if-live-ge-MOST_LIVE.false)))
    (record { sheet = record { job = length s.jobs; number = 1; copy = 1 }; want = c.first_sheet.result }) first)

pub make_ask-requires : goal.make_ask-requires
make_ask-requires c = within-bounded last_copy c.args.state.now.refills.0 (omega arith) c.requires.stocked.within
