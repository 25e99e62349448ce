-- The copies that waited are taken, and no copy waits after the fates of the break.
use Rattle.std.proofs.Common.{◌<◌, ◌++◌, ◌∷◌, ◌∙◌, [], All, AllPairs, ap, arith, sym, append_assoc, length, map, subst}
use Rattle.tp_jobs.specs.Backlogs.{Backlog}
use Rattle.tp_schedule.specs.declared.parts.SheetId.{SheetId}
use Rattle.tp_schedule.specs.declared.records.Record.TheVariants.{Broken}
use Rattle.tp_event_rules.specs.FallBacks.{fate_in_break}
use Rattle.tp_event_rules.specs.Labels.{job_name}
use Rattle.tp_event_rules.specs.Lines.{is_of_job}
use Rattle.tp_event_rules.specs.LiveStates.{seen}
use Rattle.tp_event_rules.specs.States.{SessionState}
use Rattle.tp_replan.specs.Meanings.{IsKnown, StandsBefore, meant, told_by_copy}
use Rattle.tp_replan.proofs.BreakFacts.{sheets-in_order, sheets-known}
use Rattle.tp_replan.proofs.BreakSteps.{break-cuts, break-leaves, break-room, break-tells, break-waits_none}
use Rattle.tp_replan.proofs.OpenFacts.{one-each}
use Rattle.tp_replan.proofs.job_break.break_job.Goals as goal

pub tell_by_copy-requires-clause-each : goal.tell_by_copy-requires-clause-each
tell_by_copy-requires-clause-each c =
    one-each _ c.args.state.now.schedule.plans c.as_slice-2.result.now (ap (map meant) c.as_slice-2.ensures.value ∙ c.in_ok-fates.ensures)

pub tell_by_copy-requires-clause-of_jobs : goal.tell_by_copy-requires-clause-of_jobs
tell_by_copy-requires-clause-of_jobs c =
    let lines : Backlog = c.args.state.now.lines in
    let copies = c.as_slice.ensures.value ∙ c.in_ok-copies.ensures.copies in
    let jobs = ap (λ (b : Backlog). b.jobs) c.in_ok-copies.ensures.lines in
    subst (λ js. All (λ (x : SheetId). x.job < length js) c.as_slice.result.now) (sym jobs)
    (subst (All (λ (x : SheetId). x.job < length lines.jobs)) (sym copies)
    (sheets-known lines.jobs (is_of_job c.args.job) lines.waiting c.kept.ensures.of_jobs))

pub tell_by_copy-requires-clause-in_order : goal.tell_by_copy-requires-clause-in_order
tell_by_copy-requires-clause-in_order c =
    subst (AllPairs StandsBefore) (sym (c.as_slice.ensures.value ∙ c.in_ok-copies.ensures.copies))
    (sheets-in_order (is_of_job c.args.job) c.args.state.now.lines.waiting c.kept.ensures.in_order)

pub tell_by_copy-requires-clause-known : goal.tell_by_copy-requires-clause-known
tell_by_copy-requires-clause-known c =
    subst (λ js. All (IsKnown js) c.args.state.now.schedule.plans) (sym (ap (λ (b : Backlog). b.jobs) c.in_ok-copies.ensures.lines)) c.requires.can.known

pub befall-requires-clause-known : goal.befall-requires-clause-known
befall-requires-clause-known c =
    subst (λ js. All (IsKnown js) c.args.state.now.schedule.plans) (sym (ap (λ (b : Backlog). b.jobs) c.in_ok-copies.ensures.lines)) c.requires.can.known

pub befall-requires-clause-each : goal.befall-requires-clause-each
befall-requires-clause-each c =
    one-each _ c.args.state.now.schedule.plans c.as_slice-3.result.now (ap (map meant) c.as_slice-3.ensures.value ∙ c.in_ok-fates.ensures)

pub befall-requires-clause-started : goal.befall-requires-clause-started
befall-requires-clause-started c =
    break-cuts (seen c.args.state.now) c.args.job c.as_slice-3.result.now c.ordered.ensures.ordered.formed
    (ap (map meant) c.as_slice-3.ensures.value ∙ c.in_ok-fates.ensures)

pub befall-requires-clause-can_wait : goal.befall-requires-clause-can_wait
befall-requires-clause-can_wait c =
    break-waits_none (seen c.args.state.now) c.args.job c.as_slice-3.result.now c.take_job.new.lines.waiting
    (ap (map meant) c.as_slice-3.ensures.value ∙ c.in_ok-fates.ensures)

pub befall-requires-clause-room : goal.befall-requires-clause-room
befall-requires-clause-room c =
    let taken = ap (λ (b : Backlog). length b.waiting) c.in_ok-copies.ensures.lines in
    let room = break-room (seen c.args.state.now) c.args.job c.as_slice-3.result.now c.requires.can c.ordered.ensures.ordered.formed
    (ap (map meant) c.as_slice-3.ensures.value ∙ c.in_ok-fates.ensures) in
    omega (arith, taken, room)

pub break_job-requires : goal.break_job-requires
break_job-requires c =
    let rule = fate_in_break (seen c.args.state.now) c.args.job in
    let follows = c.in_ok-befall.ensures.follows rule (ap (map meant) c.as_slice-3.ensures.value ∙ c.in_ok-fates.ensures) in
    let jobs = ap (λ (t : SessionState). t.jobs) follows ∙ ap (λ (b : Backlog). b.jobs) c.in_ok-copies.ensures.lines in
    subst (λ js. c.args.job < length js) (sym jobs) c.requires.job

pub returns-clause-leads : goal.returns-clause-leads
returns-clause-leads c =
    let s = seen c.args.state.now in
    let rule = fate_in_break s c.args.job in
    let told = c.in_ok-tell_by_copy.ensures rule (ap (map meant) c.as_slice-2.ensures.value ∙ c.in_ok-fates.ensures) in
    let follows = c.in_ok-befall.ensures.follows rule (ap (map meant) c.as_slice-3.ensures.value ∙ c.in_ok-fates.ensures) in
    let more = told_by_copy c.take_job.new.lines.jobs s.now rule c.as_slice.result.now s.plans in
    let broken = c.in_ok-push.ensures.items ∙ ap (λ name. c.args.notes.now.items ++ Broken name ∷ []) c.job_name-name.ensures in
    let taken = ap (λ (b : Backlog). record s { jobs = b.jobs; waiting = b.waiting }) c.in_ok-copies.ensures.lines in
    record {
      told = told ∙ ap (λ notes. notes ++ more) broken ∙ append_assoc c.args.notes.now.items (Broken (job_name s.jobs c.args.job) ∷ []) more
          ∙ ap (λ rs. c.args.notes.now.items ++ rs)
          (break-tells c.args.job s c.take_job.new.lines.jobs c.as_slice.result.now
          (c.as_slice.ensures.value ∙ c.in_ok-copies.ensures.copies) (ap (λ (b : Backlog). b.jobs) c.in_ok-copies.ensures.lines));
      state = ap (λ (b : Backlog). record (seen c.befall.new.state) { jobs = b.jobs; waiting = b.waiting }) c.break_job.ensures
          ∙ break-leaves c.args.job s _ (seen c.befall.new.state) taken follows;
    }
