-- Each part is the one that is given.
use Rattle.std.proofs.Common.{◌≡◌, ◌∙◌, ℕ, List, Option, ap, ℤ}
use Rattle.tp_jobs.specs.Backlogs.{unmarked}
use Rattle.tp_jobs.specs.declared.standing.Standing.{Standing}
use Rattle.tp_schedule.specs.declared.parts.Plan.{Plan}
use Rattle.tp_stock.specs.Stock.{by_location, taken_at}
use Rattle.tp_event_rules.specs.Seen.{fronts_of}
use Rattle.tp_session_standing.specs.StandingStates.{refill_at, standing_refills}
use Rattle.tp_session_standing.proofs.restored_state.state_of.Goals as goal

pub returns : goal.returns
returns c =
    let m = c.args.machine.now in
    let t : Standing = c.args.standing.now in
    let plans : c.in_ok-schedule.schedule.plans ≡ t.plans = c.in_ok-schedule.ensures ∙ c.as_slice.ensures in
    let lost : c.in_ok-fronts_of.field-0.items ≡ fronts_of t.plans = c.in_ok-fronts_of.ensures ∙ ap fronts_of c.as_slice-3.ensures in
    let lines : c.in_ok-rebuild.field-0 ≡ unmarked t.jobs t.waiting = c.in_ok-rebuild.ensures in
    let refills : c.refills_of-refills.result.0 ≡ standing_refills m t =
    c.refills_of-refills.ensures
    ∙ ap (λ (ps : List Plan). by_location (λ loc. refill_at (taken_at m ps loc) loc m.feeders c.as_slice-2.result.now)) plans
    ∙ ap (λ (stock : List (Option ℕ)). by_location (λ loc. refill_at (taken_at m t.plans loc) loc m.feeders stock)) c.as_slice-2.ensures in
    λ k. record { now = t.now; plans = plans k; lost = lost k; jobs = (lines k).jobs; waiting = (lines k).waiting; outs = t.outs; refills = refills k }
