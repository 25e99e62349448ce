-- The plan is the copy's.
use Rattle.std.proofs.Common.{◌≡◌, ◌∙◌, ℤ, Some, ap, sym}
use Rattle.std.specs.Prelude.{option_copied}
use Rattle.tp_schedule.specs.Plans.{plan_of}
use Rattle.tp_log_planner.specs.Breaches.{BeginsAt, BeginsIn}
use Rattle.tp_log_planner.proofs.BeginFacts.{begins-at, begins-of, match-by}
use Rattle.tp_log_planner.proofs.faults.begin_of.Goals as goal

pub returns-else-hold-len : goal.returns-else-hold-len
returns-else-hold-len c =
    let machine = c.args.machine.now in
    let plans = c.args.schedule.now.plans in
    let hold = c.args.hold in
    let resource = c.args.resource in
    let plan = c.in-Some.plan.now in
    let there : plan_of hold.sheet plans ≡ Some plan = sym c.plan_of.ensures.plan ∙ ap option_copied c.in-Some.is in
    let In : ℤ → Type 0 = BeginsIn machine plan hold.act resource in
    let At : ℤ → Type 0 = BeginsAt machine plans resource hold in
    match-by ((begin : ℤ) → In begin → ⊥) ((begin : ℤ) → At begin → ⊥) In At c.begin_by.result
    (λ none begin at. none begin (begins-of machine plans resource hold plan there begin at)) (λ begin in'. begins-at machine plans resource hold plan there begin in') c.begin_by.ensures
