-- The moment, the jobs and the copies are given in turn, and the copies can wait.
use Rattle.std.proofs.Common.{List, [], sym, subst, ◌∙◌}
use Rattle.serde_json.specs.View.{view}
use Rattle.tp_jobs.specs.declared.parts.Job.{Job}
use Rattle.tp_jobs.specs.declared.standing.Standing.{Standing}
use Rattle.tp_snapshot.proofs.RuleFacts.{cannot-wait, no-jobs, no-now, no-outs, no-stock, six}
use Rattle.tp_snapshot.specs.Rules.{BreaksFrom, TellsCopies, TellsJobs, TellsMoment, TellsPlans}
use Rattle.tp_snapshot.proofs.standing_reader.standing_in.Goals as goal

pub returns-in_default-clause-broken : goal.returns-in_default-clause-broken
returns-in_default-clause-broken c =
    no-now c.args.machine.now (view c.args.value.now) (sym c.read_now.ensures.moment ∙ c.in_default.is)

pub returns-in_default-read_outs-clause-broken : goal.returns-in_default-read_outs-clause-broken
returns-in_default-read_outs-clause-broken c =
    no-outs c.args.machine.now (view c.args.value.now) (sym c.read_outs.ensures ∙ c.in_default-read_outs.is)

pub returns-in_default-2-clause-broken : goal.returns-in_default-2-clause-broken
returns-in_default-2-clause-broken c =
    no-stock c.args.machine.now (view c.args.value.now) (sym c.in_ok-stock.ensures ∙ c.in_default-2.is)

pub returns-in_default-3-clause-broken : goal.returns-in_default-3-clause-broken
returns-in_default-3-clause-broken c =
    let t : Standing = record { now = c.in-Some.now; outs = c.in-Some-read_outs.outs; stock = c.in-Some-2.stock; jobs = []; waiting = []; plans = [] } in
    let moment : TellsMoment c.args.machine.now (view c.args.value.now) t = record { now = sym c.read_now.ensures.moment ∙ c.in-Some.is; outs = sym c.read_outs.ensures ∙ c.in-Some-read_outs.is; stock = sym c.in_ok-stock.ensures ∙ c.in-Some-2.is } in
    no-jobs c.args.machine.now (view c.args.value.now) t moment (sym c.in_ok-jobs.ensures ∙ c.in_default-3.is)

pub returns-in-Err-clause-broken : goal.returns-in-Err-clause-broken
returns-in-Err-clause-broken c =
    let m = c.args.machine.now in
    let d = view c.args.value.now in
    let now = c.in-Some.now in
    let breaks : BreaksFrom c.in-Err.rule m now c.in-Some-3.jobs d = subst (λ (js : List Job). BreaksFrom c.in-Err.rule m now js d) c.as_slice.ensures (rw c.in-Err.is at c.in_ok-copies.ensures.broken) in
    breaks c.in-Some-read_outs.outs c.in-Some-2.stock
    (record { now = sym c.read_now.ensures.moment ∙ c.in-Some.is; outs = sym c.read_outs.ensures ∙ c.in-Some-read_outs.is; stock = sym c.in_ok-stock.ensures ∙ c.in-Some-2.is })
    (sym c.in_ok-jobs.ensures ∙ c.in-Some-3.is)

pub returns-then-keeps_waiting-clause-told : goal.returns-then-keeps_waiting-clause-told
returns-then-keeps_waiting-clause-told c =
    let m = c.args.machine.now in
    let d = view c.args.value.now in
    let now = c.in-Some.now in
    let jobs = c.in-Some-3.jobs in
    let planned = c.in-Ok.copies.plans in
    let held = c.in-Ok.copies.waiting in
    let t : Standing = record { now = now; outs = c.in-Some-read_outs.outs; stock = c.in-Some-2.stock; jobs = jobs; waiting = held; plans = planned } in
    let copies : TellsCopies m now jobs d planned held = subst (λ (js : List Job). TellsCopies m now js d planned held) c.as_slice.ensures (rw c.in-Ok.is at c.in_ok-copies.ensures.told) in
    let at : TellsMoment m d t = record { now = sym c.read_now.ensures.moment ∙ c.in-Some.is; outs = sym c.read_outs.ensures ∙ c.in-Some-read_outs.is; stock = sym c.in_ok-stock.ensures ∙ c.in-Some-2.is } in
    let of_jobs : TellsJobs m d t = record { jobs = sym c.in_ok-jobs.ensures ∙ c.in-Some-3.is; differ = copies.differ } in
    let plans : TellsPlans m d t = record { plans = copies.plans; in_order = copies.in_order } in
    six m d t at of_jobs plans (record { waiting = copies.waiting; keeps = c.keeps_waiting.ensures.0 c.if-keeps_waiting.true })

pub returns-else-keeps_waiting-clause-broken : goal.returns-else-keeps_waiting-clause-broken
returns-else-keeps_waiting-clause-broken c =
    let m = c.args.machine.now in
    let d = view c.args.value.now in
    let now = c.in-Some.now in
    let jobs = c.in-Some-3.jobs in
    let planned = c.in-Ok.copies.plans in
    let held = c.in-Ok.copies.waiting in
    let t : Standing = record { now = now; outs = c.in-Some-read_outs.outs; stock = c.in-Some-2.stock; jobs = jobs; waiting = held; plans = planned } in
    let copies : TellsCopies m now jobs d planned held = subst (λ (js : List Job). TellsCopies m now js d planned held) c.as_slice.ensures (rw c.in-Ok.is at c.in_ok-copies.ensures.told) in
    let at : TellsMoment m d t = record { now = sym c.read_now.ensures.moment ∙ c.in-Some.is; outs = sym c.read_outs.ensures ∙ c.in-Some-read_outs.is; stock = sym c.in_ok-stock.ensures ∙ c.in-Some-2.is } in
    let of_jobs : TellsJobs m d t = record { jobs = sym c.in_ok-jobs.ensures ∙ c.in-Some-3.is; differ = copies.differ } in
    let plans : TellsPlans m d t = record { plans = copies.plans; in_order = copies.in_order } in
    cannot-wait m d t at of_jobs plans copies.waiting (λ keeps. (let kept = c.keeps_waiting.ensures.1 keeps in let not = c.if-keeps_waiting.false in absurd cc))
