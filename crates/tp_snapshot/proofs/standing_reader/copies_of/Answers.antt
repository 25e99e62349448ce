-- Plans that are given in their order, and then the copies that wait.
use Rattle.std.proofs.Common.{ℕ, List, sym, ap, subst, ◌∙◌}
use Rattle.serde_json.specs.View.{view}
use Rattle.tp_schedule.specs.declared.parts.Plan.{Plan}
use Rattle.tp_jobs.specs.declared.standing.Standing.{Standing}
use Rattle.tp_snapshot_rules.specs.Rules.{AreInOrder}
use Rattle.tp_snapshot.proofs.RuleFacts.{no-plans, no-waiting, out-of-order}
use Rattle.tp_snapshot.specs.Rules.{TellsJobs, TellsMoment, TellsPlans, without_copies}
use Rattle.tp_snapshot.specs.WaitingCopies.{waiting_of}
use Rattle.tp_snapshot.proofs.standing_reader.copies_of.Goals as goal

pub returns-in_default-clause-broken : goal.returns-in_default-clause-broken
returns-in_default-clause-broken c = λ outs stock moment jobs.
    no-plans c.args.machine.now (view c.args.value.now) (without_copies c.args.now outs stock c.args.jobs.now) moment
    (record { jobs = jobs; differ = c.requires.differ }) (sym c.in_ok-plans.ensures ∙ c.in_default.is)

pub returns-then-not-are_in_order-clause-broken : goal.returns-then-not-are_in_order-clause-broken
returns-then-not-are_in_order-clause-broken c = λ outs stock moment jobs.
    out-of-order c.args.machine.now (view c.args.value.now) (without_copies c.args.now outs stock c.args.jobs.now) moment
    (record { jobs = jobs; differ = c.requires.differ }) c.in-Some.plans (sym c.in_ok-plans.ensures ∙ c.in-Some.is)
    (λ in_order. (let kept = c.are_in_order.ensures.1 (subst (λ (ps : List Plan). AreInOrder ps) (sym c.as_slice.ensures) in_order) in let not = c.if-not-are_in_order.true in absurd cc))

pub returns-in-None-clause-broken : goal.returns-in-None-clause-broken
returns-in-None-clause-broken c = λ outs stock moment jobs.
    let m = c.args.machine.now in
    let d = view c.args.value.now in
    let t : Standing = record (without_copies c.args.now outs stock c.args.jobs.now) { plans = c.in-Some.plans } in
    let at : TellsMoment m d t = record { now = moment.now; outs = moment.outs; stock = moment.stock } in
    let of_jobs : TellsJobs m d t = record { jobs = jobs; differ = c.requires.differ } in
    let in_order : AreInOrder c.in-Some.plans = subst (λ (ps : List Plan). AreInOrder ps) c.as_slice.ensures (c.are_in_order.ensures.0 c.if-not-are_in_order.false) in
    let plans : TellsPlans m d t = record { plans = sym c.in_ok-plans.ensures ∙ c.in-Some.is; in_order = in_order } in
    no-waiting m d t at of_jobs plans (ap (λ (names : List (List ℕ)). waiting_of names d) (sym c.requires.names) ∙ sym c.in_ok-waiting.ensures ∙ c.in-None.is)

pub returns-in-Some-2-clause-told : goal.returns-in-Some-2-clause-told
returns-in-Some-2-clause-told c = record {
  differ = c.requires.differ;
  plans = sym c.in_ok-plans.ensures ∙ c.in-Some.is;
  in_order = subst (λ (ps : List Plan). AreInOrder ps) c.as_slice.ensures (c.are_in_order.ensures.0 c.if-not-are_in_order.false);
  waiting = ap (λ (names : List (List ℕ)). waiting_of names (view c.args.value.now)) (sym c.requires.names) ∙ sym c.in_ok-waiting.ensures ∙ c.in-Some-2.is;
}
