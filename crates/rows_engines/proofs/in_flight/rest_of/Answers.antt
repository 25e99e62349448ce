use Rattle.std.proofs.Common.{◌≡◌, ◌<◌, length, Some, ◌∙◌, sym, subst, arith}
use Rattle.tp_schedule.specs.PlannerAnswers.{CanAsk}
use Rattle.tp_schedule.specs.Routes.{IsStart, walk}
use Rattle.tp_schedule.specs.declared.parts.Ask.{Ask}
use Rattle.tp_schedule.specs.declared.parts.Origin.TheVariants.{Front as FromFront}
use Rattle.rows_engines.specs.Flights.{ask_after}
use Rattle.rows_engines.proofs.InFlightFacts.{can_ask-front}
use Rattle.rows_engines.proofs.in_flight.rest_of.Goals as goal

pub returns-clause-can_ask : goal.returns-clause-can_ask
returns-clause-can_ask c =
    let machine = c.args.machine.now in
    let plans = c.args.schedule.now.plans in
    let front = c.plan_at-front.result.now in
    let first = c.args.first in
    let one : length plans ≡ 1 = let len = c.len.ensures.len in let is = c.if-len-ne1.false in omega arith in
    let above : 0 < c.get-end.result = let some = c.if-end-eq0.false in omega arith in
    let leads : walk machine front.want front.acts first ≡ Some c.in-Some.state =
    let is = c.in-Some.is in let walked = c.walk_on.ensures in let acts = c.as_slice.ensures.items in cc
    in
    subst (CanAsk machine plans) (sym c.ask_after-2.ensures) (can_ask-front machine plans front c.args.goal first c.in-Some.state c.get-end.result c.in_ok-kept.kept c.requires.plan_on one c.plan_at-front.ensures.plan
    c.in_ok-kept.ensures c.get-end.ensures above (subst (λ (ask : Ask). IsStart machine ask first) c.ask_after.ensures (c.is_start.ensures.0 c.if-not-is_start.false)).0 leads
    (sym c.is_plan_live.ensures ∙ c.if-not-is_plan_live.false) (c.requires.goal (ask_after front c.args.goal (FromFront c.in-Some.state c.get-end.result c.in_ok-kept.kept))))
