-- The live ones of the others are those that are live but for the copy's, which is put behind them.
use Rattle.std.proofs.Common.{◌∙◌, ◌++◌, ◌∷◌, [], AllPairs, All, ap, filter, subst, sym}
use Rattle.std.proofs.lemmas.List.Elements.{All-filter}
use Rattle.tp_schedule.proofs.PlanOrder.{without-none}
use Rattle.tp_schedule.specs.LivePlans.{is_live}
use Rattle.tp_schedule.specs.Plans.{IsEarlier}
use Rattle.tp_placing.proofs.BehindCopies.{Before, one-behind_others}
use Rattle.tp_placing.proofs.FollowedPlans.{passed-behind}
use Rattle.tp_placing.proofs.WriteAsked.{none-planned, planned-at}
use Rattle.tp_placing.proofs.live_match.follow_copy.Goals as goal

pub returns-in_default-clause-live : goal.returns-in_default-clause-live
returns-in_default-clause-live c _ =
    let plans = c.args.schedule.now.plans in
    sym c.requires.others ∙ ap (filter (is_live c.args.machine.now c.args.now)) (without-none c.args.copy plans (none-planned c.args.copy plans (sym c.in_default.is ∙ c.find.ensures)))

pub are_before-requires : goal.are_before-requires
are_before-requires c = record { in_order = subst (AllPairs IsEarlier) (sym c.deref.ensures.value) c.requires.in_order }

pub returns-clause-live : goal.returns-clause-live
returns-clause-live c _ =
    let test = is_live c.args.machine.now c.args.now in
    let plans = c.args.schedule.now.plans in
    let held = c.args.plans.now.items in
    let plan = c.plan_at-plan.result.now in
    let planned = planned-at c.args.copy plans c.in-Some.at plan (sym c.in-Some.is ∙ c.find.ensures) c.plan_at-plan.ensures.plan in
    let live = sym c.is_live.ensures ∙ c.if-not-is_live.false in
    let early = All-filter test (Before c.args.copy) held (subst (All (Before c.args.copy)) c.deref.ensures.value (c.are_before.ensures c.if-not-are_before.false)) in
    let before = subst (All (Before c.args.copy)) (sym c.requires.others) early in
    ap (filter test) (c.push_reserved.ensures.items ∙ ap (λ p. held ++ p ∷ []) c.copy.ensures.same)
    ∙ passed-behind test held plan live
    ∙ ap (λ qs. qs ++ plan ∷ []) (sym c.requires.others)
    ∙ sym (one-behind_others test c.args.copy plans plan c.ordered.ensures.ordered.in_order planned live before)
