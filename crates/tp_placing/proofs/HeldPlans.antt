-- An ask on the plans that a board holds: the live ones of a schedule, perhaps with others that are over.
use Rattle.std.proofs.Common.{◌≡◌, ◌+◌, ◌<◌, Bool, true, false, List, length, filter, refl, sym, subst, arith, Some, None, Option, Contains}
use Rattle.std.proofs.lemmas.List.Elements.{filter_passes}
use Rattle.tp_machine.specs.declared.machine.Machine.{Machine}
use Rattle.tp_schedule.proofs.CopyFacts.{before-asym, before-not_same, plan_of-itself, same_copy-is}
use Rattle.tp_schedule.proofs.Membership.{Contains-filter, Contains-filter_from}
use Rattle.tp_schedule.specs.Answers.{IsAskedFrom}
use Rattle.tp_schedule.specs.LivePlans.{is_live}
use Rattle.tp_schedule.specs.PlannerAnswers.{CanAsk, HasTimeFrom, IsOpenGoal}
use Rattle.tp_schedule.specs.Plans.{is_before, plan_of}
use Rattle.tp_schedule.specs.declared.parts.Ask.{Ask}
use Rattle.tp_schedule.specs.declared.parts.Goal.{Goal}
use Rattle.tp_schedule.specs.declared.parts.Goal.TheVariants.{Tray, Purge}
use Rattle.tp_schedule.specs.declared.parts.Origin.{Origin}
use Rattle.tp_schedule.specs.declared.parts.Origin.TheVariants.{Feeder as FromFeeder, Front as FromFront}
use Rattle.tp_schedule.specs.declared.parts.Plan.{Plan}
use Rattle.tp_choices.proofs.Lists.{filter-all}
use Rattle.tp_choices.proofs.PlansOf.{plan_of-contains}
use Rattle.tp_placing.specs.Loaded.{CanLoad}
use Rattle.tp_placing.specs.Commits.{CanPut, IsHeldFrom}
use Rattle.tp_placing.proofs.LivePlans.{live-asked, live-loads}

module _ (machine : Machine) (plans : List Plan) (ask : Ask) (held : List Plan) (can : CanAsk machine plans ask) (loads : CanLoad machine ask.now held) (few : length held + 1 < 4294967296)
    (live-part : filter (is_live machine ask.now) held ≡ filter (is_live machine ask.now) plans) (over : (p : Plan) → Contains held p → is_live machine ask.now p ≡ false → is_before p.sheet ask.sheet ≡ true) where
  -- a live plan is held where it is in the schedule
  of-schedule : (p : Plan) → Contains held p → is_live machine ask.now p ≡ true → Contains plans p
  of-schedule p in' live = (Contains-filter_from (is_live machine ask.now) plans p (subst (λ ps. Contains ps p) live-part (Contains-filter (is_live machine ask.now) held p in' live))).0

  of-held : (p : Plan) → Contains (filter (is_live machine ask.now) plans) p → Contains held p
  of-held p in' = (Contains-filter_from (is_live machine ask.now) held p (subst (λ ps. Contains ps p) (sym live-part) in')).0

  held-asked : (origin : Origin) → IsAskedFrom machine plans ask origin → HasTimeFrom plans ask.now origin → IsAskedFrom machine held ask origin
  held-asked FromFeeder none time = go (plan_of ask.sheet held) refl where
    not-held : (p : Plan) → plan_of ask.sheet held ≡ Some p → (b : Bool) → is_live machine ask.now p ≡ b → ⊥
    not-held p is true live =
        let c = plan_of-contains ask.sheet held p is in
        let planned : plan_of ask.sheet plans ≡ Some p = subst (λ copy. plan_of copy plans ≡ Some p) (same_copy-is p.sheet ask.sheet c.1) (plan_of-itself plans p can.plan_on.legal.in_order (of-schedule p c.0 live)) in
        cc
    not-held p is false past =
        let c = plan_of-contains ask.sheet held p is in
        let same = c.1 in
        let other = before-not_same p.sheet ask.sheet (over p c.0 past) in
        cc

    go : (o : Option Plan) → plan_of ask.sheet held ≡ o → o ≡ None
    go None e = refl
    go (Some p) e = absurd (not-held p e (is_live machine ask.now p) refl)
  held-asked (FromFront state end count) (p, is, front) time =
      let live = live-asked machine plans ask can (FromFront state end count) (p, is, front) time in
      let c = plan_of-contains ask.sheet (filter (is_live machine ask.now) plans) live.0 live.1 in (
        live.0,
        subst (λ copy. plan_of copy held ≡ Some live.0) (same_copy-is live.0.sheet ask.sheet c.1) (plan_of-itself held live.0 loads.loadable.legal.in_order (of-held live.0 c.0)),
        live.2,
      )

  held-time : (origin : Origin) → HasTimeFrom plans ask.now origin → HasTimeFrom held ask.now origin
  held-time FromFeeder time = few
  held-time (FromFront state end count) time = time

  held-goal : (goal : Goal) → IsOpenGoal machine plans ask goal → IsOpenGoal machine held ask goal
  held-goal Purge open_goal = tt
  held-goal (Tray t) open_goal = (open_goal.0, λ p in' delivered later. pick p in' later (is_live machine ask.now p) refl) where
    pick : (p : Plan) → Contains held p → is_before ask.sheet p.sheet ≡ true → (b : Bool) → is_live machine ask.now p ≡ b → is_live machine ask.now p ≡ true
    pick p in' later true e = e
    pick p in' later false e = let early = before-asym ask.sheet p.sheet later in let first = over p in' e in absurd cc

  -- an ask can be put on held plans whose live part is that of a schedule on which it can be put, if those that are over are of
  -- earlier copies
  pub held-put : CanPut machine held ask
  held-put = record {
    plan_on = record {
      now_at_most = loads.now_at_most;
      legal = loads.loadable.legal;
      floors = loads.loadable.floors;
      horizon = loads.horizon;
    };
    asked = held-asked ask.origin can.asked can.has_time;
    has_time = held-time ask.origin can.has_time;
    open_goal = held-goal ask.goal can.open_goal;
  }

-- and so it is on the live part itself
pub held-live : (machine : Machine) (plans : List Plan) (ask : Ask) → CanAsk machine plans ask → IsHeldFrom machine plans ask (filter (is_live machine ask.now) plans)
held-live machine plans ask can =
    let loads = live-loads machine plans ask can in
    let few = loads.few in
    let all = filter-all (is_live machine ask.now) (filter (is_live machine ask.now) plans) (filter_passes (is_live machine ask.now) plans) in
    record {
      can_ask = can;
      can_put = held-put machine plans ask (filter (is_live machine ask.now) plans) can loads (omega arith) all
          (λ p in' past. (let live = (Contains-filter_from (is_live machine ask.now) plans p in').1 in absurd cc));
      live_part = all;
    }
