-- The live part of a schedule that can be asked can be loaded.
use Rattle.std.proofs.Common.{◌≡◌, ℕ, ◌+◌, ◌≤◌, Bool, true, false, not, List, length, filter, refl, ap, arith, All}
use Rattle.std.proofs.lemmas.List.Elements.{All-filter, All-weaker}
use Rattle.std.proofs.lemmas.List.Sums.{length-filter}
use Rattle.tp_machine.specs.declared.machine.Machine.{Machine}
use Rattle.tp_schedule.proofs.ChangeFacts.{All-plan_of}
use Rattle.tp_schedule.proofs.Membership.{Contains-filter_from}
use Rattle.tp_schedule.proofs.PlanOrder.{without-none}
use Rattle.tp_schedule.specs.Answers.{IsAskedFrom, kept_from}
use Rattle.tp_schedule.specs.LivePlans.{is_live}
use Rattle.tp_schedule.specs.PlannerAnswers.{CanAsk, CanPlanOn, HasTimeFrom}
use Rattle.tp_schedule.specs.Plans.{IsTimedPlan, without, is_same_copy}
use Rattle.tp_schedule.specs.declared.parts.Ask.{Ask}
use Rattle.tp_schedule.specs.declared.parts.Origin.{Origin}
use Rattle.tp_schedule.specs.declared.parts.Origin.TheVariants.{Feeder as FromFeeder, Front as FromFront}
use Rattle.tp_schedule.specs.declared.parts.Plan.{Plan}
use Rattle.tp_choices.proofs.PastFacts.{past_points}
use Rattle.tp_placing.specs.Loaded.{CanLoad}
use Rattle.tp_placing.specs.LoadedNet.{point_count}
use Rattle.tp_placing.proofs.LiveFacts.{points-few}
use Rattle.tp_placing.proofs.LivePart.{legal-filter, plan-none, plan-some, split-copy, one-more}

-- live plans that are few can be loaded
pub can-load : (machine : Machine) (now : ℕ) (plans : List Plan) → CanPlanOn machine now plans → length (filter (is_live machine now) plans) ≤ 256 → CanLoad machine now (filter (is_live machine now) plans)
can-load machine now plans can few = record {
  now_at_most = can.now_at_most;
  loadable = record {
    legal = legal-filter (is_live machine now) machine plans can.legal;
    floors = λ p inside. can.floors p (Contains-filter_from (is_live machine now) plans p inside).0;
  };
  horizon = λ p inside. can.horizon p (Contains-filter_from (is_live machine now) plans p inside).0;
  few = few;
}

module _ (machine : Machine) (plans : List Plan) (ask : Ask) (can : CanAsk machine plans ask) where
  acts-few : All (λ p. length p.acts ≤ 64) plans
  acts-few = All-weaker (IsTimedPlan machine) (λ p. length p.acts ≤ 64) (λ p t. t.at_most) plans can.plan_on.legal.timed

  others-few : length (filter (is_live machine ask.now) (without ask.sheet plans)) ≤ 255
  others-few = let few = can.few_live in let l = length-filter (is_live machine ask.now) (without ask.sheet plans) in omega arith

  others-points : point_count (filter (is_live machine ask.now) (without ask.sheet plans)) ≤ 16575
  others-points =
      let few = others-few in
      let all = points-few (filter (is_live machine ask.now) (without ask.sheet plans))
      (All-filter (is_live machine ask.now) (λ p. length p.acts ≤ 64) (without ask.sheet plans) (All-filter (λ p. not (is_same_copy p.sheet ask.sheet)) (λ p. length p.acts ≤ 64) plans acts-few)) in
      omega arith

  -- the live plans are few, and so are their points
  pub live-few : (origin : Origin) → IsAskedFrom machine plans ask origin
      → (length (filter (is_live machine ask.now) plans) ≤ 256) × (point_count (filter (is_live machine ask.now) plans) + 65 ≤ 16641 + kept_from origin) × (kept_from origin ≤ 64)
  live-few FromFeeder none =
      let same = ap (filter (is_live machine ask.now)) (without-none ask.sheet plans none) in
      let l = ap length same in
      let n = ap point_count same in
      let few = others-few in
      let points = others-points in
      (omega arith, omega arith, omega arith)
  live-few (FromFront state end count) (p, is, front) =
      let s = split-copy ask.sheet plans p can.plan_on.legal.in_order is in
      let more = one-more (is_live machine ask.now) s.before s.after p in
      let a = ap (λ ps. length (filter (is_live machine ask.now) ps)) s.all in
      let b = ap (λ ps. length (filter (is_live machine ask.now) ps)) s.others in
      let c = ap (λ ps. point_count (filter (is_live machine ask.now) ps)) s.all in
      let d = ap (λ ps. point_count (filter (is_live machine ask.now) ps)) s.others in
      let few = others-few in
      let points = others-points in
      let acts = front.acts in
      let m = more.0 in
      let n = more.1 in
      let short : length p.acts ≤ 64 = All-plan_of (λ q. length q.acts ≤ 64) ask.sheet plans p acts-few is in
      (omega arith, omega arith, omega arith)

  -- the asked copy's origin fits them
  pub live-asked : (origin : Origin) → IsAskedFrom machine plans ask origin → HasTimeFrom plans ask.now origin → IsAskedFrom machine (filter (is_live machine ask.now) plans) ask origin
  live-asked FromFeeder none time = plan-none (is_live machine ask.now) ask.sheet plans none
  live-asked (FromFront state end count) (p, is, front) time = (p, plan-some (is_live machine ask.now) ask.sheet plans p is (go (is_live machine ask.now p) refl), front) where
    go : (b : Bool) → is_live machine ask.now p ≡ b → is_live machine ask.now p ≡ true
    go true e = e
    go false e = let past = past_points machine ask.now p e (length p.acts) in let ends = front.ends in absurd (omega arith)

  -- and they can be loaded
  pub live-loads : CanLoad machine ask.now (filter (is_live machine ask.now) plans)
  live-loads = can-load machine ask.now plans can.plan_on (live-few ask.origin can.asked).0
