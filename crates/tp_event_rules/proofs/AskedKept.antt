-- A copy that waits is planned while fewer than 256 are live: plans are kept.
use Rattle.std.proofs.Common.{◌≡◌, ◌+◌, ◌<◌, ◌≤◌, inl, inr, Bool, true, false, ◌&&◌, ◌||◌, not, List, ◌++◌, length, filter, refl, sym, ap, ◌∙◌, arith, All, Contains, subst, Some, None}
use Rattle.std.specs.List.{list_all}
use Rattle.std.proofs.lemmas.Bool.Decides.{nat_tests}
use Rattle.std.proofs.lemmas.List.Elements.{All-contains}
use Rattle.std.proofs.lemmas.List.Sums.{length-filter}
use Rattle.tp_machine.specs.declared.parts.ActId.{ActId}
use Rattle.tp_machine.specs.declared.machine.Machine.{Machine}
use Rattle.tp_jobs.specs.declared.parts.WaitingCopy.{WaitingCopy}
use Rattle.tp_jobs.proofs.Found.{find-none}
use Rattle.tp_schedule.specs.Legality.{IsLegal}
use Rattle.tp_schedule.specs.Answers.{IsLeast, KeepsFloors, acts_in, follows_front}
use Rattle.tp_schedule.specs.Holders.{runs_from}
use Rattle.tp_schedule.specs.LivePlans.{is_live, live_count}
use Rattle.tp_schedule.specs.PlannerAnswers.{none_exempt}
use Rattle.tp_schedule.specs.Plans.{IsTimedPlan, is_same_copy, plan_of, point, without}
use Rattle.tp_schedule.specs.Routes.{is_act_allowed}
use Rattle.tp_schedule.specs.declared.parts.Plan.{Plan}
use Rattle.tp_schedule.proofs.CopyFacts.{plan_of-itself}
use Rattle.tp_schedule.proofs.Membership.{All-from_contains, Contains-filter_from}
use Rattle.tp_event_rules.specs.AskPhase.{ask_waiting, is_full}
use Rattle.tp_event_rules.specs.StateInvariants.{KeepsPlans, is_clear, is_to_arrive, open_count}
use Rattle.tp_event_rules.specs.Moments.{is_started}
use Rattle.tp_event_rules.specs.States.{SessionState}
use Rattle.tp_event_rules.proofs.AnsweredPlans.{IsUnmoved, unmoved-sheet, plan-cases}
use Rattle.tp_event_rules.proofs.AskedFacts.{IsAskedFirst, none-before}
use Rattle.tp_event_rules.proofs.AskedLines.{planned_waiting}
use Rattle.tp_event_rules.proofs.AskedPlans.{IsRetimedPlan, low-stays, live-before, arriving-before, count-unmoved, one-more-than-others, clear-route, clear-moved}
use Rattle.tp_event_rules.proofs.TestFacts.{count-part, one-less, all-of, of-all}

-- a plan of before, and the same plan after
pub retimed-plan : (machine : Machine) (s : SessionState) (w : WaitingCopy) (plans' : List Plan) (f : IsAskedFirst machine s w plans') → IsLegal machine s.plans → KeepsFloors machine s.now none_exempt s.plans
    → (q p : Plan) → Contains plans' q → Contains s.plans p → IsUnmoved q p → IsRetimedPlan machine s.now p q
retimed-plan machine s w plans' f legal floors q p in' in'' u = record {
  unmoved = u;
  timed = All-contains (IsTimedPlan machine) s.plans p legal.timed in'';
  timed' = All-contains (IsTimedPlan machine) plans' q f.a.legal.timed in';
  floors = λ i released within. let above : s.now + machine.lead < point p i = floors p in'' refl i released within in omega arith;
  fixed = λ i fixed within. f.a.fixed p q in'' (subst (λ c. plan_of c plans' ≡ Some q) (unmoved-sheet q p u) (plan_of-itself plans' q f.a.legal.in_order in')) i fixed within;
}

module _ (machine : Machine) (s : SessionState) (w : WaitingCopy) (plans' : List Plan) (f : IsAskedFirst machine s w plans') (keeps : KeepsPlans machine s) where
  -- at most one more passes a test that the moved plans pass only where they passed before
  one-more : (test : Plan → Bool) → ((p q : Plan) → IsRetimedPlan machine s.now p q → test q ≡ true → test p ≡ true) → length (filter test plans') ≤ 1 + length (filter test s.plans)
  one-more test each =
      let all = one-more-than-others test w.sheet plans' f.a.legal.in_order in
      let others = count-unmoved test (without w.sheet plans') (without w.sheet s.plans) f.a.others (λ q p in' in'' u.
      each p q (retimed-plan machine s w plans' f keeps.legal keeps.floors q p (Contains-filter_from (λ p. not (is_same_copy p.sheet w.sheet)) plans' q in').0 (Contains-filter_from (λ p. not (is_same_copy p.sheet w.sheet)) s.plans p in'').0 u)) in
      let part = count-part test (λ p. not (is_same_copy p.sheet w.sheet)) s.plans in
      omega arith

  few-live : is_full machine s ≡ false → live_count machine s.now plans' ≤ 256
  few-live free =
      let few : live_count machine s.now s.plans < 256 = grind (arith, nat_tests) in
      let more = one-more (is_live machine s.now) (live-before machine s.now) in
      let one = length-filter (is_live machine s.now) s.plans in
      let other = length-filter (is_live machine s.now) plans' in
      omega arith

  few-open : open_count (planned_waiting s w plans') ≤ 4352
  few-open =
      let few : open_count s ≤ 4352 = keeps.few_open in
      let more = one-more (is_to_arrive s.now) (arriving-before machine s.now) in
      let one = length-filter (is_to_arrive s.now) s.plans in
      let other = length-filter (is_to_arrive s.now) plans' in
      let fewer = one-less (λ (v : WaitingCopy). not (is_same_copy v.sheet w.sheet)) s.waiting w f.here same in
      omega arith where
        same : not (is_same_copy w.sheet w.sheet) ≡ false
        same = grind (arith, nat_tests)

  mine-allowed : All (λ act. is_act_allowed machine s.outs act ≡ true) f.a.plan.acts
  mine-allowed = All-from_contains (λ act. is_act_allowed machine s.outs act ≡ true) f.a.plan.acts (λ act in'.
      let none : plan_of w.sheet s.plans ≡ None = find-none (λ p. is_same_copy p.sheet w.sheet) s.plans (All-from_contains (λ p. is_same_copy p.sheet w.sheet ≡ false) s.plans (none-before machine s w plans' f)) in
      let route : f.a.plan.acts ≡ f.a.answers.route = f.a.answers.acts ∙ ap (λ o. acts_in o ++ f.a.answers.route) none in
      f.a.answers.allowed act (subst (λ l. Contains l act) route in'))

  clear-asked : list_all (is_clear machine (planned_waiting s w plans')) plans' ≡ true
  clear-asked = of-all (is_clear machine (planned_waiting s w plans')) plans' (All-from_contains (λ p. is_clear machine (planned_waiting s w plans') p ≡ true) plans' (λ q in'.
      elim (plan-cases machine s.plans (ask_waiting machine s w) plans' f.a q in') [
        | inl e ↦ subst (λ p. is_clear machine (planned_waiting s w plans') p ≡ true) (sym e)
            (clear-route s.now (is_act_allowed machine s.outs) f.a.plan.sheet 1 f.a.plan.acts f.a.plan.points mine-allowed)
        | inr other ↦
            let r = retimed-plan machine s w plans' f keeps.legal keeps.floors q other.0 in' other.1 other.2 in
            let clear : is_clear machine s other.0 ≡ true = All-contains (λ p. is_clear machine s p ≡ true) s.plans other.0 (all-of (is_clear machine s) s.plans keeps.clear) other.1 in
            let acts : q.acts ≡ other.0.acts = ap (λ (p : Plan). p.acts) other.2.is in
            let one : length other.0.points ≡ length other.0.acts + 1 = r.timed.one_more in
            let many : length q.points ≡ length q.acts + 1 = r.timed'.one_more in
            let long : length q.acts ≡ length other.0.acts = ap (λ (a : List ActId). length a) acts in
            moved q other.0.acts acts
            (clear-moved s.now (is_act_allowed machine s.outs) other.0.sheet q.sheet 1 1 other.0.acts other.0.points q.points one (omega arith)
            (λ i within low. let stays = low-stays machine s.now other.0 q r i within low in omega arith) clear)
      ])) where
        moved : (q : Plan) (acts : List ActId) → q.acts ≡ acts → list_all (λ run. is_started s.now run || is_act_allowed machine s.outs run.act) (runs_from q.sheet 1 acts q.points) ≡ true
            → is_clear machine (planned_waiting s w plans') q ≡ true
        moved q acts e h = subst (λ l. list_all (λ run. is_started s.now run || is_act_allowed machine s.outs run.act) (runs_from q.sheet 1 l q.points) ≡ true) (sym e) h

  and-second : (a b : Bool) → b ≡ false → (a && b) ≡ false
  and-second true b e = e
  and-second false b e = refl

  pub plans-asked : is_full machine s ≡ false → KeepsPlans machine (planned_waiting s w plans')
  plans-asked free = record {
    legal = f.a.legal;
    floors = λ p in' not_exempt i released within. f.a.floors p in' (and-second (is_same_copy p.sheet w.sheet) _ refl) i released within;
    horizon = f.a.horizon;
    few_live = few-live free;
    few_open = few-open;
    clear = clear-asked;
  }

-- for a new copy no plan is exempt from its floors
pub least-asked : (machine : Machine) (s : SessionState) (w : WaitingCopy) (plans' : List Plan) → IsLeast machine s.now (follows_front (ask_waiting machine s w)) plans' → IsLeast machine s.now none_exempt plans'
least-asked machine s w plans' least plans'' r p in' i within =
    least plans'' (record { legal = r.legal; same = r.same; fixed = r.fixed; orders = r.orders; floors = λ q in'' e j released low. r.floors q in'' refl j released low; horizon = r.horizon }) p in' i within
