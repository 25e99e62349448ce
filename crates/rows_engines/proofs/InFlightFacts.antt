-- A front that is left of a plan can be planned on, and what comes behind it can be asked for.
use Rattle.std.proofs.Common.{◌≡◌, ℕ, ◌<◌, ◌≤◌, List, [], ◌∷◌, length, slice_get, refl, ap, sym, ◌∙◌, subst, arith, Some, IsTrue}
use Rattle.std.proofs.lemmas.List.Sums.{count_by-le-length}
use Rattle.std.proofs.lemmas.Option.{get_or_from_slice_get}
use Rattle.tp_machine.specs.declared.parts.State.{State}
use Rattle.tp_machine.specs.declared.machine.Machine.{Machine}
use Rattle.tp_schedule.specs.LivePlans.{is_live}
use Rattle.tp_schedule.specs.PlannerAnswers.{CanAsk, CanPlanOn, IsOpenGoal}
use Rattle.tp_schedule.specs.Plans.{plan_of, put_plan, without}
use Rattle.tp_schedule.specs.Routes.{IsFreshStart, walk}
use Rattle.tp_schedule.specs.declared.parts.Goal.{Goal}
use Rattle.tp_schedule.specs.declared.parts.Origin.TheVariants.{Front as FromFront}
use Rattle.tp_schedule.specs.declared.parts.Plan.{Plan}
use Rattle.tp_schedule.proofs.CopyFacts.{same_copy-refl}
use Rattle.tp_event_rules.proofs.CutPlans.{IsLeft-cut_after}
use Rattle.tp_event_rules.proofs.LeftPlans.{AreLeft, IsLegal-left, KeepsFloors-left, KeepsHorizon-left}
use Rattle.tp_event_rules.proofs.LeftPlans.AreLeft.{none, more}
use Rattle.rows_engines.specs.Flights.{IsFrontOfFew, ask_after, front_plan}
use Rattle.rows_engines.proofs.LaidWays.{one-only, only-live, open-goal, length-without}

-- one plan alone
one-plan : (plans : List Plan) (p : Plan) → length plans ≡ 1 → slice_get plans 0 ≡ Some p → plans ≡ p ∷ []
one-plan [] p one at = absurd (omega arith)
one-plan (q ∷ []) p one at = let same : q ≡ p = cc in ap (λ r. r ∷ []) same
one-plan (q ∷ r ∷ plans) p one at = absurd (omega arith)

plan_on-one : (machine : Machine) (count : ℕ) (p : Plan) → CanPlanOn machine 0 (p ∷ []) → 0 < count → count ≤ length p.acts → CanPlanOn machine 0 (front_plan count p ∷ [])
plan_on-one machine count p plan_on some within =
    let left : AreLeft machine (p ∷ []) (front_plan count p ∷ []) =
    more p (front_plan count p) [] [] (IsLeft-cut_after machine count p.goal p (λ timed. (omega arith, within))) none
    in record {
      now_at_most = plan_on.now_at_most;
      legal = IsLegal-left machine _ _ left plan_on.legal;
      floors = KeepsFloors-left machine 0 _ _ left plan_on.floors;
      horizon = KeepsHorizon-left machine 0 _ _ left plan_on.horizon;
    }

pub plan_on-front : (machine : Machine) (count : ℕ) (plans others plans' : List Plan) (p q : Plan) → CanPlanOn machine 0 plans → length plans ≡ 1 → slice_get plans 0 ≡ Some p → 0 < count → count ≤ length p.acts
    → plans' ≡ put_plan q others → q ≡ front_plan count p → others ≡ [] → CanPlanOn machine 0 plans'
plan_on-front machine count plans others plans' p q plan_on one at some within put is empty =
    subst (CanPlanOn machine 0) (sym (put ∙ (λ i. put_plan (is i) (empty i)))) (plan_on-one machine count p (subst (CanPlanOn machine 0) (one-plan plans p one at) plan_on) some within)

pub can_ask-front : (machine : Machine) (plans : List Plan) (p : Plan) (goal : Goal) (first state : State) (end kept : ℕ) → CanPlanOn machine 0 plans → length plans ≡ 1 → slice_get plans 0 ≡ Some p
    → IsFrontOfFew kept p → slice_get p.points kept ≡ Some end → 0 < end → IsFreshStart machine p.want first → walk machine p.want p.acts first ≡ Some state → IsTrue (is_live machine 0 p)
    → IsOpenGoal machine [] (ask_after p goal (FromFront state end kept)) goal → CanAsk machine plans (ask_after p goal (FromFront state end kept))
can_ask-front machine plans p goal first state end kept plan_on one at is_front ends above starts leads live open' =
    let ask = ask_after p goal (FromFront state end kept) in
    record {
      plan_on = plan_on;
      few_live = let fewer = length-without ask.sheet plans in omega (arith, count_by-le-length (is_live machine 0) (without p.sheet plans));
      named = λ q r in' in'' name. ap (λ (s : Plan). s.sheet.job) (one-only plans (omega arith) q r in' in'');
      asked = (
        p,
        subst (λ ps. plan_of p.sheet ps ≡ Some p) (sym (one-plan plans p one at)) (rw (same_copy-refl p.sheet) refl),
        record {
          front = is_front.front;
          name = refl;
          want = refl;
          acts = is_front.acts;
          released = is_front.released;
          ends = rw is_front.acts (get_or_from_slice_get p.points kept end 0 ends);
          some = is_front.some;
          start = first;
          starts = starts;
          leads = leads;
        },
      );
      has_time = above;
      open_goal = open-goal machine plans ask goal (only-live machine 0 plans p (omega arith) at live) open';
    }
