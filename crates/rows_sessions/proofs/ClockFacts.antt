-- An empty schedule can be planned on, and what one plan on it leaves.
use Rattle.std.proofs.Common.{◌≡◌, Bool, true, false, ◌&&◌, List, [], refl, sym, subst, arith, nat_lt}
use Rattle.std.specs.Prelude.{IsFalse}
use Rattle.std.proofs.lemmas.List.Elements.{All-nil}
use Rattle.tp_machine.specs.declared.machine.Machine.{Machine}
use Rattle.tp_schedule.specs.Answers.{IsAlternative, IsAskedFrom, follows_front, kept_from}
use Rattle.tp_schedule.specs.Legality.{IsLegal}
use Rattle.tp_schedule.specs.PlannerAnswers.{CanAsk, CanPlanOn, HasTimeFrom, IsOpenGoal}
use Rattle.tp_schedule.specs.Plans.{IsTimedPlan, is_same_copy}
use Rattle.tp_schedule.specs.declared.parts.Ask.{Ask}
use Rattle.tp_schedule.specs.declared.parts.Origin.TheVariants.{Feeder as FromFeeder}
use Rattle.tp_schedule.specs.declared.parts.Plan.{Plan}

pub legal-none : (machine : Machine) → IsLegal machine []
legal-none machine = record {
  in_order = λ i j d h k. absurd (omega arith);
  timed = All-nil (IsTimedPlan machine);
  single = λ resource tick. omega arith;
  spread = λ resource tick other m n h. absurd (omega (arith, h.planned.1));
  rise = λ i j d h k. absurd (omega arith);
}

pub plan_on-none : (machine : Machine) → CanPlanOn machine 0 []
plan_on-none machine = record {
  now_at_most = omega arith;
  legal = legal-none machine;
  floors = λ p c. absurd (let h = c.1 in omega arith);
  horizon = λ p c. absurd (let h = c.1 in omega arith);
}

pub can_ask-first : (machine : Machine) (ask : Ask) → ask.now ≡ 0 → ask.origin ≡ FromFeeder → IsOpenGoal machine [] ask ask.goal → CanAsk machine [] ask
can_ask-first machine ask now new goal = record {
  plan_on = subst (λ n. CanPlanOn machine n []) (sym now) (plan_on-none machine);
  few_live = omega arith;
  named = λ p q c. absurd (let h = c.1 in omega arith);
  asked = subst (λ o. IsAskedFrom machine [] ask o) (sym new) refl;
  has_time = subst (λ o. HasTimeFrom [] ask.now o) (sym new) (omega arith);
  open_goal = goal;
}

and-none : (b : Bool) → (b && false) ≡ false
and-none true = refl
and-none false = refl

pub plan_on-first : (machine : Machine) (ask : Ask) (plans : List Plan) → ask.now ≡ 0 → ask.origin ≡ FromFeeder → IsAlternative machine [] ask plans → CanPlanOn machine 0 plans
plan_on-first machine ask plans now new a = subst (λ n. CanPlanOn machine n plans) now (record {
  now_at_most = omega (arith, now);
  legal = a.legal;
  floors = λ p in' exempt. a.floors p in' (exempt-none p);
  horizon = a.horizon;
}) where
  exempt-none : (p : Plan) → IsFalse (follows_front ask p)
  exempt-none p = subst (λ o. IsFalse (is_same_copy p.sheet ask.sheet && nat_lt 0 (kept_from o))) (sym new) (and-none (is_same_copy p.sheet ask.sheet))
