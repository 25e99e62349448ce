-- What may be asked on an empty schedule, and what may be done on a board for a new copy.
use Rattle.std.proofs.Common.{◌≡◌, ℕ, ◌<◌, [], refl, ap, sym, ◌∙◌, subst, arith, List, Option, Some, None, IsSomeAnd, IsFalse}
use Rattle.std.proofs.lemmas.List.Elements.{All-nil}
use Rattle.std.specs.List.{slice_get}
use Rattle.tp_machine.specs.declared.parts.ActId.{ActId}
use Rattle.tp_machine.specs.declared.parts.Action.{Action}
use Rattle.tp_machine.specs.declared.parts.HoldRule.{HoldRule}
use Rattle.tp_machine.specs.declared.machine.Machine.{Machine}
use Rattle.tp_schedule.specs.Answers.{IsAskedFrom, kept_of}
use Rattle.tp_schedule.specs.Holders.{holds_of_act}
use Rattle.tp_schedule.specs.Legality.{IsLegal}
use Rattle.tp_schedule.specs.Plans.{IsTimedPlan}
use Rattle.tp_schedule.specs.PlannerAnswers.{CanAsk, CanPlanOn, IsOpenGoal, HasTimeFrom}
use Rattle.tp_schedule.specs.declared.parts.Ask.{Ask}
use Rattle.tp_schedule.specs.declared.parts.Origin.TheVariants.{Feeder as FromFeeder}
use Rattle.tp_schedule.specs.declared.parts.Plan.{Plan}
use Rattle.tp_constraints.specs.Suffixes.{Suffix, with_action}
use Rattle.tp_placing.specs.Calls.{CanGoOn, CanPlace}
use Rattle.tp_placing.specs.LoadedBoard.{own_points}

legal-none : (machine : Machine) → IsLegal machine []
legal-none machine = record {
  in_order = λ i j d h k. absurd (omega arith);
  timed = All-nil (IsTimedPlan machine);
  single = λ resource tick. omega arith;
  spread = λ resource tick other m n h. absurd (omega (arith, h.planned.1));
  rise = λ i j d h k. absurd (omega arith);
}

pub plan_on-none : (machine : Machine) → CanPlanOn machine 0 []
plan_on-none machine = record {
  now_at_most = omega arith;
  legal = legal-none machine;
  floors = λ p c. absurd (let h = c.1 in omega arith);
  horizon = λ p c. absurd (let h = c.1 in omega arith);
}

pub can_ask : (machine : Machine) (ask : Ask) → ask.now ≡ 0 → ask.origin ≡ FromFeeder → IsOpenGoal machine [] ask ask.goal → CanAsk machine [] ask
can_ask machine ask now origin goal = record {
  plan_on = subst (λ n. CanPlanOn machine n []) (sym now) (plan_on-none machine);
  few_live = omega arith;
  named = λ p q c. absurd (let h = c.1 in omega arith);
  asked = subst (λ o. IsAskedFrom machine [] ask o) (sym origin) refl;
  has_time = subst (λ o. HasTimeFrom [] ask.now o) (sym origin) (omega arith);
  open_goal = goal;
}

pub can_go_on : (ask : Option Ask) (suffix : Option Suffix) → IsSomeAnd ask (λ ask. kept_of ask ≡ 0) → IsSomeAnd suffix (λ x. IsFalse x.stopped) → own_points suffix < 60
    → IsSomeAnd ask (λ ask. IsSomeAnd suffix (CanGoOn ask))
can_go_on None suffix new going few = absurd new
can_go_on (Some ask) None new going few = absurd going
can_go_on (Some ask) (Some x) new going few = record { going = going; fewer = omega arith }

-- the first hold of an action that was opened may come first in its resource's order
pub can_place : (machine : Machine) (plans : List Plan) (act : ActId) (room : ℕ) (before after : Option Suffix) (a : Action) (rule : HoldRule) → IsSomeAnd before (λ x. after ≡ Some (with_action act room x))
    → slice_get machine.actions act.0 ≡ Some a → slice_get a.holds 0 ≡ Some rule → IsSomeAnd after (λ x. CanPlace machine plans x 0 0)
can_place machine plans act room None after a rule opened at has = absurd opened
can_place machine plans act room (Some x) after a rule opened at has =
    subst (λ (o : Option Suffix). IsSomeAnd o (λ y. CanPlace machine plans y 0 0)) (sym opened) (record {
      choice = record { act = act; places = [] };
      choices = x.choices;
      newest = refl;
      next = refl;
      rule = rule;
      is_rule = ap (λ (o : Option Action). slice_get (holds_of_act o) 0) at ∙ has;
      within = omega arith;
    })
