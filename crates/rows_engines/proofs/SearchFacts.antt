-- What a search leaves of a schedule that can be planned on.
use Rattle.std.proofs.Common.{◌≡◌, ℕ, List, sym, subst}
use Rattle.tp_machine.specs.declared.machine.Machine.{Machine}
use Rattle.tp_schedule.specs.PlannerAnswers.{CanPlanOn, IsAnswer}
use Rattle.tp_schedule.specs.declared.parts.Ask.{Ask}
use Rattle.tp_schedule.specs.declared.parts.Origin.TheVariants.{Feeder as FromFeeder}
use Rattle.tp_schedule.specs.declared.parts.Plan.{Plan}
use Rattle.tp_schedule.specs.declared.parts.Reply.{Reply}
use Rattle.tp_schedule.specs.declared.parts.Reply.TheVariants.{Planned, Never, Spent}
use Rattle.rows_engines.proofs.LaidWays.{plan_on-after}

-- a schedule on which a new copy was answered can be planned on
pub plan_on-answered : (spent : Machine → List Plan → Ask → ℕ → Type 0) (machine : Machine) (ask : Ask) (plans plans' : List Plan) (reply : Reply) → ask.origin ≡ FromFeeder
    → CanPlanOn machine ask.now plans → IsAnswer spent machine plans ask reply plans' → CanPlanOn machine ask.now plans'
plan_on-answered spent machine ask plans plans' Planned new plan_on answered = plan_on-after machine ask plans plans' new plan_on.now_at_most answered.0.alternative
plan_on-answered spent machine ask plans plans' Never new plan_on answered = subst (CanPlanOn machine ask.now) (sym answered.0) plan_on
plan_on-answered spent machine ask plans plans' (Spent bound) new plan_on answered = subst (CanPlanOn machine ask.now) (sym answered.0) plan_on
