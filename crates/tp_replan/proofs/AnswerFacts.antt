-- An answer leaves plans in time.
use Rattle.std.proofs.Common.{ℕ, List, All, sym, subst}
use Rattle.tp_machine.specs.declared.machine.Machine.{Machine}
use Rattle.tp_schedule.specs.PlannerAnswers.{IsAnswer}
use Rattle.tp_schedule.specs.Plans.{IsTimedPlan}
use Rattle.tp_schedule.specs.declared.parts.Ask.{Ask}
use Rattle.tp_schedule.specs.declared.parts.Plan.{Plan}
use Rattle.tp_schedule.specs.declared.parts.Reply.{Reply}
use Rattle.tp_schedule.specs.declared.parts.Reply.TheVariants.{Planned, Never, Spent}

pub timed-after : (spent : Machine → List Plan → Ask → ℕ → Type 0) (machine : Machine) (plans : List Plan) (ask : Ask) (reply : Reply) (plans' : List Plan)
    → IsAnswer spent machine plans ask reply plans' → All (IsTimedPlan machine) plans → All (IsTimedPlan machine) plans'
timed-after spent machine plans ask Planned plans' answer timed = answer.0.alternative.legal.timed
timed-after spent machine plans ask Never plans' answer timed = subst (All (IsTimedPlan machine)) (sym answer.0) timed
timed-after spent machine plans ask (Spent bound) plans' answer timed = subst (All (IsTimedPlan machine)) (sym answer.0) timed
