-- Where the planner stops, and why.
use Rattle.std.specs.Prelude.{◌≡◌, ℕ, ◌-◌, List, length, Some}
use Rattle.tp_machine.specs.declared.machine.Machine.{Machine}
use Rattle.tp_schedule.specs.PlannerAnswers.{Due}
use Rattle.tp_schedule.specs.Plans.{AreNamed}
use Rattle.tp_schedule.specs.declared.parts.Plan.{Plan}
use Rattle.tp_log_planner.specs.Reasons.{IsReason}
use Rattle.tp_log_planner.specs.declared.failure.Reason.{Reason}
use Rattle.tp_log_planner.specs.ToldAnswers.{TellsDue, ToldValue, ahead, behind_asides}

-- where it stops the items to come don't tell what is due, for the reason that is kept, and none are taken
pub record StopsAt (p : ToldValue) (machine : Machine) (plans : List Plan) (due : Due) (p' : ToldValue) : Type 0 where
  pub denied : AreNamed plans → TellsDue machine plans (ahead p) due → ⊥
  pub left : ℕ
  pub reason : Reason
  pub kept : p'.stop ≡ Some (record { item = length p.items - left; reason = reason })
  pub why : IsReason machine plans (behind_asides (ahead p)) due left reason
  pub same : p' ≡ record p { stops = p'.stops; stop = p'.stop }
