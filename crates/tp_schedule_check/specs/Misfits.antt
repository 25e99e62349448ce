-- Actions of a plan that don't last within their durations.
use Rattle.std.specs.Prelude.{◌≡◌, ℕ, ◌+◌, ◌⊎◌, pos, ◌-ℤ◌, ◌<ℤ◌, slice_get, Some}
use Rattle.tp_machine.specs.ModuleUse.{action_at}
use Rattle.tp_machine.specs.declared.machine.Machine.{Machine}
use Rattle.tp_machine.specs.declared.parts.ActId.{ActId}
use Rattle.tp_machine.specs.declared.parts.Action.{Action}
use Rattle.tp_schedule.specs.Plans.{LastsWithin, point}
use Rattle.tp_schedule.specs.declared.parts.Plan.{Plan}
use Rattle.tp_schedule_check.specs.declared.misfit.Misfit.{Misfit}

-- an action at this place of the plan that the machine knows lasts within its durations
abbrev pub DoesFit : Machine → Plan → ℕ → Type 0
DoesFit machine p i = (act : ActId) (a : Action) → slice_get p.acts i ≡ Some act → action_at machine act.0 ≡ Some a → LastsWithin machine act (point p i) (point p (i + 1))

-- so does each of them
abbrev pub DoAllFit : Machine → Plan → Type 0
DoAllFit machine p = (i : ℕ) → DoesFit machine p i

-- the action lasts so many ticks, less than its least or more than its most
pub record IsMisfit (machine : Machine) (p : Plan) (m : Misfit) : Type 0 where
  pub place : ℕ
  pub counted : m.act ≡ place + 1
  pub id : ActId
  pub there : slice_get p.acts place ≡ Some id
  pub action : Action
  pub known : action_at machine id.0 ≡ Some action
  pub lasts : m.lasts ≡ pos (point p (place + 1)) -ℤ pos (point p place)
  pub breaks : ((m.limit ≡ action.least) × (m.lasts <ℤ pos m.limit)) ⊎ ((m.limit ≡ action.most) × (pos m.limit <ℤ m.lasts))
