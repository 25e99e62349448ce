use Rattle.std.proofs.Common.{◌≡◌, ℕ, ◌<◌, slice_get, Some, IsTrue}
use Rattle.tp_machine.specs.declared.parts.ActId.{ActId}
use Rattle.tp_schedule.specs.Routes.{is_act_allowed}
use Rattle.tp_schedule_check.proofs.asked.are_allowed.Given as goal

abbrev pub invariant-acts : goal.invariant-acts
invariant-acts l = (k : ℕ) (act : ActId) → k < l.at → slice_get l.acts k ≡ Some act → IsTrue (is_act_allowed l.machine l.outs act)
