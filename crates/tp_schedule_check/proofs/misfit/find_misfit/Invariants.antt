use Rattle.std.proofs.Common.{ℕ, ◌<◌}
use Rattle.tp_schedule_check.specs.Misfits.{DoesFit}
use Rattle.tp_schedule_check.proofs.misfit.find_misfit.Given as goal

abbrev pub invariant-acts : goal.invariant-acts
invariant-acts l = (i : ℕ) → i < l.at → DoesFit l.machine l.plan i
