-- Room to work out a solution.
use Rattle.std.specs.Prelude.{ℕ, ◌≤◌, vec_capacity}
use Rattle.tp_stn_core.specs.declared.solver.SolveSpace.{SolveSpace}

pub record HasWorkingCapacity (points : ℕ) (w : SolveSpace) : Type 0 where
  pub times : points ≤ vec_capacity w.times
  pub causes : points ≤ vec_capacity w.causes
  pub path : points ≤ vec_capacity w.path
  pub places : points ≤ vec_capacity w.places
