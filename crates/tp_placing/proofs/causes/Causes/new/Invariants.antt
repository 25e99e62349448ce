use Rattle.std.proofs.Common.{◌≡◌, ◌-◌, ◌≤◌, length, Some, vec_capacity}
use Rattle.std.specs.Prelude.{slice_get}
use Rattle.tp_placing.specs.Causes.{back_tag, forward_tag, limit_tag, line_tag, most_causes, step_causes, stop_tag}
use Rattle.tp_placing.specs.declared.causes.EdgeCause.TheVariants.{Forward, Back, Line, Stop, Limit}
use Rattle.tp_placing.proofs.causes.Causes.new.Given as goal

-- the first causes are right, and there is space for all
abbrev pub invariant-slots : goal.invariant-slots
invariant-slots l = record {
  forward : slice_get l.kept.items forward_tag ≡ Some Forward;
  back : slice_get l.kept.items back_tag ≡ Some Back;
  line : slice_get l.kept.items line_tag ≡ Some Line;
  stop : slice_get l.kept.items stop_tag ≡ Some Stop;
  limit : slice_get l.kept.items limit_tag ≡ Some Limit;
  few : length l.kept.items ≤ step_causes;
  space : most_causes ≤ vec_capacity l.kept;
}

abbrev pub decreases-slots : goal.decreases-slots
decreases-slots l = step_causes - length l.kept.items
