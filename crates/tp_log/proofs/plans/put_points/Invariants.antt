use Rattle.std.proofs.Common.{◌≡◌, ◌++◌, ◌∷◌, map, take, decimal}
use Rattle.std.specs.List.{flat_map}
use Rattle.tp_log.proofs.plans.put_points.Given as goal

abbrev pub invariant-loop-point : goal.invariant-loop-point
invariant-loop-point l = l.out.items ≡ l.fn.out.items ++ flat_map (λ word. 32 ∷ word) (map decimal (take l.point-index l.points))
