use Rattle.std.proofs.Common.{◌≡◌, ◌++◌, take, flat_map}
use Rattle.tp_placing.specs.Commits.{opened_by}
use Rattle.tp_placing.proofs.asked.add_opened.Given as goal

abbrev pub invariant-loop-step : goal.invariant-loop-step
invariant-loop-step l = l.acts ≡ take l.most (l.fn.acts ++ flat_map (λ s. opened_by s.now.change) l.yielded)
