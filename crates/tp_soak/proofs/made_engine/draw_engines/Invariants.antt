use Rattle.std.proofs.Common.{◌≡◌, fold, length}
use Rattle.tp_soak.specs.Engines.{draw_engines, with_engine}
use Rattle.tp_soak.proofs.made_engine.draw_engines.Given as goal

-- the engines that are still to be drawn complete those of the case
abbrev pub invariant-engines : goal.invariant-engines
invariant-engines l = fold with_engine (record { state = l.draws.state; engines = l.engines.items }) l.rest ≡ draw_engines l.fn.draws.state

abbrev pub decreases-engines : goal.decreases-engines
decreases-engines l = length l.rest
