use Rattle.std.proofs.Common.{◌≡◌, length}
use Rattle.tp_chart.specs.Scenes.{sight_from}
use Rattle.tp_chart.proofs.scene.scene_of.Given as goal

abbrev pub decreases-items : goal.decreases-items
decreases-items l = length l.rest

abbrev pub invariant-items : goal.invariant-items
invariant-items l = sight_from l.machine l.until l.scene l.rest ≡ sight_from l.machine l.until l.fn.start l.items
