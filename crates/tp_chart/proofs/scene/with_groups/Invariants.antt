use Rattle.std.proofs.Common.{◌≡◌, fold, take}
use Rattle.tp_chart.specs.Scenes.{more}
use Rattle.tp_chart.proofs.scene.with_groups.Given as goal

abbrev pub invariant-loop-group : goal.invariant-loop-group
invariant-loop-group l = l.waiting ≡ fold (λ n g. more n g.count) l.fn.waiting (take l.group-index l.groups)
