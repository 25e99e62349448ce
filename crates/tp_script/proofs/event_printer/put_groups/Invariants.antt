use Rattle.std.proofs.Common.{◌≡◌, ◌++◌, ◌∷◌, map, take}
use Rattle.std.specs.List.{flat_map}
use Rattle.tp_script.specs.Script.{group_text}
use Rattle.tp_script.proofs.event_printer.put_groups.Given as goal

abbrev pub invariant-loop-group : goal.invariant-loop-group
invariant-loop-group l = l.out.items ≡ l.fn.out.items ++ flat_map (λ word. 32 ∷ word) (map group_text (take l.group-index l.groups))
