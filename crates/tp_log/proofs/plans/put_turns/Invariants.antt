use Rattle.std.proofs.Common.{◌≡◌, ◌+◌, ◌++◌, ◌∷◌, take}
use Rattle.std.specs.List.{flat_map}
use Rattle.tp_log.specs.Records.{turns_words}
use Rattle.tp_log.proofs.plans.put_turns.Given as goal

abbrev pub invariant-loop-i : goal.invariant-loop-i
invariant-loop-i l = l.out.items ≡ l.fn.out.items ++ flat_map (λ word. 32 ∷ word) (turns_words (take (l.i + 1) l.points) (take l.i l.acts))
