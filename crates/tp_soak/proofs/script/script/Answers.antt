use Rattle.std.proofs.Common.{refl, arith}
use Rattle.std.specs.Fmt.{digits}
use Rattle.std.proofs.lemmas.List.Elements.{All-nil}
use Rattle.tp_soak.specs.Scripts.{IsScripted}
use Rattle.tp_soak.proofs.script.script.Goals as goal

pub rounds-init : goal.rounds-init
unfolding digits
rounds-init c = record { named = refl; early = omega arith; events_whole = rw c.new-events.ensures.items (All-nil IsScripted); made = rw c.new-events.ensures.items refl }
