use Rattle.std.proofs.Common.{length}
use Rattle.tp_farm.proofs.machine_choice.+least_end.Given as goal

abbrev pub decreases-least_end : goal.decreases-least_end
decreases-least_end l = length l.answers.now
