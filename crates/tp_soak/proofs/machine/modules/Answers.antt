-- The texts are the modules of two, three or four engines.
use Rattle.std.proofs.Common.{◌∙◌}
use Rattle.std.proofs.lemmas.Result.{IfOk-weaker}
use Rattle.tp_soak.proofs.EngineFacts.{four_modules, three_modules, two_modules}
use Rattle.tp_soak.proofs.machine.modules.Goals as goal

pub returns-then-count-eq2 : goal.returns-then-count-eq2
returns-then-count-eq2 c = IfOk-weaker c.names_in.result _ _ (λ names are. are ∙ two_modules _ c.requires c.if-count-eq2.true) c.names_in.ensures

pub returns-then-count-eq3 : goal.returns-then-count-eq3
returns-then-count-eq3 c = IfOk-weaker c.names_in-then-count-eq3.result _ _ (λ names are. are ∙ three_modules _ c.requires c.if-count-eq3.true) c.names_in-then-count-eq3.ensures

pub returns-else-count-eq3 : goal.returns-else-count-eq3
returns-else-count-eq3 c =
    IfOk-weaker c.names_in-else-count-eq3.result _ _ (λ names are. are ∙ four_modules _ c.requires c.if-count-eq2.false c.if-count-eq3.false) c.names_in-else-count-eq3.ensures
