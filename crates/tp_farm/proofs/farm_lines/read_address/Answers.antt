-- A line that begins with at, or any other.
use Rattle.std.proofs.Common.{refl, ◌∙◌}
use Rattle.std.proofs.lemmas.Result.{IfOk-weaker}
use Rattle.tp_farm.proofs.AddressFacts.{line-plain}
use Rattle.tp_farm.proofs.farm_lines.read_address.Goals as goal

pub returns-in-None-clause-address : goal.returns-in-None-clause-address
returns-in-None-clause-address c =
    IfOk-weaker c.read_other.result _ _ (λ a is. is ∙ line-plain c.args.count c.args.line.now (c.in-None.ensures.none refl)) c.read_other.ensures.address
