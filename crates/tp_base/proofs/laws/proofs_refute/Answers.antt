use Rattle.tp_base.proofs.RefuteFacts.{chain_refutes, circle_refutes}
use Rattle.tp_base.proofs.laws.proofs_refute.Goals as goal

pub returns : goal.returns
returns c = record { chain = chain_refutes; circle = circle_refutes }
