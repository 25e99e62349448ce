-- The text, filled up with zeros, is kept as a name.
use Rattle.tp_base.proofs.NameFacts.{KeepsName-fill}
use Rattle.tp_base.proofs.name.Name.read.Goals as goal

pub invariant_of-result : goal.invariant_of-result
invariant_of-result c = rw c.copy_from_slice.ensures.after (KeepsName-fill c.args.text.now (cc))
