use Rattle.std.proofs.Common.{ap, ◌∙◌}
use Rattle.tp_why.specs.Sentences.{text_number}
use Rattle.tp_machine_text.proofs.Found.{keys_named}
use Rattle.tp_why.proofs.sentence.key_number.Goals as goal

pub keys-init : goal.keys-init
keys-init c =
    let start = c.into_iter-key-iterator.ensures.into_iter_gives ∙ c.keys-keys.ensures.rest in
    ap (text_number c.args.number) (keys_named c.args.table.now.entries _ start)
