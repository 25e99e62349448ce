-- The machine of the text of the name.
use Rattle.std.proofs.Common.{subst}
use Rattle.tp_machine_text.specs.Texts.{IsMachineText}
use Rattle.tp_verify.proofs.machine.find_machine.Goals as goal

pub returns-in-Ok-read_machine-clause-found : goal.returns-in-Ok-read_machine-clause-found
returns-in-Ok-read_machine-clause-found g c = record {
  text = c.in-Ok.text.items;
  is_known = c.in-Ok.ensures.bytes;
  fits = c.in-Ok.ensures.fits;
  has = subst (λ text. IsMachineText text c.in-Ok-read_machine.machine) c.deref.ensures.value c.in-Ok-read_machine.ensures.ok;
}
