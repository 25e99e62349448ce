-- What is composed of the text of the name.
use Rattle.std.proofs.Common.{subst}
use Rattle.tp_compose.specs.Texts.{IsComposed, IsSoundRack}
use Rattle.tp_program.proofs.TextFacts.{no_rack}
use Rattle.tp_program.proofs.compose_mode.composed.Goals as goal

pub returns-in-Err-clause-none : goal.returns-in-Err-clause-none
returns-in-Err-clause-none g c = no_rack _ _ _ c.in-Err.ensures.none

pub returns-in-Ok-compose-clause-composed : goal.returns-in-Ok-compose-clause-composed
returns-in-Ok-compose-clause-composed g c = record {
  text = c.in-Ok.text.items;
  is_known = c.in-Ok.ensures.known;
  fits = c.in-Ok.ensures.fits;
  has = (
    subst IsSoundRack c.deref.ensures.value c.in-Ok-compose.ensures.sound,
    subst (λ text. IsComposed text c.in-Ok-compose.bytes.items) c.deref.ensures.value c.in-Ok-compose.ensures.ok,
  );
}
