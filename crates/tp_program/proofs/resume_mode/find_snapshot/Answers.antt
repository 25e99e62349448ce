-- What the snapshot of the name tells.
use Rattle.std.proofs.Common.{subst}
use Rattle.tp_snapshot.specs.Rules.{IsSnapshot}
use Rattle.tp_program.proofs.resume_mode.find_snapshot.Goals as goal

pub returns-in-Ok-read_snapshot-clause-found : goal.returns-in-Ok-read_snapshot-clause-found
returns-in-Ok-read_snapshot-clause-found g c = record {
  text = c.in-Ok.text.items;
  is_known = c.in-Ok.ensures.known;
  fits = c.in-Ok.ensures.fits;
  has = subst (λ text. IsSnapshot text c.in-Ok-read_snapshot.opened.machine c.in-Ok-read_snapshot.opened.standing) c.deref.ensures.value c.in-Ok-read_snapshot.ensures.ok;
}
