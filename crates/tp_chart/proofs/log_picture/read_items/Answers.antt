-- The lines of a text that is not too long are not too long.
use Rattle.std.proofs.Common.{arith}
use Rattle.tp_words.proofs.Texts.{short_lines}
use Rattle.tp_chart.proofs.log_picture.read_items.Goals as goal

pub read_log-requires : goal.read_log-requires
read_log-requires g c = rw c.deref.ensures.value (short_lines c.in-Ok.log.items (omega (arith, c.in-Ok.ensures.fits)))
