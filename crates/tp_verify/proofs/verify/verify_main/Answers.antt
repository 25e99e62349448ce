-- If everything but the log is in order, the check ends in a verdict.
use Rattle.std.proofs.Common.{sym, map, string_bytes}
use Rattle.tp_verify.proofs.VerdictFacts.{in-order}
use Rattle.tp_verify.proofs.verify.verify_main.Goals as goal

pub returns-in-Some-clause-complete : goal.returns-in-Some-clause-complete
returns-in-Some-clause-complete g c = λ shelf source sink.
    in-order g.S.Source.left g.K.Sink.taken (map string_bytes c.args.words.now) c.in-Some.name.now (sym c.in-Some.ensures) _ _ _ _ _ _ c.check.ensures.ends
    (λ is. shelf (c.check.ensures.shelf is)) (λ is. source (c.check.ensures.source is)) (λ is. sink (c.check.ensures.sink is))
