use Rattle.std.proofs.Common.{arith, refl}
use Rattle.tp_stream.proofs.TakesFacts.{open_too_long}
use Rattle.tp_stream.proofs.pieces.add_open.Goals as goal

pub returns-then-piece-limits-clause-stops : goal.returns-then-piece-limits-clause-stops
returns-then-piece-limits-clause-stops c =
    (open_too_long c.args.limits.bytes c.args.line.now.items c.args.piece.now c.requires.open c.requires.piece (omega (arith, c.if-piece-limits.true, c.len.ensures)), refl)
