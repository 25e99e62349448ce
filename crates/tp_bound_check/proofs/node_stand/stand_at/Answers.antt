-- A stand at one place.
use Rattle.std.proofs.Common.{arith}
use Rattle.tp_bound_check.proofs.PlaceStands.{grows-place, is-bare, shallow-place, stands-alone}
use Rattle.tp_bound_check.proofs.node_stand.stand_at.Goals as goal

pub returns-then-from-to-clause-stand : goal.returns-then-from-to-clause-stand
returns-then-from-to-clause-stand c machine plans ask rows =
    let b = c.args.branch.now in
    let test = c.if-from-to.true in
    let deep = c.requires.depth in
    stands-alone machine plans ask rows b c.args.rule c.args.from c.args.to c.args.depth c.alone.result (is-bare b c.place.result c.alone.result c.args.from c.args.depth c.alone.ensures c.place.ensures) (omega (arith, test)) (omega (arith, deep))

pub returns-then-from-to-clause-shallow : goal.returns-then-from-to-clause-shallow
returns-then-from-to-clause-shallow c =
    let b = c.args.branch.now in
    let deep = c.requires.depth in
    shallow-place b c.alone.result c.args.from c.args.depth (is-bare b c.place.result c.alone.result c.args.from c.args.depth c.alone.ensures c.place.ensures) (omega (arith, deep)) c.requires.some c.requires.few

pub returns-then-from-to-clause-grows : goal.returns-then-from-to-clause-grows
returns-then-from-to-clause-grows c =
    let b = c.args.branch.now in
    grows-place b c.alone.result c.args.from c.args.depth (is-bare b c.place.result c.alone.result c.args.from c.args.depth c.alone.ensures c.place.ensures)
