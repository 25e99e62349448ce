use Rattle.std.proofs.Common.{◌≢◌, ◌<◌, false, length, get_or, get_or-set_other, get_or-set_same, length-set, below_more, pos, arith}
use Rattle.std.proofs.lemmas.Int.{ints, to_z-of_z}
use Rattle.std.proofs.lemmas.List.FromFn.{fill_by_all}
use Rattle.tp_stock.specs.Stock.{by_location, left_of, refilled}
use Rattle.tp_stock.proofs.refills.less.Goals as goal
use Rattle.tp_stock.proofs.refills.less.Goals.{then-counted-at, else-counted-at}

pub locations-preserved : goal.locations-preserved
locations-preserved c =
    let inv = c.locations.invariant in
    let at = c.locations.at in
    elim c.if-counted-at.branch [
      | then-counted-at w ↦ rw w.left-is (
        simp length-set inv.0,
        below_more _ _
            (λ k less. let ne : k ≢ at = omega arith in rw get_or-set_other (inv.1 k less))
            (let lt : at < length c.locations.left = omega (arith, inv.0) in rw (get_or-set_same, w.if-counted-at.true) (let small = c.requires.bounded at in grind (arith, ints, to_z-of_z))),
        λ k high. let ne : k ≢ at = omega arith in rw get_or-set_other (inv.2 k (omega arith)),
      )
      | else-counted-at w ↦ rw w.left-is (inv.0, below_more _ _ inv.1 (rw w.if-counted-at.false (inv.2 at (omega arith))), λ k high. inv.2 k (omega arith))
    ]

pub returns : goal.returns
unfolding by_location
returns c = fill_by_all (λ loc. left_of (get_or c.args.counted.now loc false) (refilled c.args.refills.now.0 loc) (get_or c.args.before.now.0 loc 0) (get_or c.args.after.now.0 loc 0)) c.locations.left 256 (pos 0) c.locations.invariant.0
    (λ loc within. c.locations.invariant.1 loc (omega arith))
