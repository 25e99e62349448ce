-- One number is changed, and no sum passes 64 bits.
use Rattle.std.proofs.Common.{rules, ◌≡◌, ◌∙◌, length, set, ap, arith}
use Rattle.std.proofs.lemmas.Int.{ints, to_z-of_z}
use Rattle.tp_stock.proofs.StockFacts.{set-more}
use Rattle.tp_stock.proofs.refills.Refills.add.Goals as goal

pub returns : goal.returns
returns c =
    let xs = c.args.self.now.0 in
    let at = c.args.loc.0 in
    let small = c.requires.bounded at in
    let all : length xs ≡ 256 = search rules in
    rw (c.from-2.ensures, c.from.ensures) (ap (λ z. set xs at z) (grind (arith, ints, to_z-of_z)) ∙ set-more at c.args.count xs all c.requires.known)
