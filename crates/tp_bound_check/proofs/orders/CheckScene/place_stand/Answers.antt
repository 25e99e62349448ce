-- A node with the places that are due stands there, and any other nowhere.
use Rattle.std.proofs.Common.{sym, ap, ◌∙◌, arith, Some}
use Rattle.tp_bound_laws.specs.Places.{stand_of}
use Rattle.tp_bound_laws.specs.Places.Due.{places}
use Rattle.tp_bound_check.specs.Looks.{at_depth}
use Rattle.tp_bound_check.proofs.PlaceStands.{stands-elsewhere, stands-here, stands-not}
use Rattle.tp_bound_check.proofs.orders.CheckScene.place_stand.Goals as goal

pub returns-then-from-clause-stand : goal.returns-then-from-clause-stand
returns-then-from-clause-stand c =
    let s = c.args.self.now in
    let m = s.rows.machine.now in
    let test = c.if-from.true in
    let is = c.depth.ensures in
    sym
    (ap (λ head. at_depth c.args.depth (stand_of m s.plans.now s.rows.ask.now s.rows.rows.now (places c.args.branch.now c.args.rule c.args.lo) head)) c.in-At.is
    ∙ stands-elsewhere m s.plans.now s.rows.ask.now s.rows.rows.now c.args.branch.now c.args.rule c.in-At.from c.in-At.to c.args.depth c.in-At.resource c.args.lo (λ same. omega (arith, test, is, same)))

pub returns-then-not-are_places-clause-stand : goal.returns-then-not-are_places-clause-stand
returns-then-not-are_places-clause-stand c =
    let s = c.args.self.now in
    let m = s.rows.machine.now in
    sym
    (ap (λ head. at_depth c.args.depth (stand_of m s.plans.now s.rows.ask.now s.rows.rows.now (places c.args.branch.now c.args.rule c.args.lo) head)) c.in-At.is
    ∙ stands-not m s.plans.now s.rows.ask.now s.rows.rows.now c.args.branch.now c.args.rule c.in-At.from c.in-At.to c.args.depth c.in-At.resource c.args.lo (sym c.are_places.ensures ∙ c.if-not-are_places.true))

pub returns-clause-stand : goal.returns-clause-stand
returns-clause-stand c =
    let s = c.args.self.now in
    let m = s.rows.machine.now in
    let test = c.if-from.false in
    let is = c.depth.ensures in
    ap Some (c.stand_at.ensures.stand m s.plans.now s.rows.ask.now s.rows.rows.now)
    ∙ sym
    (ap (λ head. at_depth c.args.depth (stand_of m s.plans.now s.rows.ask.now s.rows.rows.now (places c.args.branch.now c.args.rule c.args.lo) head)) c.in-At.is
    ∙ stands-here m s.plans.now s.rows.ask.now s.rows.rows.now c.args.branch.now c.args.rule c.in-At.from c.in-At.to c.args.depth c.in-At.resource c.args.lo (omega (arith, test, is)) (sym c.are_places.ensures ∙ c.if-not-are_places.false))
