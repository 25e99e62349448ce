use Rattle.std.proofs.Common.{◌∙◌, ◌+◌, ◌-◌, ◌*◌, ℕ, List, ap, arith, length}
use Rattle.tp_bound_check.proofs.PlacedFacts.{number-next, ranked-place}
use Rattle.tp_bound_check.proofs.orders.CheckScene.rank_place.Goals as goal

pub returns-clause-ranked : goal.returns-clause-ranked
returns-clause-ranked c = λ depth.
    let s = c.args.self.now in let newest = c.count-newest.result - 1 in
    ranked-place s.rows.machine.now s.plans.now c.args.branch.now depth c.args.place (4 * newest + length c.places.result.now) newest c.args.rule c.args.ranks.now.before c.put.new.self.before c.requires.next
    (ap (λ k. k - 1) c.count-newest.ensures.count) (λ d e. ap (λ (ps : List ℕ). 4 * newest + length ps) (c.places.ensures d e)) c.requires.ranked (c.put.ensures.here ∙ c.rank.ensures) c.put.ensures.others

pub returns-clause-stay : goal.returns-clause-stay
returns-clause-stay c = λ i lt.
    let newest = c.count-newest.result - 1 in
    let e = number-next c.args.self.now.rows.machine.now c.args.self.now.plans.now c.args.branch.now newest (4 * newest + length c.places.result.now) c.rule_law.ensures.some (ap (λ k. k - 1) c.count-newest.ensures.count)
    (λ d e. ap (λ (ps : List ℕ). 4 * newest + length ps) (c.places.ensures d e)) in
    c.put.ensures.others i (λ f. absurd (omega (arith, lt, e, f)))
