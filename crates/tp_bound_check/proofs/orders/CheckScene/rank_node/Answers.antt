use Rattle.std.proofs.Common.{◌≡◌, ◌==◌, leb, sym, subst, Some}
use Rattle.tp_bounds.specs.declared.tree.Head.{Head}
use Rattle.std.specs.List.{slice_get}
use Rattle.tp_bound_laws.specs.Places.{is_name_of_resource, order_length, stand_of}
use Rattle.tp_bound_laws.specs.Places.Due.{places}
use Rattle.tp_bound_check.specs.Ranks.{AreRanked, IsSoundStand}
use Rattle.tp_bound_check.proofs.PlacedFacts.{in-order, more-places, one-place}
use Rattle.tp_bound_check.proofs.WayFacts.{ranked-kept}
use Rattle.tp_bound_check.proofs.orders.CheckScene.rank_node.Goals as goal

pub returns-then-lo-hi-clause-sound : goal.returns-then-lo-hi-clause-sound
returns-then-lo-hi-clause-sound c = λ lo st e.
    let s = c.args.self.now in let m = s.rows.machine.now in let b = c.args.branch.now in let ranks = c.rank_place.new.ranks in
    let H : Head → Type 0 = λ h. stand_of m s.plans.now s.rows.ask.now s.rows.rows.now (places b c.args.rule lo) h ≡ Some st in
    let is = in-order m s.plans.now (is_name_of_resource m s.plans.now s.rows.ask.now s.rows.rows.now c.in-At.resource (slice_get m.resources c.args.rule.resource.0)) (c.in-At.lo == lo) (leb c.in-At.hi (order_length m s.plans.now s.rows.ask.now s.rows.rows.now b c.args.rule)) c.in-At.lo c.in-At.hi _ st (subst H c.in-At.is e) in
    subst (λ x. IsSoundStand m s.plans.now x ranks) is.1 (one-place m s.plans.now s.rows.ask.now s.rows.rows.now b c.args.rule c.in-At.lo c.in-At.hi ranks c.if-lo-hi.true c.rank_place.ensures.ranked)

pub returns-then-lo-hi-clause-ranked : goal.returns-then-lo-hi-clause-ranked
returns-then-lo-hi-clause-ranked c =
    let s = c.args.self.now in
    ranked-kept s.rows.machine.now s.plans.now c.args.branch.now c.args.ranks.now.before c.rank_place.new.ranks.before c.requires.ranked c.rank_place.ensures.stay

pub returns-else-lo-hi-clause-sound : goal.returns-else-lo-hi-clause-sound
returns-else-lo-hi-clause-sound c = λ lo st e.
    let s = c.args.self.now in let m = s.rows.machine.now in let b = c.args.branch.now in let ranks = c.rank_span.new.ranks in
    let H : Head → Type 0 = λ h. stand_of m s.plans.now s.rows.ask.now s.rows.rows.now (places b c.args.rule lo) h ≡ Some st in
    let is = in-order m s.plans.now (is_name_of_resource m s.plans.now s.rows.ask.now s.rows.rows.now c.in-At.resource (slice_get m.resources c.args.rule.resource.0)) (c.in-At.lo == lo) (leb c.in-At.hi (order_length m s.plans.now s.rows.ask.now s.rows.rows.now b c.args.rule)) c.in-At.lo c.in-At.hi _ st (subst H c.in-At.is e) in
    let ranked = subst (AreRanked m s.plans.now b) (sym c.rank_span.ensures.before) c.requires.ranked in
    subst (λ x. IsSoundStand m s.plans.now x ranks) is.1
    (more-places m s.plans.now s.rows.ask.now s.rows.rows.now b c.args.rule c.in-At.lo c.in-At.hi ranks c.if-lo-hi.false is.0 c.requires.next ranked c.rank_span.ensures.spanned)
