use Rattle.std.proofs.Common.{arith}
use Rattle.tp_placing.proofs.NameFacts.{CountsTo, is-place, kept-grip, kept-point, kept-spot, shown-rise}
use Rattle.tp_placing.proofs.board.Board.kept_point.Goals as goal

pub count_to-place-requires : goal.count_to-place-requires
count_to-place-requires g c =
    let st = rw (← c.self.view_is) at c.requires.stands in
    shown-rise g.N.Network.reading _ st c.deref.result.now c.deref.ensures.value

pub overflow_sub-place : goal.overflow_sub-place
overflow_sub-place g c =
    let st = rw (← c.self.view_is) at c.requires.stands in
    let below = rw (← c.self.view_is) at c.requires.kept in
    let e = c.count_to-place.ensures in
    let counted : CountsTo c.deref.result.now c.args.point.0 c.count_to-place.result = record { few = e.within; before = e.before; behind = e.behind } in
    (is-place g.N.Network.reading _ st c.args.point.0 below c.deref.result.now c.deref.ensures.value c.count_to-place.result counted).some

pub index-plan-requires : goal.index-plan-requires
index-plan-requires g c =
    let st = rw (← c.self.view_is) at c.requires.stands in
    let below = rw (← c.self.view_is) at c.requires.kept in
    let e = c.count_to-place.ensures in
    let counted : CountsTo c.deref.result.now c.args.point.0 c.count_to-place.result = record { few = e.within; before = e.before; behind = e.behind } in
    let k = is-place g.N.Network.reading _ st c.args.point.0 below c.deref.result.now c.deref.ensures.value c.count_to-place.result counted in
    let p = k.plan in
    let o = c.self.inside.plans.ok.0 in
    omega arith

pub index-requires : goal.index-requires
index-requires g c =
    let st = rw (← c.self.view_is) at c.requires.stands in
    let below = rw (← c.self.view_is) at c.requires.kept in
    let e = c.count_to-place.ensures in
    let counted : CountsTo c.deref.result.now c.args.point.0 c.count_to-place.result = record { few = e.within; before = e.before; behind = e.behind } in
    let k = is-place g.N.Network.reading _ st c.args.point.0 below c.deref.result.now c.deref.ensures.value c.count_to-place.result counted in
    let p = k.first in
    let o = c.self.inside.firsts.ok.0 in
    omega arith

pub overflow_sub-result : goal.overflow_sub-result
overflow_sub-result g c =
    let st = rw (← c.self.view_is) at c.requires.stands in
    let below = rw (← c.self.view_is) at c.requires.kept in
    let e = c.count_to-place.ensures in
    let counted : CountsTo c.deref.result.now c.args.point.0 c.count_to-place.result = record { few = e.within; before = e.before; behind = e.behind } in
    (kept-point g.N.Network.reading _ st c.args.point.0 below c.deref.result.now c.deref.ensures.value c.count_to-place.result counted c.index-plan.result.now c.index.result.now c.index-plan.ensures c.index.ensures).from

pub returns-clause-spot : goal.returns-clause-spot
returns-clause-spot g c =
    let st = rw (← c.self.view_is) at c.requires.stands in
    let below = rw (← c.self.view_is) at c.requires.kept in
    let e = c.count_to-place.ensures in
    let counted : CountsTo c.deref.result.now c.args.point.0 c.count_to-place.result = record { few = e.within; before = e.before; behind = e.behind } in
    let k = kept-point g.N.Network.reading _ st c.args.point.0 below c.deref.result.now c.deref.ensures.value c.count_to-place.result counted c.index-plan.result.now c.index.result.now c.index-plan.ensures c.index.ensures in
    rw (← c.self.view_is) (kept-spot _ c.args.point.0 c.index-plan.result.now c.index.result.now c.sheet_name.result k c.sheet_name.ensures)

pub returns-clause-grip : goal.returns-clause-grip
returns-clause-grip g c =
    let st = rw (← c.self.view_is) at c.requires.stands in
    let below = rw (← c.self.view_is) at c.requires.kept in
    let e = c.count_to-place.ensures in
    let counted : CountsTo c.deref.result.now c.args.point.0 c.count_to-place.result = record { few = e.within; before = e.before; behind = e.behind } in
    let k = kept-point g.N.Network.reading _ st c.args.point.0 below c.deref.result.now c.deref.ensures.value c.count_to-place.result counted c.index-plan.result.now c.index.result.now c.index-plan.ensures c.index.ensures in
    rw (← c.self.view_is) (kept-grip _ c.args.point.0 c.index-plan.result.now c.index.result.now c.sheet_name.result k c.sheet_name.ensures)

pub returns-clause-few : goal.returns-clause-few
returns-clause-few g c =
    let st = rw (← c.self.view_is) at c.requires.stands in
    let below = rw (← c.self.view_is) at c.requires.kept in
    let e = c.count_to-place.ensures in
    let counted : CountsTo c.deref.result.now c.args.point.0 c.count_to-place.result = record { few = e.within; before = e.before; behind = e.behind } in
    (kept-point g.N.Network.reading _ st c.args.point.0 below c.deref.result.now c.deref.ensures.value c.count_to-place.result counted c.index-plan.result.now c.index.result.now c.index-plan.ensures c.index.ensures).few
