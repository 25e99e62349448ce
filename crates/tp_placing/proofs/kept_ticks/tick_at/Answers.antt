use Rattle.std.proofs.Common.{arith, rules}
use Rattle.tp_placing.proofs.LoadTicks.{firsts-rise, count-few, some-before, in-plan, tick-read}
use Rattle.tp_placing.proofs.kept_ticks.tick_at.Goals as goal

pub count_near-place-requires : goal.count_near-place-requires
count_near-place-requires c = rw c.requires.firsts (firsts-rise c.args.plans.now)

pub overflow_sub-place : goal.overflow_sub-place
overflow_sub-place c =
    let e = c.count_near-place.ensures in
    some-before c.args.plans.now c.args.firsts.now c.requires.formed c.requires.firsts c.args.point.0 c.requires.within c.count_near-place.result e.within e.before e.behind

pub offset_bounds-plans-place : goal.offset_bounds-plans-place
offset_bounds-plans-place c =
    let e = c.count_near-place.ensures in
    let few = count-few c.args.plans.now c.args.firsts.now c.requires.formed c.requires.firsts c.args.point.0 c.requires.within c.count_near-place.result e.within e.before e.behind in
    search rules

pub bounds-plans-place : goal.bounds-plans-place
bounds-plans-place c =
    let e = c.count_near-place.ensures in
    let some = some-before c.args.plans.now c.args.firsts.now c.requires.formed c.requires.firsts c.args.point.0 c.requires.within c.count_near-place.result e.within e.before e.behind in
    let few = count-few c.args.plans.now c.args.firsts.now c.requires.formed c.requires.firsts c.args.point.0 c.requires.within c.count_near-place.result e.within e.before e.behind in
    omega arith

pub get-requires : goal.get-requires
get-requires c =
    let e = c.count_near-place.ensures in
    in-plan c.args.plans.now c.args.firsts.now c.requires.formed c.requires.firsts c.args.point.0 c.requires.within c.count_near-place.result e.within e.before e.behind _ _

pub returns : goal.returns
returns c =
    let e = c.count_near-place.ensures in
    tick-read c.args.plans.now c.args.firsts.now c.requires.formed c.requires.firsts c.args.point.0 c.requires.within c.count_near-place.result e.within e.before e.behind (record { 0 = 0 }) c.index-plans-place.result c.get.result c.get.ensures
