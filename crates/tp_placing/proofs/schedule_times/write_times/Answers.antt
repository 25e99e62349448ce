use Rattle.std.proofs.Common.{◌≡◌, ◌⊎◌, suc, ◌+◌, ◌++◌, ◌∷◌, Bool, true, false, List, [], length, filter, map, take, ap, sym, refl, ◌∙◌, arith, Some, get_or, Contains, inl, inr}
use Rattle.std.specs.Prelude.{slice_get}
use Rattle.std.proofs.lemmas.List.{take_all, take_more}
use Rattle.std.proofs.lemmas.List.Elements.{All-contains}
use Rattle.std.proofs.lemmas.Option.{slice_get_read}
use Rattle.tp_base.proofs.SliceFacts.{All-at}
use Rattle.tp_schedule.specs.Plans.{IsFormed, change_plan, plan_of, with_points}
use Rattle.tp_schedule.specs.Spots.{Ticks}
use Rattle.tp_schedule.specs.Times.{ticks_from, timed_by}
use Rattle.tp_schedule.specs.declared.parts.Plan.{Plan}
use Rattle.tp_schedule.proofs.Membership.{All-from_contains, Contains-filter_from}
use Rattle.tp_constraints.specs.Numbers.{table_of}
use Rattle.tp_placing.specs.Settled.{AreLeastFrom, AreOfSchedule, HasLeastPoints}
use Rattle.tp_placing.specs.Commits.{AreLeastTicks, retimed_in}
use Rattle.tp_placing.proofs.LineFacts.{end-fits}
use Rattle.tp_placing.proofs.SettledFacts.{retimed-still}
use Rattle.tp_placing.proofs.TableFacts.{length-firsts}
use Rattle.tp_placing.proofs.WritePlans.{change-next, not-before, part-more, part-not, part-same, planned-still, retimed-none}
use Rattle.tp_placing.proofs.WriteTimes.{least-from, plan-ticks, ticks-exist}
use Rattle.tp_placing.proofs.schedule_times.write_times.Goals.{After-index-plans-at, then-write_points, else-write_points}
use Rattle.tp_placing.proofs.schedule_times.write_times.Goals as goal

pub loop-at-init : goal.loop-at-init
loop-at-init g c = record { times = λ mine part t a. retimed-none t c.args.schedule.now.plans; unmoved = λ e. refl; spare = refl }

pub bounds-firsts-at : goal.bounds-firsts-at
bounds-firsts-at g c =
    let l = length-firsts 0 c.args.plans.now c.args.firsts.now c.requires.firsts in
    let t = c.loop-at-test.true in
    omega arith

-- the plan at the place
there : (g : _) (c : After-index-plans-at g) → slice_get c.args.plans.now c.loop-at.at ≡ Some c.index-plans-at.result
there g c = slice_get_read c.args.plans.now (length c.args.plans.now) c.loop-at.at c.index-plans-at.result refl c.loop-at-test.true c.index-plans-at.is

inside : (g : _) (c : After-index-plans-at g) → Contains c.args.plans.now c.index-plans-at.result
inside g c = (c.loop-at.at, c.loop-at-test.true, sym c.index-plans-at.is)

-- one that is the schedule's is so still, and one that is not has the least times of its points
still-here : (g : _) (c : After-index-plans-at g) (mine : Plan → Bool) → AreOfSchedule (g.N.Network.reading.net c.args.net.now) c.args.plans.now c.args.schedule.now.plans mine → mine c.index-plans-at.result ≡ true
    → plan_of c.index-plans-at.result.sheet c.loop-at.schedule.plans ≡ Some c.index-plans-at.result
still-here g c mine part is =
    let p = c.index-plans-at.result in
    let before = take c.loop-at.at c.args.plans.now in
    let x = ticks-exist (g.N.Network.reading.net c.args.net.now) c.args.plans.now c.requires.solved c.requires.in_order in
    let not_yet = part-not mine before p.sheet (not-before c.loop-at.at c.args.plans.now p c.requires.in_order (there g c)) in
    ap (plan_of p.sheet) (c.loop-at.invariant.times mine part x.0 x.1) ∙ planned-still (filter mine before) x.0 c.args.schedule.now.plans p.sheet p (part.planned p (inside g c) is) not_yet

least-here : (g : _) (c : After-index-plans-at g) (mine : Plan → Bool) → AreOfSchedule (g.N.Network.reading.net c.args.net.now) c.args.plans.now c.args.schedule.now.plans mine → mine c.index-plans-at.result ≡ false
    → AreLeastFrom (g.N.Network.reading.net c.args.net.now) (get_or c.args.firsts.now c.loop-at.at (record { 0 = 0 })).0 c.index-plans-at.result.points
least-here g c mine part is =
    let p = c.index-plans-at.result in
    let formed = All-at IsFormed c.args.plans.now c.loop-at.at p c.requires.formed (there g c) in
    least-from (g.N.Network.reading.net c.args.net.now) c.args.plans.now c.args.firsts.now c.loop-at.at p (record { 0 = 0 }) c.requires.firsts c.loop-at-test.true c.index-plans-at.is c.requires.in_order (omega (arith, formed.one_more)) (part.settled p (inside g c) is)

pub write_points-requires-clause-planned : goal.write_points-requires-clause-planned
write_points-requires-clause-planned g k = go (mine p) refl where
  c : After-index-plans-at g
  c = (goal.at.write_points-requires-clause-planned g k).After-index-plans-at

  p : Plan
  p = c.index-plans-at.result

  mine : Plan → Bool
  mine = c.requires.planned.0

  go : (b : Bool) → mine p ≡ b → (plan_of p.sheet c.loop-at.schedule.plans ≡ Some p) ⊎ AreLeastFrom (g.N.Network.reading.net c.args.net.now) (get_or c.args.firsts.now c.loop-at.at (record { 0 = 0 })).0 p.points
  go true is = inl (still-here g c mine c.requires.planned.1 is)
  go false is = inr (least-here g c mine c.requires.planned.1 is)

pub write_points-requires-clause-known : goal.write_points-requires-clause-known
write_points-requires-clause-known g c =
    let w = end-fits c.args.plans.now c.args.firsts.now c.loop-at.at c.index-plans-at.result (record { 0 = 0 }) c.requires.firsts c.loop-at-test.true c.index-plans-at.is in
    let k = c.requires.known in
    omega arith

pub write_points-requires-clause-fits : goal.write_points-requires-clause-fits
write_points-requires-clause-fits g c =
    let w = end-fits c.args.plans.now c.args.firsts.now c.loop-at.at c.index-plans-at.result (record { 0 = 0 }) c.requires.firsts c.loop-at-test.true c.index-plans-at.is in
    let k = c.requires.fits in
    omega arith

pub loop-at-preserved : goal.loop-at-preserved
loop-at-preserved g k = record {
  times = λ mine part t a. next mine part t a (mine p) refl;
  unmoved = λ e. elim k.if-write_points.branch [
    | then-write_points w ↦ absurd cc
    | else-write_points w ↦ k.write_points.ensures.unmoved w.if-write_points.false ∙ k.loop-at.invariant.unmoved (sym w.moved-is ∙ e)
  ];
  spare = k.write_points.ensures.spare ∙ k.loop-at.invariant.spare;
} where
  c : After-index-plans-at g
  c = (goal.at.loop-at-preserved g k).After-index-plans-at

  p : Plan
  p = k.index-plans-at.result

  before : List Plan
  before = take k.loop-at.at k.args.plans.now

  more : before ++ p ∷ [] ≡ take (k.loop-at.at + 1) k.args.plans.now
  more = ap (λ q. before ++ q ∷ []) k.index-plans-at.is ∙ sym (take_more k.args.plans.now k.loop-at.at p k.loop-at-test.true)

  next : (mine : Plan → Bool) → AreOfSchedule (g.N.Network.reading.net k.args.net.now) k.args.plans.now k.args.schedule.now.plans mine → (t : Ticks) → AreLeastTicks (g.N.Network.reading.net k.args.net.now) (table_of k.args.plans.now) t → (b : Bool) → mine p ≡ b
      → k.write_points.new.schedule.plans ≡ map (retimed_in (filter mine (take (k.loop-at.at + 1) k.args.plans.now)) t) k.args.schedule.now.plans
  next mine part t a true is =
      let not_yet = part-not mine before p.sheet (not-before k.loop-at.at k.args.plans.now p k.requires.in_order (there g c)) in
      let ticks = plan-ticks (g.N.Network.reading.net k.args.net.now) k.args.plans.now k.args.firsts.now k.loop-at.at p (record { 0 = 0 }) t (suc (length p.acts)) k.requires.firsts k.loop-at-test.true k.index-plans-at.is a (omega arith) in
      let points = ticks_from a.solution (get_or k.args.firsts.now k.loop-at.at (record { 0 = 0 })).0 (suc (length p.acts)) in
      let one = change-next (filter mine before) t points k.args.schedule.now.plans p k.requires.schedule (part.planned p (inside g c) is) not_yet ticks in
      k.write_points.ensures.plans (still-here g c mine part is) a.solution a.least
      ∙ ap (change_plan p.sheet (with_points points)) (k.loop-at.invariant.times mine part t a)
      ∙ one
      ∙ ap (λ live. map (retimed_in live t) k.args.schedule.now.plans) (part-more mine before p is ∙ ap (filter mine) more)
  next mine part t a false is =
      k.write_points.ensures.settled (least-here g c mine part is)
      ∙ k.loop-at.invariant.times mine part t a
      ∙ ap (λ live. map (retimed_in live t) k.args.schedule.now.plans) (part-same mine before p is ∙ ap (filter mine) more)

pub returns-clause-times : goal.returns-clause-times
returns-clause-times g c mine part t a =
    c.loop-at.invariant.times mine part t a ∙ ap (λ live. map (retimed_in (filter mine live) t) c.args.schedule.now.plans) (take_all c.loop-at.at c.args.plans.now c.loop-at-test.false)

pub returns-then-known-clause-times : goal.returns-then-known-clause-times
returns-then-known-clause-times g c mine part t a = retimed-still (filter mine c.args.plans.now) c.args.schedule.now.plans t c.requires.schedule
    (All-from_contains (λ p. plan_of p.sheet c.args.schedule.now.plans ≡ Some p) (filter mine c.args.plans.now) (λ p in'. (let from = Contains-filter_from mine c.args.plans.now p in' in part.planned p from.0 from.1)))
    (All-from_contains (λ p. timed_by t p ≡ p) (filter mine c.args.plans.now) (λ p in'. All-contains (HasLeastPoints (g.N.Network.reading.net c.args.net.now) c.args.plans.now) c.args.plans.now p (c.requires.settled c.if-known.true) (Contains-filter_from mine c.args.plans.now p in').0 t a))
