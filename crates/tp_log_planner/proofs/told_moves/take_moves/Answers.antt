-- The plans are gone through one by one, each with the item that moves it, if one does.
use Rattle.std.proofs.Common.{◌≡◌, ℕ, ℤ, Some, ◌+◌, ◌-◌, List, drop, length, take, arith, ap, subst, sym}
use Rattle.std.specs.Prelude.{IsSomeAnd}
use Rattle.std.proofs.lemmas.List.{length-drop}
use Rattle.tp_schedule.specs.Timetables.{Timetable}
use Rattle.tp_schedule.specs.declared.parts.Plan.{Plan}
use Rattle.tp_schedule.specs.Plans.{with_points}
use Rattle.tp_log_planner.specs.Breaches.{HasOffMove, IsOffMove}
use Rattle.tp_log_planner.specs.ToldMoves.{points_for}
use Rattle.tp_log_planner.specs.Reasons.{IsBreach}
use Rattle.tp_constraints.proofs.Lists.{contains-get}
use Rattle.tp_log_planner.proofs.ReasonFacts.{off-by}
use Rattle.tp_log_planner.proofs.MoveSteps.{MovedSoFar, for-some, found-there, moves-next, no-moves, none-next, none-yet, rest-is, takes-moves}
use Rattle.tp_log_planner.proofs.told_moves.take_moves.Goals as goal
use Rattle.tp_log_planner.proofs.told_moves.take_moves.Goals.{in-Some+in-Ok-None, in-None}

pub plans-init : goal.plans-init
plans-init c = none-yet c.args.machine.now c.args.moving.now.moment c.args.moving.now.asked c.args.before.now.plans c.args.items.now c.args.after.now.plans c.requires

pub find_in_move-requires-clause-long : goal.find_in_move-requires-clause-long
find_in_move-requires-clause-long c =
    (for-some c.args.machine.now c.args.moving.now.moment c.args.moving.now.asked c.args.before.now.plans c.args.items.now c.plan_at-plan.result.now (drop c.plans.taken c.args.items.now)
    (take (length c.args.items.now - c.plans.taken) (drop c.plans.taken c.args.items.now)) (rest-is c.args.items.now c.plans.taken) c.in-Some.points (sym c.in-Some.ensures)).1.long

pub returns-in-Ok-Some-clause-refused : goal.returns-in-Ok-Some-clause-refused
returns-in-Ok-Some-clause-refused c = λ told. (
    let some = for-some c.args.machine.now c.args.moving.now.moment c.args.moving.now.asked c.args.before.now.plans c.args.items.now c.plan_at-plan.result.now (drop c.plans.taken c.args.items.now)
    (take (length c.args.items.now - c.plans.taken) (drop c.plans.taken c.args.items.now)) (rest-is c.args.items.now c.plans.taken) c.in-Some.points (sym c.in-Some.ensures) in
    no-moves c.args.machine.now c.args.moving.now.moment c.args.moving.now.asked c.args.before.now.plans c.args.items.now c.plans.after.plans c.plans.at c.plans.taken c.plans.invariant
    c.plan_at-plan.result.now c.plan_at-plan.ensures.plan some.0 c.in-Some.points some.1 c.ordered.ensures.ordered.in_order
    (rw c.in-Ok-Some.field-0-is at c.in-Ok-Some.ensures.breaks) told.0 told.1.0 told.1.1.0 told.1.1.1)

pub returns-in-Ok-Some-clause-why : goal.returns-in-Ok-Some-clause-why
returns-in-Ok-Some-clause-why c =
    let m = c.args.machine.now in
    let now = c.args.moving.now.moment in
    let asked = c.args.moving.now.asked in
    let before = c.args.before.now.plans in
    let items = c.args.items.now in
    let p = c.plan_at-plan.result.now in
    let points = c.in-Some.points in
    let left = length items - c.plans.taken in
    let P : ℤ → ℤ → Type 0 = HasOffMove m now asked before items left in
    subst (IsBreach ⊥ P) (sym c.reason_of.ensures) (off-by ⊥ ⊥ (IsOffMove m now p (with_points points p)) P (λ none. none) (λ a b off. record {
      plan = p;
      planned = contains-get before c.plans.at p c.plan_at-plan.ensures.plan;
      place = c.plans.taken;
      points = points;
      told = subst (λ xs. points_for asked p xs ≡ Some points) (rest-is items c.plans.taken) (sym c.in-Some.ensures);
      from = sym (length-drop c.plans.taken items);
      off = off;
    }) c.in-Ok-Some.wrong (rw c.in-Ok-Some.field-0-is at c.in-Ok-Some.ensures.why))

pub set_points-requires : goal.set_points-requires
set_points-requires c =
    let p = c.plan_at-plan.result.now in
    let some = for-some c.args.machine.now c.args.moving.now.moment c.args.moving.now.asked c.args.before.now.plans c.args.items.now p (drop c.plans.taken c.args.items.now)
    (take (length c.args.items.now - c.plans.taken) (drop c.plans.taken c.args.items.now)) (rest-is c.args.items.now c.plans.taken) c.in-Some.points (sym c.in-Some.ensures) in
    let found = found-there c.args.machine.now c.args.moving.now.moment c.args.moving.now.asked c.args.before.now.plans c.args.items.now c.plans.after.plans c.plans.at c.plans.taken c.plans.invariant
    p c.plan_at-plan.ensures.plan c.ordered-in-Some.ensures.ordered.in_order in
    record { planned = subst (λ o. IsSomeAnd o (λ (q : Plan). length c.in-Some.points ≡ length q.points)) (sym found) some.1.long }

pub plans-preserved : goal.plans-preserved
plans-preserved c =
    let m = c.args.machine.now in
    let now = c.args.moving.now.moment in
    let asked = c.args.moving.now.asked in
    let before = c.args.before.now.plans in
    let items = c.args.items.now in
    let p = c.plan_at-plan.result.now in
    let taken = c.plans.taken in
    let rest = take (length items - taken) (drop taken items) in
    let So : List Plan → ℕ → Type 0 = λ after n. MovedSoFar m now asked before after items (c.plans.at + 1) n in
    elim c.match-points_for.branch [
      | in-Some+in-Ok-None w ↦ (
          let some = for-some m now asked before items p (drop taken items) rest (rest-is items taken) w.in-Some.points (sym w.in-Some.ensures) in
          let takes = subst (λ xs. points_for asked p xs ≡ Some w.in-Some.points) (rest-is items taken) (sym w.in-Some.ensures) in
          let step = moves-next m now asked before items c.plans.after.plans c.plans.at taken c.plans.invariant p c.plan_at-plan.ensures.plan some.0 w.in-Some.points some.1 c.ordered.ensures.ordered.in_order
          takes w.set_points.new.self.plans w.ordered-in-Some.ensures.ordered.in_order w.set_points.ensures.plans in
          subst (So c.match-points_for.after.plans) (sym w.taken-is) (subst (λ after. So after (taken + 1)) (sym (ap (λ (t : Timetable). t.plans) w.after-is)) step))
      | in-None w ↦ (
          let step = none-next m now asked before items c.plans.after.plans c.plans.at taken c.plans.invariant p c.plan_at-plan.ensures.plan c.plan_at-plan.ensures.formed rest (rest-is items taken) (sym w.in-None.ensures) in
          subst (So c.match-points_for.after.plans) (sym w.taken-is) (subst (λ after. So after taken) (sym (ap (λ (t : Timetable). t.plans) w.after-is)) step))
    ]

pub returns-clause-moved : goal.returns-clause-moved
returns-clause-moved c =
    takes-moves c.args.machine.now c.args.moving.now.moment c.args.moving.now.asked c.args.before.now.plans c.args.items.now c.plans.after.plans c.plans.at c.plans.taken c.plans.invariant
    (omega (arith, c.plans-test.false, c.len-at-end.ensures.len))
