-- The insertion is at the copy's place.
use Rattle.std.proofs.Common.{arith, ap, ◌+◌, ◌-◌, ◌<◌, ◌≡◌, min, vec_len, vec_capacity}
use Rattle.tp_schedule.proofs.PutFacts.{insert-put_plan, position-or_length, place-le}
use Rattle.tp_schedule.proofs.ChangeFacts.{IsOrdered-put_plan}
use Rattle.tp_schedule.specs.Plans.{is_before, put_plan}
use Rattle.tp_schedule.proofs.schedule.Schedule.put.Goals as goal

pub insert-requires : goal.insert-requires
insert-requires c = omega (arith, c.place_of-at.ensures, c.as_slice.ensures.len, place-le (λ q. is_before c.args.plan.sheet q.sheet) c.as_slice.result.now)

pub returns-clause-plans : goal.returns-clause-plans
returns-clause-plans c =
    rw (c.in-Ok.ensures.items, c.place_of-at.ensures, position-or_length (λ q. is_before c.args.plan.sheet q.sheet) c.as_slice.result.now, c.as_slice.ensures.value, ← c.self.view_is)
    (insert-put_plan c.args.plan c.self.inside.plans.items)

pub invariant_of-self : goal.invariant_of-self
invariant_of-self c =
    let len : vec_len c.insert.new.self ≡ vec_len c.self.inside.plans + 1 = c.in-Ok.ensures.len in
    let spare : min (vec_capacity c.self.inside.plans) 4294967295 - vec_len c.self.inside.plans ≡ c.args.self.now.spare = ap (λ t. t.spare) c.self.view_is in
    let room : 0 < c.args.self.now.spare = c.requires.room in
    let plans : c.insert.new.self.items ≡ put_plan c.args.plan c.self.inside.plans.items =
    rw (c.in-Ok.ensures.items, c.place_of-at.ensures, position-or_length (λ q. is_before c.args.plan.sheet q.sheet) c.as_slice.result.now, c.as_slice.ensures.value) (insert-put_plan c.args.plan c.self.inside.plans.items) in (
      omega (arith, spare, room, len),
      rw plans (IsOrdered-put_plan c.self.inside.plans.items c.args.plan c.self.invariant.1 c.requires.formed (rw (← c.self.view_is) at c.requires.new_copy)),
    )
