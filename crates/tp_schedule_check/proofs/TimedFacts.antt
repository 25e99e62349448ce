-- What is decided of a plan makes it a timed plan, and each timed plan has it.
use Rattle.std.proofs.Common.{◌≡◌, ℕ, ◌+◌, ◌<◌, ◌≤◌, length, refl, arith, Option, Some, None, IsSomeAnd, Any}
use Rattle.tp_machine.specs.ModuleUse.{action_at}
use Rattle.tp_machine.specs.declared.machine.Machine.{Machine}
use Rattle.tp_machine.specs.declared.parts.ActId.{ActId}
use Rattle.tp_machine.specs.declared.parts.Action.{Action}
use Rattle.tp_machine.specs.declared.parts.State.{State}
use Rattle.tp_machine.proofs.MachineFacts.{is_machine}
use Rattle.tp_schedule.specs.Plans.{EndsIn, IsFormed, IsTimedPlan, LastsWithin, point}
use Rattle.tp_schedule.specs.Routes.{fresh, walk}
use Rattle.tp_schedule.specs.declared.parts.Plan.{Plan}
use Rattle.tp_constraints.proofs.Lists.{get-there}
use Rattle.tp_schedule_check.specs.Timed.{DoLast, LeadsFrom}

-- each action takes at least one tick
pub lasting-rises : (machine : Machine) (act : ActId) (start end : ℕ) → LastsWithin machine act start end → start < end
lasting-rises machine act start end lasts = go (action_at machine act.0) refl lasts where
  go : (o : Option Action) → action_at machine act.0 ≡ o → IsSomeAnd o (λ a. (start + a.least ≤ end) × (end ≤ start + a.most)) → start < end
  go None e l = absurd l
  go (Some a) e l = let least = (is_machine machine).lasts act.0 a e in let first = l.0 in omega arith

pub timed-from : (machine : Machine) (p : Plan) → IsFormed p → length p.acts ≤ 64 → Any (LeadsFrom machine p) machine.feeders → DoLast machine p.acts p.points → IsTimedPlan machine p
timed-from machine p formed few (k, f, within, at, led) lasts = go (walk machine p.want p.acts (fresh f.loc)) refl led.arrives where
  go : (o : Option State) → walk machine p.want p.acts (fresh f.loc) ≡ o → IsSomeAnd o (EndsIn machine p p.kind) → IsTimedPlan machine p
  go None e l = absurd l
  go (Some end) e l = record {
    some = formed.some;
    at_most = few;
    one_more = formed.one_more;
    released = formed.released;
    start = fresh f.loc;
    starts = (k, f, within, at, (led.media, refl));
    end = end;
    leads = e;
    rise = λ i below. (let there = get-there p.acts i below in lasting-rises machine there.0 (point p i) (point p (i + 1)) (lasts i there.0 there.1));
    lasts = lasts;
    ends = l;
  }

pub timed-formed : (machine : Machine) (p : Plan) → IsTimedPlan machine p → IsFormed p
timed-formed machine p timed = record { some = timed.some; one_more = timed.one_more; released = timed.released }
