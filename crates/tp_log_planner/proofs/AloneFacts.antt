-- What a plan breaks by itself no right plan does.
use Rattle.std.proofs.Common.{◌+◌, ◌<◌, ◌≤◌, Option, Some, None, inl, inr, arith, subst}
use Rattle.std.specs.Prelude.{IfOk, IfSome, IsSomeAnd, Result, Ok, Err}
use Rattle.std.proofs.lemmas.Int.{ints}
use Rattle.tp_machine.specs.declared.machine.Machine.{Machine}
use Rattle.tp_machine.specs.declared.parts.Action.{Action}
use Rattle.tp_schedule.specs.Plans.{IsTimedPlan, LastsWithin, point}
use Rattle.tp_schedule.specs.declared.parts.Plan.{Plan}
use Rattle.tp_schedule_check.specs.Misfits.{IsMisfit}
use Rattle.tp_schedule_check.specs.declared.misfit.Misfit.{Misfit}

pub any-some : {X : Type 0} (o : Option X) (P : Type 0) → P → IfSome o (λ x. P)
any-some None P holds = tt
any-some (Some x) P holds = holds

pub some-by : {X : Type 0} (o : Option X) (P Q : Type 0) → (P → Q) → IfSome o (λ x. P) → IfSome o (λ x. Q)
some-by None P Q f holds = tt
some-by (Some x) P Q f holds = f holds

pub ok-some-by : {X E : Type 0} (P Q : Type 0) (r : Result (Option X) E) → (P → Q) → IfOk r (λ found. IfSome found (λ x. P)) → IfOk r (λ found. IfSome found (λ x. Q))
ok-some-by P Q (Ok found) f holds = some-by found P Q f holds
ok-some-by P Q (Err e) f holds = tt

pub misfit-breaks : (machine : Machine) (p : Plan) (m : Misfit) → IsMisfit machine p m → IsTimedPlan machine p → ⊥
misfit-breaks machine p m is timed =
    let lasts : LastsWithin machine is.id (point p is.place) (point p (is.place + 1)) = timed.lasts is.place is.id is.there in
    let both = subst (λ o. IsSomeAnd o (λ (a : Action). (point p is.place + a.least ≤ point p (is.place + 1)) × (point p (is.place + 1) ≤ point p is.place + a.most))) is.known lasts in
    elim is.breaks [
      | inl short ↦ absurd (omega (arith, ints, both.0, short.0, short.1, is.lasts))
      | inr long ↦ absurd (omega (arith, ints, both.1, long.0, long.1, is.lasts))
    ]
