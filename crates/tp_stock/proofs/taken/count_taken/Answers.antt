-- The plans one by one.
use Rattle.std.proofs.Common.{◌≡◌, ℕ, ◌<◌, take, sym, ap, ◌∙◌, arith, ◌==◌, false}
use Rattle.std.specs.Prelude.{option_and_then, slice_get}
use Rattle.std.proofs.lemmas.Bool.Decides.{nat_tests}
use Rattle.tp_machine.specs.ModuleUse.{action_at}
use Rattle.tp_stock.proofs.CountFacts.{counted-all, counted-none, counted-one, counted-other, from-none, from-some, next-plan}
use Rattle.tp_stock.proofs.taken.count_taken.Goals as goal
use Rattle.tp_stock.proofs.taken.count_taken.Goals.{in-Some+then-loc-lt256, in-Some+else-loc-lt256, in-None}

far : (n k : ℕ) → k < n → (n == k) ≡ false
far n k less = grind (arith, nat_tests)

pub plans-init : goal.plans-init
plans-init c = counted-none c.args.machine.now c.args.schedule.now.plans

pub plans-preserved : goal.plans-preserved
plans-preserved c =
    let m = c.args.machine.now in
    let plans = c.args.schedule.now.plans in
    let p = c.plan_at.result.now in
    let first = option_and_then (λ act. action_at m act.0) (slice_get p.acts 0) in
    rw (next-plan plans c.plans.at p c.plan_at.ensures.plan) (elim c.match-first_location.branch [
      | in-Some+then-loc-lt256 w ↦
          let is = from-some first w.in-Some.loc w.in-Some.ensures in
          rw w.counts-is (counted-one m c.plans.counts (take c.plans.at plans) p w.from.result (omega arith) (λ k. is k ∙ ap (λ n. n == k) (sym w.from.ensures)) c.plans.invariant)
      | in-Some+else-loc-lt256 w ↦
          let is = from-some first w.in-Some.loc w.in-Some.ensures in
          rw w.counts-is (counted-other m c.plans.counts (take c.plans.at plans) p (λ k within. is k ∙ far w.in-Some.loc.0 k (omega (arith, w.if-loc-lt256.false))) c.plans.invariant)
      | in-None w ↦ rw w.counts-is (counted-other m c.plans.counts (take c.plans.at plans) p (λ k within. from-none first w.in-None.ensures k) c.plans.invariant)
    ])

pub returns : goal.returns
returns c = counted-all c.args.machine.now c.plans.counts c.args.schedule.now.plans c.plans.at (omega (arith, c.len-at-end.ensures.len, c.plans-test.false)) c.plans.invariant
