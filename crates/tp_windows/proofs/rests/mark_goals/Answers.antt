use Rattle.std.proofs.Common.{◌≡◌, inl, inr, ℕ, Some, None, arith, sym, subst, ◌∙◌}
use Rattle.std.proofs.lemmas.Bool.{cases_lt}
use Rattle.std.proofs.lemmas.List.{get_or-set_other, get_or-set_same}
use Rattle.tp_routes.specs.Numbers.{state_at}
use Rattle.tp_schedule.specs.Routes.{IsGoalState}
use Rattle.tp_windows.proofs.rests.mark_goals.Goals as goal

pub returns : goal.returns
returns c = λ n less is. c.states.invariant n (let past = c.states-test.false in let same = c.states.auto.rests in omega (arith, less, past, same)) is

pub states-preserved : goal.states-preserved
states-preserved c = λ n less is. elim (cases_lt n c.states.number) [
  | inl before ↦ get_or-set_other c.states.rests c.states.number n c.first_rest.result None (λ e. omega (arith, e, before)) ∙ c.states.invariant n before is
  | inr here ↦
      let e : c.states.number ≡ n = omega (arith, less, here) in
      let there = c.states-test.true in
      let long = c.states.auto.rests in
      let one : c.first_rest.result ≡ Some 0 = c.first_rest.ensures (subst (λ (q : ℕ). IsGoalState c.args.machine.now c.args.ask.now.want c.args.ask.now.goal (state_at q)) (sym e) is) in
      rw (← e) (get_or-set_same c.states.rests c.states.number c.first_rest.result None (omega (arith, there, long)) ∙ one)
]
