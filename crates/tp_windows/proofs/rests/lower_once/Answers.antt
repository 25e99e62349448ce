use Rattle.std.proofs.Common.{◌≡◌, ◌-◌, inl, inr, ℕ, arith, sym, subst, List, Option}
use Rattle.std.proofs.lemmas.Bool.{cases_lt}
use Rattle.tp_windows.specs.RestTables.{AreStepsIn}
use Rattle.tp_windows.proofs.rests.lower_once.Goals as goal

pub acts-preserved : goal.acts-preserved
acts-preserved c =
    let still = c.lower_by.ensures.same c.if-lower_by.false in
    let within = c.acts.invariant.within in
    record {
      within = omega (arith, within);
      goals = λ n e. c.lower_by.ensures.goals n (c.acts.invariant.goals n e);
      closed = λ not act more less. subst (λ (rs : List (Option ℕ)). AreStepsIn c.args.machine.now c.args.ask.now rs act) (sym still) (elim (cases_lt act c.acts.left) [
        | inl here ↦
            let e : c.acts.left - 1 ≡ act = omega (arith, more, here) in
            subst (λ (q : ℕ). AreStepsIn c.args.machine.now c.args.ask.now c.acts.rests q) e (c.lower_by.ensures.closed c.if-lower_by.false)
        | inr later ↦ c.acts.invariant.closed not act (omega (arith, later)) less
      ]);
    }

pub returns-clause-closed : goal.returns-clause-closed
returns-clause-closed c = λ not act less. c.acts.invariant.closed not act (let past = c.acts-test.false in omega (arith, past)) less
