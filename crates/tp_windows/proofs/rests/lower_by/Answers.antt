use Rattle.std.proofs.Common.{◌≡◌, ◌+◌, ◌*◌, inl, inr, false, arith, sym, subst, ◌∙◌, List, Option, ℕ}
use Rattle.std.proofs.lemmas.Bool.{cases_lt}
use Rattle.tp_machine.proofs.MachineFacts.{is_machine}
use Rattle.tp_windows.proofs.RestFacts.{all-steps}
use Rattle.tp_windows.specs.RestTables.{IsStepIn}
use Rattle.tp_windows.proofs.rests.lower_by.Goals as goal
use Rattle.tp_windows.proofs.rests.lower_by.Goals.{then-lower_one, else-lower_one}

pub lower_one-requires-clause-known : goal.lower_one-requires-clause-known
lower_one-requires-clause-known c =
    let from = ((is_machine c.args.machine.now).ways c.args.act.0 c.get.result.now c.get.ensures).from_known in
    let states = c.requires.states in
    let same = c.states.auto.rests in
    omega (arith, from, states, same)

pub states-preserved : goal.states-preserved
states-preserved c = elim c.if-lower_one.branch [
  | then-lower_one w ↦ record {
    goals = λ n e. c.lower_one.ensures.goals n (c.states.invariant.goals n e);
    same = λ not. absurd cc;
    closed = λ not. absurd cc;
  }
  | else-lower_one w ↦
      let still = w.if-lower_one.false in
      let same = λ (not : c.states.lowered ≡ false). c.lower_one.ensures.same still ∙ c.states.invariant.same not in
      record {
        goals = λ n e. c.lower_one.ensures.goals n (c.states.invariant.goals n e);
        same = λ not. same (sym w.lowered-is ∙ not);
        closed = λ not k less. elim (cases_lt k c.states.k) [
          | inl before ↦ c.states.invariant.closed (sym w.lowered-is ∙ not) k before
          | inr here ↦
              let e : c.states.k ≡ k = omega (arith, less, here) in
              subst (λ (q : ℕ). IsStepIn c.args.machine.now c.args.ask.now c.args.rests.now c.args.act.0 (c.from-first.result * 8 + q)) e
              (subst (λ (rs : List (Option ℕ)). IsStepIn c.args.machine.now c.args.ask.now rs c.args.act.0 (c.from-first.result * 8 + c.states.k)) (c.states.invariant.same (sym w.lowered-is ∙ not)) (c.lower_one.ensures.closed still))
        ];
      }
]

pub returns-clause-closed : goal.returns-clause-closed
returns-clause-closed c = λ not.
    all-steps c.args.machine.now c.args.ask.now c.args.rests.now c.args.act.0 c.get.result.now c.get.ensures
    (λ k less. subst (λ (f : ℕ). IsStepIn c.args.machine.now c.args.ask.now c.args.rests.now c.args.act.0 (f * 8 + k)) c.from-first.ensures (c.states.invariant.closed not k (let past = c.states-test.false in omega (arith, past, less))))
