use Rattle.std.proofs.Common.{◌∙◌, IsTrue, sym, refl, arith}
use Rattle.tp_schedule.specs.Routes.{is_act_allowed}
use Rattle.tp_constraints.proofs.Lists.{contains-get, get-contains}
use Rattle.tp_schedule_check.proofs.ListFacts.{each-more, get-within, there-at}
use Rattle.tp_schedule_check.proofs.asked.are_allowed.Goals as goal

pub acts-preserved : goal.acts-preserved
acts-preserved c =
    each-more (λ _ act. IsTrue (is_act_allowed c.args.machine.now c.args.outs act)) c.args.acts.now c.acts.at _ (there-at c.args.acts.now c.acts.at _ c.acts-test.true)
    (sym c.is_act_allowed.ensures ∙ c.if-not-is_act_allowed.false) c.acts.invariant

pub returns-then-not-is_act_allowed : goal.returns-then-not-is_act_allowed
returns-then-not-is_act_allowed c = (
  λ t. absurd cc,
  λ allowed. sym c.if-not-is_act_allowed.true ∙ c.is_act_allowed.ensures ∙ allowed _ (contains-get c.args.acts.now c.acts.at _ (there-at c.args.acts.now c.acts.at _ c.acts-test.true)),
)

pub returns : goal.returns
returns c = (
  λ t act in'.
      let found = get-contains c.args.acts.now act in' in
      let within = get-within c.args.acts.now found.0 act found.1 in
      c.acts.invariant found.0 act (omega (arith, within, c.acts-test.false)) found.1,
  λ allowed. refl,
)
