use Rattle.std.proofs.Common.{◌∙◌, ◌+◌, slice_index, sym, refl, arith}
use Rattle.tp_schedule.specs.Plans.{LastsWithin}
use Rattle.tp_schedule_check.proofs.ListFacts.{each-more, get-within, there-at}
use Rattle.tp_schedule_check.proofs.timed.do_last.Goals as goal

pub acts-preserved : goal.acts-preserved
acts-preserved c =
    each-more (λ i act. LastsWithin c.args.machine.now act (slice_index c.args.points.now i) (slice_index c.args.points.now (i + 1))) c.args.acts.now c.acts.at _
    (there-at c.args.acts.now c.acts.at _ c.acts-test.true) (c.does_last.ensures.0 c.if-not-does_last.false) c.acts.invariant

pub returns-then-not-does_last : goal.returns-then-not-does_last
returns-then-not-does_last c = (
  λ t. absurd cc,
  λ last. sym c.if-not-does_last.true ∙ c.does_last.ensures.1 (last c.acts.at _ (there-at c.args.acts.now c.acts.at _ c.acts-test.true)),
)

pub returns : goal.returns
returns c = (
  λ t i act is. let within = get-within c.args.acts.now i act is in c.acts.invariant i act (omega (arith, within, c.acts-test.false)) is,
  λ last. refl,
)
