use Rattle.std.proofs.Common.{◌≡◌, ◌≤◌, inl, inr, ℕ, Some, slice_get, arith, subst, sym, ap, ◌∙◌}
use Rattle.std.proofs.lemmas.Bool.{cases_lt}
use Rattle.std.proofs.lemmas.Option.{same_Some, slice_get_within}
use Rattle.tp_constraints.proofs.Lists.{get-contains}
use Rattle.tp_machine.specs.declared.parts.State.{State}
use Rattle.tp_windows.proofs.FrontFacts.{Grows-then, reached-grow}
use Rattle.tp_windows.proofs.RowFacts.{there_in}
use Rattle.tp_windows.specs.RestTables.{rest_of}
use Rattle.tp_windows.specs.WaitingLabels.{IsReached}
use Rattle.tp_windows.specs.declared.gaps.Ends.{Ends}
use Rattle.tp_windows.proofs.way_search.offer_ends.Goals as goal

pub ends-preserved : goal.ends-preserved
ends-preserved c = record {
  grows = Grows-then c.args.front.now c.ends.front c.offer.new.self c.ends.invariant.grows c.offer.ensures.grows;
  keyed = λ rests rest keyed. c.offer.ensures.keyed rests (subst (λ (s : State). rest_of rests s ≡ Some c.args.rest) (sym c.arrival_by.ensures.state) rest) (c.ends.invariant.keyed rests rest keyed);
  reached = λ n end e less there from till. elim (cases_lt n c.ends.number) [
    | inl before ↦ reached-grow c.ends.front c.offer.new.self c.args.to.state end c.offer.ensures.grows (c.ends.invariant.reached n end e before there from till)
    | inr here ↦
        let same : c.ends.number ≡ n = omega (arith, less, here) in
        let equal = same_Some _ e (sym (there_in c.args.ends.now c.ends.number _ c.ends-test.true) ∙ ap (slice_get c.args.ends.now) same ∙ there) in
        let from' = subst (λ (x : ℕ). x ≤ end) (sym (c.arrival_by.ensures.from ∙ ap (λ (x : Ends). x.from) equal)) from in
        let till' = subst (λ (x : ℕ). end ≤ x) (sym (c.arrival_by.ensures.till ∙ ap (λ (x : Ends). x.till) equal)) till in
        subst (λ (s : State). IsReached c.offer.new.self s end) c.arrival_by.ensures.state (c.offer.ensures.reached c.if-not-offer.false end from' till')
  ];
}

pub returns-clause-reached : goal.returns-clause-reached
returns-clause-reached c = λ done end is.
    let there = get-contains c.args.ends.now is.interval is.in_ends in
    let within = slice_get_within c.args.ends.now there.0 is.interval there.1 in
    let past = c.ends-test.false in
    c.ends.invariant.reached there.0 end is.interval (omega (arith, within, past)) there.1 is.from is.till
