use Rattle.std.proofs.Common.{◌≡◌, inl, inr, slice_get, arith, subst, sym, ap, ◌∙◌}
use Rattle.std.proofs.lemmas.Bool.{cases_lt}
use Rattle.std.proofs.lemmas.Option.{same_Some, slice_get_within}
use Rattle.tp_machine.specs.declared.parts.Feeder.{Feeder}
use Rattle.tp_machine.specs.declared.parts.State.{State}
use Rattle.tp_schedule.specs.Routes.{fresh}
use Rattle.tp_windows.proofs.FrontFacts.{Grows-then, waits-grow}
use Rattle.tp_windows.specs.SoughtWays.{AreStartsReached}
use Rattle.tp_windows.proofs.way_search.begin_at_feeders.Goals as goal

pub feeders-preserved : goal.feeders-preserved
feeders-preserved c = record {
  grows = Grows-then c.args.front.now c.feeders.front c.begin_in.new.front c.feeders.invariant.grows c.begin_in.ensures.grows;
  keyed = λ keyed. c.begin_in.ensures.keyed (c.feeders.invariant.keyed keyed);
  starts = λ k f less there. elim (cases_lt k c.feeders.number) [
    | inl before ↦ λ tick rest is can stands le. waits-grow c.feeders.front c.begin_in.new.front (fresh f.loc) tick c.begin_in.ensures.grows (c.feeders.invariant.starts k f before there tick rest is can stands le)
    | inr here ↦
        let e : c.feeders.number ≡ k = omega (arith, less, here) in
        let same : c.get.result.now ≡ f = same_Some c.get.result.now f (sym c.get.ensures ∙ ap (slice_get c.args.sought.machine.now.feeders) e ∙ there) in
        subst (λ (s : State). AreStartsReached c.args.sought s c.begin_in.new.front) (c.new_sheet.ensures ∙ ap (λ (x : Feeder). fresh x.loc) same) (c.begin_in.ensures.starts c.if-not-begin_in.false)
  ];
}

pub returns-clause-starts : goal.returns-clause-starts
returns-clause-starts c = λ done k f there.
    let within = slice_get_within c.args.sought.machine.now.feeders k f there in
    let past = c.feeders-test.false in
    let long = c.len-number-end.ensures.len in
    c.feeders.invariant.starts k f (omega (arith, within, past, long)) there
