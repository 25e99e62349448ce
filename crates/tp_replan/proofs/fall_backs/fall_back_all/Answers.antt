-- One displaced copy more fell back.
use Rattle.std.proofs.Common.{◌≡◌, ◌+◌, ◌++◌, ◌∙◌, Some, ap, sym, subst, drop, slice_get}
use Rattle.std.proofs.lemmas.Option.{slice_get-get_or}
use Rattle.tp_event_rules.specs.FallBacks.{Displaced, fall_back_unless_broken}
use Rattle.tp_event_rules.specs.LiveStates.{seen}
use Rattle.tp_event_rules.specs.States.{for_each}
use Rattle.tp_replan.specs.Displacement.{CanAllFall}
use Rattle.tp_replan.proofs.FallFacts.{each-state, each-told}
use Rattle.tp_replan.proofs.LeftFacts.{drop_from}
use Rattle.tp_replan.proofs.fall_backs.fall_back_all.Goals as goal

pub fall_back_unless_broken-requires : goal.fall_back_unless_broken-requires
fall_back_unless_broken-requires c =
    let ds = c.args.copies.now in
    let i = c.loop-at.at in
    let d : Displaced = c.index-copies-at.result in
    let at : slice_get ds i ≡ Some d = slice_get-get_or ds i d c.loop-at-test.true ∙ ap Some (sym c.index-copies-at.is) in
    (subst (λ l. CanAllFall l (seen c.loop-at.state)) (drop_from ds i d at) c.loop-at.invariant.can).0

pub loop-at-preserved : goal.loop-at-preserved
loop-at-preserved c =
    let ds = c.args.copies.now in
    let i = c.loop-at.at in
    let d : Displaced = c.index-copies-at.result in
    let at : slice_get ds i ≡ Some d = slice_get-get_or ds i d c.loop-at-test.true ∙ ap Some (sym c.index-copies-at.is) in
    let here = drop_from ds i d at in
    let before = seen c.loop-at.state in
    let after = seen c.fall_back_unless_broken.new.state in
    let notes = c.loop-at.notes.items in
    let mid = c.fall_back_unless_broken.new.notes.items in
    let leads = c.in_ok-fall_back_unless_broken.ensures.leads in
    let can = subst (λ l. CanAllFall l before) here c.loop-at.invariant.can in
    record {
      marked = c.in_ok-fall_back_unless_broken.ensures.marked ∙ c.loop-at.invariant.marked;
      can = subst (CanAllFall (drop (i + 1) ds)) (sym leads.state) can.1;
      told = each-told fall_back_unless_broken d (drop (i + 1) ds) before after notes mid _ leads
          (ap (λ l. notes ++ (for_each fall_back_unless_broken l before).records) (sym here) ∙ c.loop-at.invariant.told);
      state = each-state fall_back_unless_broken d (drop (i + 1) ds) before after _ notes mid leads
          (ap (λ l. (for_each fall_back_unless_broken l before).state) (sym here) ∙ c.loop-at.invariant.state);
    }
