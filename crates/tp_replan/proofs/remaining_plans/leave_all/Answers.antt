-- The plans before the place are as they were, so that the one before it has its turn.
use Rattle.std.proofs.Common.{◌≡◌, ◌<◌, ◌≤◌, ◌+◌, ◌-◌, ◌++◌, ◌∙◌, ap, sym, arith, drop, get_or, IsTrue}
use Rattle.std.proofs.lemmas.Option.{slice_get-get_or}
use Rattle.tp_base.proofs.SliceFacts.{found}
use Rattle.tp_event_rules.specs.Fates.{is_cut_by, left_by, left_of}
use Rattle.tp_event_rules.specs.Moments.{started_count}
use Rattle.tp_replan.specs.Meanings.{meant}
use Rattle.tp_replan.specs.declared.fate.Fate.TheVariants.{Stays}
use Rattle.tp_replan.proofs.FateFacts.{fate-at}
use Rattle.tp_replan.proofs.LeftFacts.{at-place, drop_from, long-enough, of-place, same-before, take-less}
use Rattle.tp_replan.proofs.remaining_plans.leave_all.Goals as goal

pub leave_one-requires : goal.leave_one-requires
leave_one-requires c =
    let plans = c.leave.schedule.plans in
    let old = c.args.schedule.now.plans in
    let fates = c.args.fates.now in
    let k = c.leave.at - 1 in
    let test = c.leave-test.true in
    let low : k < c.leave.at = omega arith in
    let there = found plans k (omega (arith, c.leave.invariant.len)) in
    let was = same-before plans old c.leave.at k there.0 c.leave.invariant.before low there.1 in
    let f = get_or fates k Stays in
    record {
      there = omega (arith, c.leave.invariant.len);
      started = at-place (λ p. IsTrue (is_cut_by (meant f)) → 1 ≤ started_count c.args.now p) plans k there.0 there.1
          (c.requires.started k there.0 f was (slice_get-get_or fates k Stays (omega (arith, c.requires.each, c.leave.invariant.within))));
    }

pub leave-preserved : goal.leave-preserved
leave-preserved c =
    let plans = c.leave.schedule.plans in
    let new = c.leave_one.new.schedule.plans in
    let old = c.args.schedule.now.plans in
    let now = c.args.now in
    let k = c.leave.at - 1 in
    let test = c.leave-test.true in
    let low : k < c.leave.at = omega arith in
    let next : k + 1 ≡ c.leave.at = omega arith in
    let there = found plans k (omega (arith, c.leave.invariant.len)) in
    let p = there.0 in
    let was = same-before plans old c.leave.at k p c.leave.invariant.before low there.1 in
    let f = get_or c.args.fates.now k Stays in
    record {
      within = omega (arith, c.leave.invariant.within);
      len = long-enough new plans k c.leave_one.ensures.before (omega (arith, c.leave.invariant.len));
      before = c.leave_one.ensures.before ∙ take-less plans old c.leave.at k c.leave.invariant.before (omega arith);
      left = λ rule e.
          of-place (λ q. drop k new ≡ left_of now q (meant f) ++ drop (k + 1) plans) plans k p there.1 c.leave_one.ensures.left
          ∙ ap (λ g. left_of now p g ++ drop (k + 1) plans) (fate-at rule old c.args.fates.now e k p Stays was)
          ∙ ap (λ j. left_of now p (rule p) ++ drop j plans) next
          ∙ ap (λ ps. left_of now p (rule p) ++ ps) (c.leave.invariant.left rule e)
          ∙ ap (λ j. left_of now p (rule p) ++ left_by rule now (drop j old)) (sym next)
          ∙ ap (left_by rule now) (sym (drop_from old k p was));
    }
