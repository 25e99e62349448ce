-- What stands at the place is written, or goes.
use Rattle.std.proofs.Common.{◌≡◌, ◌+◌, ◌++◌, ◌∷◌, ◌∙◌, ap, sym, drop, set, slice_get, Some, inl, inr}
use Rattle.tp_base.proofs.SliceFacts.{found}
use Rattle.tp_event_rules.specs.Fates.{left_of, to_purge}
use Rattle.tp_event_rules.specs.Moments.{front_of}
use Rattle.tp_replan.specs.Meanings.{meant}
use Rattle.tp_replan.proofs.LeftFacts.{at-place, drop-set, drop_from, get-set, of-place, set-set}
use Rattle.tp_replan.proofs.remaining_plans.leave_one.Goals as goal

pub returns-in-Stays-clause-left : goal.returns-in-Stays-clause-left
returns-in-Stays-clause-left c =
    let plans = c.args.schedule.now.plans in
    let at = c.args.at in
    let there = found plans at c.requires.there in
    let rest = drop (at + 1) plans in
    at-place (λ q. drop at plans ≡ left_of c.args.now q (meant c.args.fate) ++ rest) plans at there.0 there.1
    (drop_from plans at there.0 there.1 ∙ ap (λ f. left_of c.args.now there.0 (meant f) ++ rest) (sym c.in-Stays.is))

pub returns-in-Purged-clause-left : goal.returns-in-Purged-clause-left
returns-in-Purged-clause-left c =
    let plans = c.args.schedule.now.plans in
    let at = c.args.at in
    let there = found plans at c.requires.there in
    let front = front_of c.args.now there.0 in
    let mid = c.cut_at-in-Purged.new.schedule.plans in
    let new = c.purge_at.new.schedule.plans in
    let rest = drop (at + 1) plans in
    let cut : mid ≡ set plans at front = of-place (λ q. mid ≡ set plans at (front_of c.args.now q)) plans at there.0 there.1 c.cut_at-in-Purged.ensures in
    let here : slice_get mid at ≡ Some front = ap (λ ps. slice_get ps at) cut ∙ get-set plans at there.0 front there.1 in
    let purged : new ≡ set mid at (to_purge front) = of-place (λ q. new ≡ set mid at (to_purge q)) mid at front here c.purge_at.ensures in
    let left : drop at new ≡ to_purge front ∷ rest =
    ap (drop at) (purged ∙ ap (λ ps. set ps at (to_purge front)) cut ∙ set-set plans at front (to_purge front)) ∙ drop-set plans at there.0 (to_purge front) there.1 in
    at-place (λ q. drop at new ≡ left_of c.args.now q (meant c.args.fate) ++ rest) plans at there.0 there.1
    (left ∙ elim c.in-Purged.is [
      | inl e ↦ ap (λ f. left_of c.args.now there.0 (meant f) ++ rest) (sym e)
      | inr e ↦ ap (λ f. left_of c.args.now there.0 (meant f) ++ rest) (sym e)
    ])
