-- The copy at the place is displaced, or is not.
use Rattle.std.proofs.Common.{[], ap}
use Rattle.tp_event_rules.specs.Outages.{displaced_by}
use Rattle.tp_replan.proofs.FateFacts.{told-next, fate-at}
use Rattle.tp_replan.specs.declared.fate.Fate.TheVariants.{Stays}
use Rattle.tp_replan.proofs.module_out.displaced_by.Goals as goal

pub loop-at-preserved : goal.loop-at-preserved
loop-at-preserved c = λ rule e.
    let plans = c.args.schedule.now.plans in
    let p = c.plan_at.result.now in
    let its = fate-at rule plans c.args.fates.now e c.loop-at.at p Stays c.plan_at.ensures.plan in
    told-next (λ q. displaced_by q (rule q)) plans c.loop-at.at p _ [] c.loop-at.copies.items c.push_displaced.new.copies.items c.plan_at.ensures.plan
    (ap (displaced_by p) its) (c.loop-at.invariant rule e) c.in_ok-push_displaced.ensures
