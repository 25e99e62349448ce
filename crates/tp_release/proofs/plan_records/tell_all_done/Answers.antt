-- One plan more is reported of.
use Rattle.std.proofs.Common.{◌++◌, ◌∙◌, ap, sym, take, flat_map}
use Rattle.std.proofs.lemmas.List.{flat_map_more}
use Rattle.tp_base.proofs.SliceFacts.{All-at}
use Rattle.tp_schedule.specs.Plans.{IsTimedPlan}
use Rattle.tp_event_rules.specs.Clock.{deliveries}
use Rattle.tp_release.proofs.Places.{take-next}
use Rattle.tp_release.proofs.plan_records.tell_all_done.Goals as goal

pub tell_done-requires : goal.tell_done-requires
tell_done-requires c = record { timed = All-at (IsTimedPlan c.args.machine.now) c.args.schedule.now.plans c.loop-at.at c.plan_at.result.now c.requires.legal.timed c.plan_at.ensures.plan }

pub loop-at-preserved : goal.loop-at-preserved
loop-at-preserved c =
    let tells = deliveries c.args.machine.now c.args.now c.args.to in
    let plans = c.args.schedule.now.plans in
    let p = c.plan_at.result.now in
    c.in_ok-tell_done.ensures ∙ ap (λ told. told ++ tells p) c.loop-at.invariant ∙ flat_map_more tells c.args.told.now.items (take c.loop-at.at plans) p
    ∙ ap (λ ps. c.args.told.now.items ++ flat_map tells ps) (sym (take-next plans c.loop-at.at p c.plan_at.ensures.plan))
