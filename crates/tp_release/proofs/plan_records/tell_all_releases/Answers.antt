-- One plan more is reported of.
use Rattle.std.proofs.Common.{◌+◌, ◌++◌, ◌<◌, ◌∙◌, ap, arith, sym, refl, take, flat_map}
use Rattle.std.proofs.lemmas.List.{flat_map_more}
use Rattle.std.proofs.lemmas.Option.{get_or_from_slice_get, slice_get_within}
use Rattle.tp_base.proofs.SliceFacts.{All-at}
use Rattle.tp_schedule.specs.Plans.{IsTimedPlan, point}
use Rattle.tp_event_rules.specs.Clock.{releases}
use Rattle.tp_release.proofs.Places.{take-next}
use Rattle.tp_release.proofs.plan_records.tell_all_releases.Goals as goal

pub tell_releases-requires : goal.tell_releases-requires
tell_releases-requires c =
    let plans = c.args.schedule.now.plans in
    let at = c.loop-at.at in
    let p = c.plan_at.result.now in
    let is = c.plan_at.ensures.plan in
    record {
      timed = All-at (IsTimedPlan c.args.machine.now) plans at p c.requires.legal.timed is;
      floors = λ i from to.
          let above : 0 + c.args.machine.now.lead < point p i = c.requires.floors p (at, slice_get_within plans at p is, get_or_from_slice_get plans at p p is) refl i from to in
          omega (arith, above);
    }

pub loop-at-preserved : goal.loop-at-preserved
loop-at-preserved c =
    let tells = releases c.args.machine.now c.args.to in
    let plans = c.args.schedule.now.plans in
    let p = c.plan_at.result.now in
    c.in_ok-tell_releases.ensures ∙ ap (λ told. told ++ tells p) c.loop-at.invariant ∙ flat_map_more tells c.args.told.now.items (take c.loop-at.at plans) p
    ∙ ap (λ ps. c.args.told.now.items ++ flat_map tells ps) (sym (take-next plans c.loop-at.at p c.plan_at.ensures.plan))
