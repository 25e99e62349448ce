-- The fates are those of the fall-back, and fit.
use Rattle.std.proofs.Common.{◌≡◌, ◌∙◌, [], ap, map, Contains}
use Rattle.std.proofs.lemmas.List.Elements.{All-contains}
use Rattle.tp_schedule.specs.Plans.{IsFormed}
use Rattle.tp_schedule.specs.declared.parts.Plan.{Plan}
use Rattle.tp_event_rules.specs.FallBacks.{fate_in_fall_back}
use Rattle.tp_event_rules.specs.LiveStates.{seen}
use Rattle.tp_event_rules.specs.Seen.{HasStarted}
use Rattle.tp_replan.specs.Meanings.{meant}
use Rattle.tp_replan.specs.Open.{Fits}
use Rattle.tp_replan.proofs.OpenFacts.{can-room, can-wait, cut-started, fall_back-fits, one-each}
use Rattle.tp_replan.proofs.fall_backs.make_way.Goals as goal

pub tell_fates-requires : goal.tell_fates-requires
tell_fates-requires c = record {
  each = one-each (fate_in_fall_back (seen c.args.state.now) c.args.copy) c.args.state.now.schedule.plans c.as_slice.result.now
      (ap (map meant) c.as_slice.ensures.value ∙ c.in_ok-fates.ensures);
  known = c.requires.can.known;
  next = c.requires.can.next;
}

pub befall-requires : goal.befall-requires
befall-requires c =
    let s = seen c.args.state.now in
    let rule = fate_in_fall_back s c.args.copy in
    let fits : (p : Plan) → Contains s.plans p → Fits s p (rule p) =
    λ p in'. fall_back-fits s c.args.copy p (All-contains IsFormed s.plans p c.ordered.ensures.ordered.formed in')
    (All-contains (HasStarted s.now) s.plans p c.requires.can.purges in') in
    let e : map meant c.as_slice-2.result.now ≡ map rule s.plans = ap (map meant) c.as_slice-2.ensures.value ∙ c.in_ok-fates.ensures in
    record {
      each = one-each rule s.plans c.as_slice-2.result.now e;
      known = c.requires.can.known;
      next = c.requires.can.next;
      started = cut-started s rule c.as_slice-2.result.now fits e;
      room = can-room s [] rule c.as_slice-2.result.now c.requires.can fits e;
      can_wait = can-wait s [] rule c.as_slice-2.result.now c.requires.can fits e;
    }

pub returns-clause-leads : goal.returns-clause-leads
returns-clause-leads c =
    let rule = fate_in_fall_back (seen c.args.state.now) c.args.copy in
    record {
      told = c.in_ok-tell_fates.ensures rule (ap (map meant) c.as_slice.ensures.value ∙ c.in_ok-fates.ensures);
      state = c.in_ok-befall.ensures.follows rule (ap (map meant) c.as_slice-2.ensures.value ∙ c.in_ok-fates.ensures);
    }
