-- What the clock tells is known, and the phase of asks follows on what is still live.
use Rattle.std.proofs.Common.{◌+◌, ◌++◌, All, ap, arith, map, sym, subst, ◌∙◌}
use Rattle.std.proofs.lemmas.Result.{on_ok_weaker}
use Rattle.tp_event_rules.specs.LiveStates.{seen}
use Rattle.tp_event_rules.specs.Ready.{CanTakeEvents, KeepsLive, last_copy}
use Rattle.tp_event_turn.specs.ClockNames.{IsKnownTell}
use Rattle.tp_event_turn.proofs.ClockFacts.{known-tells, moved-event, moved-seen, moved-stop, refills-moved}
use Rattle.tp_event_turn.proofs.KeptEvents.{events-moved}
use Rattle.tp_event_turn.proofs.clock_turn.move_clock.Goals as goal
use Rattle.tp_stock.specs.Stock.{IsBounded}
use Rattle.tp_event_rules.specs.Clock.{clock_move, record_of}
use Rattle.tp_event_rules.specs.StateInvariants.{live_refills}
use Rattle.tp_event_rules.proofs.StockKept.{few-plans, stock-moved, within-bounded}
use Rattle.tp_event_rules.specs.Planners.{right_steps}

pub tell_moved_clock-requires : goal.tell_moved_clock-requires
tell_moved_clock-requires g c = record {
  known = subst (All (IsKnownTell c.args.machine.now c.args.state.now.lines.jobs)) (sym (c.as_slice.ensures.value ∙ c.in-Ok.ensures.told))
      (known-tells c.args.machine.now c.machine_law.ensures c.args.state.now.lines.jobs c.args.state.now.moment c.args.to c.args.state.now.schedule.plans
      c.requires.ready.can.kept.plans.legal.timed c.requires.ready.can.kept.lines.plans_known);
}

pub ask_waiting-requires-clause-bounded : goal.ask_waiting-requires-clause-bounded
ask_waiting-requires-clause-bounded g c =
    let m = c.args.machine.now in
    let s = seen c.args.state.now in
    subst IsBounded (sym (refills-moved c.args.machine.now c.args.to (seen c.args.state.now) (sym c.in-Ok.ensures.refused) _ _ _ c.count_taken-taken.ensures c.forget-state.ensures c.in-Ok.ensures.plans))
    (within-bounded (last_copy + 1) (live_refills m (clock_move m c.args.to s).state) (omega arith) (stock-moved m last_copy s (few-plans m last_copy s c.requires.ready.can.kept) c.requires.ready.stocked c.args.to).within)

pub ask_waiting-requires-clause-can : goal.ask_waiting-requires-clause-can
ask_waiting-requires-clause-can g c =
    let s = seen c.args.state.now in
    subst (KeepsLive c.args.machine.now (last_copy + 1)) (sym (moved-seen c.args.machine.now c.args.to s (sym c.in-Ok.ensures.refused) _ _ _ c.in-Ok.ensures.plans c.forget_lost.ensures (refills-moved c.args.machine.now c.args.to (seen c.args.state.now) (sym c.in-Ok.ensures.refused) _ _ _ c.count_taken-taken.ensures c.forget-state.ensures c.in-Ok.ensures.plans)))
    (events-moved c.args.machine.now c.args.to s (sym c.in-Ok.ensures.refused) last_copy c.requires.ready.can).kept

pub returns-clause-kept : goal.returns-clause-kept
returns-clause-kept g c =
    let s = seen c.args.state.now in
    on_ok_weaker c.ask_waiting.result
    (λ kept copies can. kept (copies + 1)
    (subst (CanTakeEvents c.args.machine.now (copies + 1)) (sym (moved-seen c.args.machine.now c.args.to s (sym c.in-Ok.ensures.refused) _ _ _ c.in-Ok.ensures.plans c.forget_lost.ensures (refills-moved c.args.machine.now c.args.to (seen c.args.state.now) (sym c.in-Ok.ensures.refused) _ _ _ c.count_taken-taken.ensures c.forget-state.ensures c.in-Ok.ensures.plans)))
    (events-moved c.args.machine.now c.args.to s (sym c.in-Ok.ensures.refused) copies can)))
    c.ask_waiting.ensures.kept

pub forget-state-requires : goal.forget-state-requires
forget-state-requires g c = record { bounded = within-bounded last_copy c.args.state.now.refills.0 (omega arith) c.requires.ready.stocked.within }

pub returns-clause-turn : goal.returns-clause-turn
returns-clause-turn g c =
    let m = c.args.machine.now in
    let s = seen c.args.state.now in
    let is = moved-seen m c.args.to s (sym c.in-Ok.ensures.refused) _ _ _ c.in-Ok.ensures.plans c.forget_lost.ensures (refills-moved c.args.machine.now c.args.to (seen c.args.state.now) (sym c.in-Ok.ensures.refused) _ _ _ c.count_taken-taken.ensures c.forget-state.ensures c.in-Ok.ensures.plans) in
    on_ok_weaker c.ask_waiting.result
    (λ noted. moved-event (right_steps g.P.Planner.rules m) m c.args.to s c.args.planner.now c.args.notes.now.items _ c.ask_waiting.new.notes.items _ (sym c.in-Ok.ensures.refused) (c.in-Ok-tell_moved_clock.ensures ∙ ap (λ ts. c.args.notes.now.items ++ map (record_of m s.jobs) ts) (c.as_slice.ensures.value ∙ c.in-Ok.ensures.told)) is (seen c.ask_waiting.new.state) c.ask_waiting.new.planner noted)
    c.ask_waiting.ensures.asks

pub returns-clause-stopped : goal.returns-clause-stopped
returns-clause-stopped g c e =
    let m = c.args.machine.now in
    let s = seen c.args.state.now in
    let is = moved-seen m c.args.to s (sym c.in-Ok.ensures.refused) _ _ _ c.in-Ok.ensures.plans c.forget_lost.ensures (refills-moved c.args.machine.now c.args.to (seen c.args.state.now) (sym c.in-Ok.ensures.refused) _ _ _ c.count_taken-taken.ensures c.forget-state.ensures c.in-Ok.ensures.plans) in
    moved-stop (right_steps g.P.Planner.rules m) m c.args.to s c.args.planner.now c.args.notes.now.items _ c.ask_waiting.new.notes.items _ (sym c.in-Ok.ensures.refused) (c.in-Ok-tell_moved_clock.ensures ∙ ap (λ ts. c.args.notes.now.items ++ map (record_of m s.jobs) ts) (c.as_slice.ensures.value ∙ c.in-Ok.ensures.told)) is c.ask_waiting.new.planner (c.ask_waiting.ensures.stopped e)
