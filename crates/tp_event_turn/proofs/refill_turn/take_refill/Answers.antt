-- A refill that is accepted leads on to the phase of asks.
use Rattle.std.proofs.Common.{◌≡◌, ◌+◌, ◌∙◌, List, arith, sym, ap, subst, refl}
use Rattle.std.specs.Prelude.{ℤ}
use Rattle.std.proofs.lemmas.Result.{on_ok_weaker}
use Rattle.tp_script.specs.declared.event.Event.TheVariants.{Refill}
use Rattle.tp_stock.specs.Stock.{IsBounded, feeder_named, more_at}
use Rattle.tp_event_rules.proofs.ReadyTurns.{events-more, ready-more}
use Rattle.tp_event_rules.proofs.Refilled.{events-refilled, live-refilled}
use Rattle.tp_event_rules.proofs.StockKept.{few-plans, stock-refill, within-bounded}
use Rattle.tp_event_rules.specs.LiveStates.{seen}
use Rattle.tp_event_rules.specs.Planners.{right_steps}
use Rattle.tp_event_rules.specs.Ready.{last_copy}
use Rattle.tp_event_turn.proofs.EventFacts.{accepted-event, stopped-event}
use Rattle.tp_event_turn.proofs.RefillFacts.{found-feeder}
use Rattle.tp_event_turn.proofs.refill_turn.take_refill.Goals as goal

pub ask_waiting-requires-clause-can : goal.ask_waiting-requires-clause-can
ask_waiting-requires-clause-can g c =
    let m = c.args.machine.now in
    let s = seen c.args.state.now in
    live-refilled m (last_copy + 1) c.add-state.result.0 s (ready-more m last_copy (last_copy + 1) s (omega arith) c.requires.ready.can.kept)

pub ask_waiting-requires-clause-bounded : goal.ask_waiting-requires-clause-bounded
ask_waiting-requires-clause-bounded g c =
    let m = c.args.machine.now in
    let s = seen c.args.state.now in
    let f = found-feeder (feeder_named m c.args.order.now.feeder) c.in-Ok.loc c.in-Ok.ensures.found in
    let stock = stock-refill m last_copy s (few-plans m last_copy s c.requires.ready.can.kept) c.requires.ready.stocked c.args.order.now.feeder c.args.order.now.count f.0 (sym c.in-Ok.ensures.refused) f.1 in
    let same : more_at f.0.loc.0 c.args.order.now.count s.refills ≡ c.add-state.result.0 = ap (λ loc. more_at loc.0 c.args.order.now.count s.refills) f.2 ∙ sym c.add-state.ensures in
    subst IsBounded same (within-bounded (last_copy + 1) (more_at f.0.loc.0 c.args.order.now.count s.refills) (omega arith) stock.within)

pub returns-clause-kept : goal.returns-clause-kept
returns-clause-kept g c =
    let m = c.args.machine.now in
    let s = seen c.args.state.now in
    on_ok_weaker c.ask_waiting.result
    (λ kept copies can. kept (copies + 1) (events-refilled m (copies + 1) c.add-state.result.0 s (events-more m copies (copies + 1) s (omega arith) can)))
    c.ask_waiting.ensures.kept

pub returns-clause-turn : goal.returns-clause-turn
returns-clause-turn g c =
    let m = c.args.machine.now in
    let s = seen c.args.state.now in
    let f = found-feeder (feeder_named m c.args.order.now.feeder) c.in-Ok.loc c.in-Ok.ensures.found in
    let same : c.add-state.result.0 ≡ more_at f.0.loc.0 c.args.order.now.count s.refills = c.add-state.ensures ∙ sym (ap (λ loc. more_at loc.0 c.args.order.now.count s.refills) f.2) in
    on_ok_weaker c.ask_waiting.result
    (λ noted. accepted-event (right_steps g.P.Planner.rules m) m (Refill c.args.order.now.feeder c.args.order.now.count) s c.args.planner.now c.args.notes.now.items c.ask_waiting.new.notes.items
    (sym c.in-Ok.ensures.refused) (record s { refills = c.add-state.result.0 }) (seen c.ask_waiting.new.state) c.ask_waiting.new.planner (f.0, f.1, refl, ap (λ (r : List ℤ). record s { refills = r }) same, refl) noted)
    c.ask_waiting.ensures.asks

pub returns-clause-stopped : goal.returns-clause-stopped
returns-clause-stopped g c e =
    let m = c.args.machine.now in
    let s = seen c.args.state.now in
    let f = found-feeder (feeder_named m c.args.order.now.feeder) c.in-Ok.loc c.in-Ok.ensures.found in
    let same : c.add-state.result.0 ≡ more_at f.0.loc.0 c.args.order.now.count s.refills = c.add-state.ensures ∙ sym (ap (λ loc. more_at loc.0 c.args.order.now.count s.refills) f.2) in
    stopped-event (right_steps g.P.Planner.rules m) m (Refill c.args.order.now.feeder c.args.order.now.count) s c.args.planner.now c.args.notes.now.items c.ask_waiting.new.notes.items
    (sym c.in-Ok.ensures.refused) (record s { refills = c.add-state.result.0 }) c.ask_waiting.new.planner (f.0, f.1, refl, ap (λ (r : List ℤ). record s { refills = r }) same, refl) (c.ask_waiting.ensures.stopped e)

pub check_refill-requires : goal.check_refill-requires
check_refill-requires g c = record { bounded = within-bounded last_copy c.args.state.now.refills.0 (omega arith) c.requires.ready.stocked.within }

pub add-state-requires-clause-bounded : goal.add-state-requires-clause-bounded
add-state-requires-clause-bounded g c = within-bounded last_copy c.args.state.now.refills.0 (omega arith) c.requires.ready.stocked.within
