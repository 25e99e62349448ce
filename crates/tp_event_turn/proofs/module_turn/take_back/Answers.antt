-- A module that comes back is followed by the phase of asks.
use Rattle.std.proofs.Common.{◌+◌, arith, sym, subst}
use Rattle.std.proofs.lemmas.Result.{on_ok_weaker}
use Rattle.tp_event_rules.specs.LiveStates.{seen}
use Rattle.tp_event_rules.specs.Planners.{right_steps}
use Rattle.tp_event_rules.specs.Ready.{CanTakeEvents, KeepsLive, last_copy}
use Rattle.tp_event_turn.specs.Phases.{NotesAsks}
use Rattle.tp_event_turn.specs.Stops.{NotesStop}
use Rattle.tp_event_turn.proofs.KeptEvents.{events-on}
use Rattle.tp_event_turn.proofs.ModuleEvents.{back-event, back-stop}
use Rattle.tp_event_turn.proofs.module_turn.take_back.Goals as goal
use Rattle.tp_event_rules.proofs.StockKept.{within-bounded}

pub ask_waiting-requires-clause-can : goal.ask_waiting-requires-clause-can
ask_waiting-requires-clause-can g c =
    let s = seen c.args.state.now in
    subst (λ outs. KeepsLive c.args.machine.now (last_copy + 1) (record s { outs = outs })) (sym c.put_on-state.ensures)
    (events-on c.args.machine.now c.in-Ok.id.0 s last_copy c.requires.ready.can).kept

pub returns-clause-kept : goal.returns-clause-kept
returns-clause-kept g c =
    let s = seen c.args.state.now in
    on_ok_weaker c.ask_waiting.result
    (λ kept copies can. kept (copies + 1) (subst (λ outs. CanTakeEvents c.args.machine.now (copies + 1) (record s { outs = outs })) (sym c.put_on-state.ensures)
    (events-on c.args.machine.now c.in-Ok.id.0 s copies can)))
    c.ask_waiting.ensures.kept

pub returns-clause-turn : goal.returns-clause-turn
returns-clause-turn g c =
    let s = seen c.args.state.now in
    on_ok_weaker c.ask_waiting.result
    (λ noted. back-event (right_steps g.P.Planner.rules c.args.machine.now) c.args.machine.now s c.args.planner.now c.args.notes.now.items c.ask_waiting.new.notes.items
    c.args.event.now c.requires.comes_back (sym c.in-Ok.ensures.refused) c.in-Ok.id.0 c.in-Ok.ensures.found (seen c.ask_waiting.new.state) c.ask_waiting.new.planner
    (subst (λ outs. NotesAsks (right_steps g.P.Planner.rules c.args.machine.now) c.args.machine.now (record s { outs = outs })
    c.args.planner.now c.args.notes.now.items (seen c.ask_waiting.new.state) c.ask_waiting.new.planner c.ask_waiting.new.notes.items) c.put_on-state.ensures noted))
    c.ask_waiting.ensures.asks

pub returns-clause-stopped : goal.returns-clause-stopped
returns-clause-stopped g c e =
    let s = seen c.args.state.now in
    back-stop (right_steps g.P.Planner.rules c.args.machine.now) c.args.machine.now s c.args.planner.now c.args.notes.now.items c.ask_waiting.new.notes.items
    c.args.event.now c.requires.comes_back (sym c.in-Ok.ensures.refused) c.in-Ok.id.0 c.in-Ok.ensures.found c.ask_waiting.new.planner
    (subst (λ outs. NotesStop (right_steps g.P.Planner.rules c.args.machine.now) c.args.machine.now (record s { outs = outs })
    c.args.planner.now c.args.notes.now.items c.ask_waiting.new.planner c.ask_waiting.new.notes.items) c.put_on-state.ensures (c.ask_waiting.ensures.stopped e))

pub ask_waiting-requires-clause-bounded : goal.ask_waiting-requires-clause-bounded
ask_waiting-requires-clause-bounded g c = within-bounded last_copy c.args.state.now.refills.0 (omega arith) c.requires.ready.stocked.within
