-- A module that goes out leaves a state that can take any event, and the phase of asks follows.
use Rattle.std.proofs.Common.{◌+◌, arith, sym, subst}
use Rattle.std.proofs.lemmas.Result.{on_ok_weaker}
use Rattle.tp_event_rules.specs.LiveStates.{seen}
use Rattle.tp_event_rules.specs.Planners.{right_steps}
use Rattle.tp_event_rules.specs.Ready.{last_copy}
use Rattle.tp_replan.proofs.LoopStart.{begins-loop}
use Rattle.tp_event_turn.proofs.ModuleEvents.{out-event, out-stop}
use Rattle.tp_event_turn.proofs.module_turn.take_out.Goals as goal
use Rattle.tp_stock.specs.Stock.{IsBounded}
use Rattle.tp_event_rules.proofs.StockKept.{within-bounded}
use Rattle.tp_event_rules.proofs.StockTurns.{refills-goes}

pub go_out-requires-clause-can : goal.go_out-requires-clause-can
go_out-requires-clause-can g c = begins-loop c.args.machine.now (seen c.args.state.now) c.requires.ready.can.kept

pub ask_waiting-requires-clause-can : goal.ask_waiting-requires-clause-can
ask_waiting-requires-clause-can g c = (c.in_ok-go_out.ensures.kept last_copy c.requires.ready.can.kept).kept

pub returns-clause-kept : goal.returns-clause-kept
returns-clause-kept g c =
    on_ok_weaker c.ask_waiting.result (λ kept copies can. kept (copies + 1) (c.in_ok-go_out.ensures.kept copies can.kept)) c.ask_waiting.ensures.kept

pub returns-clause-turn : goal.returns-clause-turn
returns-clause-turn g c =
    let s = seen c.args.state.now in
    let out = c.in_ok-go_out.ensures.out in
    on_ok_weaker c.ask_waiting.result
    (λ noted. out-event (right_steps g.P.Planner.rules c.args.machine.now) c.args.machine.now s c.args.planner.now c.args.notes.now.items c.ask_waiting.new.notes.items
    c.in-Ok.id.0 c.is_jam.result c.args.event.now c.requires.goes_out c.is_jam.ensures (sym c.in-Ok.ensures.refused) c.in-Ok.ensures.found
    out.0 c.go_out.new.notes.items (seen c.go_out.new.state) c.go_out.new.planner out.1 out.2
    (seen c.ask_waiting.new.state) c.ask_waiting.new.planner noted)
    c.ask_waiting.ensures.asks

pub returns-clause-stopped : goal.returns-clause-stopped
returns-clause-stopped g c e =
    let s = seen c.args.state.now in
    let out = c.in_ok-go_out.ensures.out in
    out-stop (right_steps g.P.Planner.rules c.args.machine.now) c.args.machine.now s c.args.planner.now c.args.notes.now.items c.ask_waiting.new.notes.items
    c.in-Ok.id.0 c.is_jam.result c.args.event.now c.requires.goes_out c.is_jam.ensures (sym c.in-Ok.ensures.refused) c.in-Ok.ensures.found
    out.0 c.go_out.new.notes.items (seen c.go_out.new.state) c.go_out.new.planner out.1 out.2
    c.ask_waiting.new.planner (c.ask_waiting.ensures.stopped e)

pub ask_waiting-requires-clause-bounded : goal.ask_waiting-requires-clause-bounded
ask_waiting-requires-clause-bounded g c =
    let out = c.in_ok-go_out.ensures.out in
    let same = refills-goes (right_steps g.P.Planner.rules c.args.machine.now) c.args.machine.now (seen c.args.state.now) c.in-Ok.id.0 c.is_jam.result c.args.planner.now out.0 (seen c.go_out.new.state) c.go_out.new.planner out.2 in
    subst IsBounded (sym same) (within-bounded last_copy c.args.state.now.refills.0 (omega arith) c.requires.ready.stocked.within)
