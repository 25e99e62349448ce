-- The outage, then the loop, then the settling.
use Rattle.std.proofs.Common.{rules, ◌++◌, refl, sym, ap, ◌∙◌, append_assoc, subst}
use Rattle.tp_outage_laws.proofs.OutagesLive.{live-goes}
use Rattle.tp_event_rules.specs.LiveStates.{seen}
use Rattle.tp_event_rules.specs.Outages.{outage}
use Rattle.tp_event_rules.specs.Planners.{RunsLoop, StopsInLoop, right_steps}
use Rattle.tp_replan.specs.LooseLoop.{CanLoop}
use Rattle.tp_replan.proofs.InLoop.{ends}
use Rattle.tp_replan.proofs.OutStarts.{can-begin}
use Rattle.tp_replan.proofs.StillOnWay.{loop-outage}
use Rattle.tp_replan.proofs.outage_turn.go_out.Goals as goal

pub take_out-requires-clause-can : goal.take_out-requires-clause-can
take_out-requires-clause-can g c =
    let s = seen c.args.state.now in
    (can-begin c.args.machine.now s c.requires.can).fall

pub run_loop-requires-clause-can : goal.run_loop-requires-clause-can
run_loop-requires-clause-can g c =
    let m = c.args.machine.now in
    let s = seen c.args.state.now in
    subst (CanLoop m) (sym c.in-Ok.ensures.leads.state)
    (loop-outage m c.args.event.module.0 c.args.event.jammed s (can-begin m s c.requires.can))

pub returns-in_err-run_loop-clause-stopped : goal.returns-in_err-run_loop-clause-stopped
returns-in_err-run_loop-clause-stopped g c = λ e.
    let m = c.args.machine.now in
    let first = outage m c.args.event.module.0 c.args.event.jammed (seen c.args.state.now) in
    let steps = right_steps g.P.Planner.rules m in
    let leads = c.in-Ok.ensures.leads in
    let all = c.in_err-run_loop.ensures.stopped (search rules) in (
      first.records ++ all.0,
      all.1 ∙ ap (λ ns. ns ++ all.0) leads.told ∙ append_assoc c.args.notes.now.items first.records all.0,
      record { rest = all.0; told = refl; loop = subst (λ u. StopsInLoop steps m u c.args.planner.now all.0 c.run_loop.new.planner) leads.state all.2 },
    )

pub returns-clause-out : goal.returns-clause-out
returns-clause-out g c =
    let m = c.args.machine.now in
    let first = outage m c.args.event.module.0 c.args.event.jammed (seen c.args.state.now) in
    let mid = seen c.take_out.new.state in
    let t = seen c.settle.new.state in
    let steps = right_steps g.P.Planner.rules m in
    let leads = c.in-Ok.ensures.leads in
    let settled = c.in_ok-settle.ensures in
    let all = ends steps m g.P.Planner.rules.spent (λ p plans deed plans' p' does. does.0) mid c.args.planner.now c.take_out.new.notes.items
    (seen c.run_loop.new.state) c.run_loop.new.planner c.run_loop.new.notes.items c.settle.new.state.schedule.plans c.settle.new.planner
    c.in_ok-run_loop.ensures.in_loop c.in_ok-run_loop.ensures.none settled.settled in (
      first.records ++ all.0,
      settled.told ∙ all.1 ∙ ap (λ ns. ns ++ all.0) leads.told ∙ append_assoc c.args.notes.now.items first.records all.0,
      record {
        rest = all.0;
        told = refl;
        loop = subst (λ u. RunsLoop steps m u c.args.planner.now all.0 t c.settle.new.planner) leads.state
            (subst (λ u. RunsLoop steps m mid c.args.planner.now all.0 u c.settle.new.planner) (sym settled.state) all.2);
      },
    )

pub returns-clause-kept : goal.returns-clause-kept
returns-clause-kept g c = λ copies kept.
    let m = c.args.machine.now in
    let steps = right_steps g.P.Planner.rules m in
    let out = returns-clause-out g c in
    live-goes steps m g.P.Planner.rules.spent (λ p plans deed plans' p' does. does.0) copies (seen c.args.state.now)
    c.args.event.module.0 c.args.event.jammed c.args.planner.now out.0 (seen c.settle.new.state) c.settle.new.planner out.2 kept
