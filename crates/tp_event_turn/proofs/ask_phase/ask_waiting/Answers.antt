-- Each turn leads on, with fewer copies left, until no line of those left is open.
use Rattle.std.proofs.Common.{rules, slice_get, refl, sym, ◌∙◌, subst, arith}
use Rattle.tp_jobs.specs.Backlogs.{tray_of}
use Rattle.tp_event_rules.specs.LiveStates.{seen}
use Rattle.tp_event_rules.specs.Planners.{right_steps}
use Rattle.tp_event_turn.proofs.AskFacts.{tray-is}
use Rattle.tp_event_turn.proofs.MarkFacts.{closed-planned, closed-refused, tray-below}
use Rattle.tp_event_turn.proofs.PhaseFacts.{IsStep, begins, ended, step, stopped}
use Rattle.tp_event_turn.proofs.ask_phase.ask_waiting.Given.{Over}
use Rattle.tp_event_turn.proofs.ask_phase.ask_waiting.Goals as goal
use Rattle.tp_event_turn.proofs.ask_phase.ask_waiting.Goals.{After-add, Else-not-planned}
use Rattle.tp_stock.specs.Stock.{IsBounded}
use Rattle.tp_stock.specs.declared.refills.Refills.{Refills}

pub asks-init : goal.asks-init
asks-init g c = record {
  under_way = begins (right_steps g.P.Planner.rules c.args.machine.now) c.args.machine.now (seen c.args.state.now)
      c.args.planner.now c.args.notes.now.items c.none-blocked.result c.none-blocked.ensures c.requires.can;
  kept = tt;
  counted = omega arith;
  serves = c.requires.served;
  marked = refl;
  refills = refl;
  lasts = refl;
}

pub add-requires : goal.add-requires
add-requires g c =
    omega (arith, tray-below c.args.machine.now c.asks.state.lines.jobs c.in-Some.copy.job c.tray_of-tray.result c.machine_law.ensures.trays c.machine_law.ensures.locations.1 c.asks.invariant.under_way.can.jobs.trays c.tray_of-tray.ensures)

-- the turn of a copy that is not planned
refused : (g : Over) (c : After-add g)
    → IsStep (right_steps g.P.Planner.rules c.args.machine.now) c.args.machine.now (seen c.args.state.now)
    c.args.planner.now c.args.notes.now.items (seen c.asks.state) c.asks.planner c.asks.notes.items c.asks.last c.asks.blocked
    c.asks.invariant.under_way c.in-Some.copy (sym c.in-Some.ensures.next) (g.P.Planner.rules.spent c.asks.planner) (λ plans deed plans' p' does. does.0)
    c.in-Some.copy (seen c.try_copy.new.state) c.try_copy.new.planner c.try_copy.new.notes.items c.add.new.self
refused g c =
    step (right_steps g.P.Planner.rules c.args.machine.now) c.args.machine.now (seen c.args.state.now)
    c.args.planner.now c.args.notes.now.items (seen c.asks.state) c.asks.planner c.asks.notes.items c.asks.last c.asks.blocked
    c.asks.invariant.under_way c.in-Some.copy (sym c.in-Some.ensures.next) (g.P.Planner.rules.spent c.asks.planner) (λ plans deed plans' p' does. does.0)
    (seen c.try_copy.new.state) c.try_copy.new.planner c.try_copy.new.notes.items c.in_ok-planned.planned c.add.new.self c.in_ok-planned.ensures.tried
    (closed-refused c.in_ok-planned.planned (tray_of c.asks.state.lines.jobs c.in-Some.copy) c.tray_of-tray.result c.asks.blocked c.add.new.self c.if-not-planned.true
    (tray-is (slice_get c.asks.state.lines.jobs c.in-Some.copy.job) c.tray_of-tray.result c.tray_of-tray.ensures) c.add.ensures)

-- the turn of a copy that is planned
planned : (g : Over) (c : Else-not-planned g)
    → IsStep (right_steps g.P.Planner.rules c.args.machine.now) c.args.machine.now (seen c.args.state.now)
    c.args.planner.now c.args.notes.now.items (seen c.asks.state) c.asks.planner c.asks.notes.items c.asks.last c.asks.blocked
    c.asks.invariant.under_way c.in-Some.copy (sym c.in-Some.ensures.next) (g.P.Planner.rules.spent c.asks.planner) (λ plans deed plans' p' does. does.0)
    c.in-Some.copy (seen c.try_copy.new.state) c.try_copy.new.planner c.try_copy.new.notes.items c.asks.blocked
planned g c =
    step (right_steps g.P.Planner.rules c.args.machine.now) c.args.machine.now (seen c.args.state.now)
    c.args.planner.now c.args.notes.now.items (seen c.asks.state) c.asks.planner c.asks.notes.items c.asks.last c.asks.blocked
    c.asks.invariant.under_way c.in-Some.copy (sym c.in-Some.ensures.next) (g.P.Planner.rules.spent c.asks.planner) (λ plans deed plans' p' does. does.0)
    (seen c.try_copy.new.state) c.try_copy.new.planner c.try_copy.new.notes.items c.in_ok-planned.planned c.asks.blocked c.in_ok-planned.ensures.tried
    (closed-planned c.in_ok-planned.planned (tray_of c.asks.state.lines.jobs c.in-Some.copy) c.asks.blocked c.if-not-planned.false)

pub asks-preserved-then-not-planned : goal.asks-preserved-then-not-planned
asks-preserved-then-not-planned g c = record {
  under_way = (refused g c).on;
  kept = c.in_ok-planned.ensures.left;
  counted = omega (arith, c.asks.invariant.counted, c.in_ok-planned.ensures.keeps.counted);
  serves = c.in_ok-planned.ensures.keeps.still_serves;
  marked = c.in_ok-planned.ensures.marked ∙ c.asks.invariant.marked;
  refills = c.in_ok-planned.ensures.refills ∙ c.asks.invariant.refills;
  lasts = c.in_ok-planned.ensures.keeps.lasts ∙ c.asks.invariant.lasts;
}

pub asks-smaller-then-not-planned : goal.asks-smaller-then-not-planned
asks-smaller-then-not-planned g c = (refused g c).fewer

pub asks-preserved : goal.asks-preserved
asks-preserved g c = record {
  under_way = (planned g c).on;
  kept = c.in_ok-planned.ensures.left;
  counted = omega (arith, c.asks.invariant.counted, c.in_ok-planned.ensures.keeps.counted);
  serves = c.in_ok-planned.ensures.keeps.still_serves;
  marked = c.in_ok-planned.ensures.marked ∙ c.asks.invariant.marked;
  refills = c.in_ok-planned.ensures.refills ∙ c.asks.invariant.refills;
  lasts = c.in_ok-planned.ensures.keeps.lasts ∙ c.asks.invariant.lasts;
}

pub asks-smaller : goal.asks-smaller
asks-smaller g c = (planned g c).fewer

pub returns-clause-asks : goal.returns-clause-asks
returns-clause-asks g c =
    ended (right_steps g.P.Planner.rules c.args.machine.now) c.args.machine.now (seen c.args.state.now)
    c.args.planner.now c.args.notes.now.items (seen c.asks.state) c.asks.planner c.asks.notes.items c.asks.last c.asks.blocked
    c.asks.invariant.under_way (sym c.in_default.ensures.next)

pub returns-in_err-planned-clause-stopped : goal.returns-in_err-planned-clause-stopped
returns-in_err-planned-clause-stopped g c e =
    stopped (right_steps g.P.Planner.rules c.args.machine.now) c.args.machine.now (seen c.args.state.now)
    c.args.planner.now c.args.notes.now.items (seen c.asks.state) c.asks.planner c.asks.notes.items c.asks.last c.asks.blocked
    c.asks.invariant.under_way c.in-Some.copy (sym c.in-Some.ensures.next) (g.P.Planner.rules.spent c.asks.planner) (λ plans deed plans' p' does. does.0)
    c.try_copy.new.planner c.try_copy.new.notes.items (c.in_err-planned.ensures.stopped (search rules))

pub try_copy-requires-clause-bounded : goal.try_copy-requires-clause-bounded
try_copy-requires-clause-bounded g c = subst (λ (r : Refills). IsBounded r.0) (sym c.asks.invariant.refills) c.requires.bounded
