use Rattle.std.proofs.Common.{◌∙◌, All, List, refl, sym, subst}
use Rattle.tp_schedule.specs.declared.parts.Plan.{Plan}
use Rattle.tp_placing.specs.Loaded.{CanLoad}
use Rattle.tp_placing.specs.Settled.{HasLeastPoints}
use Rattle.tp_placing.specs.LoadedBoard.{IsMadeFor}
use Rattle.tp_placing.proofs.LivePlans.{live-loads}
use Rattle.tp_placing.proofs.LoadedBoard.{stands-loaded}
use Rattle.tp_placing.proofs.LoadedTicks.{points-fit}
use Rattle.tp_placing.proofs.SettledFacts.{settled-all}
use Rattle.tp_placing.proofs.WriteReady.{timed-formed}
use Rattle.tp_placing.proofs.board.Board.load.Goals as goal
use Rattle.tp_placing.proofs.board.Board.load.Goals.{After-deref-2}

pub load_live-requires-clause-can : goal.load_live-requires-clause-can
load_live-requires-clause-can g c = live-loads c.args.machine.now c.args.schedule.now.plans c.args.ask.now c.requires.can_ask

-- the plans that are loaded can be loaded
can : (g : _) (c : After-deref-2 g) → CanLoad c.args.machine.now c.args.ask.now.now c.deref.result.now
can g c =
    let live = rw (← c.self.view_is) at c.load_live.ensures.plans in
    subst (CanLoad c.args.machine.now c.args.ask.now.now) (sym (c.deref.ensures.value ∙ live)) (live-loads c.args.machine.now c.args.schedule.now.plans c.args.ask.now c.requires.can_ask)

pub are_settled-self-inside-requires-clause-fits : goal.are_settled-self-inside-requires-clause-fits
are_settled-self-inside-requires-clause-fits g c = points-fit c.args.machine.now c.args.ask.now.now c.deref.result.now (can g (goal.at.are_settled-self-inside-requires-clause-fits g c).After-deref-2)

pub are_settled-self-inside-requires-clause-formed : goal.are_settled-self-inside-requires-clause-formed
are_settled-self-inside-requires-clause-formed g c = timed-formed c.args.machine.now c.deref.result.now (can g (goal.at.are_settled-self-inside-requires-clause-formed g c).After-deref-2).loadable.legal.timed

pub returns-clause-stands : goal.returns-clause-stands
returns-clause-stands g c =
    let l = c.load_live.ensures in
    let kept : IsMadeFor c.load_live.new.self.made_for c.args.machine.now = subst (λ m. IsMadeFor m c.args.machine.now) (sym l.made) c.requires.made in
    let made = rw (← c.self.view_is) at kept in
    let plans = rw (← c.self.view_is) at l.plans in
    let closed = rw (← c.self.view_is) at l.closed in
    let last = rw (← c.self.view_is) at l.last in
    let past = rw (← c.self.view_is) at l.past in
    let loaded = rw (← c.self.view_is) at l.loaded in
    let may = subst (CanLoad c.args.machine.now c.args.ask.now.now) (sym plans) (live-loads c.args.machine.now c.args.schedule.now.plans c.args.ask.now c.requires.can_ask) in (
      c.args.ask.now,
      stands-loaded g.N.Network.reading _ c.args.machine.now c.args.schedule.now.plans c.args.ask.now c.requires.can_ask made refl c.start_floor-self-inside.ensures refl plans closed last past loaded
          (λ so. settled-all c.args.machine.now c.args.ask.now.now c.self.inside.plans.items (g.N.Network.reading.net c.self.inside.net) loaded.net may loaded.solved
          (subst (λ (ps : List Plan). All (HasLeastPoints (g.N.Network.reading.net c.self.inside.net) ps) ps) c.deref.ensures.value (c.are_settled-self-inside.ensures so))),
    )
