use Rattle.std.proofs.Common.{◌≡◌, filter, refl, sym, subst}
use Rattle.tp_schedule.specs.LivePlans.{is_live}
use Rattle.tp_placing.specs.Loaded.{CanLoad}
use Rattle.tp_placing.specs.LoadedBoard.{IsMadeFor}
use Rattle.tp_placing.specs.Commits.{IsHeldFrom}
use Rattle.tp_placing.specs.KeptBoard.{AreFit}
use Rattle.tp_placing.proofs.FitPlans.{fit-held, fit-kept, fit-points}
use Rattle.tp_placing.proofs.HeldPlans.{held-live}
use Rattle.tp_placing.proofs.LivePlans.{live-loads}
use Rattle.tp_placing.proofs.LoadedBoard.{stands-held}
use Rattle.tp_placing.proofs.board.Board.renew.Goals as goal
use Rattle.tp_placing.proofs.board.Board.renew.Goals.{Then-is_fit}

pub follow-requires-clause-can : goal.follow-requires-clause-can
follow-requires-clause-can g c = live-loads c.args.machine.now c.args.schedule.now.plans c.args.ask.now c.requires.can_ask

-- what is held is fit for the ask
module _ (g : _) (c : Then-is_fit g) where
  loads : CanLoad c.args.machine.now c.args.ask.now.now c.self.inside.plans.items
  loads = rw (← c.self.view_is) at (c.follow.ensures.can c.if-follow.true)

  live-part : filter (is_live c.args.machine.now c.args.ask.now.now) c.self.inside.plans.items ≡ filter (is_live c.args.machine.now c.args.ask.now.now) c.args.schedule.now.plans
  live-part = rw (← c.self.view_is) at (c.follow.ensures.live c.if-follow.true)

  are-fit : AreFit c.args.machine.now c.args.ask.now c.self.inside.plans.items
  are-fit = rw (← c.self.view_is) at (c.is_fit.ensures.fit c.if-is_fit.true)

  held : IsHeldFrom c.args.machine.now c.args.schedule.now.plans c.args.ask.now c.self.inside.plans.items
  held = fit-held c.args.machine.now c.args.schedule.now.plans c.args.ask.now c.self.inside.plans.items c.requires.can_ask loads live-part are-fit

pub returns-then-is_fit-clause-held : goal.returns-then-is_fit-clause-held
returns-then-is_fit-clause-held g c = held g (goal.at.returns-then-is_fit-clause-held g c).Then-is_fit

pub returns-then-is_fit-clause-stands : goal.returns-then-is_fit-clause-stands
returns-then-is_fit-clause-stands g k =
    let c = (goal.at.returns-then-is_fit-clause-stands g k).Then-is_fit in
    let l = k.follow.ensures in
    let yes = k.if-follow.true in
    let kept : IsMadeFor k.follow.new.self.made_for k.args.machine.now = subst (λ m. IsMadeFor m k.args.machine.now) (sym l.made) k.requires.made in
    let made = rw (← k.self.view_is) at kept in
    let closed = rw (← k.self.view_is) at l.closed in
    let last = rw (← k.self.view_is) at (l.last yes) in
    let past = rw (← k.self.view_is) at l.past in
    let loaded = rw (← k.self.view_is) at (l.loaded yes) in
    let settled = rw (← k.self.view_is) at (l.settled yes) in (
      k.args.ask.now,
      stands-held g.N.Network.reading _ k.args.machine.now k.args.ask.now (loads g c) (held g c).can_put.asked (fit-kept k.args.machine.now k.args.schedule.now.plans k.args.ask.now k.self.inside.plans.items k.requires.can_ask (loads g c) (live-part g c))
          (fit-points k.args.machine.now k.args.schedule.now.plans k.args.ask.now k.self.inside.plans.items k.requires.can_ask (loads g c) (live-part g c) (are-fit g c))
          made refl k.start_floor-self-inside.ensures refl closed last past loaded settled,
    )

pub returns-else-follow-clause-held : goal.returns-else-follow-clause-held
returns-else-follow-clause-held g c = subst (IsHeldFrom c.args.machine.now c.args.schedule.now.plans c.args.ask.now) (sym c.load.ensures.plans) (held-live c.args.machine.now c.args.schedule.now.plans c.args.ask.now c.requires.can_ask)
