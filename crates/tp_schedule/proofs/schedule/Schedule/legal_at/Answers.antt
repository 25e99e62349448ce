-- Both tests at once.
use Rattle.std.proofs.Common.{◌↔◌, ◌∙◌, IsTrue, ap, subst}
use Rattle.tp_schedule.specs.Legality.{IsSpreadAt}
use Rattle.tp_schedule.proofs.schedule.Schedule.legal_at.Goals as goal

pub returns-then-once : goal.returns-then-once
returns-then-once c = (λ t. (c.is_held_once-once.ensures.0 c.if-once.true, spread.0 t), λ both. spread.1 both.1) where
  spread : IsTrue c.is_spread-spread.result ↔ IsSpreadAt c.args.machine.now c.args.self.now.plans c.args.resource.0 c.args.at
  spread = subst (λ plans. IsTrue c.is_spread-spread.result ↔ IsSpreadAt c.args.machine.now plans c.args.resource.0 c.args.at) (c.as_slice.ensures.value ∙ ap (λ v. v.plans) c.self.view_is) c.is_spread-spread.ensures
