use Rattle.std.proofs.Common.{◌∙◌, sym}
use Rattle.tp_machine.specs.Modes.{gap_at}
use Rattle.tp_schedule.specs.Spots.{slot_order}
use Rattle.tp_bound_check.proofs.PlacedFacts.{mixed-nothing}
use Rattle.tp_bound_check.proofs.orders.CheckScene.placed_gap.Goals as goal

pub returns-in-None : goal.returns-in-None
returns-in-None c =
    let s = c.args.self.now in let m = s.rows.machine.now in let b = c.args.ends.now.before in let a = c.args.ends.now.after in
    sym (c.in-None.ensures.gap (gap_at m c.args.resource) b a c.requires.mixed ∙ mixed-nothing m s.plans.now (gap_at m c.args.resource) b a (slot_order m s.plans.now c.args.resource))
