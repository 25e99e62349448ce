use Rattle.std.proofs.Common.{◌≡◌, ◌∙◌, min, length, sym, arith}
use Rattle.tp_schedule.specs.Spots.{slot_order}
use Rattle.tp_bound_check.proofs.KeptRanks.{rank-kept}
use Rattle.tp_bound_check.proofs.orders.CheckScene.kept_rank.Goals as goal

pub returns : goal.returns
returns c =
    let s = c.args.self.now in
    let m = c.min.ensures in let f = c.from.ensures in let l = c.kept_len.ensures.len in
    let is : c.min.result ≡ min c.args.place (length (slot_order s.rows.machine.now s.plans.now c.args.resource)) = omega (arith, m, f, l) in
    is ∙ sym (rank-kept s.rows.machine.now s.plans.now c.args.resource c.args.place)
