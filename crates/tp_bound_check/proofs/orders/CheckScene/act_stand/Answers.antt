use Rattle.tp_bound_check.proofs.PlacedFacts.{act-sound}
use Rattle.tp_bound_check.proofs.orders.CheckScene.act_stand.Goals as goal

pub returns-then-is_name_of_act-clause-sound : goal.returns-then-is_name_of_act-clause-sound
returns-then-is_name_of_act-clause-sound c = λ ranks ranked.
    let s = c.args.self.now in
    act-sound s.rows.machine.now s.plans.now c.args.branch.now c.act_before.result c.alone.result ranks _ _ _ _ c.alone.ensures c.act_before.ensures ranked
