use Rattle.std.proofs.Common.{◌+◌, refl, sym, ap, arith, map, drop}
use Rattle.tp_bound_laws.specs.Places.Due.{goal as goal_due}
use Rattle.tp_bound_check.specs.declared.dues.Frame.TheVariants.{Goals}
use Rattle.tp_bound_check.proofs.FrameFacts.{first-on}
use Rattle.tp_bound_check.proofs.LinkFacts.{within}
use Rattle.tp_bound_check.proofs.NodeFacts.{drop-none, goals-first, passed-is}
use Rattle.tp_bound_check.proofs.WayFacts.{any-grows, passing-below}
use Rattle.tp_bound_check.proofs.orders.CheckScene.pass_goal.Goals as goal

pub returns-in-Ok-clause-passing : goal.returns-in-Ok-clause-passing
returns-in-Ok-clause-passing c =
    let s = c.args.self.now in let m = s.rows.machine.now in let gs = c.args.goals.now in let d = goal_due c.in-Some.state in
    let first = goals-first m s.plans.now s.rows.ask.now s.rows.rows.now s.limit gs c.args.at c.in-Some.state (sym c.in-Some.ensures) in
    passed-is m s.plans.now s.rows.ask.now s.rows.rows.now s.limit gs (Goals c.args.at) (Goals (c.args.at + 1)) c.in-Ok.below c.args.node.now d (map (λ s. goal_due s) (drop (c.args.at + 1) gs)) first (c.in-Ok.ensures.ok gs d c.goal_stand-stand.ensures.stand) refl

pub returns-in-Err-clause-passing : goal.returns-in-Err-clause-passing
returns-in-Err-clause-passing c =
    let s = c.args.self.now in let m = s.rows.machine.now in let gs = c.args.goals.now in let d = goal_due c.in-Some.state in
    let first = goals-first m s.plans.now s.rows.ask.now s.rows.rows.now s.limit gs c.args.at c.in-Some.state (sym c.in-Some.ensures) in
    (d, map (λ s. goal_due s) (drop (c.args.at + 1) gs), first, c.in-Err.ensures.fault d c.goal_stand-stand.ensures.stand)

pub returns-in-Ok-clause-sound : goal.returns-in-Ok-clause-sound
returns-in-Ok-clause-sound c = (tt, c.in-Ok.ensures.sound, λ n on. (on, c.in-Ok.ensures.depth n (first-on c.goal_stand-stand.result n on)))

pub overflow_add-result : goal.overflow_add-result
overflow_add-result c = let w = within c.args.goals.now c.args.at c.in-Some.state (sym c.in-Some.ensures) in omega (arith, w)

pub returns-in-None-clause-passing : goal.returns-in-None-clause-passing
returns-in-None-clause-passing c = ap (map (λ s. goal_due s)) (drop-none c.args.goals.now c.args.at (sym c.in-None.ensures))

pub look-requires-clause-sound : goal.look-requires-clause-sound
look-requires-clause-sound c = c.goal_stand-stand.ensures.sound c.args.ranks.now

pub returns-in-Ok-clause-ranked : goal.returns-in-Ok-clause-ranked
returns-in-Ok-clause-ranked c =
    let s = c.args.self.now in let ranks = c.args.ranks.now in
    let below = passing-below s.rows.machine.now s.plans.now c.goal_stand-stand.result c.in-Ok.below ranks 0 (c.goal_stand-stand.ensures.sound ranks) (any-grows c.goal_stand-stand.result) c.in-Ok.ensures.below in
    (tt, below.0, λ _. refl, below.1)
