use Rattle.std.proofs.Common.{refl, false, true}
use Rattle.tp_bound_laws.specs.Places.Due.{stop}
use Rattle.tp_bound_check.specs.Looks.{acts_at}
use Rattle.tp_bound_check.specs.declared.dues.Frame.TheVariants.{Acts}
use Rattle.tp_bound_check.proofs.FrameFacts.{deeper-on}
use Rattle.tp_bound_check.proofs.NodeFacts.{passed-is}
use Rattle.tp_bound_check.specs.Ranks.{next_number}
use Rattle.tp_bound_check.proofs.WayFacts.{passing-below}
use Rattle.tp_bound_check.proofs.orders.CheckScene.pass_stop.Goals as goal

pub returns-in-Ok-clause-passing : goal.returns-in-Ok-clause-passing
returns-in-Ok-clause-passing c = λ goals.
    let s = c.args.self.now in let m = s.rows.machine.now in let b = c.args.branch in
    passed-is m s.plans.now s.rows.ask.now s.rows.rows.now s.limit goals (Acts b true c.args.from) (Acts b false c.args.from) c.in-Ok.below c.args.node.now (stop b) (acts_at m s.plans.now s.rows.ask.now s.rows.rows.now s.limit b c.args.from)
    refl (c.in-Ok.ensures.ok goals (stop b) c.stop_stand-stand.ensures.stand) refl

pub returns-in-Err-clause-passing : goal.returns-in-Err-clause-passing
returns-in-Err-clause-passing c = λ goals.
    let s = c.args.self.now in let m = s.rows.machine.now in let b = c.args.branch in
    (stop b, acts_at m s.plans.now s.rows.ask.now s.rows.rows.now s.limit b c.args.from, refl, c.in-Err.ensures.fault (stop b) c.stop_stand-stand.ensures.stand)

pub returns-in-Ok-clause-sound : goal.returns-in-Ok-clause-sound
returns-in-Ok-clause-sound c = ((c.requires.shallow, c.requires.from), c.in-Ok.ensures.sound, λ n on. (on, c.in-Ok.ensures.depth n (deeper-on c.stop_stand-stand.result c.args.branch.depth n c.stop_stand-stand.ensures.deeper on)))

pub look-requires-clause-sound : goal.look-requires-clause-sound
look-requires-clause-sound c = c.stop_stand-stand.ensures.sound c.args.ranks.now c.requires.ranked

pub returns-in-Ok-clause-ranked : goal.returns-in-Ok-clause-ranked
returns-in-Ok-clause-ranked c =
    let s = c.args.self.now in let ranks = c.args.ranks.now in
    let below = passing-below s.rows.machine.now s.plans.now c.stop_stand-stand.result c.in-Ok.below ranks (next_number c.args.branch.x.choices) (c.stop_stand-stand.ensures.sound ranks c.requires.ranked) c.stop_stand-stand.ensures.grows c.in-Ok.ensures.below in
    (c.requires.ranked, below.0, λ _. refl, below.1)
