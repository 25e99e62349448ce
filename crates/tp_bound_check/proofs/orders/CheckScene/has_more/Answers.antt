use Rattle.std.proofs.Common.{◌∙◌, ◌+◌, ◌<◌, ◌≤◌, [], ap, drop, length, map, Bool}
use Rattle.std.proofs.lemmas.Bool.{leb-true, ltb-true}
use Rattle.tp_bound_laws.specs.Places.Due.{goal as goal_due, places, stop}
use Rattle.tp_bound_check.specs.Looks.{acts_at, dues_of}
use Rattle.tp_bound_check.specs.declared.dues.Frame.TheVariants.{Acts}
use Rattle.tp_bound_check.proofs.LinkFacts.{some-at}
use Rattle.tp_bound_check.proofs.NodeFacts.{goals-first, places-first}
use Rattle.tp_bound_check.proofs.orders.CheckScene.has_more.Goals as goal

pub returns-in-Goals-clause-some : goal.returns-in-Goals-clause-some
returns-in-Goals-clause-some c = λ less.
    let s = c.args.self.now in let m = s.rows.machine.now in let gs = c.args.goals.now in
    let lt : c.in-Goals.at < length gs = ltb-true c.in-Goals.at (length gs) less in
    let here = some-at gs c.in-Goals.at lt in
    (goal_due here.0, map (λ s. goal_due s) (drop (c.in-Goals.at + 1) gs), ap (dues_of m s.plans.now s.rows.ask.now s.rows.rows.now s.limit gs) c.in-Goals.is ∙ goals-first m s.plans.now s.rows.ask.now s.rows.rows.now s.limit gs c.in-Goals.at here.0 here.1)

pub returns-in-Held-clause-some : goal.returns-in-Held-clause-some
returns-in-Held-clause-some c = λ within.
    let s = c.args.self.now in let m = s.rows.machine.now in let b = c.in-Held.branch in
    let le : c.in-Held.lo ≤ c.order_length.result = leb-true c.in-Held.lo c.order_length.result within in (
      places b c.in-Held.rule c.in-Held.lo,
      [],
      ap (dues_of m s.plans.now s.rows.ask.now s.rows.rows.now s.limit c.args.goals.now) c.in-Held.is ∙ places-first m s.plans.now s.rows.ask.now s.rows.rows.now s.limit b c.in-Held.rule c.in-Held.lo c.order_length.result c.order_length.ensures le,
    )

pub returns-then-with_stop-clause-some : goal.returns-then-with_stop-clause-some
returns-then-with_stop-clause-some c = λ _.
    let s = c.args.self.now in let m = s.rows.machine.now in let b = c.in-Acts.branch in (
      stop b,
      acts_at m s.plans.now s.rows.ask.now s.rows.rows.now s.limit b c.in-Acts.at,
      ap (dues_of m s.plans.now s.rows.ask.now s.rows.rows.now s.limit c.args.goals.now) (c.in-Acts.is ∙ ap (λ (w : Bool). Acts b w c.in-Acts.at) c.if-with_stop.true),
    )
