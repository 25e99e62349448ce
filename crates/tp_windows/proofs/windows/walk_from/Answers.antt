use Rattle.std.proofs.Common.{arith, subst, ◌+◌, ◌-◌}
use Rattle.std.specs.Prelude.{◌≡◌}
use Rattle.tp_schedule.specs.Answers.{NoneBefore}
use Rattle.tp_windows.proofs.Waiting.{halves_end}
use Rattle.tp_windows.proofs.windows.walk_from.Goals as goal

pub halves-preserved : goal.halves-preserved
halves-preserved c =
    let less = c.in-Next.ensures.sooner.1 in
    let before = c.halves.invariant.sooner in record {
      some = c.in-Next.ensures.sooner.0;
      sooner = omega (arith, less, before);
      orders = λ plans have. c.turn.ensures.orders plans (c.halves.invariant.orders plans have);
      left = λ plans net known root have.
          c.in-Next.ensures.turned plans net (c.args.end - 1) (omega (arith, before)) known root (c.halves.invariant.orders plans have) (c.halves.invariant.left plans net known root have);
    }

pub returns-in-Over : goal.returns-in-Over
returns-in-Over c plans net known root have legal asked =
    let machine = c.args.machine.now in
    let ask = c.args.ask.now in
    let some = c.in-Over.ensures.sooner.0 in
    let before = c.halves.invariant.sooner in
    let left = c.in-Over.ensures.turned plans net (c.args.end - 1) (omega (arith, before)) known root (c.halves.invariant.orders plans have) (c.halves.invariant.left plans net known root have) in
    let same : c.in-Over.sooner - 1 + 1 ≡ c.in-Over.sooner = omega (arith, some) in
    subst (NoneBefore machine plans ask) same (halves_end machine plans ask (c.in-Over.sooner - 1) legal asked left)
