use Rattle.std.proofs.Common.{◌-◌}
use Rattle.tp_windows.proofs.PathFacts.{known_goal}
use Rattle.tp_windows.proofs.RootFacts.{root_fits}
use Rattle.tp_windows.proofs.windows.Windows.walk.Goals as goal

pub seek_still-first-requires-clause-fit : goal.seek_still-first-requires-clause-fit
seek_still-first-requires-clause-fit g c = root_fits c.args.machine.now c.args.board.now.plans c.args.ask.now (g.N.Network.reading.net c.args.board.now.net) c.read.new.self.root (c.read.ensures.root c.if-not-read.false 0).read

pub close_before-requires-clause-fit : goal.close_before-requires-clause-fit
close_before-requires-clause-fit g c = root_fits c.args.machine.now c.args.board.now.plans c.args.ask.now (g.N.Network.reading.net c.args.board.now.net) c.read.new.self.root (c.read.ensures.root c.if-not-read.false 0).read

pub returns : goal.returns
returns g c =
    let machine = c.args.machine.now in
    let ask = c.args.ask.now in
    let plans = c.args.board.now.plans in
    let put = c.requires.can_put in
    record {
      none = c.walk_from.ensures plans (g.N.Network.reading.net c.args.board.now.net) (known_goal machine plans ask ask.goal put.open_goal) (c.close_before.ensures.root machine plans ask (g.N.Network.reading.net c.args.board.now.net) (c.read.ensures.root c.if-not-read.false (c.seek_still-first.result - 1))) (c.seek_still-first.ensures.orders plans (c.read.ensures.orders c.if-not-read.false)) put.plan_on.legal put.asked;
    }
