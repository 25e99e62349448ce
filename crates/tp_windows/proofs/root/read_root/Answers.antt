use Rattle.std.proofs.Common.{ap, subst, sym, ◌∙◌, length}
use Rattle.std.specs.Prelude.{IfSome}
use Rattle.tp_base.specs.Net.{IsSolution}
use Rattle.tp_placing.specs.Edges.{is_ahead, is_behind}
use Rattle.tp_placing.specs.ReadOrders.{IsEndIn}
use Rattle.tp_windows.specs.Sides.{AreWide, HaveBoth}
use Rattle.tp_windows.proofs.RootFacts.{loaded_net, points_are}
use Rattle.tp_windows.proofs.root.read_root.Goals as goal

pub read_net-requires : goal.read_net-requires
read_net-requires g c =
    let reading = g.N.Network.reading in
    let board = c.args.board.now in
    let machine = c.args.machine.now in
    let ask = c.args.ask.now in
    let is = loaded_net reading board machine ask c.requires.stands c.requires.asked c.requires.closed in
    record { points = c.points.ensures machine c.requires.stands ∙ sym (points_are machine ask.now board.plans (reading.net board.net) is) ∙ ap (λ n. length (reading.net n).lows) (sym c.net.ensures) }

pub returns : goal.returns
returns g c ok limit =
    let reading = g.N.Network.reading in
    let board = c.args.board.now in
    let machine = c.args.machine.now in
    let ask = c.args.ask.now in
    let read = c.if-not-read_net.false in
    let points = c.points.ensures machine c.requires.stands in
    let net = c.net.ensures in
    record {
      read = record {
        is_net = loaded_net reading board machine ask c.requires.stands c.requires.asked c.requires.closed;
        wide = subst (λ n. AreWide n c.read_net.new.root.ranges) points (c.read_net.ensures.wide read);
        edges = subst (λ n. HaveBoth n (reading.net board.net).edges c.read_net.new.root.edges) points (subst (λ n. HaveBoth c.points.result (reading.net n).edges c.read_net.new.root.edges) net (c.read_net.ensures.edges read));
        rests = c.renew_rests.ensures ok;
        starts = c.renew_starts.ensures c.if-not-renew_starts.false;
        ahead = subst (λ o. IfSome o (IsEndIn (is_ahead ask) board.plans)) (sym c.read_net.ensures.ahead) c.line_ends-ahead.ensures.ahead;
        behind = subst (λ o. IfSome o (IsEndIn (is_behind ask) board.plans)) (sym c.read_net.ensures.behind) c.line_ends-ahead.ensures.behind;
      };
      between = λ y is. c.read_net.ensures.between read y (subst (λ n. IsSolution (reading.net n) y) (sym net) is.solution);
    }
