use Rattle.std.proofs.Common.{arith, ◌∙◌}
use Rattle.tp_timelines.specs.Orders.{order_on}
use Rattle.tp_placing.specs.Boards.{suffix_after}
use Rattle.tp_placing.specs.LoadedBoard.{board_table, order_after}
use Rattle.tp_placing.proofs.SlotFacts.{length-slots}
use Rattle.tp_placing.proofs.board.Board.places.Goals as goal

pub returns : goal.returns
returns g c m st' =
    let a = c.self.inside in
    let st = rw (← c.self.view_is) at st' in
    let made = st.1.made.1 in
    let known = rw (← c.self.view_is) at c.requires in
    let l = length-slots (board_table a.plans.items (suffix_after a.steps.items)) a.held.items (order_on a.timelines.orders c.args.resource.0) (order_after m a.plans.items (suffix_after a.steps.items) c.args.resource.0) (st.1.now.orders c.args.resource.0 (omega arith)) in
    rw (← c.self.view_is) (c.len.ensures.len ∙ l)
