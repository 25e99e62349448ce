-- The order of a resource is that of its slots, and the number at a place is that of the slot there.
use Rattle.std.proofs.Common.{arith, ◌<◌, length, slice_get, ap, ◌∙◌}
use Rattle.tp_machine.specs.declared.machine.Machine.{Machine}
use Rattle.tp_timelines.specs.Orders.{order_on}
use Rattle.tp_placing.specs.Boards.{suffix_after}
use Rattle.tp_placing.specs.Edges.{held_of}
use Rattle.tp_placing.specs.LoadedBoard.{AreSlots, Stands, board_table, order_after}
use Rattle.tp_placing.proofs.LineEnds.{read-at}
use Rattle.tp_placing.proofs.NeighbourFacts.{slots-known}
use Rattle.tp_placing.proofs.SlotFacts.{hold-of, length-slots, slots-at}
use Rattle.tp_base.proofs.SliceFacts.{All-at}
use Rattle.tp_placing.proofs.board.Board.hold_at.Goals as goal
use Rattle.tp_placing.proofs.board.Board.hold_at.Goals.{After-self}

-- the numbers of the resource's order are its slots
slots-of : (g : _) (c : After-self g) (m : Machine) → Stands g.N.Network.reading c.args.self.now m
    → AreSlots (board_table c.self.inside.plans.items (suffix_after c.self.inside.steps.items)) c.self.inside.held.items (order_on c.self.inside.timelines.orders c.args.resource.0)
    (order_after m c.self.inside.plans.items (suffix_after c.self.inside.steps.items) c.args.resource.0)
slots-of g c m st' =
    let st = rw (← c.self.view_is) at st' in
    let made = st.1.made.1 in
    let known = rw (← c.self.view_is) at c.requires.known in
    st.1.now.orders c.args.resource.0 (omega arith)

within : (g : _) (c : After-self g) → c.args.place < length (order_on c.self.inside.timelines.orders c.args.resource.0)
within g c =
    let a = c.self.inside in
    let m = c.requires.stands.0 in
    let st = c.requires.stands.1 in
    let there = rw (← c.self.view_is) at c.requires.there in
    let place = there m (rw (← c.self.view_is) at st) in
    let l = length-slots (board_table a.plans.items (suffix_after a.steps.items)) a.held.items (order_on a.timelines.orders c.args.resource.0) (order_after m a.plans.items (suffix_after a.steps.items) c.args.resource.0) (slots-of g c m st) in
    omega arith

pub at-requires-clause-there : goal.at-requires-clause-there
at-requires-clause-there g c = within g (goal.at.at-requires-clause-there g c).After-self

pub index-requires : goal.index-requires
index-requires g c =
    let k = (goal.at.index-requires g c).After-self in
    let a = c.self.inside in
    let m = c.requires.stands.0 in
    let ids = order_on a.timelines.orders c.args.resource.0 in
    let o = a.held.ok.0 in
    let few = All-at (λ id. id < length a.held.items) ids c.args.place c.at.result
    (slots-known (board_table a.plans.items (suffix_after a.steps.items)) a.held.items ids (order_after m a.plans.items (suffix_after a.steps.items) c.args.resource.0) (slots-of g k m c.requires.stands.1)) c.at.ensures in
    omega arith

pub returns : goal.returns
returns g c m st' s at' =
    let k = (goal.at.returns g c).After-self in
    let a = c.self.inside in
    let at = rw (← c.self.view_is) at at' in
    let ids = order_on a.timelines.orders c.args.resource.0 in
    let table = board_table a.plans.items (suffix_after a.steps.items) in
    let slots = order_after m a.plans.items (suffix_after a.steps.items) c.args.resource.0 in
    let known = All-at (λ id. id < length a.held.items) ids c.args.place c.at.result (slots-known table a.held.items ids slots (slots-of g k m st')) c.at.ensures in
    rw (← c.self.view_is) (hold-of table a.held.items (held_of a.held.items (slice_get ids c.args.place)) (slice_get slots c.args.place) c.index.result.now s
    (slots-at table a.held.items ids slots c.args.place (slots-of g k m st'))
    (ap (held_of a.held.items) c.at.ensures ∙ read-at a.held.items c.at.result c.index.result.now known c.index.ensures) at)
