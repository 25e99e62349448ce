use Rattle.std.proofs.Common.{arith, ap, ◌∙◌, sym, subst, ◌≡◌, [], ◌∷◌, All, length}
use Rattle.std.proofs.lemmas.List.{length-append, length-set}
use Rattle.tp_base.specs.Grows.{IsKnown}
use Rattle.tp_base.specs.Net.{HasNoSolution, with_edges}
use Rattle.tp_timelines.specs.Orders.{order_on}
use Rattle.tp_placing.specs.Boards.{BoardValue}
use Rattle.tp_placing.specs.Inside.{board_of}
use Rattle.tp_placing.proofs.BoardFacts.{board-step}
use Rattle.tp_placing.proofs.CandidateFacts.{AreNeighbours, at-around, caused-around, causes-are, edges-are, edges-fit, held-fit, late-around, orders-fit, past-now, shown-around, stands-now, steps-fit, still, suffix-now, times-now}
use Rattle.tp_placing.proofs.NewestFacts.{IsNext, known}
use Rattle.tp_placing.proofs.NextHold.{can-here, causes_here, edges_here, fits-here, numbers-here, two-here}
use Rattle.tp_placing.proofs.board.Board.place.Goals as goal
use Rattle.tp_placing.proofs.board.Board.place.Goals.{After-deref, After-deref-2}

-- the board as its fields show it
abbrev board : (g : _) → After-deref g → BoardValue g.row.N.Denot
board g c =
    let a = c.self.inside in
    board_of a.net a.timelines a.held.items a.plans.items a.firsts.items a.last a.floor a.horizon a.ask a.steps.items a.marks.items a.made_for a.causes a.limit a.settled

is-next : (g : _) (c : After-deref g) → IsNext g.N.Network.reading (board g c) c.args.machine.now c.args.hold c.args.place c.next_hold-next.result
is-next g c =
    let stands = rw (← c.self.view_is) at c.requires.stands in
    record {
      ask = stands.0;
      stands = stands.1;
      next = rw (← c.self.view_is) at c.requires.next;
      is = rw (← c.self.view_is) at c.next_hold-next.ensures.is;
      resources = c.self.invariant.capacity.resources;
    }

pub neighbours_of-near-requires-clause-known : goal.neighbours_of-near-requires-clause-known
neighbours_of-near-requires-clause-known g k = known (is-next g (goal.at.neighbours_of-near-requires-clause-known g k).After-deref)

pub neighbours_of-near-requires-clause-numbers : goal.neighbours_of-near-requires-clause-numbers
neighbours_of-near-requires-clause-numbers g k = rw k.deref.ensures.value (numbers-here (is-next g (goal.at.neighbours_of-near-requires-clause-numbers g k).After-deref))

-- the holds that are read are those next to the place
near-is : (g : _) (d : After-deref-2 g) → AreNeighbours d.self.inside.held.items (order_on d.self.inside.timelines.orders d.next_hold-next.result.hold.rule.resource.0) d.args.place d.neighbours_of-near.result
near-is g d =
    let order = order_on d.self.inside.timelines.orders d.next_hold-next.result.hold.rule.resource.0 in
    subst (λ hs. AreNeighbours hs order d.args.place d.neighbours_of-near.result) d.deref.ensures.value (record { before = d.neighbours_of-near.ensures.before; behind = d.neighbours_of-near.ensures.behind })

-- the causes that are written are those of the edges to them
causes-made : (g : _) (d : After-deref-2 g) → d.note_neighbours.new.causes ≡ causes_here (is-next g (goal.at.require_all-requires-clause-known g d).After-deref)
causes-made g d = d.note_neighbours.ensures ∙ causes-are (is-next g (goal.at.require_all-requires-clause-known g d).After-deref) (near-is g d)

-- the edges that are made are those around the place
edges-made : (g : _) (d : After-deref-2 g) → d.deref-2.result.now ≡ edges_here (is-next g (goal.at.require_all-requires-clause-known g d).After-deref)
edges-made g d = d.deref-2.ensures.value ∙ d.neighbour_edges.ensures.edges ∙ edges-are (is-next g (goal.at.require_all-requires-clause-known g d).After-deref) (near-is g d)

pub require_all-requires-clause-known : goal.require_all-requires-clause-known
require_all-requires-clause-known g k =
    let c = (goal.at.require_all-requires-clause-known g k).After-deref in
    subst (All (IsKnown (length (g.N.Network.reading.net c.self.inside.net).lows))) (sym (edges-made g k)) (can-here (is-next g c))

pub require_all-requires-clause-spare : goal.require_all-requires-clause-spare
require_all-requires-clause-spare g k =
    let c = (goal.at.require_all-requires-clause-spare g k).After-deref in
    let few = two-here (is-next g c) in
    let e = ap length (edges-made g k) in
    let room = edges-fit (is-next g c) (g.N.Network.reading.max_edges c.self.inside.net) c.self.invariant.capacity.steps_few c.self.invariant.capacity.edges in
    omega arith

pub returns-in-Err-clause-late : goal.returns-in-Err-clause-late
returns-in-Err-clause-late g k =
    let c = (goal.at.returns-in-Err-clause-late g k).After-deref in
    let d = (goal.at.returns-in-Err-clause-late g k).After-deref-2 in
    let e = edges-made g d in
    rw (← c.self.view_is) (late-around (is-next g c) c.steps_add_edges.ensures.place c.solutions_are_ticks.ensures.late
    (subst (λ es. HasNoSolution (with_edges (g.N.Network.reading.net c.self.inside.net) es)) e k.in-Err.ensures.late))

pub returns-in-Err-clause-shown : goal.returns-in-Err-clause-shown
returns-in-Err-clause-shown g k =
    let c = (goal.at.returns-in-Err-clause-shown g k).After-deref in
    let d = (goal.at.returns-in-Err-clause-shown g k).After-deref-2 in
    let e = edges-made g d in
    rw (← c.self.view_is) (shown-around (is-next g c) g.N.Network.refutes k.require_all.new.self k.note_neighbours.new.causes c.steps_add_edges.ensures.place c.gaps_are_hops.ensures.place (causes-made g d)
    (subst (λ es. g.N.Network.refutes k.require_all.new.self (with_edges (g.N.Network.reading.net c.self.inside.net) es)) e k.in-Err.ensures.refused))

pub returns-in-Err-clause-stands : goal.returns-in-Err-clause-stands
returns-in-Err-clause-stands g k =
    let c = (goal.at.returns-in-Err-clause-stands g k).After-deref in
    let d = (goal.at.returns-in-Err-clause-stands g k).After-deref-2 in
    still (is-next g c) k.require_all.new.self k.note_neighbours.new.causes (causes-made g d) k.in-Err.ensures.kept k.in-Err.ensures.past

pub insert_hold-requires-clause-known : goal.insert_hold-requires-clause-known
insert_hold-requires-clause-known g k = known (is-next g (goal.at.insert_hold-requires-clause-known g k).After-deref)

pub insert_hold-requires-clause-within : goal.insert_hold-requires-clause-within
insert_hold-requires-clause-within g k = fits-here (is-next g (goal.at.insert_hold-requires-clause-within g k).After-deref)

pub insert_hold-requires-clause-capacity : goal.insert_hold-requires-clause-capacity
insert_hold-requires-clause-capacity g k =
    let few = orders-fit (is-next g (goal.at.insert_hold-requires-clause-capacity g k).After-deref) in
    let most = k.self.invariant.capacity.holds in
    omega arith

pub insert_hold-requires-clause-few : goal.insert_hold-requires-clause-few
insert_hold-requires-clause-few g k =
    let few = held-fit (is-next g (goal.at.insert_hold-requires-clause-few g k).After-deref) in
    let l = k.self.inside.held.ok.0 in
    omega arith

pub insert_hold-requires-clause-held_space : goal.insert_hold-requires-clause-held_space
insert_hold-requires-clause-held_space g k =
    let few = held-fit (is-next g (goal.at.insert_hold-requires-clause-held_space g k).After-deref) in
    let l = k.self.inside.held.ok.0 in
    let space = k.self.invariant.capacity.held_space in
    omega arith

pub insert_hold-requires-clause-step_space : goal.insert_hold-requires-clause-step_space
insert_hold-requires-clause-step_space g k =
    let few = steps-fit (is-next g (goal.at.insert_hold-requires-clause-step_space g k).After-deref) in
    let l = k.self.inside.steps.ok.0 in
    let space = k.self.invariant.capacity.steps_space in
    omega arith

pub invariant_of-self-2 : goal.invariant_of-self-2
invariant_of-self-2 g k =
    let a = k.self.inside in
    let c = (goal.at.invariant_of-self-2 g k).After-deref in
    let p = k.insert_hold.ensures.inserted in
    let few = steps-fit (is-next g c) in
    let holds = held-fit (is-next g c) in
    let steps_len = ap length p.steps ∙ length-append a.steps.items (_ ∷ []) in
    let held_len = ap length p.held ∙ length-append a.held.items (_ ∷ []) in
    let lines_len = ap length p.orders ∙ length-set a.timelines.orders _ _ in
    let steps_space = k.insert_hold.ensures.step_space in
    let held_space = k.insert_hold.ensures.held_space in
    let made_space = k.neighbour_edges.ensures.capacity in
    board-step _ _ _ _ _ _ _ _ _ _ _ _ _ _ k.self.invariant _ _ _ _ k.insert_hold.new.timelines k.insert_hold.new.held k.insert_hold.new.steps k.neighbour_edges.new.edges
    (ap length k.in-Ok.ensures.past) k.in-Ok.ensures.same_size.marks k.in-Ok.ensures.same_size.points k.in-Ok.ensures.same_size.edges (ap length p.past) p.max_marks lines_len p.hold_capacity
    (omega arith) (omega arith) (omega arith) (omega arith) (omega arith) (omega arith) (omega arith)

pub returns-clause-suffix : goal.returns-clause-suffix
returns-clause-suffix g k =
    let c = (goal.at.returns-clause-suffix g k).After-deref in
    rw (← c.self.view_is) (suffix-now (is-next g c) k.require_all.new.self k.note_neighbours.new.causes k.insert_hold.new.timelines k.insert_hold.new.held.items k.insert_hold.new.steps.items k.insert_hold.ensures.inserted)

pub returns-clause-past : goal.returns-clause-past
returns-clause-past g k =
    let c = (goal.at.returns-clause-past g k).After-deref in
    rw (← c.self.view_is) (past-now (is-next g c) k.require_all.new.self k.note_neighbours.new.causes k.insert_hold.new.timelines k.insert_hold.new.held.items k.insert_hold.new.steps.items k.insert_hold.ensures.inserted
    k.self.invariant.marked.at_marks k.in-Ok.ensures.past)

pub returns-clause-times : goal.returns-clause-times
returns-clause-times g k =
    let c = (goal.at.returns-clause-times g k).After-deref in
    let d = (goal.at.returns-clause-times g k).After-deref-2 in
    let added = k.in-Ok.ensures.added ∙ ap (with_edges (g.N.Network.reading.net c.self.inside.net)) (edges-made g d) in
    let at = at-around (is-next g c) k.require_all.new.self k.note_neighbours.new.causes k.insert_hold.new.timelines k.insert_hold.new.held.items k.insert_hold.new.steps.items k.insert_hold.ensures.inserted c.steps_add_edges.ensures.place added k.in-Ok.ensures.solved in
    times-now (is-next g c) k.require_all.new.self k.note_neighbours.new.causes k.insert_hold.new.timelines k.insert_hold.new.held.items k.insert_hold.new.steps.items k.insert_hold.ensures.inserted c.solutions_are_ticks.ensures.board at

pub returns-clause-stands : goal.returns-clause-stands
returns-clause-stands g k =
    let c = (goal.at.returns-clause-stands g k).After-deref in
    let d = (goal.at.returns-clause-stands g k).After-deref-2 in
    let added = k.in-Ok.ensures.added ∙ ap (with_edges (g.N.Network.reading.net c.self.inside.net)) (edges-made g d) in
    let at = at-around (is-next g c) k.require_all.new.self k.note_neighbours.new.causes k.insert_hold.new.timelines k.insert_hold.new.held.items k.insert_hold.new.steps.items k.insert_hold.ensures.inserted c.steps_add_edges.ensures.place added k.in-Ok.ensures.solved in
    let caused = caused-around (is-next g c) k.require_all.new.self k.note_neighbours.new.causes k.insert_hold.new.timelines k.insert_hold.new.held.items k.insert_hold.new.steps.items k.insert_hold.ensures.inserted c.gaps_are_hops.ensures.place added (causes-made g d) in
    stands-now (is-next g c) k.require_all.new.self k.note_neighbours.new.causes k.insert_hold.new.timelines k.insert_hold.new.held.items k.insert_hold.new.steps.items k.insert_hold.ensures.inserted
    k.self.invariant.marked.at_marks k.in-Ok.ensures.past (causes-made g d) at caused
