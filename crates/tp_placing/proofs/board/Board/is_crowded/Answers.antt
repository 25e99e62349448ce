use Rattle.std.proofs.Common.{◌≡◌, ◌<◌, arith, ap, refl, sym, subst, ◌∙◌, length, All, Some}
use Rattle.std.specs.Prelude.{◌≤ℤ◌}
use Rattle.std.proofs.lemmas.Option.{slice_get_read}
use Rattle.tp_base.proofs.SliceFacts.{All-at}
use Rattle.tp_timelines.specs.Orders.{order_on}
use Rattle.tp_placing.specs.Boards.{BoardValue}
use Rattle.tp_placing.specs.PushedHolds.{begin_by}
use Rattle.tp_placing.specs.Edges.{held_behind, held_of}
use Rattle.tp_placing.specs.Inside.{board_of}
use Rattle.tp_placing.proofs.CrowdFacts.{small-stays}
use Rattle.tp_placing.proofs.CrowdHere.{among-here, among-new, back-crowded, crowded-here, firsts-here, last-known}
use Rattle.tp_placing.proofs.NewestFacts.{IsNext, known}
use Rattle.tp_placing.proofs.NextHold.{numbers-here}
use Rattle.tp_placing.proofs.board.Board.is_crowded.Goals as goal
use Rattle.tp_placing.proofs.board.Board.is_crowded.Goals.{After-index, After-next_hold-next}

-- the board as its fields show it
abbrev board : (g : _) → After-next_hold-next g → BoardValue g.row.N.Denot
board g c =
    let a = c.self.inside in
    board_of a.net a.timelines a.held.items a.plans.items a.firsts.items a.last a.floor a.horizon a.ask a.steps.items a.marks.items a.made_for a.causes a.limit a.settled

is-next : (g : _) (c : After-next_hold-next g) → IsNext g.N.Network.reading (board g c) c.args.machine.now c.args.hold c.args.place c.next_hold-next.result
is-next g c =
    let stands = rw (← c.self.view_is) at c.requires.stands in
    record {
      ask = stands.0;
      stands = stands.1;
      next = rw (← c.self.view_is) at c.requires.next;
      is = rw (← c.self.view_is) at c.next_hold-next.ensures.is;
      resources = c.self.invariant.capacity.resources;
    }

pub len-requires : goal.len-requires
len-requires g k = record { known = known (is-next g (goal.at.len-requires g k).After-next_hold-next) }

pub returns-then-place-len-clause-back : goal.returns-then-place-len-clause-back
returns-then-place-len-clause-back g k =
    let c = (goal.at.returns-then-place-len-clause-back g k).After-next_hold-next in
    back-crowded (is-next g c) g.N.Undo.untouched c.self.inside.net refl

pub index-requires : goal.index-requires
index-requires g k =
    let c = (goal.at.index-requires g k).After-next_hold-next in
    let below = All-at (λ n. n < length c.self.inside.held.items) _ c.args.place k.at.result (numbers-here (is-next g c)) k.at.ensures in
    let l = c.self.inside.held.ok.0 in
    omega (arith, below, l)

pub begin_behind-till-requires-clause-numbers : goal.begin_behind-till-requires-clause-numbers
begin_behind-till-requires-clause-numbers g k = rw k.as_slice.ensures.value (numbers-here (is-next g (goal.at.begin_behind-till-requires-clause-numbers g k).After-next_hold-next))

pub begin_behind-till-requires-clause-among : goal.begin_behind-till-requires-clause-among
begin_behind-till-requires-clause-among g k = rw k.as_slice.ensures.value (among-here (is-next g (goal.at.begin_behind-till-requires-clause-among g k).After-next_hold-next))

pub begin_behind-till-requires-clause-in_order : goal.begin_behind-till-requires-clause-in_order
begin_behind-till-requires-clause-in_order g k = rw k.as_slice-3.ensures.value (firsts-here (is-next g (goal.at.begin_behind-till-requires-clause-in_order g k).After-next_hold-next))

pub begin_behind-till-requires-clause-new : goal.begin_behind-till-requires-clause-new
begin_behind-till-requires-clause-new g k = among-new (is-next g (goal.at.begin_behind-till-requires-clause-new g k).After-next_hold-next)

-- the hold that is read is the one at the place
behind-is : (g : _) (d : After-index g) → (c : After-next_hold-next g) → All (λ n. n < length d.self.inside.held.items) (order_on d.self.inside.timelines.orders d.next_hold-next.result.hold.rule.resource.0)
    → held_behind d.self.inside.held.items (order_on d.self.inside.timelines.orders d.next_hold-next.result.hold.rule.resource.0) d.args.place ≡ Some d.index.result.now
behind-is g d c numbers =
    let below = All-at (λ n. n < length d.self.inside.held.items) _ d.args.place d.at.result numbers d.at.ensures in
    ap (held_of d.self.inside.held.items) d.at.ensures ∙ slice_get_read d.self.inside.held.items (length d.self.inside.held.items) d.at.result d.index.result.now refl below d.index.ensures

pub is_pushed-requires-clause-among : goal.is_pushed-requires-clause-among
is_pushed-requires-clause-among g k =
    let c = (goal.at.is_pushed-requires-clause-among g k).After-next_hold-next in
    let d = (goal.at.is_pushed-requires-clause-among g k).After-index in
    among-here (is-next g c) c.args.place d.index.result.now (behind-is g d c (numbers-here (is-next g c)))

pub is_pushed-requires-clause-last : goal.is_pushed-requires-clause-last
is_pushed-requires-clause-last g k = last-known (is-next g (goal.at.is_pushed-requires-clause-last g k).After-next_hold-next)

pub returns-clause-crowded : goal.returns-clause-crowded
returns-clause-crowded g k so =
    let c = (goal.at.returns-clause-crowded g k).After-next_hold-next in
    let d = (goal.at.returns-clause-crowded g k).After-index in
    let bound = rw (k.as_slice.ensures.value, k.as_slice-2.ensures.value, k.as_slice-3.ensures.value) at k.begin_behind-till.ensures.behind in
    rw (← c.self.view_is) (crowded-here (is-next g c) k.begin_behind-till.result c.args.limit d.index.result.now k.least_by_newest-least.result (behind-is g d c (numbers-here (is-next g c))) k.least_by_newest-least.ensures bound
    (λ y sol begins. k.is_pushed.ensures.late so y sol (subst (λ z. z ≤ℤ begin_by y d.index.result.now) (sym (small-stays k.begin_behind-till.result k.begin_behind-till.ensures.low k.begin_behind-till.ensures.high)) begins)))

pub returns-clause-back : goal.returns-clause-back
returns-clause-back g k =
    let c = (goal.at.returns-clause-back g k).After-next_hold-next in
    back-crowded (is-next g c) g.N.Undo.untouched k.is_pushed.new.net k.is_pushed.ensures.past
