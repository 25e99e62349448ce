use Rattle.std.proofs.Common.{sym, subst}
use Rattle.tp_schedule_check.specs.Clashes.{IsClash}
use Rattle.tp_schedule_check.specs.Holds.{AreClear, AreNeighbours, free_at}
use Rattle.tp_schedule_check.proofs.ClearFacts.{clear-apart, overlap-illegal, overlap-of}
use Rattle.tp_schedule_check.proofs.clash.find_between.Goals as goal

pub find_in_lines-requires-clause-apart : goal.find_in_lines-requires-clause-apart
find_in_lines-requires-clause-apart c =
    clear-apart c.args.machine.now c.args.schedule.now.plans c.requires.in_order c.requires.timed c.in_ok-holds.holds.items c.in_ok-holds.ensures.moved c.in_ok-holds.ensures.sorted
    (subst (AreClear c.args.machine.now) c.as_slice.ensures.value c.in-None.ensures)

pub returns-in-Some-clause-legal : goal.returns-in-Some-clause-legal
returns-in-Some-clause-legal c =
    let machine = c.args.machine.now in
    let plans = c.args.schedule.now.plans in
    let x = c.in-Some.pair.0 in
    let y = c.in-Some.pair.1 in
    let near = subst (λ hs. AreNeighbours hs x y) c.as_slice.ensures.value c.in-Some.ensures.0 in
    let o = overlap-of machine plans c.requires.in_order c.requires.timed c.in_ok-holds.holds.items c.in_ok-holds.ensures.moved c.in_ok-holds.ensures.sorted x y near c.in-Some.ensures.1 in
    (λ e. absurd cc, λ legal. absurd (overlap-illegal machine plans x.hold y.hold (free_at machine x y) y.begin o legal))

pub returns-in-Some-clause-clash : goal.returns-in-Some-clause-clash
returns-in-Some-clause-clash c =
    let machine = c.args.machine.now in
    let plans = c.args.schedule.now.plans in
    let x = c.in-Some.pair.0 in
    let y = c.in-Some.pair.1 in
    let near = subst (λ hs. AreNeighbours hs x y) c.as_slice.ensures.value c.in-Some.ensures.0 in
    let o = overlap-of machine plans c.requires.in_order c.requires.timed c.in_ok-holds.holds.items c.in_ok-holds.ensures.moved c.in_ok-holds.ensures.sorted x y near c.in-Some.ensures.1 in
    subst (IsClash machine plans) (sym c.overlap_of.ensures) o
