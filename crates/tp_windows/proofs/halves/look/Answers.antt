use Rattle.std.proofs.Common.{ap, sym, ◌∙◌, ◌-◌, ◌≤◌, subst, length, List, All, ℕ, IsTrue}
use Rattle.std.specs.Prelude.{◌≡◌}
use Rattle.tp_base.specs.Net.{Keeps, Net}
use Rattle.tp_schedule.specs.declared.parts.Plan.{Plan}
use Rattle.tp_constraints.specs.Numbers.{table_of}
use Rattle.tp_windows.specs.Arrays.{IsBetween, IsTimes, windows_by}
use Rattle.tp_windows.specs.Sides.{IsOnSide}
use Rattle.tp_windows.specs.Roots.{IsRootBy}
use Rattle.tp_windows.specs.Walks.{halves_of}
use Rattle.tp_windows.proofs.RootFacts.{half_empty, half_windows, line_holds, times_later}
use Rattle.tp_windows.proofs.SeenFacts.{refused_half, seen_half}
use Rattle.tp_windows.proofs.halves.look.Goals as goal
use Rattle.tp_windows.proofs.halves.look.Goals.{After-narrow}

-- the times of the network on the sides are kept
kept : (c : After-narrow) (plans : List Plan) (net : Net) (limit : ℕ) → c.args.end - 1 ≤ limit → IsRootBy c.args.machine.now plans c.args.ask.now net limit c.args.root.now → (y : ℕ → ℕ) → IsTimes plans c.args.ask.now (table_of plans) net (c.args.end - 1) y → All (IsOnSide y) c.args.node.now.path.items
    → IsTrue c.narrow.result × IsBetween y c.narrow.new.ranges.lows.items c.narrow.new.ranges.highs.items
kept c plans net limit le by y times sides =
    let root = by.read in
    let copied = c.if-not-copy_ranges.false in
    let lows = c.copy_ranges.ensures.lows copied in
    let highs = c.copy_ranges.ensures.highs copied in
    let keeps = subst (All (Keeps y)) (sym root.edges.0.all) times.solution.keeps in
    let between = subst (λ a. IsBetween y a c.copy_ranges.new.to.highs.items) (sym lows) (subst (λ b. IsBetween y c.args.root.now.ranges.lows.items b) (sym highs) (by.between y (times_later plans c.args.ask.now (table_of plans) net (c.args.end - 1) limit y le times))) in
    let line = line_holds plans c.args.ask.now root.is_net.is_table.differ (c.args.end - 1) y c.args.root.now.ahead c.line_side-line.result root.ahead c.line_side-line.ensures times.line in
    c.narrow.ensures.kept y keeps between line (subst (All (IsOnSide y)) (sym c.deref.ensures.value) sides)

pub returns-then-not-narrow-clause-seen : goal.returns-then-not-narrow-clause-seen
returns-then-not-narrow-clause-seen c plans net limit le known by orders =
    let root = by.read in
    let k = (goal.at.returns-then-not-narrow-clause-seen c).After-narrow in
    refused_half c.args.machine.now plans c.args.ask.now (halves_of (table_of plans) c.args.node.now.path.items) c.args.end
    (half_empty c.args.machine.now plans c.args.ask.now (c.args.end - 1) net root.is_net c.args.node.now.path.items (λ y times sides.
    let yes = (kept k plans net limit le by y times sides).0 in
    let no = c.if-not-narrow.true in
    absurd cc))

pub returns-clause-seen : goal.returns-clause-seen
returns-clause-seen c plans net limit le known by orders =
    let root = by.read in
    let k = (goal.at.returns-clause-seen c).After-narrow in
    let table = table_of plans in
    let lows = c.narrow.new.ranges.lows.items in
    let highs = c.narrow.new.ranges.highs.items in
    let copied = c.copy_ranges.ensures.lows c.if-not-copy_ranges.false in
    let wide : length lows ≡ length table = c.narrow.ensures.wide.0 ∙ ap length copied ∙ root.wide.0 in
    let windows = half_windows c.args.machine.now plans c.args.ask.now (c.args.end - 1) net root.is_net c.args.node.now.path.items lows highs wide (λ y times sides. (kept k plans net limit le by y times sides).1) in
    seen_half c.args.machine.now plans c.args.ask.now (windows_by table lows highs) (halves_of table c.args.node.now.path.items) c.args.end c.seek.result windows c.seek.ensures.sooner (c.seek.ensures.seen plans net known root orders)
