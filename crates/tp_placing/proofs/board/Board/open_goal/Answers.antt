use Rattle.std.proofs.Common.{arith, AllPairs, sym, refl, ap, ◌∙◌, subst, ◌≡◌, ℕ, ◌+◌, min, length, Some, None, List, ◌++◌, ◌∷◌, []}
use Rattle.std.proofs.lemmas.List.{length-append}
use Rattle.tp_base.specs.declared.edges.Edge.{Edge}
use Rattle.tp_base.specs.Net.{Net, HasNoSolution, HasLeast, with_point, with_edges}
use Rattle.tp_machine.specs.declared.machine.Machine.{Machine}
use Rattle.tp_schedule.specs.Choices.{start_floor}
use Rattle.tp_schedule.specs.Plans.{IsEarlier}
use Rattle.tp_base.specs.declared.edges.PointId.{PointId}
use Rattle.tp_schedule.specs.declared.parts.Plan.{Plan}
use Rattle.tp_constraints.specs.Suffixes.{with_goal}
use Rattle.tp_placing.specs.declared.parts.Change.TheVariants.{Goal}
use Rattle.tp_placing.specs.declared.parts.Step.{Step}
use Rattle.tp_placing.specs.Boards.{BoardValue, after_change, suffix_after}
use Rattle.tp_placing.specs.Edges.{end_edges}
use Rattle.tp_placing.specs.Inside.{board_of}
use Rattle.tp_placing.specs.LoadedBoard.{AreCaused, Stands, StandsOn, IsAtWith}
use Rattle.tp_placing.proofs.BoardFacts.{board-step}
use Rattle.tp_placing.proofs.CauseFacts.{keeps-all}
use Rattle.tp_placing.proofs.GoalFacts.{goal-caused, empty, can-open, few-edges, lows-loaded, at-none, goal-reason, goal-refused, goal-at}
use Rattle.tp_placing.proofs.PastFacts.{side-steps}
use Rattle.tp_placing.proofs.StandFacts.{has-times, and-some, stands-ask, stands-after, stands-still}
use Rattle.tp_placing.proofs.StepFacts.{suffix-push}
use Rattle.tp_placing.proofs.board.Board.open_goal.Goals as goal
use Rattle.tp_placing.proofs.board.Board.open_goal.Goals.{In-Some}

-- the board as its fields show it
abbrev board : (g : _) → In-Some g → BoardValue g.row.N.Denot
board g c =
    let a = c.self.inside in
    board_of a.net a.timelines a.held.items a.plans.items a.firsts.items a.last a.floor a.horizon a.ask a.steps.items a.marks.items a.made_for a.causes a.limit a.settled

-- the board on a machine that it stands on, with the ask that it keeps
stands-here : (g : _) (c : In-Some g) (m : Machine) → Stands g.N.Network.reading c.args.self.now m → StandsOn g.N.Network.reading (board g c) m c.in-Some.ask
stands-here g c m s = stands-ask g.N.Network.reading (board g c) m c.in-Some.ask (rw (← c.self.view_is) at s) c.in-Some.is

known : (g : _) (c : In-Some g) → StandsOn g.N.Network.reading (board g c) c.requires.stands.0 c.in-Some.ask
known g c = stands-here g c c.requires.stands.0 c.requires.stands.1

closed : (g : _) (c : In-Some g) → suffix_after c.self.inside.steps.items ≡ None
closed g c = ap (λ (b : BoardValue g.row.N.Denot). suffix_after b.steps) c.self.view_is ∙ c.requires.closed

-- the edges that are asked for
abbrev es : (g : _) → In-Some g → List Edge
es g c = end_edges c.in-Some.ask c.self.inside.plans.items c.self.inside.firsts.items c.self.inside.last

edges-are : (g : _) (c : In-Some g) (plans : List Plan) (firsts : List PointId) (edges made : List Edge) → plans ≡ c.self.inside.plans.items → firsts ≡ c.self.inside.firsts.items → edges ≡ made
    → made ≡ end_edges c.in-Some.ask plans firsts c.self.inside.last → edges ≡ es g c
edges-are g c plans firsts edges made p f e m = e ∙ m ∙ (λ i. end_edges c.in-Some.ask (p i) (f i) c.self.inside.last)

pub extend-requires-clause-known : goal.extend-requires-clause-known
extend-requires-clause-known g k =
    let c = (goal.at.extend-requires-clause-known g k).In-Some in
    let e = edges-are g c _ _ _ _ k.deref.ensures.value k.deref-2.ensures.value k.deref-3.ensures.value k.line_edges.ensures.edges in
    rw e (can-open g.N.Network.reading (board g c) c.requires.stands.0 c.in-Some.ask (known g c) (closed g c) k.args.room)

pub extend-requires-clause-spare : goal.extend-requires-clause-spare
extend-requires-clause-spare g k =
    let c = (goal.at.extend-requires-clause-spare g k).In-Some in
    let e = ap length (edges-are g c _ _ _ _ k.deref.ensures.value k.deref-2.ensures.value k.deref-3.ensures.value k.line_edges.ensures.edges) in
    let few = few-edges g.N.Network.reading (board g c) c.requires.stands.0 c.in-Some.ask (known g c) (closed g c) k.args.room in
    let r = k.self.invariant.capacity.edges in
    omega arith

-- the network that the call asks for
net-asked : (g : _) (c : In-Some g) (m : Machine) (room : ℕ) (s : StandsOn g.N.Network.reading (board g c) m c.in-Some.ask) (low : ℕ) (edges : List Edge)
    → low ≡ min (c.self.inside.floor + room) (c.self.inside.horizon + 1) → edges ≡ es g c
    → with_edges (with_point (g.N.Network.reading.net c.self.inside.net) low c.self.inside.horizon) edges
    ≡ with_edges (with_point (g.N.Network.reading.net c.self.inside.net) (min (start_floor m c.in-Some.ask.now c.in-Some.ask.origin + room) (c.in-Some.ask.now + m.window + 1)) (c.in-Some.ask.now + m.window)) (es g c)
net-asked g c m room s low edges low_is edges_are =
    let f = s.floor in
    let h = s.horizon in
    let low_sum : low ≡ min (start_floor m c.in-Some.ask.now c.in-Some.ask.origin + room) (c.in-Some.ask.now + m.window + 1) = low_is ∙ (λ i. min (f i + room) (h i + 1)) in
    λ i. with_edges (with_point (g.N.Network.reading.net c.self.inside.net) (low_sum i) (h i)) (edges_are i)

pub returns-in-Err-clause-late : goal.returns-in-Err-clause-late
returns-in-Err-clause-late g k m st =
    let c = (goal.at.returns-in-Err-clause-late g k).In-Some in
    let s = stands-here g c m st in
    let e = edges-are g c _ _ _ _ k.deref.ensures.value k.deref-2.ensures.value k.deref-3.ensures.value k.line_edges.ensures.edges in
    let none = subst HasNoSolution (net-asked g c m k.args.room s k.lowest-low.result _ k.lowest-low.ensures e) k.in-Err.ensures.late in
    rw (← c.self.view_is) (and-some (board g c).ask c.in-Some.ask _ c.in-Some.is
    (goal-refused g.N.Network.reading (board g c) m c.in-Some.ask s (closed g c) k.args.room c.solutions_are_ticks.ensures.late none))

pub returns-in-Err-clause-shown : goal.returns-in-Err-clause-shown
returns-in-Err-clause-shown g k m st =
    let c = (goal.at.returns-in-Err-clause-shown g k).In-Some in
    let s = stands-here g c m st in
    let e = edges-are g c _ _ _ _ k.deref.ensures.value k.deref-2.ensures.value k.deref-3.ensures.value k.line_edges.ensures.edges in
    let refused = subst (g.N.Network.refutes k.extend.new.self) (net-asked g c m k.args.room s k.lowest-low.result _ k.lowest-low.ensures e) k.in-Err.ensures.refused in
    and-some (board g c).ask c.in-Some.ask _ c.in-Some.is
    (goal-reason g.N.Network.reading (board g c) m c.in-Some.ask s (closed g c) k.args.room g.N.Network.refutes k.extend.new.self c.gaps_are_hops.ensures.goal refused)

pub returns-in-Err-clause-stands : goal.returns-in-Err-clause-stands
returns-in-Err-clause-stands g k m st =
    let c = (goal.at.returns-in-Err-clause-stands g k).In-Some in
    (c.in-Some.ask, stands-still g.N.Network.reading (board g c) k.extend.new.self c.self.inside.causes None m c.in-Some.ask (stands-here g c m st) k.in-Err.ensures.kept k.in-Err.ensures.past (keeps-all _ _))

pub invariant_of-self-2 : goal.invariant_of-self-2
invariant_of-self-2 g k =
    let a = k.self.inside in
    let c = (goal.at.invariant_of-self-2 g k).In-Some in
    let none = ap length (empty g.N.Network.reading (board g c) c.requires.stands.0 c.in-Some.ask (known g c) (closed g c) k.args.room) in
    let len = ap length k.push_reserved.ensures.items ∙ length-append a.steps.items (_ ∷ []) in
    let space = k.push_reserved.ensures.capacity in
    board-step _ _ _ _ _ _ _ _ _ _ _ _ _ _ k.self.invariant _ _ _ _ a.timelines a.held k.push_reserved.new.self k.line_edges.new.edges
    (ap length k.in-Ok.ensures.past) k.in-Ok.ensures.same_size.marks k.in-Ok.ensures.same_size.points k.in-Ok.ensures.same_size.edges refl refl refl refl (omega arith) k.self.invariant.capacity.held_few (omega arith)
    (omega arith) (omega arith) (omega arith) k.line_edges.ensures.capacity

suffix-now : (g : _) (c : In-Some g) (room : ℕ) (steps : List Step) (step : Step) → steps ≡ c.self.inside.steps.items ++ step ∷ [] → step.change ≡ Goal room → suffix_after steps ≡ Some (with_goal room)
suffix-now g c room steps step pushed change = ap suffix_after pushed ∙ suffix-push c.self.inside.steps.items step ∙ ap (after_change (suffix_after c.self.inside.steps.items)) change ∙ ap (λ y. after_change y (Goal room)) (closed g c)

pub returns-clause-past : goal.returns-clause-past
returns-clause-past g k =
    let a = k.self.inside in
    let i = k.self.invariant.marked.at_marks in
    rw (← k.self.view_is, k.in-Ok.ensures.past, k.push_reserved.ensures.items) (side-steps a.held.items a.steps.items (_ ∷ []) (g.N.Network.reading.past a.net) a.timelines.past a.marks.items (λ j n z. i.steps_below j n z))

-- the board after the call
after : (g : _) (c : In-Some g) (m : Machine) (room : ℕ) → StandsOn g.N.Network.reading (board g c) m c.in-Some.ask → (n : Net) (low : ℕ) (edges : List Edge) (steps : List Step) (step : Step)
    → low ≡ min (c.self.inside.floor + room) (c.self.inside.horizon + 1) → edges ≡ es g c
    → n ≡ with_edges (with_point (g.N.Network.reading.net c.self.inside.net) low c.self.inside.horizon) edges → HasLeast n
    → steps ≡ c.self.inside.steps.items ++ step ∷ [] → step.newest ≡ None → step.first ≡ c.self.inside.last
    → IsAtWith m c.self.inside.plans.items c.in-Some.ask (Some (with_goal room)) steps n c.self.inside.timelines.orders c.self.inside.held.items
after g c m room s n low edges steps step low_is edges_are added solved pushed newest first =
    let net = added ∙ net-asked g c m room s low edges low_is edges_are in
    let at = goal-at g.N.Network.reading (board g c) m c.in-Some.ask s (closed g c) room (subst HasLeast net solved) step newest first in
    let P : Net → List Step → Type 0 = λ n steps. IsAtWith m c.self.inside.plans.items c.in-Some.ask (Some (with_goal room)) steps n c.self.inside.timelines.orders c.self.inside.held.items in
    subst (λ n. P n steps) (sym net) (subst (P _) (sym pushed) at)

-- and why its edges stand
caused-after : (g : _) (c : In-Some g) (m : Machine) (room : ℕ) → StandsOn g.N.Network.reading (board g c) m c.in-Some.ask → (n : Net) (low : ℕ) (edges : List Edge) (steps : List Step) (step : Step)
    → low ≡ min (c.self.inside.floor + room) (c.self.inside.horizon + 1) → edges ≡ es g c
    → n ≡ with_edges (with_point (g.N.Network.reading.net c.self.inside.net) low c.self.inside.horizon) edges
    → steps ≡ c.self.inside.steps.items ++ step ∷ [] → suffix_after steps ≡ Some (with_goal room) → AreCaused m c.self.inside.plans.items c.in-Some.ask c.self.inside.causes steps n
caused-after g c m room s n low edges steps step low_is edges_are added pushed suffix =
    let net = added ∙ net-asked g c m room s low edges low_is edges_are in
    let caused = goal-caused g.N.Network.reading (board g c) m c.in-Some.ask s (closed g c) room c.gaps_are_hops.ensures.goal step (ap suffix_after (sym pushed) ∙ suffix) in
    let P : Net → List Step → Type 0 = λ n steps. AreCaused m c.self.inside.plans.items c.in-Some.ask c.self.inside.causes steps n in
    subst (λ n. P n steps) (sym net) (subst (P _) (sym pushed) caused)

pub returns-clause-times : goal.returns-clause-times
returns-clause-times g k m st =
    let c = (goal.at.returns-clause-times g k).In-Some in
    let s = stands-here g c m st in
    let e = edges-are g c _ _ _ _ k.deref.ensures.value k.deref-2.ensures.value k.deref-3.ensures.value k.line_edges.ensures.edges in
    let at = after g c m k.args.room s (g.N.Network.reading.net k.extend.new.self) k.lowest-low.result _ k.push_reserved.new.self.items _ k.lowest-low.ensures e k.in-Ok.ensures.added k.in-Ok.ensures.solved k.push_reserved.ensures.items refl refl in
    and-some k.self.inside.ask c.in-Some.ask _ c.in-Some.is (has-times m k.self.inside.plans.items c.in-Some.ask (with_goal k.args.room) _ _ _ _ c.solutions_are_ticks.ensures.board at)

pub returns-clause-stands : goal.returns-clause-stands
returns-clause-stands g k m st =
    let c = (goal.at.returns-clause-stands g k).In-Some in
    let a = k.self.inside in
    let i = k.self.invariant.marked.at_marks in
    let s = stands-here g c m st in
    let e = edges-are g c _ _ _ _ k.deref.ensures.value k.deref-2.ensures.value k.deref-3.ensures.value k.line_edges.ensures.edges in
    let at = after g c m k.args.room s (g.N.Network.reading.net k.extend.new.self) k.lowest-low.result _ k.push_reserved.new.self.items _ k.lowest-low.ensures e k.in-Ok.ensures.added k.in-Ok.ensures.solved k.push_reserved.ensures.items refl refl in
    let now = suffix-now g c k.args.room k.push_reserved.new.self.items _ k.push_reserved.ensures.items refl in
    let caused = caused-after g c m k.args.room s (g.N.Network.reading.net k.extend.new.self) k.lowest-low.result _ k.push_reserved.new.self.items _ k.lowest-low.ensures e k.in-Ok.ensures.added k.push_reserved.ensures.items now in (
      c.in-Some.ask,
      stands-after g.N.Network.reading (board g c) k.extend.new.self a.timelines a.held.items k.push_reserved.new.self.items a.causes m c.in-Some.ask (with_goal k.args.room) s
          (rw (k.in-Ok.ensures.past, k.push_reserved.ensures.items) (side-steps a.held.items a.steps.items (_ ∷ []) (g.N.Network.reading.past a.net) a.timelines.past a.marks.items (λ j n z. i.steps_below j n z)))
          now at (keeps-all _ _) caused,
    )

pub line_edges-requires-clause-in_order : goal.line_edges-requires-clause-in_order
line_edges-requires-clause-in_order g k =
    let c = (goal.at.line_edges-requires-clause-in_order g k).In-Some in
    subst (AllPairs IsEarlier) (sym k.deref.ensures.value) (known g c).loadable.legal.in_order

pub extend-requires-clause-capacity : goal.extend-requires-clause-capacity
extend-requires-clause-capacity g k =
    let c = (goal.at.extend-requires-clause-capacity g k).In-Some in
    let s = known g c in
    let lows = lows-loaded g.N.Network.reading (board g c) c.requires.stands.0 c.in-Some.ask s (closed g c) k.args.room in
    let few = s.few_points in
    let last = s.last in
    let kept = (at-none g.N.Network.reading (board g c) c.requires.stands.0 c.in-Some.ask s (closed g c) k.args.room).few_steps.1 in
    let p = k.self.invariant.capacity.points in
    omega arith

pub returns-clause-suffix : goal.returns-clause-suffix
returns-clause-suffix g k = suffix-now g (goal.at.returns-clause-suffix g k).In-Some k.args.room k.push_reserved.new.self.items _ k.push_reserved.ensures.items refl
