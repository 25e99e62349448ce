use Rattle.std.proofs.Common.{arith, sym, refl, ap, ◌∙◌, subst, ◌≡◌, ◌+◌, ◌-◌, ◌≤◌, length, pos, Some, None, IsFalse, suc, List, ◌++◌, ◌∷◌, []}
use Rattle.std.specs.List.{slice_get}
use Rattle.std.proofs.lemmas.Option.{slice_get_read, slice_get_within}
use Rattle.std.proofs.lemmas.List.{length-append}
use Rattle.tp_base.specs.Net.{Net, HasNoSolution, with_edge, HasLeast}
use Rattle.tp_placing.specs.declared.parts.Step.{Step}
use Rattle.tp_machine.specs.declared.machine.Machine.{Machine}
use Rattle.tp_base.specs.declared.edges.Edge.{Edge}
use Rattle.tp_schedule.specs.Spots.Spot.{kept}
use Rattle.tp_placing.specs.Causes.{stop_tag}
use Rattle.tp_placing.specs.Edges.{edge_of}
use Rattle.tp_constraints.specs.Numbers.{table_of}
use Rattle.tp_constraints.specs.Suffixes.{with_stop}
use Rattle.tp_placing.specs.Boards.{BoardValue, suffix_after, suffix_of}
use Rattle.tp_placing.specs.Inside.{board_of}
use Rattle.tp_placing.specs.LoadedBoard.{AreCaused, Stands, StandsOn, IsAtWith}
use Rattle.tp_placing.proofs.PastFacts.{side-steps}
use Rattle.tp_schedule.specs.Answers.{kept_of}
use Rattle.tp_constraints.specs.Suffixes.{Suffix}
use Rattle.tp_placing.specs.declared.parts.Change.TheVariants.{Stop}
use Rattle.tp_placing.specs.Boards.{after_change, side_by_side}
use Rattle.tp_placing.proofs.BoardFacts.{board-step, steps-room}
use Rattle.tp_placing.proofs.StandFacts.{has-times, some-and, stands-ask, stands-after, stands-still, length-lows, edge-room, and-some}
use Rattle.tp_placing.proofs.StepFacts.{suffix-push, some-steps}
use Rattle.tp_placing.proofs.CauseFacts.{keeps-all}
use Rattle.tp_placing.proofs.StopFacts.{stop-caused, StopsHere, stops-here, stop-solved, stop-reason, stop-refused}
use Rattle.tp_placing.proofs.board.Board.stop.Goals as goal
use Rattle.tp_placing.proofs.board.Board.stop.Goals.{After-edge_between, After-push_reserved}

-- the board as its fields show it
abbrev board : (g : _) → After-edge_between g → BoardValue g.row.N.Denot
board g c =
    let a = c.self.inside in
    board_of a.net a.timelines a.held.items a.plans.items a.firsts.items a.last a.floor a.horizon a.ask a.steps.items a.marks.items a.made_for a.causes a.limit a.settled

-- the board on a machine that it stands on, with the ask that it keeps
stands-here : (g : _) (c : After-edge_between g) (m : Machine) → Stands g.N.Network.reading c.args.self.now m
    → StandsOn g.N.Network.reading (board g c) m c.in-Some.ask
stands-here g c m s = stands-ask g.N.Network.reading (board g c) m c.in-Some.ask (rw (← c.self.view_is) at s) c.in-Some.is

abbrev Here : (g : _) → After-edge_between g → Machine → Type 0
Here g c m = StopsHere g.N.Network.reading.net (board g c) m c.in-Some.ask c.index-newest.result.now c.point_of-end.result

here : (g : _) (c : After-edge_between g) (m : Machine) → StandsOn g.N.Network.reading (board g c) m c.in-Some.ask → Here g c m
here g c m s =
    let a = c.self.inside in
    let going = rw (← c.self.view_is) at c.requires.going in
    let y = some-and (suffix_after a.steps.items) (λ x. IsFalse x.stopped) going in
    let some = some-steps a.steps.items y.0 y.1 in
    let count : c.len.result ≡ length a.steps.items = c.len.ensures ∙ a.steps.ok.0 in
    let k : c.len.result - 1 ≡ length a.steps.items - 1 = ap (λ n. n - 1) count in
    let at = slice_get_read a.steps.items (length a.steps.items) (c.len.result - 1) c.index-newest.result.now refl (omega arith) c.index-newest.ensures in
    let last : slice_get a.steps.items (length a.steps.items - 1) ≡ Some c.index-newest.result.now = ap (slice_get a.steps.items) (sym k) ∙ at in
    let end : slice_get (table_of a.plans.items) c.point_of-end.result.0 ≡ Some (kept c.in-Some.ask.sheet c.in-Front.kept) =
    ap (λ ps. slice_get (table_of ps) c.point_of-end.result.0) (sym c.deref.ensures.value) ∙ c.point_of-end.ensures in
    stops-here g.N.Network.reading (board g c) m c.in-Some.ask c.index-newest.result.now _ _ c.in-Front.kept c.point_of-end.result s going last c.in-Front.is end

-- the same on the machine that is known to stand
known : (g : _) (c : After-edge_between g) → Here g c c.requires.stands.0
known g c = here g c c.requires.stands.0 (stands-here g c c.requires.stands.0 c.requires.stands.1)

lows-here : (g : _) (c : After-edge_between g) → length (g.N.Network.reading.net c.self.inside.net).lows ≡ length (table_of c.self.inside.plans.items) + suc (length (known g c).x.choices)
lows-here g c =
    let h = known g c in
    let a = c.self.inside in
    length-lows c.requires.stands.0 a.plans.items c.in-Some.ask h.x a.steps.items (g.N.Network.reading.net a.net) a.timelines.orders a.held.items h.at

pub require-requires-clause-from : goal.require-requires-clause-from
require-requires-clause-from g c =
    let h = known g c in
    let l = lows-here g c in
    let f = h.hand.1 in
    let e = ap (λ (e : Edge). e.from.0) c.edge_between.ensures in
    omega arith

pub require-requires-clause-to : goal.require-requires-clause-to
require-requires-clause-to g c =
    let h = known g c in
    let l = lows-here g c in
    let w = slice_get_within (table_of c.self.inside.plans.items) c.point_of-end.result.0 _ h.end_is in
    let e = ap (λ (e : Edge). e.to.0) c.edge_between.ensures in
    omega arith

pub require-requires-clause-spare : goal.require-requires-clause-spare
require-requires-clause-spare g c =
    let a = c.self.inside in
    let r = c.self.invariant.capacity in
    let room = edge-room a.steps.items (length (g.N.Network.reading.net a.net).edges) (g.N.Network.reading.max_edges a.net) r.steps_few (known g c).at.few_edges r.edges in
    omega arith

pub returns-in-Err-clause-late : goal.returns-in-Err-clause-late
returns-in-Err-clause-late g k m st =
    let c = (goal.at.returns-in-Err-clause-late g k).After-edge_between in
    let s = stands-here g c m st in
    let h = here g c m s in
    let none : HasNoSolution (with_edge (g.N.Network.reading.net c.self.inside.net) (edge_of c.index-newest.result.now.first c.point_of-end.result (pos 0) stop_tag)) = rw (← c.edge_between.ensures) k.in-Err.ensures.late in
    rw (← c.self.view_is) (and-some (suffix_of (board g c)) h.x _ h.suffix (and-some (board g c).ask c.in-Some.ask _ s.asked
    (stop-refused g.N.Network.reading.net (board g c) m c.in-Some.ask c.index-newest.result.now c.point_of-end.result h c.steps_add_edges.ensures.stop c.solutions_are_ticks.ensures.late s.origin none)))

pub returns-in-Err-clause-shown : goal.returns-in-Err-clause-shown
returns-in-Err-clause-shown g k m st =
    let c = (goal.at.returns-in-Err-clause-shown g k).After-edge_between in
    let s = stands-here g c m st in
    let h = here g c m s in
    let shown : g.N.Network.refutes k.require.new.self (with_edge (g.N.Network.reading.net c.self.inside.net) (edge_of c.index-newest.result.now.first c.point_of-end.result (pos 0) stop_tag)) = rw (← c.edge_between.ensures) k.in-Err.ensures.refused in
    rw (← c.self.view_is) (and-some (suffix_of (board g c)) h.x _ h.suffix (and-some (board g c).ask c.in-Some.ask _ s.asked
    (stop-reason g.N.Network.reading.net (board g c) m c.in-Some.ask c.index-newest.result.now c.point_of-end.result h g.N.Network.refutes k.require.new.self c.steps_add_edges.ensures.stop c.gaps_are_hops.ensures.stop s.origin s.plain s.caused shown)))

pub returns-in-Err-clause-stands : goal.returns-in-Err-clause-stands
returns-in-Err-clause-stands g k m st =
    let c = (goal.at.returns-in-Err-clause-stands g k).After-edge_between in
    (c.in-Some.ask, stands-still g.N.Network.reading (board g c) k.require.new.self c.self.inside.causes None m c.in-Some.ask (stands-here g c m st) k.in-Err.ensures.kept k.in-Err.ensures.past (keeps-all _ _))

-- after the stop
few-here : (g : _) (c : After-edge_between g) → length c.self.inside.steps.items + 1 ≤ 330
few-here g c = steps-room (kept_of c.in-Some.ask) (length c.self.inside.steps.items) (known g c).x (known g c).at.few_steps

pub push_reserved-requires : goal.push_reserved-requires
push_reserved-requires g k =
    let few = few-here g (goal.at.push_reserved-requires g k).After-edge_between in
    let space = k.self.invariant.capacity.steps_space in
    let o = k.self.inside.steps.ok.0 in
    omega arith

pub invariant_of-self-2 : goal.invariant_of-self-2
invariant_of-self-2 g k =
    let a = k.self.inside in
    let few = few-here g (goal.at.invariant_of-self-2 g k).After-edge_between in
    let len = ap length k.push_reserved.ensures.items ∙ length-append a.steps.items (_ ∷ []) in
    let cap = k.push_reserved.ensures.capacity in
    board-step _ _ _ _ _ _ _ _ _ _ _ _ _ _ k.self.invariant _ _ _ _ a.timelines a.held k.push_reserved.new.self a.edges
    (ap length k.in-Ok.ensures.past) k.in-Ok.ensures.same_size.marks k.in-Ok.ensures.same_size.points k.in-Ok.ensures.same_size.edges refl refl refl refl (omega arith) k.self.invariant.capacity.held_few (omega arith)
    (omega arith) (omega arith) (omega arith) (omega arith)

suffix-now : (g : _) (k : After-push_reserved g) (x : Suffix) → suffix_after k.self.inside.steps.items ≡ Some x → suffix_after k.push_reserved.new.self.items ≡ Some (with_stop x)
suffix-now g k x e = ap suffix_after k.push_reserved.ensures.items ∙ suffix-push k.self.inside.steps.items _ ∙ ap (λ y. after_change y Stop) e

pub returns-clause-suffix : goal.returns-clause-suffix
returns-clause-suffix g k =
    let y = some-and (suffix_of k.args.self.now) _ k.requires.going in
    and-some (suffix_of k.args.self.now) y.0 _ y.1 (suffix-now g k y.0 (ap (λ (b : BoardValue g.row.N.Denot). suffix_after b.steps) k.self.view_is ∙ y.1))

past-now : (g : _) (k : After-push_reserved g) → side_by_side k.self.inside.held.items k.push_reserved.new.self.items (g.N.Network.reading.past k.require.new.self) k.self.inside.timelines.past k.self.inside.marks.items
    ≡ side_by_side k.self.inside.held.items k.self.inside.steps.items (g.N.Network.reading.past k.self.inside.net) k.self.inside.timelines.past k.self.inside.marks.items
past-now g k =
    let a = k.self.inside in
    let i = k.self.invariant.marked.at_marks in
    rw (k.in-Ok.ensures.past, k.push_reserved.ensures.items) (side-steps a.held.items a.steps.items (_ ∷ []) (g.N.Network.reading.past a.net) a.timelines.past a.marks.items (λ j n z. i.steps_below j n z))

pub returns-clause-past : goal.returns-clause-past
returns-clause-past g k = rw (← k.self.view_is) (past-now g k)

at-now : (g : _) (c : After-edge_between g) (m : Machine) (s : StandsOn g.N.Network.reading (board g c) m c.in-Some.ask) (n : Net) (items : List Step) (step : Step)
    → n ≡ with_edge (g.N.Network.reading.net c.self.inside.net) c.edge_between.result → HasLeast n → items ≡ c.self.inside.steps.items ++ step ∷ [] → step.first ≡ c.index-newest.result.now.first → step.newest ≡ c.index-newest.result.now.newest
    → IsAtWith m c.self.inside.plans.items c.in-Some.ask (Some (with_stop (here g c m s).x)) items n c.self.inside.timelines.orders c.self.inside.held.items
at-now g c m s n items step added solved pushed first newest =
    let a = c.self.inside in
    let h = here g c m s in
    let e : n ≡ with_edge (g.N.Network.reading.net a.net) (edge_of c.index-newest.result.now.first c.point_of-end.result (pos 0) stop_tag) = added ∙ ap (with_edge (g.N.Network.reading.net a.net)) c.edge_between.ensures in
    let at = stop-solved g.N.Network.reading.net (board g c) m c.in-Some.ask c.index-newest.result.now c.point_of-end.result h c.steps_add_edges.ensures.stop s.origin (subst HasLeast e solved) step first newest in
    let P : Net → List Step → Type 0 = λ n items. IsAtWith m a.plans.items c.in-Some.ask (Some (with_stop h.x)) items n a.timelines.orders a.held.items in
    subst (λ n. P n items) (sym e) (subst (P (with_edge (g.N.Network.reading.net a.net) (edge_of c.index-newest.result.now.first c.point_of-end.result (pos 0) stop_tag))) (sym pushed) at)

caused-now : (g : _) (c : After-edge_between g) (m : Machine) (s : StandsOn g.N.Network.reading (board g c) m c.in-Some.ask) (n : Net) (items : List Step) (step : Step)
    → n ≡ with_edge (g.N.Network.reading.net c.self.inside.net) c.edge_between.result → items ≡ c.self.inside.steps.items ++ step ∷ [] → suffix_after items ≡ Some (with_stop (here g c m s).x)
    → AreCaused m c.self.inside.plans.items c.in-Some.ask c.self.inside.causes items n
caused-now g c m s n items step added pushed suffix =
    let a = c.self.inside in
    let e : n ≡ with_edge (g.N.Network.reading.net a.net) (edge_of c.index-newest.result.now.first c.point_of-end.result (pos 0) stop_tag) = added ∙ ap (with_edge (g.N.Network.reading.net a.net)) c.edge_between.ensures in
    let caused = stop-caused g.N.Network.reading.net (board g c) m c.in-Some.ask c.index-newest.result.now c.point_of-end.result (here g c m s) c.gaps_are_hops.ensures.stop s.plain s.caused step (ap suffix_after (sym pushed) ∙ suffix) in
    let P : Net → List Step → Type 0 = λ n items. AreCaused m a.plans.items c.in-Some.ask a.causes items n in
    subst (λ n. P n items) (sym e) (subst (P _) (sym pushed) caused)

pub returns-clause-times : goal.returns-clause-times
returns-clause-times g k m st =
    let c = (goal.at.returns-clause-times g k).After-edge_between in
    let s = stands-here g c m st in
    let h = here g c m s in
    let at = at-now g c m s (g.N.Network.reading.net k.require.new.self) k.push_reserved.new.self.items _ k.in-Ok.ensures.added k.in-Ok.ensures.solved k.push_reserved.ensures.items refl refl in
    and-some (suffix_after k.push_reserved.new.self.items) (with_stop h.x) _ (suffix-now g k h.x h.suffix) (and-some k.self.inside.ask c.in-Some.ask _ c.in-Some.is
    (has-times m k.self.inside.plans.items c.in-Some.ask (with_stop h.x) _ _ _ _ c.solutions_are_ticks.ensures.board at))

pub returns-clause-stands : goal.returns-clause-stands
returns-clause-stands g k m st =
    let c = (goal.at.returns-clause-stands g k).After-edge_between in
    let s = stands-here g c m st in
    let h = here g c m s in
    let at = at-now g c m s (g.N.Network.reading.net k.require.new.self) k.push_reserved.new.self.items _ k.in-Ok.ensures.added k.in-Ok.ensures.solved k.push_reserved.ensures.items refl refl in
    let now = suffix-now g k h.x h.suffix in
    let caused = caused-now g c m s (g.N.Network.reading.net k.require.new.self) k.push_reserved.new.self.items _ k.in-Ok.ensures.added k.push_reserved.ensures.items now in
    (c.in-Some.ask, stands-after g.N.Network.reading (board g c) k.require.new.self c.self.inside.timelines c.self.inside.held.items k.push_reserved.new.self.items c.self.inside.causes m c.in-Some.ask (with_stop h.x) s (past-now g k) now at (keeps-all _ _) caused)
