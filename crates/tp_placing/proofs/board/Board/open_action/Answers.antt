use Rattle.std.proofs.Common.{rules, arith, sym, refl, ap, ◌∙◌, subst, ◌≡◌, ℕ, suc, ◌+◌, ◌-◌, ◌<◌, ◌≤◌, ◌^◌, min, length, Some, None, IsSomeAnd, List, ◌++◌, ◌∷◌, []}
use Rattle.std.specs.List.{slice_get}
use Rattle.std.proofs.lemmas.Option.{slice_get_read}
use Rattle.std.proofs.lemmas.List.{length-append}
use Rattle.tp_base.specs.declared.edges.Edge.{Edge}
use Rattle.tp_base.specs.Net.{Net, HasNoSolution, HasLeast, with_point, with_edges}
use Rattle.tp_machine.specs.ModuleUse.{action_at}
use Rattle.tp_machine.specs.declared.parts.Action.{Action}
use Rattle.tp_schedule.specs.Answers.{kept_of}
use Rattle.tp_schedule.specs.Choices.{start_floor}
use Rattle.tp_constraints.specs.Numbers.{table_of}
use Rattle.tp_constraints.specs.Suffixes.{Suffix, with_action}
use Rattle.tp_placing.specs.declared.parts.Change.TheVariants.{Action as ActionOpened}
use Rattle.tp_placing.specs.declared.parts.Step.{Step}
use Rattle.tp_placing.specs.Boards.{BoardValue, after_change, suffix_after, suffix_of}
use Rattle.tp_placing.specs.Calls.{CanGoOn}
use Rattle.tp_placing.specs.Edges.{duration_edges}
use Rattle.tp_placing.specs.Inside.{board_of}
use Rattle.tp_placing.specs.LoadedBoard.{AreCaused, Stands, IsAtWith}
use Rattle.tp_placing.proofs.ActionFacts.{OpensHere, opens-here, can-open, open-reason, open-refused, open-at, open-caused}
use Rattle.tp_placing.proofs.CauseFacts.{keeps-all}
use Rattle.tp_placing.proofs.BoardFacts.{board-step, steps-room}
use Rattle.tp_placing.proofs.PastFacts.{side-steps}
use Rattle.tp_placing.proofs.StandFacts.{has-times, some-and, and-some, stands-after, stands-still, length-lows, edge-room}
use Rattle.tp_placing.proofs.StepFacts.{suffix-push, some-steps}
use Rattle.tp_placing.proofs.board.Board.open_action.Goals as goal
use Rattle.tp_placing.proofs.board.Board.open_action.Goals.{After-index-newest}

-- the board as its fields show it
abbrev board : (g : _) → After-index-newest g → BoardValue g.row.N.Denot
board g c =
    let a = c.self.inside in
    board_of a.net a.timelines a.held.items a.plans.items a.firsts.items a.last a.floor a.horizon a.ask a.steps.items a.marks.items a.made_for a.causes a.limit a.settled

-- the board on the machine, with the ask that it keeps
standing : (g : _) (c : After-index-newest g) → Stands g.N.Network.reading (board g c) c.args.machine.now
standing g c = rw (← c.self.view_is) at c.requires.stands

here : (g : _) (c : After-index-newest g) → OpensHere g.N.Network.reading.net (board g c) c.args.machine.now (standing g c).0 c.index-newest.result.now
here g c =
    let a = c.self.inside in
    let ask = (standing g c).0 in
    let ready = rw (← c.self.view_is) at c.requires.ready in
    let at_ask = subst (λ o. IsSomeAnd o (λ k. IsSomeAnd (suffix_after a.steps.items) (CanGoOn k))) (standing g c).1.asked ready in
    let y = some-and (suffix_after a.steps.items) (CanGoOn ask) at_ask in
    let some = some-steps a.steps.items y.0 y.1 in
    let count : c.len.result ≡ length a.steps.items = c.len.ensures ∙ a.steps.ok.0 in
    let k : c.len.result - 1 ≡ length a.steps.items - 1 = ap (λ n. n - 1) count in
    let at = slice_get_read a.steps.items (length a.steps.items) (c.len.result - 1) c.index-newest.result.now refl (omega arith) c.index-newest.ensures in
    let last : slice_get a.steps.items (length a.steps.items - 1) ≡ Some c.index-newest.result.now = ap (slice_get a.steps.items) (sym k) ∙ at in
    opens-here g.N.Network.reading (board g c) c.args.machine.now ask c.index-newest.result.now (standing g c).1 ready last

lows-here : (g : _) (c : After-index-newest g) → length (g.N.Network.reading.net c.self.inside.net).lows ≡ length (table_of c.self.inside.plans.items) + suc (length (here g c).x.choices)
lows-here g c =
    let a = c.self.inside in
    length-lows c.args.machine.now a.plans.items (standing g c).0 (here g c).x a.steps.items (g.N.Network.reading.net a.net) a.timelines.orders a.held.items (here g c).at

-- there is room for one point more
room-here : (g : _) (c : After-index-newest g) → length (g.N.Network.reading.net c.self.inside.net).lows < 16642
room-here g c =
    let l = lows-here g c in
    let few = (standing g c).1.few_points in
    let last = (standing g c).1.last in
    let can = (here g c).can.fewer in
    omega arith

pub overflow_add-start : goal.overflow_add-start
overflow_add-start g k =
    let c = (goal.at.overflow_add-start g k).After-index-newest in
    let r = room-here g c in
    let l = lows-here g c in
    let f = (here g c).hand.1 in
    let w : c.index-newest.result.now.first.0 + 1 < 2 ^ 32 = omega arith in
    search (rules, w)

pub extend-requires-clause-capacity : goal.extend-requires-clause-capacity
extend-requires-clause-capacity g k =
    let c = (goal.at.extend-requires-clause-capacity g k).After-index-newest in
    let r = room-here g c in
    let p = k.self.invariant.capacity.points in
    omega arith

pub extend-requires-clause-known : goal.extend-requires-clause-known
extend-requires-clause-known g k =
    let c = (goal.at.extend-requires-clause-known g k).After-index-newest in
    rw k.lasting-edges.ensures (can-open g.N.Network.reading.net (board g c) c.args.machine.now (standing g c).0 c.index-newest.result.now (here g c) c.args.act k.get.result.now k.get.ensures c.args.room (record { 0 = c.index-newest.result.now.first.0 + 1 }) refl)

-- the low and the edges of the call
low-is-sum : (g : _) (c : After-index-newest g) (low : ℕ) → low ≡ min (c.self.inside.floor + c.args.room) (c.self.inside.horizon + 1)
    → low ≡ min (start_floor c.args.machine.now (standing g c).0.now (standing g c).0.origin + c.args.room) ((standing g c).0.now + c.args.machine.now.window + 1)
low-is-sum g c low e =
    let f = (standing g c).1.floor in
    let h = (standing g c).1.horizon in
    e ∙ (λ i. min (f i + c.args.room) (h i + 1))

-- the network that the call asks for
net-asked : (g : _) (c : After-index-newest g) (a : Action) (low : ℕ) (edges : List Edge) → low ≡ min (c.self.inside.floor + c.args.room) (c.self.inside.horizon + 1)
    → edges ≡ duration_edges a (record { 0 = c.index-newest.result.now.first.0 + 1 }) c.index-newest.result.now.first
    → with_edges (with_point (g.N.Network.reading.net c.self.inside.net) low c.self.inside.horizon) edges
    ≡ with_edges (with_point (g.N.Network.reading.net c.self.inside.net) (min (start_floor c.args.machine.now (standing g c).0.now (standing g c).0.origin + c.args.room) ((standing g c).0.now + c.args.machine.now.window + 1)) ((standing g c).0.now + c.args.machine.now.window))
    (duration_edges a (record { 0 = c.index-newest.result.now.first.0 + 1 }) c.index-newest.result.now.first)
net-asked g c a low edges low_is edges_are =
    let low_sum = low-is-sum g c low low_is in
    let h = (standing g c).1.horizon in
    λ i. with_edges (with_point (g.N.Network.reading.net c.self.inside.net) (low_sum i) (h i)) (edges_are i)

pub returns-in-Err-clause-late : goal.returns-in-Err-clause-late
returns-in-Err-clause-late g k =
    let c = (goal.at.returns-in-Err-clause-late g k).After-index-newest in
    let o = here g c in
    let none = subst HasNoSolution (net-asked g c k.get.result.now k.lowest-low.result k.lasting-edges.result k.lowest-low.ensures k.lasting-edges.ensures) k.in-Err.ensures.late in
    rw (← c.self.view_is) (and-some (suffix_of (board g c)) o.x _ o.suffix (and-some (board g c).ask (standing g c).0 _ (standing g c).1.asked
    (open-refused g.N.Network.reading.net (board g c) c.args.machine.now (standing g c).0 c.index-newest.result.now o c.args.act k.get.result.now k.get.ensures c.args.room (record { 0 = c.index-newest.result.now.first.0 + 1 }) refl
    c.steps_add_edges.ensures.action c.solutions_are_ticks.ensures.late none)))

pub returns-in-Err-clause-shown : goal.returns-in-Err-clause-shown
returns-in-Err-clause-shown g k =
    let c = (goal.at.returns-in-Err-clause-shown g k).After-index-newest in
    let o = here g c in
    let refused = subst (g.N.Network.refutes k.extend.new.self) (net-asked g c k.get.result.now k.lowest-low.result k.lasting-edges.result k.lowest-low.ensures k.lasting-edges.ensures) k.in-Err.ensures.refused in
    rw (← c.self.view_is) (and-some (suffix_of (board g c)) o.x _ o.suffix (and-some (board g c).ask (standing g c).0 _ (standing g c).1.asked
    (open-reason g.N.Network.reading.net (board g c) c.args.machine.now (standing g c).0 c.index-newest.result.now o c.args.act k.get.result.now k.get.ensures c.args.room (record { 0 = c.index-newest.result.now.first.0 + 1 }) refl
    g.N.Network.refutes k.extend.new.self c.steps_add_edges.ensures.action c.gaps_are_hops.ensures.action (standing g c).1.plain (standing g c).1.caused refused)))

pub returns-in-Err-clause-stands : goal.returns-in-Err-clause-stands
returns-in-Err-clause-stands g k =
    let c = (goal.at.returns-in-Err-clause-stands g k).After-index-newest in
    ((standing g c).0, stands-still g.N.Network.reading (board g c) k.extend.new.self c.self.inside.causes None c.args.machine.now (standing g c).0 (standing g c).1 k.in-Err.ensures.kept k.in-Err.ensures.past (keeps-all _ _))

few-steps : (g : _) (c : After-index-newest g) → length c.self.inside.steps.items + 1 ≤ 330
few-steps g c = steps-room (kept_of (standing g c).0) (length c.self.inside.steps.items) (here g c).x (here g c).at.few_steps

pub push_reserved-requires : goal.push_reserved-requires
push_reserved-requires g k =
    let few = few-steps g (goal.at.push_reserved-requires g k).After-index-newest in
    let space = k.self.invariant.capacity.steps_space in
    let o = k.self.inside.steps.ok.0 in
    omega arith

pub invariant_of-self-2 : goal.invariant_of-self-2
invariant_of-self-2 g k =
    let a = k.self.inside in
    let few = few-steps g (goal.at.invariant_of-self-2 g k).After-index-newest in
    let len = ap length k.push_reserved.ensures.items ∙ length-append a.steps.items (_ ∷ []) in
    let space = k.push_reserved.ensures.capacity in
    board-step _ _ _ _ _ _ _ _ _ _ _ _ _ _ k.self.invariant _ _ _ _ a.timelines a.held k.push_reserved.new.self a.edges
    (ap length k.in-Ok.ensures.past) k.in-Ok.ensures.same_size.marks k.in-Ok.ensures.same_size.points k.in-Ok.ensures.same_size.edges refl refl refl refl (omega arith) k.self.invariant.capacity.held_few (omega arith)
    (omega arith) (omega arith) (omega arith) (omega arith)

suffix-now : (g : _) (c : After-index-newest g) (x : Suffix) (steps : List Step) (step : Step) → suffix_after c.self.inside.steps.items ≡ Some x → steps ≡ c.self.inside.steps.items ++ step ∷ [] → step.change ≡ ActionOpened c.args.act c.args.room
    → suffix_after steps ≡ Some (with_action c.args.act c.args.room x)
suffix-now g c x steps step e pushed change = ap suffix_after pushed ∙ suffix-push c.self.inside.steps.items step ∙ ap (after_change (suffix_after c.self.inside.steps.items)) change ∙ ap (λ y. after_change y (ActionOpened c.args.act c.args.room)) e

pub returns-clause-suffix : goal.returns-clause-suffix
returns-clause-suffix g k =
    let c = (goal.at.returns-clause-suffix g k).After-index-newest in
    rw (← c.self.view_is) (and-some (suffix_of (board g c)) (here g c).x _ (here g c).suffix (suffix-now g c (here g c).x k.push_reserved.new.self.items _ (here g c).suffix k.push_reserved.ensures.items refl))

pub returns-clause-past : goal.returns-clause-past
returns-clause-past g k =
    let a = k.self.inside in
    let i = k.self.invariant.marked.at_marks in
    rw (← k.self.view_is, k.in-Ok.ensures.past, k.push_reserved.ensures.items) (side-steps a.held.items a.steps.items (_ ∷ []) (g.N.Network.reading.past a.net) a.timelines.past a.marks.items (λ j n z. i.steps_below j n z))

-- the board after the call
after : (g : _) (c : After-index-newest g) (a : Action) (n : Net) (low : ℕ) (edges : List Edge) (steps : List Step) (step : Step) → action_at c.args.machine.now c.args.act.0 ≡ Some a
    → low ≡ min (c.self.inside.floor + c.args.room) (c.self.inside.horizon + 1) → edges ≡ duration_edges a (record { 0 = c.index-newest.result.now.first.0 + 1 }) c.index-newest.result.now.first
    → n ≡ with_edges (with_point (g.N.Network.reading.net c.self.inside.net) low c.self.inside.horizon) edges → HasLeast n
    → steps ≡ c.self.inside.steps.items ++ step ∷ [] → step.newest ≡ Some c.args.act → step.first ≡ record { 0 = c.index-newest.result.now.first.0 + 1 }
    → IsAtWith c.args.machine.now c.self.inside.plans.items (standing g c).0 (Some (with_action c.args.act c.args.room (here g c).x)) steps n c.self.inside.timelines.orders c.self.inside.held.items
after g c a n low edges steps step is low_is edges_are added solved pushed newest first =
    let ask = (standing g c).0 in
    let net = added ∙ net-asked g c a low edges low_is edges_are in
    let at = open-at g.N.Network.reading.net (board g c) c.args.machine.now ask c.index-newest.result.now (here g c) c.args.act a is c.args.room (record { 0 = c.index-newest.result.now.first.0 + 1 }) refl
    c.steps_add_edges.ensures.action (subst HasLeast net solved) step newest first in
    let P : Net → List Step → Type 0 = λ n steps. IsAtWith c.args.machine.now c.self.inside.plans.items ask (Some (with_action c.args.act c.args.room (here g c).x)) steps n c.self.inside.timelines.orders c.self.inside.held.items in
    subst (λ n. P n steps) (sym net) (subst (P _) (sym pushed) at)

-- and why its edges stand
caused-after : (g : _) (c : After-index-newest g) (a : Action) (n : Net) (low : ℕ) (edges : List Edge) (steps : List Step) (step : Step) → action_at c.args.machine.now c.args.act.0 ≡ Some a
    → low ≡ min (c.self.inside.floor + c.args.room) (c.self.inside.horizon + 1) → edges ≡ duration_edges a (record { 0 = c.index-newest.result.now.first.0 + 1 }) c.index-newest.result.now.first
    → n ≡ with_edges (with_point (g.N.Network.reading.net c.self.inside.net) low c.self.inside.horizon) edges
    → steps ≡ c.self.inside.steps.items ++ step ∷ [] → suffix_after steps ≡ Some (with_action c.args.act c.args.room (here g c).x) → AreCaused c.args.machine.now c.self.inside.plans.items (standing g c).0 c.self.inside.causes steps n
caused-after g c a n low edges steps step is low_is edges_are added pushed suffix =
    let ask = (standing g c).0 in
    let net = added ∙ net-asked g c a low edges low_is edges_are in
    let caused = open-caused g.N.Network.reading.net (board g c) c.args.machine.now ask c.index-newest.result.now (here g c) c.args.act a is c.args.room (record { 0 = c.index-newest.result.now.first.0 + 1 }) refl
    c.gaps_are_hops.ensures.action (standing g c).1.plain (standing g c).1.caused step (ap suffix_after (sym pushed) ∙ suffix) in
    let P : Net → List Step → Type 0 = λ n steps. AreCaused c.args.machine.now c.self.inside.plans.items ask c.self.inside.causes steps n in
    subst (λ n. P n steps) (sym net) (subst (P _) (sym pushed) caused)

pub returns-clause-times : goal.returns-clause-times
returns-clause-times g k =
    let c = (goal.at.returns-clause-times g k).After-index-newest in
    let x = (here g c).x in
    let at = after g c k.get.result.now (g.N.Network.reading.net k.extend.new.self) k.lowest-low.result k.lasting-edges.result k.push_reserved.new.self.items _ k.get.ensures k.lowest-low.ensures k.lasting-edges.ensures k.in-Ok.ensures.added k.in-Ok.ensures.solved k.push_reserved.ensures.items refl refl in
    and-some (suffix_after k.push_reserved.new.self.items) (with_action c.args.act c.args.room x) _ (suffix-now g c x k.push_reserved.new.self.items _ (here g c).suffix k.push_reserved.ensures.items refl) (and-some k.self.inside.ask (standing g c).0 _ (standing g c).1.asked
    (has-times c.args.machine.now k.self.inside.plans.items (standing g c).0 (with_action c.args.act c.args.room x) _ _ _ _ c.solutions_are_ticks.ensures.board at))

pub returns-clause-stands : goal.returns-clause-stands
returns-clause-stands g k =
    let c = (goal.at.returns-clause-stands g k).After-index-newest in
    let a = k.self.inside in
    let i = k.self.invariant.marked.at_marks in
    let x = (here g c).x in
    let at = after g c k.get.result.now (g.N.Network.reading.net k.extend.new.self) k.lowest-low.result k.lasting-edges.result k.push_reserved.new.self.items _ k.get.ensures k.lowest-low.ensures k.lasting-edges.ensures k.in-Ok.ensures.added k.in-Ok.ensures.solved k.push_reserved.ensures.items refl refl in
    let now = suffix-now g c x k.push_reserved.new.self.items _ (here g c).suffix k.push_reserved.ensures.items refl in
    let caused = caused-after g c k.get.result.now (g.N.Network.reading.net k.extend.new.self) k.lowest-low.result k.lasting-edges.result k.push_reserved.new.self.items _ k.get.ensures k.lowest-low.ensures k.lasting-edges.ensures k.in-Ok.ensures.added k.push_reserved.ensures.items now in (
      (standing g c).0,
      stands-after g.N.Network.reading (board g c) k.extend.new.self a.timelines a.held.items k.push_reserved.new.self.items a.causes c.args.machine.now (standing g c).0 (with_action c.args.act c.args.room x) (standing g c).1
          (rw (k.in-Ok.ensures.past, k.push_reserved.ensures.items) (side-steps a.held.items a.steps.items (_ ∷ []) (g.N.Network.reading.past a.net) a.timelines.past a.marks.items (λ j n z. i.steps_below j n z)))
          now at (keeps-all _ _) caused,
    )

pub extend-requires-clause-spare : goal.extend-requires-clause-spare
extend-requires-clause-spare g k =
    let c = (goal.at.extend-requires-clause-spare g k).After-index-newest in
    let a = c.self.inside in
    let r = k.self.invariant.capacity in
    let room = edge-room a.steps.items (length (g.N.Network.reading.net a.net).edges) (g.N.Network.reading.max_edges a.net) r.steps_few (here g c).at.few_edges r.edges in
    let two = ap length k.lasting-edges.ensures in
    omega arith
