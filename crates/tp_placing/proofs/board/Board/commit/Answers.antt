use Rattle.std.proofs.Common.{arith, sym, refl, ap, ◌∙◌, subst, ◌≡◌, ℕ, ◌+◌, ◌-◌, ◌<◌, ◌≤◌, Bool, List, filter, length, map, Some, None, IsSome, IsSomeAnd, AllPairs}
use Rattle.std.specs.List.{slice_get}
use Rattle.std.proofs.lemmas.Option.{slice_get_read}
use Rattle.tp_schedule.specs.Completions.{asked_plan, settled_ticks, total_of}
use Rattle.tp_schedule.specs.LivePlans.{is_live}
use Rattle.tp_schedule.specs.Times.{timed_by}
use Rattle.tp_schedule.specs.Plans.{IsEarlier, end_of_plan, plan_of, put_plan, without}
use Rattle.tp_schedule.specs.Spots.{Ticks}
use Rattle.tp_schedule.specs.Spots.Spot.{own}
use Rattle.tp_schedule.specs.declared.parts.Ask.{Ask}
use Rattle.tp_schedule.specs.declared.parts.Plan.{Plan}
use Rattle.tp_schedule.proofs.CopyFacts.{same_copy-refl}
use Rattle.tp_schedule.proofs.PlanOrder.{All-without, without-put_plan}
use Rattle.tp_constraints.specs.Numbers.{number, table_of, ticks_by}
use Rattle.tp_constraints.specs.Suffixes.{Suffix}
use Rattle.tp_placing.specs.declared.parts.Step.{Step}
use Rattle.tp_placing.specs.Boards.{BoardValue, suffix_after}
use Rattle.tp_placing.specs.Inside.{board_of}
use Rattle.tp_placing.specs.Settled.{AreOfSchedule}
use Rattle.tp_placing.specs.LoadedBoard.{StandsOn, board_table}
use Rattle.tp_placing.specs.Ticks.{HasLeastTick}
use Rattle.tp_placing.specs.Commits.{AreLeastTicks, CanCommit, IsHeldFrom, IsWrittenFor, retimed_in}
use Rattle.tp_placing.proofs.StandFacts.{and-some, some-and, stands-ask}
use Rattle.tp_placing.proofs.StepFacts.{some-steps}
use Rattle.tp_constraints.proofs.PointNumbers.{number-at}
use Rattle.tp_placing.proofs.ReadFacts.{end-point, least-tick}
use Rattle.tp_placing.proofs.WriteCommit.{IsWritten, made-so, written-is}
use Rattle.tp_placing.proofs.WriteHeld.{held-part}
use Rattle.tp_placing.proofs.WritePlans.{none-after, none-before, planned-after}
use Rattle.tp_placing.proofs.WritePoints.{least-of_plans}
use Rattle.tp_placing.proofs.WriteReady.{IsReady, ready, ready-ticks}
use Rattle.tp_placing.proofs.board.Board.commit.Goals as goal
use Rattle.tp_placing.proofs.board.Board.commit.Goals.{After-index-newest, After-plan_by_steps-plan, After-write_plan, After-write_times-moved}

-- the board as its fields show it
abbrev board : (g : _) → After-index-newest g → BoardValue g.row.N.Denot
board g c =
    let a = c.self.inside in
    board_of a.net a.timelines a.held.items a.plans.items a.firsts.items a.last a.floor a.horizon a.ask a.steps.items a.marks.items a.made_for a.causes a.limit a.settled

stands-here : (g : _) (c : After-index-newest g) → StandsOn g.N.Network.reading (board g c) c.args.machine.now c.in-Some.ask
stands-here g c = stands-ask g.N.Network.reading (board g c) c.args.machine.now c.in-Some.ask (rw (← c.self.view_is) at c.requires.stands) c.in-Some.is

loaded-here : (g : _) (c : After-index-newest g) → IsHeldFrom c.args.machine.now c.args.schedule.now.plans c.in-Some.ask c.self.inside.plans.items
loaded-here g c =
    let loaded = rw (← c.self.view_is) at c.requires.loaded in
    subst (λ o. IsSomeAnd o (λ (ask : Ask). IsHeldFrom c.args.machine.now c.args.schedule.now.plans ask c.self.inside.plans.items)) c.in-Some.is loaded

complete-here : (g : _) (c : After-index-newest g) → IsSomeAnd (suffix_after c.self.inside.steps.items) (CanCommit c.args.machine.now c.self.inside.plans.items c.in-Some.ask)
complete-here g c =
    let complete = rw (← c.self.view_is) at c.requires.complete in
    subst (λ o. IsSomeAnd o (λ (ask : Ask). IsSomeAnd (suffix_after c.self.inside.steps.items) (CanCommit c.args.machine.now c.self.inside.plans.items ask))) c.in-Some.is complete

here : (g : _) (c : After-index-newest g) → IsReady g.N.Network.reading.net (board g c) c.args.machine.now c.in-Some.ask c.index-newest.result.now
here g c =
    let a = c.self.inside in
    let y = some-and (suffix_after a.steps.items) (CanCommit c.args.machine.now a.plans.items c.in-Some.ask) (complete-here g c) in
    let some = some-steps a.steps.items y.0 y.1 in
    let count : c.len.result ≡ length a.steps.items = c.len.ensures ∙ a.steps.ok.0 in
    let k : c.len.result - 1 ≡ length a.steps.items - 1 = ap (λ n. n - 1) count in
    let at = slice_get_read a.steps.items (length a.steps.items) (c.len.result - 1) c.index-newest.result.now refl (omega arith) c.index-newest.ensures in
    let last : slice_get a.steps.items (length a.steps.items - 1) ≡ Some c.index-newest.result.now = ap (slice_get a.steps.items) (sym k) ∙ at in
    ready g.N.Network.reading (board g c) c.args.machine.now c.in-Some.ask c.index-newest.result.now (stands-here g c) (complete-here g c) last

-- of what is held, what is live is the schedule's
abbrev mine : (g : _) → After-index-newest g → Plan → Bool
mine g c = is_live c.args.machine.now c.in-Some.ask.now

part-here : (g : _) (c : After-index-newest g) → AreOfSchedule (g.N.Network.reading.net c.self.inside.net) c.self.inside.plans.items c.args.schedule.now.plans (mine g c)
part-here g c =
    let a = c.self.inside in
    let h = here g c in
    held-part c.args.machine.now c.args.schedule.now.plans a.plans.items c.in-Some.ask (loaded-here g c) h.x (g.N.Network.reading.net a.net) h.at.net

pub overflow_sub-own : goal.overflow_sub-own
overflow_sub-own g k =
    let c = (goal.at.overflow_sub-own g k).After-index-newest in
    let first = (here g c).first in
    let last = (stands-here g c).last in
    omega arith

-- how many actions were opened
count-here : (g : _) (c : After-index-newest g) → c.index-newest.result.now.first.0 - c.self.inside.last.0 ≡ length (here g c).x.choices
count-here g c =
    let first = (here g c).first in
    let last = (stands-here g c).last in
    omega arith

pub write_times-moved-requires-clause-known : goal.write_times-moved-requires-clause-known
write_times-moved-requires-clause-known g k =
    let c = (goal.at.write_times-moved-requires-clause-known g k).After-index-newest in
    let lows = (here g c).lows in
    subst (λ ps. length (table_of ps) ≤ length (g.N.Network.reading.net c.self.inside.net).lows) (sym k.deref.ensures.value) (omega arith)

pub write_times-moved-requires-clause-planned : goal.write_times-moved-requires-clause-planned
write_times-moved-requires-clause-planned g k =
    let c = (goal.at.write_times-moved-requires-clause-planned g k).After-index-newest in
    subst (λ ps. (test : Plan → Bool) × AreOfSchedule (g.N.Network.reading.net c.self.inside.net) ps c.args.schedule.now.plans test) (sym k.deref.ensures.value) (mine g c, part-here g c)

pub plan_by_steps-plan-requires-clause-few : goal.plan_by_steps-plan-requires-clause-few
plan_by_steps-plan-requires-clause-few g k =
    let c = (goal.at.plan_by_steps-plan-requires-clause-few g k).After-index-newest in
    let few = (here g c).complete.is_list.at_most in
    let count = count-here g c in
    omega arith

pub plan_by_steps-plan-requires-clause-some : goal.plan_by_steps-plan-requires-clause-some
plan_by_steps-plan-requires-clause-some g k =
    let c = (goal.at.plan_by_steps-plan-requires-clause-some g k).After-index-newest in
    let some = (here g c).complete.some in
    let count = count-here g c in
    omega arith

pub plan_by_steps-plan-requires-clause-opened : goal.plan_by_steps-plan-requires-clause-opened
plan_by_steps-plan-requires-clause-opened g k =
    let c = (goal.at.plan_by_steps-plan-requires-clause-opened g k).After-index-newest in
    let n = c.index-newest.result.now.first.0 - c.self.inside.last.0 in
    let h = here g c in
    subst (λ ss. IsSomeAnd (suffix_after ss) (λ x. length x.choices ≡ c.index-newest.result.now.first.0 - c.self.inside.last.0)) (sym k.deref-5.ensures.value) (and-some (suffix_after c.self.inside.steps.items) h.x _ h.suffix (sym (count-here g c)))

pub plan_by_steps-plan-requires-clause-start : goal.plan_by_steps-plan-requires-clause-start
plan_by_steps-plan-requires-clause-start g k =
    let c = (goal.at.plan_by_steps-plan-requires-clause-start g k).After-index-newest in
    let first = (here g c).first in
    let last = (stands-here g c).last in
    subst (λ ps. c.index-newest.result.now.first.0 ≡ length (table_of ps) + (c.index-newest.result.now.first.0 - c.self.inside.last.0)) (sym k.deref-3.ensures.value) (omega arith)

pub plan_by_steps-plan-requires-clause-known : goal.plan_by_steps-plan-requires-clause-known
plan_by_steps-plan-requires-clause-known g k =
    let c = (goal.at.plan_by_steps-plan-requires-clause-known g k).After-index-newest in
    let first = (here g c).first in
    let lows = (here g c).lows in
    omega arith

-- the least ticks
ticks-here : (g : _) (c : After-index-newest g) → AreLeastTicks (g.N.Network.reading.net c.self.inside.net) (board_table c.self.inside.plans.items (Some (here g c).x)) (ticks_by (board_table c.self.inside.plans.items (Some (here g c).x)) (here g c).at.solved.0)
ticks-here g c =
    let a = c.self.inside in
    ready-ticks c.args.machine.now a.plans.items c.in-Some.ask (here g c).x a.steps.items (g.N.Network.reading.net a.net) a.timelines.orders a.held.items (here g c).at

abbrev Ticks-here : (g : _) → After-index-newest g → Ticks
Ticks-here g c = ticks_by (board_table c.self.inside.plans.items (Some (here g c).x)) (here g c).at.solved.0

times-now : (g : _) (k : After-write_times-moved g) (test : Plan → Bool) → AreOfSchedule (g.N.Network.reading.net k.self.inside.net) k.self.inside.plans.items k.args.schedule.now.plans test
    → (t : Ticks) → AreLeastTicks (g.N.Network.reading.net k.self.inside.net) (table_of k.self.inside.plans.items) t → k.write_times-moved.new.schedule.plans ≡ map (retimed_in (filter test k.self.inside.plans.items) t) k.args.schedule.now.plans
times-now g k test part =
    subst (λ ps. AreOfSchedule (g.N.Network.reading.net k.self.inside.net) ps k.args.schedule.now.plans test → (t : Ticks) → AreLeastTicks (g.N.Network.reading.net k.self.inside.net) (table_of ps) t → k.write_times-moved.new.schedule.plans ≡ map (retimed_in (filter test ps) t) k.args.schedule.now.plans) k.deref.ensures.value (k.write_times-moved.ensures.times test) part

pub write_plan-requires-clause-capacity : goal.write_plan-requires-clause-capacity
write_plan-requires-clause-capacity g k none =
    let at = goal.at.write_plan-requires-clause-capacity g k in
    let c = at.After-index-newest in
    let a = c.self.inside in
    let times = times-now g at.After-write_times-moved (mine g c) (part-here g c) (Ticks-here g c) (least-of_plans (g.N.Network.reading.net a.net) a.plans.items (here g c).x (Ticks-here g c) (ticks-here g c)) in
    let spare = rw (← c.self.view_is) at c.requires.spare in
    let own_spare = subst (λ o. IsSomeAnd o (λ (ask : Ask). plan_of ask.sheet c.args.schedule.now.plans ≡ None → 0 < c.args.schedule.now.spare)) c.in-Some.is spare in
    let none' : plan_of c.in-Some.ask.sheet (map (retimed_in (filter (mine g c) a.plans.items) (Ticks-here g c)) c.args.schedule.now.plans) ≡ None = sym (λ i. plan_of (k.plan_by_steps-plan.ensures.sheet i) (times i)) ∙ none in
    let more = own_spare (none-before (filter (mine g c) a.plans.items) (Ticks-here g c) c.args.schedule.now.plans c.in-Some.ask.sheet none') in
    let same = k.write_times-moved.ensures.spare in
    omega arith

-- the asked plan, at these ticks
plan-now : (g : _) (k : After-plan_by_steps-plan g) → (t : Ticks) (x : Suffix) → suffix_after k.self.inside.steps.items ≡ Some x → AreLeastTicks (g.N.Network.reading.net k.self.inside.net) (board_table k.self.inside.plans.items (Some x)) t
    → k.plan_by_steps-plan.result ≡ timed_by (settled_ticks k.in-Some.ask (total_of k.in-Some.ask x.choices) t) (asked_plan k.self.inside.plans.items k.in-Some.ask x.choices)
plan-now g k =
    let P : List Plan → List Step → Type 0 = λ ps ss. (t : Ticks) (x : Suffix) → suffix_after ss ≡ Some x → AreLeastTicks (g.N.Network.reading.net k.self.inside.net) (board_table ps (Some x)) t
    → k.plan_by_steps-plan.result ≡ timed_by (settled_ticks k.in-Some.ask (total_of k.in-Some.ask x.choices) t) (asked_plan ps k.in-Some.ask x.choices) in
    subst (λ ss. P k.self.inside.plans.items ss) k.deref-5.ensures.value (subst (λ ps. P ps k.deref-5.result.now) k.deref-3.ensures.value k.plan_by_steps-plan.ensures.plan)

-- the schedule that these steps make
written-here : (g : _) (c : After-index-newest g) (mid new : List Plan) (p : Plan)
    → ((t : Ticks) → AreLeastTicks (g.N.Network.reading.net c.self.inside.net) (table_of c.self.inside.plans.items) t → mid ≡ map (retimed_in (filter (mine g c) c.self.inside.plans.items) t) c.args.schedule.now.plans)
    → ((t : Ticks) (x : Suffix) → suffix_after c.self.inside.steps.items ≡ Some x → AreLeastTicks (g.N.Network.reading.net c.self.inside.net) (board_table c.self.inside.plans.items (Some x)) t
    → p ≡ timed_by (settled_ticks c.in-Some.ask (total_of c.in-Some.ask x.choices) t) (asked_plan c.self.inside.plans.items c.in-Some.ask x.choices))
    → p.sheet ≡ c.in-Some.ask.sheet → new ≡ put_plan p (without p.sheet mid) → AllPairs IsEarlier new
    → IsWritten c.args.machine.now c.args.schedule.now.plans c.in-Some.ask ((here g c).at.solved.0 (number (board_table c.self.inside.plans.items (Some (here g c).x)) (own 0))) new
    × IsWrittenFor c.args.machine.now c.args.schedule.now.plans c.self.inside.plans.items c.in-Some.ask new (here g c).x
written-here g c mid new p times plan sheet made in_order =
    let a = c.self.inside in
    let h = here g c in
    let s = stands-here g c in
    let from = loaded-here g c in
    let e = made-so c.args.machine.now c.args.schedule.now.plans a.plans.items c.in-Some.ask h.x.choices (Ticks-here g c) from mid new p (times (Ticks-here g c) (least-of_plans (g.N.Network.reading.net a.net) a.plans.items h.x (Ticks-here g c) (ticks-here g c)))
    (plan (Ticks-here g c) h.x h.suffix (ticks-here g c)) sheet made in
    written-is c.args.machine.now c.args.schedule.now.plans a.plans.items c.in-Some.ask h.x (board_table a.plans.items (Some h.x)) (g.N.Network.reading.net a.net) h.at.solved.0 from s.loadable s.origin h.at.net h.complete h.at.solved.1 new e in_order

-- its end is the least tick of the asked copy's end
end-here : (g : _) (c : After-index-newest g) (end : ℕ) → end ≡ (here g c).at.solved.0 (number (board_table c.self.inside.plans.items (Some (here g c).x)) (own 0)) → HasLeastTick c.args.machine.now (board g c) (own 0) end
end-here g c end e =
    let a = c.self.inside in
    let h = here g c in
    let s = stands-here g c in
    let is_open : IsSome (suffix_after a.steps.items) = subst IsSome (sym h.suffix) refl in
    let there = end-point a.plans.items (suffix_after a.steps.items) is_open a.last.0 s.last in
    let number-is : number (board_table a.plans.items (Some h.x)) (own 0) ≡ a.last.0 = number-at (board_table a.plans.items (Some h.x)) h.at.net.is_table.differ a.last.0 (own 0) (end-point a.plans.items (Some h.x) refl a.last.0 s.last) in
    and-some a.ask c.in-Some.ask _ s.asked
    (least-tick c.args.machine.now a.plans.items c.in-Some.ask (suffix_after a.steps.items) a.steps.items (g.N.Network.reading.net a.net) a.timelines.orders a.held.items s.now a.last.0 (own 0) there end (h.at.solved.0, h.at.solved.1, e ∙ ap h.at.solved.0 number-is))

pub returns-clause-least : goal.returns-clause-least
returns-clause-least g k =
    let at = goal.at.returns-clause-least g k in
    let c = at.After-index-newest in
    let w = written-here g c k.write_times-moved.new.schedule.plans k.write_plan.new.schedule.plans k.plan_by_steps-plan.result (times-now g at.After-write_times-moved (mine g c) (part-here g c)) (plan-now g at.After-plan_by_steps-plan) k.plan_by_steps-plan.ensures.sheet k.write_plan.ensures.plans k.write_plan.ensures.in_order in
    rw (← k.self.view_is) (and-some k.self.inside.ask k.in-Some.ask _ k.in-Some.is w.0.least)

pub returns-clause-alternative : goal.returns-clause-alternative
returns-clause-alternative g k =
    let at = goal.at.returns-clause-alternative g k in
    let c = at.After-index-newest in
    let w = written-here g c k.write_times-moved.new.schedule.plans k.write_plan.new.schedule.plans k.plan_by_steps-plan.result (times-now g at.After-write_times-moved (mine g c) (part-here g c)) (plan-now g at.After-plan_by_steps-plan) k.plan_by_steps-plan.ensures.sheet k.write_plan.ensures.plans k.write_plan.ensures.in_order in
    rw (← k.self.view_is) (and-some k.self.inside.ask k.in-Some.ask _ k.in-Some.is (w.0.answer, end-here g c (end_of_plan w.0.answer.plan) w.0.ends))

pub returns-clause-written : goal.returns-clause-written
returns-clause-written g k =
    let at = goal.at.returns-clause-written g k in
    let c = at.After-index-newest in
    let w = written-here g c k.write_times-moved.new.schedule.plans k.write_plan.new.schedule.plans k.plan_by_steps-plan.result (times-now g at.After-write_times-moved (mine g c) (part-here g c)) (plan-now g at.After-plan_by_steps-plan) k.plan_by_steps-plan.ensures.sheet k.write_plan.ensures.plans k.write_plan.ensures.in_order in
    let by = IsWrittenFor c.args.machine.now c.args.schedule.now.plans k.self.inside.plans.items c.in-Some.ask k.write_plan.new.schedule.plans in
    rw (← k.self.view_is) (and-some k.self.inside.ask k.in-Some.ask _ k.in-Some.is (and-some (suffix_after k.self.inside.steps.items) (here g c).x by (here g c).suffix w.1))

-- the plans when the asked one is written are those of the schedule at other ticks
written-before : (g : _) (k : After-write_plan g) → k.write_times-moved.new.schedule.plans ≡ map (retimed_in (filter (mine g (goal.at.returns-clause-new_copy g k).After-index-newest) k.self.inside.plans.items) (Ticks-here g (goal.at.returns-clause-new_copy g k).After-index-newest)) k.args.schedule.now.plans
written-before g k =
    let at = goal.at.returns-clause-new_copy g k in
    let c = at.After-index-newest in
    times-now g at.After-write_times-moved (mine g c) (part-here g c) (Ticks-here g c) (least-of_plans (g.N.Network.reading.net c.self.inside.net) c.self.inside.plans.items (here g c).x (Ticks-here g c) (ticks-here g c))

pub returns-clause-new_copy : goal.returns-clause-new_copy
returns-clause-new_copy g k =
    let c = (goal.at.returns-clause-new_copy g k).After-index-newest in
    let plans = filter (mine g c) k.self.inside.plans.items in
    let t = Ticks-here g c in
    let written = written-before g k in
    let same = k.write_times-moved.ensures.spare in
    let spare : plan_of k.in-Some.ask.sheet k.args.schedule.now.plans ≡ None → k.write_plan.new.schedule.spare + 1 ≡ k.args.schedule.now.spare = (λ none.
    let now : plan_of k.plan_by_steps-plan.result.sheet k.write_times-moved.new.schedule.plans ≡ None = (λ i. plan_of (k.plan_by_steps-plan.ensures.sheet i) (written i)) ∙ none-after plans t k.args.schedule.now.plans k.in-Some.ask.sheet none in
    let one = k.write_plan.ensures.new_copy now in
    omega arith) in
    rw (← k.self.view_is) (and-some k.self.inside.ask k.in-Some.ask _ k.in-Some.is spare)

pub returns-clause-in_flight : goal.returns-clause-in_flight
returns-clause-in_flight g k =
    let c = (goal.at.returns-clause-in_flight g k).After-index-newest in
    let plans = filter (mine g c) k.self.inside.plans.items in
    let t = Ticks-here g c in
    let written = written-before g k in
    let same = k.write_times-moved.ensures.spare in
    let spare : IsSome (plan_of k.in-Some.ask.sheet k.args.schedule.now.plans) → k.write_plan.new.schedule.spare ≡ k.args.schedule.now.spare = (λ planned.
    let there : plan_of k.plan_by_steps-plan.result.sheet k.write_times-moved.new.schedule.plans ≡ plan_of k.in-Some.ask.sheet (map (retimed_in plans t) k.args.schedule.now.plans) = (λ i. plan_of (k.plan_by_steps-plan.ensures.sheet i) (written i)) in
    let now = subst IsSome (sym there) (planned-after plans t k.args.schedule.now.plans k.in-Some.ask.sheet planned) in
    k.write_plan.ensures.in_flight now ∙ same) in
    rw (← k.self.view_is) (and-some k.self.inside.ask k.in-Some.ask _ k.in-Some.is spare)

pub returns-clause-unmoved : goal.returns-clause-unmoved
returns-clause-unmoved g k e =
    let p = k.plan_by_steps-plan.result in
    let mid = k.write_times-moved.new.schedule.plans in
    let new = k.write_plan.new.schedule.plans in
    let put : without p.sheet new ≡ without p.sheet mid = ap (without p.sheet) k.write_plan.ensures.plans ∙ without-put_plan p (without p.sheet mid) (All-without p.sheet mid) (same_copy-refl p.sheet) in
    let still : without p.sheet new ≡ without p.sheet k.args.schedule.now.plans = put ∙ ap (without p.sheet) (k.write_times-moved.ensures.unmoved e) in
    rw (← k.self.view_is) (and-some k.self.inside.ask k.in-Some.ask _ k.in-Some.is (subst (λ c. without c new ≡ without c k.args.schedule.now.plans) k.plan_by_steps-plan.ensures.sheet still))
