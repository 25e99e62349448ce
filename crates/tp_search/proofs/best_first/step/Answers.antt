use Rattle.std.proofs.Common.{◌≡◌, ◌≤◌, List, false, None, sym, ap, subst, ◌∙◌}
use Rattle.std.proofs.lemmas.Option.{same_Some}
use Rattle.tp_machine.proofs.MachineFacts.{is_machine}
use Rattle.tp_choices.proofs.FewLists.{ended_has_few}
use Rattle.tp_choices.proofs.Frontier.{frontier_ends}
use Rattle.tp_choices.proofs.SearchAncestors.{search_fronts}
use Rattle.tp_pool.specs.Entries.{bound_of}
use Rattle.tp_placing.specs.Boards.{BoardValue}
use Rattle.tp_schedule.specs.Answers.{IsAlternative, NoneBefore}
use Rattle.tp_schedule.specs.Choices.{IsBound, IsOpen}
use Rattle.tp_schedule.specs.SpentBudget.{FewListsOpen, IsSpent}
use Rattle.tp_schedule.specs.declared.parts.Plan.{Plan}
use Rattle.tp_search.specs.Boards.{IsReady}
use Rattle.tp_search.specs.StoredLists.{HasList}
use Rattle.tp_search.specs.HeldLists.{IsLaidSince, IsOver}
use Rattle.tp_search.specs.Limits.{IsLimitKept}
use Rattle.tp_search.specs.declared.best_first.Outcome.TheVariants.{Again}
use Rattle.tp_search.specs.Outcomes.{CanOpen, IsAllOpened}
use Rattle.tp_search.specs.SearchProgress.{IsBestLater, list_at, next_bound, next_list}
use Rattle.tp_search.specs.Stores.{StoreValue}
use Rattle.tp_search.proofs.HoldChildren.{holds-taken}
use Rattle.tp_search.proofs.HoldFacts.{marks-some, over-can_ask, over-legal, over-plans, since-answer, since-back, since-found, since-known, since-marks, since-more, since-undone}
use Rattle.tp_search.proofs.OpenSteps.{list-back}
use Rattle.tp_search.proofs.SearchEnds.{IsBestList, searching-few, searching-never}
use Rattle.tp_search.proofs.StepFacts.{best-list, can-open, known, next-there, space-then, full-ends, again-limited, step-full, step-holds, step-less, step-none_before, step-on}
use Rattle.tp_search.proofs.StoreFacts.{limit-itself}
use Rattle.tp_search.proofs.best_first.step.Goals as goal
use Rattle.tp_search.proofs.best_first.step.Goals.{After-open_next, In-Some, In-Some-best_by, In_default-best_by}

-- a complete list that is stored is no later than the one that was taken
best : (g : _) (c : In-Some-best_by g) → IsBestList c.args.problem.machine.now c.args.board.now.plans c.args.problem.ask.now c.take_next.new.store c.in-Some-best_by.best
best g c =
    best-list c.args.problem.machine.now c.args.board.now.plans c.args.problem.ask.now c.args.goals.now.items c.args.store.now c.requires.searching.0 c.requires.searching.1 c.take_next.new.goals.items c.take_next.new.store c.in-Some.next c.in-Some.ensures.next (over-legal g.N.Network.reading c.requires.over.0 c.args.board.now c.args.problem.machine.now c.args.problem.ask.now c.args.held.now c.requires.over.1 c.requires.over.3)
    (over-can_ask g.N.Network.reading c.requires.over.0 c.args.board.now c.args.problem.machine.now c.args.problem.ask.now c.args.held.now c.requires.over.1 c.requires.over.3)
    c.in-Some-best_by.best c.in-Some-best_by.ensures.best (subst (λ b. bound_of c.take_next.new.store.entries c.in-Some-best_by.best ≤ b) c.bound_of-bound.ensures c.in-Some-best_by.ensures.bound)

-- or there is none
later : (g : _) (c : In_default-best_by g) → IsBestLater c.take_next.new.store (next_bound c.take_next.new.store c.in-Some.next)
later g c = subst (IsBestLater c.take_next.new.store) c.bound_of-bound.ensures (c.best_by.ensures.later c.in_default-best_by.is)

-- the plans are the same once it is laid
plans-laid : (g : _) (c : After-open_next g) → c.lay_next-reached.new.board.plans ≡ c.args.board.now.plans
plans-laid g c = (c.lay_next-reached.ensures.since c.requires.over.0 c.requires.over.1 c.requires.over.3).loaded.plans ∙ sym (over-plans g.N.Network.reading c.requires.over.0 c.args.board.now c.args.problem.machine.now c.args.problem.ask.now c.args.held.now c.requires.over.3)

-- the list was opened
opened : (g : _) (c : After-open_next g) → c.open_next.result ≡ false → IsAllOpened c.args.problem.machine.now c.args.board.now.plans c.args.problem.ask.now c.take_next.new.store c.in-Some.next c.open_next.new.store
opened g c none = subst (λ ps. IsAllOpened c.args.problem.machine.now ps c.args.problem.ask.now c.take_next.new.store c.in-Some.next c.open_next.new.store) (plans-laid g c) (c.open_next.ensures.opened none)

-- all that the board carries was laid since the mark
since : (g : _) (c : After-open_next g) → c.open_next.result ≡ false → (b : BoardValue g.row.N.Denot) → IsReady g.N.Network.reading b c.args.problem.machine.now c.args.problem.ask.now → IsOver g.N.Network.reading b c.args.board.now c.args.problem.machine.now c.args.problem.ask.now c.args.held.now → IsLaidSince g.N.Network.reading b c.open_next.new.board c.args.problem.machine.now c.args.problem.ask.now c.lay_next-reached.result.base.0 c.lay_next-reached.result.root
since g c none b ready over = since-back g.N.Network.reading b c.lay_next-reached.new.board c.args.problem.machine.now c.args.problem.ask.now c.lay_next-reached.result.base.0 c.lay_next-reached.result.root (c.lay_next-reached.ensures.since b ready over) c.open_next.new.board (c.open_next.ensures.back none)

-- it carries the list still
carried : (g : _) (c : After-open_next g) → c.open_next.result ≡ false → HasList g.N.Network.reading c.open_next.new.board c.args.problem.machine.now c.args.problem.ask.now c.lay_next-reached.result.laid.first (next_list c.args.problem.machine.now c.take_next.new.store c.in-Some.next)
carried g c none = list-back g.N.Network.reading c.lay_next-reached.new.board c.open_next.new.board c.args.problem.machine.now c.args.problem.ask.now c.lay_next-reached.result.laid.first (next_list c.args.problem.machine.now c.take_next.new.store c.in-Some.next) (c.open_next.ensures.back none) c.lay_next-reached.ensures.laid

pub take_off-requires : goal.take_off-requires
take_off-requires g c = record { over = (c.requires.over.0, c.args.problem.machine.now, c.args.problem.ask.now, c.requires.over.3) }

pub returns-in_default-clause-ends : goal.returns-in_default-clause-ends
returns-in_default-clause-ends g c b ready over =
    let none = c.take_next.ensures.none.0 c.in_default.is in
    let same = over-plans g.N.Network.reading b c.args.board.now c.args.problem.machine.now c.args.problem.ask.now c.args.held.now over in
    let never = searching-never c.args.problem.machine.now c.args.board.now.plans c.args.problem.ask.now c.args.goals.now.items c.args.store.now c.requires.searching.0 c.requires.searching.1 search_fronts frontier_ends (over-legal g.N.Network.reading c.requires.over.0 c.args.board.now c.args.problem.machine.now c.args.problem.ask.now c.args.held.now c.requires.over.1 c.requires.over.3)
    (over-can_ask g.N.Network.reading c.requires.over.0 c.args.board.now c.args.problem.machine.now c.args.problem.ask.now c.args.held.now c.requires.over.1 c.requires.over.3) none.0 none.1 in
    let few = searching-few c.args.problem.machine.now c.args.board.now.plans c.args.problem.ask.now c.args.goals.now.items c.args.store.now c.requires.searching.0 c.requires.searching.1 ended_has_few (c.take_next.ensures.within c.in_default.is) none.0 none.1 in (
      subst (λ ps. (plans' : List Plan) → ¬ IsAlternative c.args.problem.machine.now ps c.args.problem.ask.now plans') same never,
      c.take_off.ensures.back b c.args.problem.machine.now c.args.problem.ask.now over,
      subst (λ ps. FewListsOpen c.args.problem.machine.now ps c.args.problem.ask.now c.args.store.now.capacity) same few,
    )

pub bound_of-bound-requires : goal.bound_of-bound-requires
bound_of-bound-requires g c = next-there c.args.problem.machine.now c.args.board.now.plans c.args.problem.ask.now c.args.goals.now.items c.args.store.now c.requires.searching.0 c.requires.searching.1 c.take_next.new.goals.items c.take_next.new.store c.in-Some.next c.in-Some.ensures.next

pub mark_anew-base-requires : goal.mark_anew-base-requires
mark_anew-base-requires g c = record { over = (c.requires.over.0, c.args.problem.machine.now, c.args.problem.ask.now, marks-some g.N.Network.reading c.requires.over.0 c.requires.over.2, c.requires.over.3) }

pub follow-requires-clause-ready : goal.follow-requires-clause-ready
follow-requires-clause-ready g c = c.mark_anew-base.ensures.ready c.requires.over.0 c.args.problem.machine.now c.args.problem.ask.now c.requires.over.1 c.requires.over.3

pub follow-requires-clause-opens : goal.follow-requires-clause-opens
follow-requires-clause-opens g c =
    let list = best g (goal.at.follow-requires-clause-opens g c).In-Some-best_by in
    let laid = (c.mark_anew-base.ensures.since c.requires.over.0 c.args.problem.machine.now c.args.problem.ask.now c.requires.over.1 c.requires.over.3).loaded.plans in
    let same = laid ∙ sym (over-plans g.N.Network.reading c.requires.over.0 c.args.board.now c.args.problem.machine.now c.args.problem.ask.now c.args.held.now c.requires.over.3) in
    subst (λ ps. IsOpen c.args.problem.machine.now ps c.args.problem.ask.now (list_at c.args.problem.machine.now c.take_next.new.store.entries c.in-Some-best_by.best)) (sym same) (bound_of c.take_next.new.store.entries c.in-Some-best_by.best, list.is_bound.opens)

pub returns-in-Some-best_by-clause-ends : goal.returns-in-Some-best_by-clause-ends
returns-in-Some-best_by-clause-ends g c b ready over =
    let list = best g (goal.at.returns-in-Some-best_by-clause-ends g c).In-Some-best_by in
    let same = over-plans g.N.Network.reading b c.args.board.now c.args.problem.machine.now c.args.problem.ask.now c.args.held.now over in
    let whole = list_at c.args.problem.machine.now c.take_next.new.store.entries c.in-Some-best_by.best in
    let bound = bound_of c.take_next.new.store.entries c.in-Some-best_by.best in
    since-answer g.N.Network.reading b c.follow.new.board c.args.problem.machine.now c.args.problem.ask.now c.mark_anew-base.result.0 None
    (since-more g.N.Network.reading b c.mark_anew-base.new.board c.args.problem.machine.now c.args.problem.ask.now c.mark_anew-base.result.0 None (c.mark_anew-base.ensures.since b c.args.problem.machine.now c.args.problem.ask.now ready over) c.follow.new.board c.follow.ensures.same c.follow.ensures.laid.stands)
    c.follow.result whole bound c.follow.ensures.laid list.complete (subst (λ ps. IsBound c.args.problem.machine.now ps c.args.problem.ask.now whole bound) same list.is_bound) (subst (λ ps. NoneBefore c.args.problem.machine.now ps c.args.problem.ask.now bound) same list.none_before)

pub lay_next-reached-requires-clause-over : goal.lay_next-reached-requires-clause-over
lay_next-reached-requires-clause-over g c = (c.requires.over.0, c.requires.over.1, marks-some g.N.Network.reading c.requires.over.0 c.requires.over.2, c.requires.over.3)

pub lay_next-reached-requires-clause-holds : goal.lay_next-reached-requires-clause-holds
lay_next-reached-requires-clause-holds g c =
    let same = ap (λ (t : StoreValue). t.entries) (known c.args.problem.machine.now c.args.board.now.plans c.args.problem.ask.now c.args.goals.now.items c.args.store.now c.requires.searching.0 c.requires.searching.1 c.take_next.new.goals.items c.take_next.new.store c.in-Some.next c.in-Some.ensures.next).same in
    holds-taken g.N.Network.reading c.args.board.now c.args.problem.machine.now c.args.problem.ask.now c.args.store.now c.take_next.new.store c.args.held.now same c.requires.holds

pub lay_next-reached-requires-clause-can : goal.lay_next-reached-requires-clause-can
lay_next-reached-requires-clause-can g c =
    let k = goal.at.lay_next-reached-requires-clause-can g c in
    (can-open c.args.problem.machine.now c.args.board.now.plans c.args.problem.ask.now c.args.goals.now.items c.args.store.now c.requires.searching.0 c.requires.searching.1 c.take_next.new.goals.items c.take_next.new.store c.in-Some.next c.in-Some.ensures.next (is_machine c.args.problem.machine.now) c.requires.goal (later g k.In_default-best_by)).can_lay

pub open_next-requires-clause-marks : goal.open_next-requires-clause-marks
open_next-requires-clause-marks g c = since-marks g.N.Network.reading c.requires.over.0 c.lay_next-reached.new.board c.args.problem.machine.now c.args.problem.ask.now c.lay_next-reached.result.base.0 c.lay_next-reached.result.root (c.lay_next-reached.ensures.since c.requires.over.0 c.requires.over.1 c.requires.over.3) c.requires.over.2

pub open_next-requires-clause-can : goal.open_next-requires-clause-can
open_next-requires-clause-can g c =
    let k = goal.at.open_next-requires-clause-can g c in
    let same = (c.lay_next-reached.ensures.since c.requires.over.0 c.requires.over.1 c.requires.over.3).loaded.plans ∙ sym (over-plans g.N.Network.reading c.requires.over.0 c.args.board.now c.args.problem.machine.now c.args.problem.ask.now c.args.held.now c.requires.over.3) in
    subst (λ ps. CanOpen c.args.problem.machine.now ps c.args.problem.ask.now c.take_next.new.store c.in-Some.next) (sym same) (can-open c.args.problem.machine.now c.args.board.now.plans c.args.problem.ask.now c.args.goals.now.items c.args.store.now c.requires.searching.0 c.requires.searching.1 c.take_next.new.goals.items c.take_next.new.store c.in-Some.next c.in-Some.ensures.next (is_machine c.args.problem.machine.now) c.requires.goal (later g k.In_default-best_by))

pub returns-then-open_next-clause-ends : goal.returns-then-open_next-clause-ends
returns-then-open_next-clause-ends g c b ready over =
    let k = goal.at.returns-then-open_next-clause-ends g c in
    let none = step-none_before c.args.problem.machine.now c.args.board.now.plans c.args.problem.ask.now c.args.goals.now.items c.args.store.now c.requires.searching.0 c.requires.searching.1 c.take_next.new.goals.items c.take_next.new.store c.in-Some.next c.in-Some.ensures.next (is_machine c.args.problem.machine.now) c.requires.goal (later g k.In_default-best_by) (over-legal g.N.Network.reading c.requires.over.0 c.args.board.now c.args.problem.machine.now c.args.problem.ask.now c.args.held.now c.requires.over.1 c.requires.over.3)
    (over-can_ask g.N.Network.reading c.requires.over.0 c.args.board.now c.args.problem.machine.now c.args.problem.ask.now c.args.held.now c.requires.over.1 c.requires.over.3) in
    let bound = next_bound c.take_next.new.store c.in-Some.next in
    let same = over-plans g.N.Network.reading b c.args.board.now c.args.problem.machine.now c.args.problem.ask.now c.args.held.now over in
    since-found g.N.Network.reading b c.lay_next-reached.new.board c.open_next.new.board c.args.problem.machine.now c.args.problem.ask.now c.lay_next-reached.result.base.0 c.lay_next-reached.result.root bound (c.lay_next-reached.ensures.since b ready over)
    (c.open_next.ensures.found c.if-open_next.true) (subst (λ ps. NoneBefore c.args.problem.machine.now ps c.args.problem.ask.now bound) same none)

pub returns-then-open_next-clause-same : goal.returns-then-open_next-clause-same
returns-then-open_next-clause-same g c =
    let k = goal.at.returns-then-open_next-clause-same g c in
    space-then c.args.problem.machine.now c.args.board.now.plans c.args.problem.ask.now c.args.goals.now.items c.args.store.now c.requires.searching.0 c.requires.searching.1 c.take_next.new.goals.items c.take_next.new.store c.in-Some.next c.in-Some.ensures.next (is_machine c.args.problem.machine.now) c.requires.goal (later g k.In_default-best_by) c.open_next.new.store c.open_next.ensures.grows c.args.goals.now c.take_next.new.goals c.take_next.ensures.same

pub undo_to-requires : goal.undo_to-requires
undo_to-requires g c =
    let k = goal.at.undo_to-requires g c in
    since-known g.N.Network.reading c.requires.over.0 c.open_next.new.board c.args.problem.machine.now c.args.problem.ask.now c.lay_next-reached.result.base.0 c.lay_next-reached.result.root (since g k.After-open_next c.if-open_next.false c.requires.over.0 c.requires.over.1 c.requires.over.3)

pub returns-then-is_full-clause-ends : goal.returns-then-is_full-clause-ends
returns-then-is_full-clause-ends g c b ready over =
    let k = goal.at.returns-then-is_full-clause-ends g c in
    let same = over-plans g.N.Network.reading b c.args.board.now c.args.problem.machine.now c.args.problem.ask.now c.args.held.now over in
    let u = c.undo_to.ensures in
    full-ends g.N.Network.reading b c.undo_to.new.self c.args.problem.machine.now c.args.problem.ask.now c.args.store.now.capacity c.bound_of-bound.result c.open_next.new.store.limit c.full_outcome.result c.full_outcome.ensures.spent c.full_outcome.ensures.again
    (λ none.
    let spent = step-full c.args.problem.machine.now c.args.board.now.plans c.args.problem.ask.now c.args.goals.now.items c.args.store.now c.requires.searching.0 c.requires.searching.1 c.take_next.new.goals.items c.take_next.new.store c.in-Some.next c.in-Some.ensures.next (is_machine c.args.problem.machine.now) c.requires.goal (later g k.In_default-best_by) c.open_next.new.store (opened g k.After-open_next c.if-open_next.false) (sym c.is_full.ensures.full ∙ c.if-is_full.true) none (over-legal g.N.Network.reading c.requires.over.0 c.args.board.now c.args.problem.machine.now c.args.problem.ask.now c.args.held.now c.requires.over.1 c.requires.over.3)
    (over-can_ask g.N.Network.reading c.requires.over.0 c.args.board.now c.args.problem.machine.now c.args.problem.ask.now c.args.held.now c.requires.over.1 c.requires.over.3) in
    let at = subst (IsSpent c.args.problem.machine.now c.args.board.now.plans c.args.problem.ask.now c.args.store.now.capacity) (sym c.bound_of-bound.ensures) spent in
    subst (λ ps. IsSpent c.args.problem.machine.now ps c.args.problem.ask.now c.args.store.now.capacity c.bound_of-bound.result) same at)
    (since-undone g.N.Network.reading g.N.Undo.untouched c.marks_keep_boards.ensures.back b c.open_next.new.board c.undo_to.new.self c.args.problem.machine.now c.args.problem.ask.now c.lay_next-reached.result.base.0 c.lay_next-reached.result.root (since g k.After-open_next c.if-open_next.false b ready over) (record { content_then = u.content; past_less = u.past; untouched_same = u.untouched; room_same = u.capacity }))

pub returns-then-is_full-clause-again : goal.returns-then-is_full-clause-again
returns-then-is_full-clause-again g c is = again-limited c.bound_of-bound.result c.open_next.new.store.limit c.full_outcome.result c.full_outcome.ensures.spent (same_Some c.full_outcome.result Again is)

-- taking a list keeps the limit, and opening it keeps it or finds it
taken-limit : (g : _) (c : In-Some g) → c.take_next.new.store.limit ≡ c.args.store.now.limit
taken-limit g c = ap (λ (t : StoreValue). t.limit) (known c.args.problem.machine.now c.args.board.now.plans c.args.problem.ask.now c.args.goals.now.items c.args.store.now c.requires.searching.0 c.requires.searching.1 c.take_next.new.goals.items c.take_next.new.store c.in-Some.next c.in-Some.ensures.next).same

opened-limit : (g : _) (c : After-open_next g) → IsLimitKept c.args.store.now.limit c.open_next.new.store.limit
opened-limit g c = subst (λ l. IsLimitKept l c.open_next.new.store.limit) (taken-limit g (goal.at.After-open_next g c).In-Some) c.open_next.ensures.grows.limit

pub returns-in_default-clause-limit : goal.returns-in_default-clause-limit
returns-in_default-clause-limit g c = subst (λ (s : StoreValue). IsLimitKept c.args.store.now.limit s.limit) (sym (c.take_next.ensures.stays c.in_default.is)) (limit-itself c.args.store.now.limit)

pub returns-in-Some-best_by-clause-limit : goal.returns-in-Some-best_by-clause-limit
returns-in-Some-best_by-clause-limit g c = subst (IsLimitKept c.args.store.now.limit) (sym (taken-limit g (goal.at.returns-in-Some-best_by-clause-limit g c).In-Some)) (limit-itself c.args.store.now.limit)

pub returns-then-open_next-clause-limit : goal.returns-then-open_next-clause-limit
returns-then-open_next-clause-limit g c = opened-limit g (goal.at.returns-then-open_next-clause-limit g c).After-open_next

pub returns-then-is_full-clause-limit : goal.returns-then-is_full-clause-limit
returns-then-is_full-clause-limit g c = opened-limit g (goal.at.returns-then-is_full-clause-limit g c).After-open_next

pub returns-clause-limit : goal.returns-clause-limit
returns-clause-limit g c = opened-limit g (goal.at.returns-clause-limit g c).After-open_next

pub returns-then-is_full-clause-same : goal.returns-then-is_full-clause-same
returns-then-is_full-clause-same g c =
    let k = goal.at.returns-then-is_full-clause-same g c in
    space-then c.args.problem.machine.now c.args.board.now.plans c.args.problem.ask.now c.args.goals.now.items c.args.store.now c.requires.searching.0 c.requires.searching.1 c.take_next.new.goals.items c.take_next.new.store c.in-Some.next c.in-Some.ensures.next (is_machine c.args.problem.machine.now) c.requires.goal (later g k.In_default-best_by) c.open_next.new.store c.open_next.ensures.grows c.args.goals.now c.take_next.new.goals c.take_next.ensures.same

pub returns-clause-goes_on : goal.returns-clause-goes_on
returns-clause-goes_on g c none =
    let k = goal.at.returns-clause-goes_on g c in (
      next_bound c.take_next.new.store c.in-Some.next,
      step-on c.args.problem.machine.now c.args.board.now.plans c.args.problem.ask.now c.args.goals.now.items c.args.store.now c.requires.searching.0 c.requires.searching.1 c.take_next.new.goals.items c.take_next.new.store c.in-Some.next c.in-Some.ensures.next (is_machine c.args.problem.machine.now) c.requires.goal (later g k.In_default-best_by) c.open_next.new.store (opened g k.After-open_next c.if-open_next.false) (sym c.is_full.ensures.full ∙ c.if-is_full.false),
    )

pub returns-clause-over : goal.returns-clause-over
returns-clause-over g c b ready over none = since g (goal.at.returns-clause-over g c).After-open_next c.if-open_next.false b ready over

pub returns-clause-holds : goal.returns-clause-holds
returns-clause-holds g c none =
    let k = goal.at.returns-clause-holds g c in
    step-holds c.args.problem.machine.now c.args.board.now.plans c.args.problem.ask.now c.args.goals.now.items c.args.store.now c.requires.searching.0 c.requires.searching.1 c.take_next.new.goals.items c.take_next.new.store c.in-Some.next c.in-Some.ensures.next (is_machine c.args.problem.machine.now) c.requires.goal (later g k.In_default-best_by) c.open_next.new.store (opened g k.After-open_next c.if-open_next.false) g.N.Network.reading c.open_next.new.board c.lay_next-reached.result
    (carried g k.After-open_next c.if-open_next.false) c.lay_next-reached.ensures.stored

pub returns-clause-less : goal.returns-clause-less
returns-clause-less g c none =
    let k = goal.at.returns-clause-less g c in
    step-less c.args.problem.machine.now c.args.board.now.plans c.args.problem.ask.now c.args.goals.now.items c.args.store.now c.requires.searching.0 c.requires.searching.1 c.take_next.new.goals.items c.take_next.new.store c.in-Some.next c.in-Some.ensures.next (is_machine c.args.problem.machine.now) c.requires.goal (later g k.In_default-best_by) c.open_next.new.store (opened g k.After-open_next c.if-open_next.false) c.is_full.ensures.within

pub returns-clause-same : goal.returns-clause-same
returns-clause-same g c =
    let k = goal.at.returns-clause-same g c in
    space-then c.args.problem.machine.now c.args.board.now.plans c.args.problem.ask.now c.args.goals.now.items c.args.store.now c.requires.searching.0 c.requires.searching.1 c.take_next.new.goals.items c.take_next.new.store c.in-Some.next c.in-Some.ensures.next (is_machine c.args.problem.machine.now) c.requires.goal (later g k.In_default-best_by) c.open_next.new.store c.open_next.ensures.grows c.args.goals.now c.take_next.new.goals c.take_next.ensures.same
