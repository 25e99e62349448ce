-- The list of a goal that is tried: it is not open, or its bound is the least end on the board.
use Rattle.std.proofs.Common.{◌≡◌, ◌≤◌, ℕ, IsSomeAnd, List, [], Some, ◌∙◌, subst}
use Rattle.tp_machine.specs.declared.parts.State.{State}
use Rattle.tp_machine.specs.declared.machine.Machine.{Machine}
use Rattle.tp_schedule.specs.Answers.{kept_of}
use Rattle.tp_schedule.specs.Choices.{IsBound, IsOpen, going}
use Rattle.tp_schedule.specs.Routes.{HasNoRoom, IsGoalState, IsRoom}
use Rattle.tp_schedule.specs.Spots.Spot.{own}
use Rattle.tp_schedule.specs.declared.parts.Ask.{Ask}
use Rattle.tp_schedule.specs.declared.parts.Plan.{Plan}
use Rattle.tp_constraints.specs.Suffixes.{SuffixTimes, with_goal}
use Rattle.tp_placing.specs.Boards.{BoardValue, suffix_of}
use Rattle.tp_placing.specs.Calls.{HasNoTimes, IsSameLoad}
use Rattle.tp_placing.specs.Ticks.{HasLeastTick, IsLeastTick, TimesOf}
use Rattle.tp_search.proofs.FollowGoal.{refused-late}
use Rattle.tp_constraints.proofs.WayChildren.{goal-closed, goal-late}
use Rattle.tp_search.proofs.WayBounds.{way-bound}
use Rattle.tp_constraints.proofs.WaySteps.{goal-way}

-- what is no goal state with room has no open list without choices
pub goal-shut : (machine : Machine) (plans : List Plan) (ask : Ask) (goal : State) → (IsGoalState machine ask.want ask.goal goal → HasNoRoom machine ask goal) → ¬ IsOpen machine plans ask (going goal [])
goal-shut machine plans ask goal none o = goal-closed machine plans ask goal (none o.1.is_list.goal) o

-- nor has a goal that the board refuses
pub goal-refused : {N : Type 0} (machine : Machine) (b b1 : BoardValue N) (ask : Ask) (goal : State) (room : ℕ) → b.ask ≡ Some ask → IsSameLoad b b1 → IsRoom machine ask goal room → HasNoTimes machine b1 (with_goal room)
    → ¬ IsOpen machine b.plans ask (going goal [])
goal-refused machine b b1 ask goal room asked load is_room none =
    let late = refused-late machine b1 ask (with_goal room) (load.ask ∙ asked) none in
    subst (λ ps. ¬ IsOpen machine ps ask (going goal [])) load.plans (goal-late machine b1.plans ask goal room late is_room)

-- the bound of an opened goal is the least end on the board
pub goal-bound : {N : Type 0} (machine : Machine) (b b1 : BoardValue N) (ask : Ask) (goal : State) (room tick : ℕ) → b.ask ≡ Some ask → IsSameLoad b b1 → IsGoalState machine ask.want ask.goal goal → IsRoom machine ask goal room → kept_of ask ≤ 64
    → suffix_of b1 ≡ Some (with_goal room) → HasLeastTick machine b1 (own 0) tick → IsBound machine b.plans ask (going goal []) tick
goal-bound machine b b1 ask goal room tick asked load is_goal is_room kept opened least =
    let here : IsLeastTick (TimesOf machine b1.plans ask (suffix_of b1)) (own 0) tick = subst (λ k. IsSomeAnd k (λ y. IsLeastTick (TimesOf machine b1.plans y (suffix_of b1)) (own 0) tick)) (load.ask ∙ asked) least in
    let there : IsLeastTick (SuffixTimes machine b1.plans ask (with_goal room)) (own 0) tick = subst (λ x. IsLeastTick (TimesOf machine b1.plans ask x) (own 0) tick) opened here in
    let there' : IsLeastTick (SuffixTimes machine b.plans ask (with_goal room)) (own 0) tick = subst (λ ps. IsLeastTick (SuffixTimes machine ps ask (with_goal room)) (own 0) tick) load.plans there in
    way-bound machine b.plans ask goal goal (with_goal room) tick (goal-way machine b.plans ask goal room is_goal is_room kept) tt there'
