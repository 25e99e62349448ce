-- A schedule's rules are difference constraints, and what each step of a board adds to them.
use Rattle.std.specs.Prelude.{◌≡◌, ◌↔◌, ℕ, suc, ◌+◌, ◌≤◌, Bool, false, List, ◌∷◌, ◌++◌, length, slice_get, Some, IsFalse, IsSome}
use Rattle.tp_machine.specs.Modes.{gap_at}
use Rattle.tp_machine.specs.ModuleUse.{action_at}
use Rattle.tp_machine.specs.declared.parts.ActId.{ActId}
use Rattle.tp_machine.specs.declared.parts.HoldRule.{HoldRule}
use Rattle.tp_machine.specs.declared.parts.State.{State}
use Rattle.tp_machine.specs.declared.machine.Machine.{Machine}
use Rattle.tp_schedule.specs.Answers.{IsAsked, KeepsFloors}
use Rattle.tp_schedule.specs.Choices.{Choice, acts_of, HasTimes, start_floor}
use Rattle.tp_schedule.specs.Holders.{holds_of_act}
use Rattle.tp_schedule.specs.Legality.{IsLegal}
use Rattle.tp_schedule.specs.Routes.{AreAllowed}
use Rattle.tp_schedule.specs.Spots.{Ticks, slot_order}
use Rattle.tp_schedule.specs.Spots.Spot.{own}
use Rattle.tp_schedule.specs.Times.{KeepsTimes, KeepsOrders}
use Rattle.tp_schedule.specs.declared.parts.Ask.{Ask}
use Rattle.tp_schedule.specs.declared.parts.Plan.{Plan}
use Rattle.tp_constraints.specs.Gaps.{Gap, KeepsGaps, KeepsConstraints, IsPoint, low_at, cap_at, duration_gaps, line_gaps, all_chains, range_gaps}
use Rattle.tp_constraints.specs.Suffixes.{Suffix, list_of, IsSuffix, SuffixTimes, HaveRooms, IsInFlight, suffix_gaps, suffix_low, suffix_cap, IsSuffixPoint, order_in, place_gaps, choice_slot, with_action, with_place, with_stop, with_goal, stop_gaps, end_gaps}

-- what a schedule keeps that is loaded
pub record IsLoadable (machine : Machine) (now : ℕ) (exempt : Plan → Bool) (plans : List Plan) : Type 0 where
  pub legal : IsLegal machine plans
  pub floors : KeepsFloors machine now exempt plans

-- all gaps of a schedule
abbrev pub plans_gaps : Machine → List Plan → List Gap
plans_gaps machine plans = duration_gaps machine plans ++ (line_gaps plans ++ all_chains machine (slot_order machine plans) (length machine.resources))

abbrev pub no_own : ℕ → ℕ
no_own n = 0

-- the kept plans may have these ticks
abbrev pub LoadedTimes : Machine → ℕ → (Plan → Bool) → List Plan → Ticks → Type 0
LoadedTimes machine now exempt plans t = KeepsTimes machine now exempt plans t × KeepsOrders machine plans t

-- ticks keep the shape of a schedule and its orders exactly where they keep bounds and gaps
abbrev pub GapsLaw : Type 0
GapsLaw = (machine : Machine) (now : ℕ) (exempt : Plan → Bool) (plans : List Plan) (t : Ticks) → IsLoadable machine now exempt plans
    → LoadedTimes machine now exempt plans t
    ↔ KeepsConstraints (IsPoint plans 0) (low_at (now + machine.lead) exempt plans no_own) (cap_at (now + machine.window) plans) (plans_gaps machine plans) t

-- the same with choices
abbrev pub SuffixLaw : Type 0
SuffixLaw = (machine : Machine) (plans : List Plan) (ask : Ask) (x : Suffix) (t : Ticks) → IsLoadable machine ask.now (λ _. false) plans → IsAsked machine plans ask → IsSuffix machine plans ask x
    → SuffixTimes machine plans ask x t ↔ KeepsConstraints (IsSuffixPoint plans x) (suffix_low machine plans ask x) (suffix_cap machine plans ask) (suffix_gaps machine plans ask x) t

-- with true rooms the ticks of a suffix are those of its choice list with the room of the first state
abbrev pub RoomLaw : Type 0
RoomLaw = (machine : Machine) (plans : List Plan) (ask : Ask) (x : Suffix) (goal s : State) (room : ℕ) (rooms : List ℕ) (t : Ticks)
    → x.rooms ≡ room ∷ rooms → HaveRooms machine ask goal s x.choices x.rooms → AreAllowed machine ask.outs (acts_of x.choices)
    → SuffixTimes machine plans ask x t ↔ HasTimes machine plans ask (list_of goal x) room t

-- an opened goal adds the asked copy's end, with its bounds and the gaps of its line
abbrev pub GoalLaw : Type 0
GoalLaw = (machine : Machine) (plans : List Plan) (ask : Ask) (room : ℕ) (t : Ticks)
    → SuffixTimes machine plans ask (with_goal room) t
    ↔ (LoadedTimes machine ask.now (λ _. false) plans t × (start_floor machine ask.now ask.origin + room ≤ t (own 0)) × (t (own 0) ≤ ask.now + machine.window) × KeepsGaps t (end_gaps ask plans))

-- one choice more, without places, adds its start with its low, and its duration
abbrev pub ActionLaw : Type 0
ActionLaw = (machine : Machine) (plans : List Plan) (ask : Ask) (x : Suffix) (act : ActId) (room : ℕ) (t : Ticks)
    → length x.rooms ≡ suc (length x.choices) → IsFalse x.stopped → IsSome (action_at machine act.0)
    → SuffixTimes machine plans ask (with_action act room x) t
    ↔ (SuffixTimes machine plans ask x t × (start_floor machine ask.now ask.origin + room ≤ t (own (suc (length x.choices))))
    × KeepsGaps t (range_gaps (action_at machine act.0) (own (suc (length x.choices))) (own (length x.choices))))

-- a place of the newest choice's next hold adds the gaps to its neighbours. That between the neighbours stays, and follows
abbrev pub PlaceLaw : Type 0
PlaceLaw = (machine : Machine) (plans : List Plan) (ask : Ask) (x : Suffix) (c : Choice) (choices : List Choice) (rule : HoldRule) (place : ℕ) (t : Ticks)
    → x.choices ≡ c ∷ choices → slice_get (holds_of_act (action_at machine c.act.0)) (length c.places) ≡ Some rule → place ≤ length (order_in machine plans x rule.resource.0)
    → SuffixTimes machine plans ask (with_place place x) t
    ↔ (SuffixTimes machine plans ask x t × KeepsGaps t (place_gaps (gap_at machine rule.resource.0) (order_in machine plans x rule.resource.0) place (choice_slot rule (length choices))))

-- the stop adds that the first point is not after the front's end
abbrev pub StopLaw : Type 0
StopLaw = (machine : Machine) (plans : List Plan) (ask : Ask) (x : Suffix) (t : Ticks) → IsAsked machine plans ask → IsInFlight ask.origin → IsFalse x.stopped
    → SuffixTimes machine plans ask (with_stop x) t ↔ (SuffixTimes machine plans ask x t × KeepsGaps t (stop_gaps ask (length x.choices) (with_stop x).stopped))
