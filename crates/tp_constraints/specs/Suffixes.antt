-- The choices that a board has: a suffix of a route like that of a choice list, of which the newest choice may have places
-- for its first holds alone, with a room for each own point.
use Rattle.std.specs.Prelude.{◌≡◌, ℕ, zero, suc, ◌+◌, ◌≤◌, ◌==◌, Bool, true, false, List, [], ◌∷◌, ◌++◌, length, AllPairs, Contains, IsTrue, IsSome, flat_map, if◌then◌else◌, pos, slice_get, Option, Some, None}
use Rattle.tp_machine.specs.Modes.{gap_at}
use Rattle.tp_machine.specs.ModuleUse.{action_at}
use Rattle.tp_machine.specs.declared.parts.ActId.{ActId}
use Rattle.tp_machine.specs.declared.parts.HoldRule.{HoldRule}
use Rattle.tp_machine.specs.declared.parts.State.{State}
use Rattle.tp_machine.specs.declared.machine.Machine.{Machine}
use Rattle.tp_schedule.specs.Answers.{kept_of}
use Rattle.tp_schedule.specs.Choices.{Choice, ChoiceList, acts_of, placed, HavePlaces, start_floor, KeepsLine, ChoicesLast}
use Rattle.tp_schedule.specs.Holders.{holds_of_act}
use Rattle.tp_schedule.specs.Plans.{is_before}
use Rattle.tp_schedule.specs.Routes.{step_by, IsRoom}
use Rattle.tp_schedule.specs.Spots.{Spot, Ticks, Slot, IsApart, slot_order}
use Rattle.tp_schedule.specs.Spots.Spot.{kept, own}
use Rattle.tp_schedule.specs.Times.{KeepsTimes}
use Rattle.tp_schedule.specs.declared.parts.Ask.{Ask}
use Rattle.tp_schedule.specs.declared.parts.Origin.{Origin}
use Rattle.tp_schedule.specs.declared.parts.Origin.TheVariants.{Feeder as FromFeeder, Front as FromFront}
use Rattle.tp_schedule.specs.declared.parts.Plan.{Plan}
use Rattle.tp_constraints.specs.Gaps.{Gap, gap, range_gaps, slot_gap, duration_gaps, line_gaps, all_chains, end_spot, is_in_line, low_at, cap_at, IsPoint}

-- the choices and the rooms of the own points, the first point's first, and whether the list is stopped
pub record Suffix : Type 0 where
  pub choices : List Choice
  pub rooms : List ℕ
  pub stopped : Bool

-- the choice list with this goal state
abbrev pub list_of : State → Suffix → ChoiceList
list_of goal x = record { goal = goal; choices = x.choices; stopped = x.stopped }

-- the room of an own point
abbrev pub room_of : List ℕ → ℕ → ℕ
room_of [] n = 0
room_of (room ∷ rooms) n = if n == length rooms then room else room_of rooms n

-- there is a place within the order of its resource for each of the first holds
abbrev pub AreWithinSoFar : (ℕ → List Slot) → List HoldRule → List ℕ → Type 0
AreWithinSoFar orders rules [] = Unit {0}
AreWithinSoFar orders [] (place ∷ places) = ⊥
AreWithinSoFar orders (rule ∷ rules) (place ∷ places) = (place ≤ length (orders rule.resource.0)) × AreWithinSoFar orders rules places

-- the newest choice has first places, and the others have all of theirs
abbrev pub HavePlacesSoFar : Machine → (ℕ → List Slot) → List Choice → Type 0
HavePlacesSoFar machine orders [] = Unit {0}
HavePlacesSoFar machine orders (c ∷ choices) =
    AreWithinSoFar (λ r. placed machine r (orders r) choices) (holds_of_act (action_at machine c.act.0)) c.places × HavePlaces machine orders choices

-- the asked copy is in flight
abbrev pub IsInFlight : Origin → Type 0
IsInFlight FromFeeder = ⊥
IsInFlight (FromFront state end count) = Unit {0}

-- a suffix over a schedule: one room more than choices, actions of the machine, places, and stopped only in flight
pub record IsSuffix (machine : Machine) (plans : List Plan) (ask : Ask) (x : Suffix) : Type 0 where
  pub rooms : length x.rooms ≡ suc (length x.choices)
  pub known : (act : ActId) → Contains (acts_of x.choices) act → IsSome (action_at machine act.0)
  pub places : HavePlacesSoFar machine (slot_order machine plans) x.choices
  pub can_stop : IsTrue x.stopped → IsInFlight ask.origin

-- the order of a resource with the holds placed so far
abbrev pub order_in : Machine → List Plan → Suffix → ℕ → List Slot
order_in machine plans x resource = placed machine resource (slot_order machine plans resource) x.choices

-- the kept plans and the choices may have these ticks, with so much room before each own point
pub record SuffixTimes (machine : Machine) (plans : List Plan) (ask : Ask) (x : Suffix) (t : Ticks) : Type 0 where
  pub keeps : KeepsTimes machine ask.now (λ _. false) plans t
  pub lasts : ChoicesLast machine t x.choices
  pub lows : (n : ℕ) → n ≤ length x.choices → start_floor machine ask.now ask.origin + room_of x.rooms n ≤ t (own n)
  pub last : t (own 0) ≤ ask.now + machine.window
  pub line : KeepsLine ask plans t (t (own 0))
  pub apart : (resource : ℕ) → AllPairs (IsApart (gap_at machine resource) t) (order_in machine plans x resource)
  pub stopped : IsTrue x.stopped → t (own (length x.choices)) ≡ start_floor machine ask.now ask.origin

-- from this state the choices lead to the goal state, and each room is that of its point's state
abbrev pub HaveRooms : Machine → Ask → State → State → List Choice → List ℕ → Type 0
HaveRooms machine ask goal s [] [] = ⊥
HaveRooms machine ask goal s [] (room ∷ rooms) = (s ≡ goal) × IsRoom machine ask s room × (rooms ≡ [])
HaveRooms machine ask goal s (c ∷ choices) [] = ⊥
HaveRooms machine ask goal s (c ∷ choices) (room ∷ rooms) =
    IsRoom machine ask s room × ((s' : State) × (step_by machine ask.want c.act s ≡ Some s') × HaveRooms machine ask goal s' choices rooms)

-- the durations of the choices
abbrev pub choice_gaps : Machine → List Choice → List Gap
choice_gaps machine [] = []
choice_gaps machine (c ∷ choices) = range_gaps (action_at machine c.act.0) (own (suc (length choices))) (own (length choices)) ++ choice_gaps machine choices

-- the asked copy ends after the whole plans of earlier copies to its tray, and before those of later ones
abbrev pub end_gap : Ask → Plan → List Gap
end_gap ask p =
    if is_in_line ask.goal p then (if is_before p.sheet ask.sheet then gap (end_spot p) (own 0) (pos 1) ∷ [] else (if is_before ask.sheet p.sheet then gap (own 0) (end_spot p) (pos 1) ∷ [] else [])) else []

abbrev pub end_gaps : Ask → List Plan → List Gap
end_gaps ask plans = flat_map (end_gap ask) plans

-- in a stopped list the first point, of this number, is at most the front's end
abbrev pub stop_gaps : Ask → ℕ → Bool → List Gap
stop_gaps ask n false = []
stop_gaps ask n true = gap (own n) (kept ask.sheet (kept_of ask)) (pos 0) ∷ []

-- all gaps of a schedule with a suffix, and the bounds of its points
abbrev pub suffix_gaps : Machine → List Plan → Ask → Suffix → List Gap
suffix_gaps machine plans ask x =
    duration_gaps machine plans ++ (line_gaps plans ++ (choice_gaps machine x.choices ++ (end_gaps ask plans ++ (stop_gaps ask (length x.choices) x.stopped ++ all_chains machine (order_in machine plans x) (length machine.resources)))))

abbrev pub suffix_low : Machine → List Plan → Ask → Suffix → Spot → ℕ
suffix_low machine plans ask x = low_at (ask.now + machine.lead) (λ _. false) plans (λ n. start_floor machine ask.now ask.origin + room_of x.rooms n)

abbrev pub suffix_cap : Machine → List Plan → Ask → Spot → ℕ
suffix_cap machine plans ask = cap_at (ask.now + machine.window) plans

abbrev pub IsSuffixPoint : List Plan → Suffix → Spot → Type 0
IsSuffixPoint plans x = IsPoint plans (suc (length x.choices))

-- the gaps of a hold at a place of an order, from the hold before it and to the one behind it
abbrev pub gap_after : ℕ → Option Slot → Slot → List Gap
gap_after apart None s = []
gap_after apart (Some x) s = slot_gap apart x s ∷ []

abbrev pub gap_until : ℕ → Slot → Option Slot → List Gap
gap_until apart s None = []
gap_until apart s (Some x) = slot_gap apart s x ∷ []

abbrev pub before_place : List Slot → ℕ → Option Slot
before_place xs zero = None
before_place xs (suc i) = slice_get xs i

abbrev pub place_gaps : ℕ → List Slot → ℕ → Slot → List Gap
place_gaps apart xs place s = gap_after apart (before_place xs place) s ++ gap_until apart s (slice_get xs place)

-- the suffix of an opened goal, one with one choice more that has no places yet, with one place more, and stopped
abbrev pub with_goal : ℕ → Suffix
with_goal room = record { choices = []; rooms = room ∷ []; stopped = false }

abbrev pub with_action : ActId → ℕ → Suffix → Suffix
with_action act room x = record { choices = record { act = act; places = [] } ∷ x.choices; rooms = room ∷ x.rooms; stopped = x.stopped }

abbrev pub place_first : ℕ → List Choice → List Choice
place_first place [] = []
place_first place (c ∷ choices) = record { act = c.act; places = c.places ++ place ∷ [] } ∷ choices

abbrev pub with_place : ℕ → Suffix → Suffix
with_place place x = record { choices = place_first place x.choices; rooms = x.rooms; stopped = x.stopped }

abbrev pub with_stop : Suffix → Suffix
with_stop x = record { choices = x.choices; rooms = x.rooms; stopped = true }

-- the hold by a rule of the choice before which so many others were made
abbrev pub choice_slot : HoldRule → ℕ → Slot
choice_slot rule n = record { rule = rule; from = own (suc n); to = own n }
