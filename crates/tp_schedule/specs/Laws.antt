-- Laws that show that the definitions fit one another.
use Rattle.std.specs.Prelude.{◌≡◌, ◌↔◌, ℕ, ◌≤◌, List, length, map, Some, All, AllPairs, Contains, IsTrue, IsPermutation}
use Rattle.tp_machine.specs.Machines.{IsMachine}
use Rattle.tp_machine.specs.Modes.{gap_at}
use Rattle.tp_machine.specs.Steps.{Step, step_of}
use Rattle.tp_machine.specs.ModuleUse.{action_at, IsAllowed}
use Rattle.tp_machine.specs.declared.parts.ActId.{ActId}
use Rattle.tp_machine.specs.declared.parts.Action.{Action}
use Rattle.tp_machine.specs.declared.parts.Outs.{Outs}
use Rattle.tp_machine.specs.declared.parts.Sheet.{Sheet}
use Rattle.tp_machine.specs.declared.parts.State.{State}
use Rattle.tp_machine.specs.declared.machine.Machine.{Machine}
use Rattle.tp_schedule.specs.Routes.{IsRoom, is_act_allowed}
use Rattle.tp_schedule.specs.Plans.{IsTimedPlan, IsEarlier, without, end_of_plan}
use Rattle.tp_schedule.specs.Holders.{Holder, IsHeldIn, held, holders}
use Rattle.tp_schedule.specs.Legality.{IsLegal, IsSpreadAt}
use Rattle.tp_schedule.specs.Spots.{Ticks, Slot, IsApart, AreApart, IsRow, IsSoundSlot, slots, slot_order, ticks_of}
use Rattle.tp_schedule.specs.Spots.Spot.{own}
use Rattle.tp_schedule.specs.Answers.{IsEarliest}
use Rattle.tp_schedule.specs.Choices.{ChoiceList, IsChoiceList, IsFirstState, HasTimes, OpensTo}
use Rattle.tp_schedule.specs.declared.parts.Ask.{Ask}
use Rattle.tp_schedule.specs.declared.parts.Plan.{Plan}
use Rattle.tp_schedule.specs.declared.parts.SheetId.{SheetId}

-- the order of a resource is the only list of its holds in which each ends by the begins of those after it
abbrev pub OrderIsOnly : Type 0
OrderIsOnly = (machine : Machine) (plans : List Plan) (resource : ℕ) (xs : List Slot) → IsLegal machine plans
    → IsPermutation (slots machine resource plans) xs → AllPairs (IsApart (gap_at machine resource) (ticks_of plans)) xs ↔ (xs ≡ slot_order machine plans resource)

-- a legal schedule less one plan is legal
abbrev pub LegalWithout : Type 0
LegalWithout = (machine : Machine) (copy : SheetId) (plans : List Plan) → IsLegal machine plans → IsLegal machine (without copy plans)

-- at most one holder at every tick, and different modes at ticks that differ by more than the gap, are the same as holds
-- that are pairwise apart
abbrev pub OneHolderIsApart : Type 0
OneHolderIsApart = (machine : Machine) (plans : List Plan) (resource : ℕ) → AllPairs IsEarlier plans → All (IsTimedPlan machine) plans
    → (((tick : ℕ) → length (held machine plans resource tick) ≤ 1) × ((tick : ℕ) → IsSpreadAt machine plans resource tick)) ↔ AllPairs (AreApart (gap_at machine resource) (ticks_of plans)) (slots machine resource plans)

-- the copies that hold a resource are those of its holders, and it is held in a mode exactly where a holder has it
abbrev pub HeldByHolders : Type 0
HeldByHolders = (machine : Machine) (plans : List Plan) (resource tick : ℕ) → IsMachine machine
    → (held machine plans resource tick ≡ map (λ (h : Holder). h.hold) (holders machine plans resource tick))
    × ((mode : ℕ) → IsHeldIn machine plans resource tick mode ↔ ((h : Holder) × Contains (holders machine plans resource tick) h × (h.mode ≡ mode)))

-- neighbours that are apart make all apart
abbrev pub RowIsApart : Type 0
RowIsApart = (gap : ℕ) (t : Ticks) (xs : List Slot) → All (IsSoundSlot t) xs → IsRow gap t xs ↔ AllPairs (IsApart gap t) xs

-- rooms are unique
abbrev pub RoomIsOne : Type 0
RoomIsOne = (machine : Machine) (ask : Ask) (s : State) (m n : ℕ) → IsRoom machine ask s m → IsRoom machine ask s n → m ≡ n

-- earliest ends are unique
abbrev pub EarliestEndIsOne : Type 0
EarliestEndIsOne = (machine : Machine) (plans : List Plan) (ask : Ask) (one other : List Plan) (a : IsEarliest machine plans ask one) (b : IsEarliest machine plans ask other)
    → end_of_plan a.alternative.plan ≡ end_of_plan b.alternative.plan

-- the step that computes is the step as a relation
abbrev pub StepIsComputed : Type 0
StepIsComputed = (a : Action) (sheet : Sheet) (s t : State) → Step a sheet s t ↔ (step_of a sheet s ≡ Some t)

-- the test of an allowed action is that none of the modules that it uses is out
abbrev pub AllowedIsTested : Type 0
AllowedIsTested = (machine : Machine) (outs : Outs) (act : ActId) (a : Action) → action_at machine act.0 ≡ Some a
    → IsTrue (is_act_allowed machine outs act) ↔ IsAllowed machine outs a

-- the ticks of an open list leave room of its first state, and ticks of a list that leave it open the list
abbrev pub OpenLeavesRoom : Type 0
OpenLeavesRoom = (machine : Machine) (plans : List Plan) (ask : Ask) (list : ChoiceList) (end room : ℕ) (o : OpensTo machine plans ask list end)
    → IsRoom machine ask o.state room → HasTimes machine plans ask list room o.ticks

abbrev pub RoomOpens : Type 0
RoomOpens = (machine : Machine) (plans : List Plan) (ask : Ask) (list : ChoiceList) (state : State) (room : ℕ) (t : Ticks)
    → IsChoiceList machine plans ask list → IsFirstState machine ask list state → IsRoom machine ask state room
    → HasTimes machine plans ask list room t → OpensTo machine plans ask list (t (own 0))
