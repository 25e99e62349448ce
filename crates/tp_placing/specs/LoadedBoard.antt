-- What holds of a loaded board: its network and its orders are those of its plans with the suffix so far.
use Rattle.std.specs.Prelude.{◌≡◌, ℕ, zero, suc, ◌+◌, ◌-◌, ◌*◌, ◌<◌, ◌≤◌, Bool, false, true, List, [], ◌∷◌, ◌++◌, length, slice_get, Option, Some, None, All, Contains, if◌then◌else◌}
use Rattle.tp_base.specs.Readings.{Reading}
use Rattle.tp_base.specs.Net.{Net, HasLeast}
use Rattle.tp_machine.specs.Machines.{IsOffset}
use Rattle.tp_machine.specs.declared.parts.ActId.{ActId}
use Rattle.tp_machine.specs.declared.parts.HoldRule.{HoldRule}
use Rattle.tp_machine.specs.declared.machine.Machine.{Machine}
use Rattle.tp_schedule.specs.Answers.{IsAsked, KeepsHorizon, kept_of}
use Rattle.tp_schedule.specs.Choices.{Choice, start_floor}
use Rattle.tp_schedule.specs.Spots.{Spot, Slot, slot_order}
use Rattle.tp_schedule.specs.Spots.Spot.{own}
use Rattle.tp_schedule.specs.declared.parts.Ask.{Ask}
use Rattle.tp_schedule.specs.declared.parts.Plan.{Plan}
use Rattle.tp_timelines.specs.Orders.{order_on, total}
use Rattle.tp_constraints.specs.Moments.{SayGaps}
use Rattle.tp_constraints.specs.Hops.{no_choices}
use Rattle.tp_constraints.specs.Laws.{IsLoadable}
use Rattle.tp_constraints.specs.Nets.{IsLoadedNet, IsBoardNet}
use Rattle.tp_constraints.specs.Numbers.{table_of}
use Rattle.tp_constraints.specs.Suffixes.{Suffix, order_in}
use Rattle.tp_base.specs.declared.edges.PointId.{PointId}
use Rattle.tp_machine.specs.Limits.{most_act_holds}
use Rattle.tp_schedule.specs.Limits.{most_acts, most_live, most_plan_points}
use Rattle.tp_placing.specs.Causes.{ArePlain, IsNamedHop, IsSafe}
use Rattle.tp_placing.specs.declared.causes.EdgeCause.{EdgeCause}
use Rattle.tp_placing.specs.declared.parts.Held.{Held}
use Rattle.tp_placing.specs.declared.parts.MadeFor.{MadeFor}
use Rattle.tp_placing.specs.declared.parts.Step.{Step}
use Rattle.tp_placing.specs.Settled.{AreSettled}
use Rattle.tp_placing.specs.Boards.{BoardValue, BoardContent, suffix_after, past_of}

-- the board was made for a machine with these numbers
abbrev pub IsMadeFor : MadeFor → Machine → Type 0
IsMadeFor made machine = (made.locations ≡ length machine.locations) × (made.resources ≡ length machine.resources) × (made.window ≡ machine.window)

-- the points of the plans, and so many own ones
abbrev pub table_with : List Plan → ℕ → List Spot
table_with plans zero = table_of plans
table_with plans (suc n) = table_with plans n ++ own n ∷ []

abbrev pub own_points : Option Suffix → ℕ
own_points None = 0
own_points (Some x) = suc (length x.choices)

abbrev pub board_table : List Plan → Option Suffix → List Spot
board_table plans x = table_with plans (own_points x)

-- the network's solutions are the times of the plans, and of the suffix if a goal is open
abbrev pub IsNetOf : Machine → List Plan → Ask → Option Suffix → Net → Type 0
IsNetOf machine plans ask None net = IsLoadedNet machine ask.now (λ _. false) plans (table_of plans) net
IsNetOf machine plans ask (Some x) net = IsBoardNet machine plans ask x (table_with plans (suc (length x.choices))) net

-- where no goal is open, the edges say the gaps of the plans, whatever the bounds of points are
abbrev pub SaysOf : Machine → List Plan → Option Suffix → Net → Type 0
SaysOf machine plans None net = SayGaps machine plans net.edges
SaysOf machine plans (Some x) net = Unit {0}

-- the choices so far, if a goal is open
abbrev pub choices_of : Option Suffix → Suffix
choices_of None = no_choices
choices_of (Some x) = x

abbrev pub order_after : Machine → List Plan → Option Suffix → ℕ → List Slot
order_after machine plans None resource = slot_order machine plans resource
order_after machine plans (Some x) resource = order_in machine plans x resource

-- the hold of this number is the slot, its points by the table
pub record IsSlotOf (table : List Spot) (held : List Held) (id : ℕ) (s : Slot) : Type 0 where
  pub hold : Held
  pub at : slice_get held id ≡ Some hold
  pub rule : hold.rule ≡ s.rule
  pub start : slice_get table hold.start.0 ≡ Some s.from
  pub end : slice_get table hold.end.0 ≡ Some s.to

-- the numbers of an order are its slots
abbrev pub AreSlots : List Spot → List Held → List ℕ → List Slot → Type 0
AreSlots table held [] [] = Unit {0}
AreSlots table held [] (s ∷ slots) = ⊥
AreSlots table held (id ∷ ids) [] = ⊥
AreSlots table held (id ∷ ids) (s ∷ slots) = IsSlotOf table held id s × AreSlots table held ids slots

-- what a step keeps at hand: the newest action, and the first own point
abbrev pub newest_in : List Choice → Option ActId
newest_in [] = None
newest_in (c ∷ choices) = Some c.act

abbrev pub IsAtHand : ℕ → Option Suffix → Step → Type 0
IsAtHand base None s = ⊥
IsAtHand base (Some x) s = (s.newest ≡ newest_in x.choices) × (s.first.0 ≡ base + length x.choices)

-- how many steps there can be: the goal, and for each choice itself and its places, of which there are at most four
abbrev pub choice_steps : List Choice → ℕ
choice_steps [] = 0
choice_steps (c ∷ choices) = 1 + length c.places + 5 * length choices

abbrev pub newest_places : List Choice → ℕ
newest_places [] = 0
newest_places (c ∷ choices) = length c.places

abbrev pub stop_steps : Bool → ℕ
stop_steps stopped = if stopped then 1 else 0

abbrev pub AreFewSteps : ℕ → Option Suffix → ℕ → Type 0
AreFewSteps kept None steps = (steps ≡ 0) × (kept ≤ most_acts)
AreFewSteps kept (Some x) steps = (steps ≤ 1 + choice_steps x.choices + stop_steps x.stopped) × (kept + length x.choices ≤ most_acts) × (newest_places x.choices ≤ most_act_holds)

-- how many edges and holds a loaded schedule can have, and how many edges the steps add
abbrev pub loaded_edges : ℕ
loaded_edges = 98600

abbrev pub loaded_holds : ℕ
loaded_holds = 65536

-- the most edges of a plan
abbrev pub most_plan_edges : ℕ
most_plan_edges = 641

abbrev pub step_edges : List Step → ℕ
step_edges [] = 0
step_edges (s ∷ steps) = 257 + 2 * length steps

-- the offsets of a hold's rule are in their range
abbrev pub HasSmallOffsets : HoldRule → Type 0
HasSmallOffsets rule = IsOffset rule.begin_off × IsOffset rule.end_off

-- the network and the orders are those of the plans with this suffix, if a goal is open, after these steps
pub record IsAtWith (machine : Machine) (plans : List Plan) (ask : Ask) (x : Option Suffix) (steps : List Step) (n : Net) (timelines : List (List ℕ)) (holds : List Held) : Type 0 where
  pub net : IsNetOf machine plans ask x n
  pub says : SaysOf machine plans x n
  pub solved : HasLeast n
  pub orders : (resource : ℕ) → resource < length machine.resources → AreSlots (board_table plans x) holds (order_on timelines resource) (order_after machine plans x resource)
  pub at_hand : (s : Step) → slice_get steps (length steps - 1) ≡ Some s → IsAtHand (length (table_of plans)) x s
  pub few_steps : AreFewSteps (kept_of ask) x (length steps)
  pub few_edges : length n.edges ≤ loaded_edges + step_edges steps
  pub few_holds : length holds ≤ loaded_holds + length steps
  pub all_held : total timelines ≡ length holds
  pub small : All (λ h. HasSmallOffsets h.rule) holds

-- the first points of the plans, one plan after another from a number on
abbrev pub AreFirsts : ℕ → List Plan → List PointId → Type 0
AreFirsts n [] [] = Unit {0}
AreFirsts n [] (f ∷ firsts) = ⊥
AreFirsts n (p ∷ plans) [] = ⊥
AreFirsts n (p ∷ plans) (f ∷ firsts) = (f.0 ≡ n) × AreFirsts (n + suc (length p.acts)) plans firsts

abbrev pub IsAt : Machine → List Plan → Ask → List Step → Net → List (List ℕ) → List Held → Type 0
IsAt machine plans ask steps n timelines holds = IsAtWith machine plans ask (suffix_after steps) steps n timelines holds

-- each edge of a network after these steps is a hop with its cause, over which no later step writes
pub record AreCaused (machine : Machine) (plans : List Plan) (ask : Ask) (causes : List EdgeCause) (steps : List Step) (n : Net) : Type 0 where
  pub hops : All (IsNamedHop machine plans ask (choices_of (suffix_after steps)) causes) n.edges
  pub safe : All (IsSafe (length steps)) n.edges

-- the board stands on a machine and an ask: it was loaded with them, and is right for the steps so far and at each mark
pub record StandsOn {N : Type 0} (reading : Reading N) (b : BoardValue N) (machine : Machine) (ask : Ask) : Type 0 where
  pub made : IsMadeFor b.made_for machine
  pub asked : b.ask ≡ Some ask
  pub floor : b.floor ≡ start_floor machine ask.now ask.origin
  pub horizon : b.horizon ≡ ask.now + machine.window
  pub small_horizon : b.horizon < 2147483648
  pub loadable : IsLoadable machine ask.now (λ _. false) b.plans
  pub on_time : KeepsHorizon machine ask.now b.plans
  pub origin : IsAsked machine b.plans ask
  pub last : b.last.0 ≡ length (table_of b.plans)
  pub firsts : AreFirsts 0 b.plans b.firsts
  pub few_points : b.last.0 + most_plan_points ≤ 16641 + kept_of ask
  pub few_plans : length b.plans ≤ most_live
  pub now : IsAt machine b.plans ask b.steps (reading.net b.net) b.orders.orders b.held
  pub before : (x : BoardContent) → Contains (past_of reading b) x → IsAt machine b.plans ask x.steps x.net x.orders x.held
  pub plain : ArePlain b.causes
  pub caused : AreCaused machine b.plans ask b.causes b.steps (reading.net b.net)
  pub caused_before : (x : BoardContent) → Contains (past_of reading b) x → AreCaused machine b.plans ask b.causes x.steps x.net
  pub settled : b.settled ≡ true → AreSettled machine ask.now b.plans

abbrev pub Stands : {N : Type 0} → Reading N → BoardValue N → Machine → Type 0
Stands reading b machine = (ask : Ask) × StandsOn reading b machine ask
