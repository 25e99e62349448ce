-- The gaps that a reason may cite, each with what it stands for, and that each step of a board leaves them so.
use Rattle.std.specs.Prelude.{◌≡◌, ℕ, zero, suc, ◌<◌, ◌≤◌, false, List, [], ◌∷◌, ◌++◌, flat_map, length, map, reverse, All, Contains, IsTrue, IsFalse, slice_get, Option, Some, None, pos, neg_ℤ}
use Rattle.tp_machine.specs.Modes.{gap_at}
use Rattle.tp_machine.specs.ModuleUse.{action_at}
use Rattle.tp_machine.specs.declared.parts.ActId.{ActId}
use Rattle.tp_machine.specs.declared.parts.Action.{Action}
use Rattle.tp_machine.specs.declared.parts.HoldRule.{HoldRule}
use Rattle.tp_machine.specs.declared.machine.Machine.{Machine}
use Rattle.tp_schedule.specs.Answers.{kept_of}
use Rattle.tp_schedule.specs.Choices.{Choice}
use Rattle.tp_schedule.specs.Holders.{holds_of_act}
use Rattle.tp_schedule.specs.Legality.{IsLegal}
use Rattle.tp_schedule.specs.Plans.{IsEarlier}
use Rattle.tp_schedule.specs.Spots.{Spot, Slot, slot_order}
use Rattle.tp_schedule.specs.Spots.Spot.{kept, own}
use Rattle.tp_schedule.specs.declared.parts.Ask.{Ask}
use Rattle.tp_schedule.specs.declared.parts.Plan.{Plan}
use Rattle.tp_schedule.specs.declared.parts.SheetId.{SheetId}
use Rattle.tp_constraints.specs.Gaps.{Gap, gap, slot_gap, end_spot, is_same_line, line_gaps}
use Rattle.tp_constraints.specs.Suffixes.{Suffix, end_gaps, order_in, before_place, choice_slot, with_action, with_place, with_stop, with_goal}

-- what a gap stands for: the least or the most duration of an action, the line of a tray, a resource with two actions that
-- hold it one after the other, each told by the point where it starts, or the stop at the front's end. The limit of a
-- claimed end is no gap of a schedule
pub data HopKind : Type 0 where
  forward : HopKind
  back : HopKind
  line : HopKind
  order : ℕ → Spot → Spot → HopKind
  stop : HopKind
  limit : HopKind

pub record Hop : Type 0 where
  pub kind : HopKind
  pub gap : Gap

abbrev pub hop : HopKind → Gap → Hop
hop kind g = record { kind = kind; gap = g }

-- an action runs between two points: one of a kept plan, or a choice, which are counted from the end
pub data IsRun (machine : Machine) (plans : List Plan) (choices : List Choice) (a : Action) : Spot → Spot → Type 0 where
  kept_run : (p : Plan) (i : ℕ) (act : ActId) → Contains plans p → slice_get p.acts i ≡ Some act → action_at machine act.0 ≡ Some a → IsRun machine plans choices a (kept p.sheet i) (kept p.sheet (suc i))
  own_run : (n : ℕ) (c : Choice) → slice_get (reverse choices) n ≡ Some c → action_at machine c.act.0 ≡ Some a → IsRun machine plans choices a (own (suc n)) (own n)

-- a hop: a duration, a later end on a line, a hold that stands before another in an order, neighbours or not, or the stop
pub data IsHop (machine : Machine) (plans : List Plan) (ask : Ask) (x : Suffix) : Hop → Type 0 where
  by_least : (a : Action) (from to : Spot) → IsRun machine plans x.choices a from to → IsHop machine plans ask x (hop forward (gap from to (pos a.least)))
  by_most : (a : Action) (from to : Spot) → IsRun machine plans x.choices a from to → IsHop machine plans ask x (hop back (gap to from (neg_ℤ (pos a.most))))
  by_line : (p q : Plan) → Contains plans p → Contains plans q → IsEarlier p q → IsTrue (is_same_line p q) → IsHop machine plans ask x (hop line (gap (end_spot p) (end_spot q) (pos 1)))
  by_end : (g : Gap) → Contains (end_gaps ask plans) g → IsHop machine plans ask x (hop line g)
  by_order : (resource i j : ℕ) (a b : Slot) → i < j → slice_get (order_in machine plans x resource) i ≡ Some a → slice_get (order_in machine plans x resource) j ≡ Some b
      → IsHop machine plans ask x (hop (order resource a.from b.from) (slot_gap (gap_at machine resource) a b))
  by_stop : IsTrue x.stopped → IsHop machine plans ask x (hop stop (gap (own (length x.choices)) (kept ask.sheet (kept_of ask)) (pos 0)))

-- the hops of an action, of a copy's actions from point n on, and of the actions of plans
abbrev pub range_hops : Option Action → Spot → Spot → List Hop
range_hops None from to = []
range_hops (Some a) from to = hop forward (gap from to (pos a.least)) ∷ hop back (gap to from (neg_ℤ (pos a.most))) ∷ []

abbrev pub acts_hops : Machine → SheetId → ℕ → List ActId → List Hop
acts_hops machine copy n [] = []
acts_hops machine copy n (act ∷ acts) = range_hops (action_at machine act.0) (kept copy n) (kept copy (suc n)) ++ acts_hops machine copy (suc n) acts

abbrev pub duration_hops : Machine → List Plan → List Hop
duration_hops machine plans = flat_map (λ p. acts_hops machine p.sheet 0 p.acts) plans

-- a hold before another, the neighbours of an order, and those of the orders of all resources below a number
abbrev pub slot_hop : Machine → ℕ → Slot → Slot → Hop
slot_hop machine resource a b = hop (order resource a.from b.from) (slot_gap (gap_at machine resource) a b)

abbrev pub chain_hops : Machine → ℕ → List Slot → List Hop
chain_hops machine resource [] = []
chain_hops machine resource (a ∷ []) = []
chain_hops machine resource (a ∷ b ∷ slots) = slot_hop machine resource a b ∷ chain_hops machine resource (b ∷ slots)

abbrev pub all_chain_hops : Machine → (ℕ → List Slot) → ℕ → List Hop
all_chain_hops machine orders zero = []
all_chain_hops machine orders (suc n) = chain_hops machine n (orders n) ++ all_chain_hops machine orders n

-- all hops of a schedule between neighbours
abbrev pub plans_hops : Machine → List Plan → List Hop
plans_hops machine plans = duration_hops machine plans ++ (map (hop line) (line_gaps plans) ++ all_chain_hops machine (slot_order machine plans) (length machine.resources))

-- the hops of a hold at a place of an order, from the hold before it and to the one behind it
abbrev pub hop_after : Machine → ℕ → Option Slot → Slot → List Hop
hop_after machine resource None s = []
hop_after machine resource (Some a) s = slot_hop machine resource a s ∷ []

abbrev pub hop_until : Machine → ℕ → Slot → Option Slot → List Hop
hop_until machine resource s None = []
hop_until machine resource s (Some b) = slot_hop machine resource s b ∷ []

abbrev pub place_hops : Machine → ℕ → List Slot → ℕ → Slot → List Hop
place_hops machine resource xs place s = hop_after machine resource (before_place xs place) s ++ hop_until machine resource s (slice_get xs place)

-- no choices, before a goal is opened
abbrev pub no_choices : Suffix
no_choices = record { choices = []; rooms = []; stopped = false }

-- the neighbours of a schedule are hops, whatever is asked
abbrev pub LoadHops : Type 0
LoadHops = (machine : Machine) (plans : List Plan) (ask : Ask) → IsLegal machine plans → All (IsHop machine plans ask no_choices) (plans_hops machine plans)

-- they stay hops where a goal is opened, and the gaps that it adds are hops
abbrev pub GoalHops : Type 0
GoalHops = (machine : Machine) (plans : List Plan) (ask : Ask) (room : ℕ) (hs : List Hop) → All (IsHop machine plans ask no_choices) hs
    → All (IsHop machine plans ask (with_goal room)) (hs ++ map (hop line) (end_gaps ask plans))

-- hops stay hops through each step, and those that it adds are hops
abbrev pub ActionHops : Type 0
ActionHops = (machine : Machine) (plans : List Plan) (ask : Ask) (x : Suffix) (act : ActId) (room : ℕ) (hs : List Hop) → IsFalse x.stopped → All (IsHop machine plans ask x) hs
    → All (IsHop machine plans ask (with_action act room x)) (hs ++ range_hops (action_at machine act.0) (own (suc (length x.choices))) (own (length x.choices)))

abbrev pub PlaceHops : Type 0
PlaceHops = (machine : Machine) (plans : List Plan) (ask : Ask) (x : Suffix) (c : Choice) (choices : List Choice) (rule : HoldRule) (place : ℕ) (hs : List Hop)
    → x.choices ≡ c ∷ choices → slice_get (holds_of_act (action_at machine c.act.0)) (length c.places) ≡ Some rule → place ≤ length (order_in machine plans x rule.resource.0)
    → All (IsHop machine plans ask x) hs
    → All (IsHop machine plans ask (with_place place x)) (hs ++ place_hops machine rule.resource.0 (order_in machine plans x rule.resource.0) place (choice_slot rule (length choices)))

abbrev pub StopHops : Type 0
StopHops = (machine : Machine) (plans : List Plan) (ask : Ask) (x : Suffix) (hs : List Hop) → IsFalse x.stopped → All (IsHop machine plans ask x) hs
    → All (IsHop machine plans ask (with_stop x)) (hs ++ hop stop (gap (own (length x.choices)) (kept ask.sheet (kept_of ask)) (pos 0)) ∷ [])
