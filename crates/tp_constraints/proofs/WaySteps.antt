-- What each step of a search makes of a way: an opened goal, one action more, one place more, and the stop.
use Rattle.std.proofs.Common.{◌≡◌, ◌≢◌, ℕ, ◌≤◌, Bool, false, ◌==◌, List, [], ◌∷◌, ◌++◌, inl, inr, length, refl, sym, arith, AllPairs, subst, Some, None, Option, IsTrue, IsFalse}
use Rattle.std.specs.Prelude.{slice_get}
use Rattle.std.proofs.lemmas.List.Elements.{All-contains}
use Rattle.std.proofs.lemmas.Bool.Decides.{nat_tests}
use Rattle.tp_machine.proofs.MachineFacts.{is_machine}
use Rattle.tp_machine.specs.ModuleUse.{action_at}
use Rattle.tp_machine.specs.declared.parts.ActId.{ActId}
use Rattle.tp_machine.specs.declared.parts.Action.{Action}
use Rattle.tp_machine.specs.declared.parts.HoldRule.{HoldRule}
use Rattle.tp_machine.specs.declared.parts.State.{State}
use Rattle.tp_machine.specs.declared.machine.Machine.{Machine}
use Rattle.tp_schedule.proofs.HeldCount.{Differ}
use Rattle.tp_schedule.proofs.Membership.{Contains-cons_cases}
use Rattle.tp_schedule.proofs.Pairs.{AllPairs-head, AllPairs-nil, AllPairs-tail}
use Rattle.tp_schedule.specs.Choices.{Choice, CanStop, acts_of, placed, put_places}
use Rattle.tp_schedule.specs.Holders.{holds_of_act}
use Rattle.tp_schedule.specs.Routes.{AreAllowed, is_act_allowed}
use Rattle.tp_schedule.specs.Spots.{Slot, Spot, slot_order}
use Rattle.tp_schedule.specs.declared.parts.Ask.{Ask}
use Rattle.tp_schedule.specs.declared.parts.Plan.{Plan}
use Rattle.tp_constraints.proofs.Lists.{contains-get}
use Rattle.tp_constraints.specs.Suffixes.{AreWithinSoFar, HaveRooms, Suffix, list_of, order_in, with_place, with_stop}
use Rattle.tp_constraints.proofs.WayLists.{have-places, way-walk}
use Rattle.tp_constraints.specs.Ways.{IsWay}
use Rattle.tp_constraints.specs.WayLaws.{ActionWay, GoalWay, PlaceWay, StopWay}

pub goal-way : GoalWay
goal-way machine plans ask goal room is_goal is_room at_most = record {
  is_goal = is_goal;
  rooms = (refl, is_room, refl);
  allowed = λ act in'. absurd (omega (arith, in'.1));
  at_most = omega arith;
  places = tt;
  can_stop = λ stop. absurd cc;
}

-- an allowed action before allowed ones
allowed-cons : (machine : Machine) (ask : Ask) (act : ActId) (acts : List ActId) → IsTrue (is_act_allowed machine ask.outs act) → AreAllowed machine ask.outs acts → AreAllowed machine ask.outs (act ∷ acts)
allowed-cons machine ask act acts one all a in' = elim (Contains-cons_cases act acts a in') [
  | inl e ↦ subst (λ b. IsTrue (is_act_allowed machine ask.outs b)) e one
  | inr later ↦ all a later
]

pub action-way : ActionWay
action-way machine plans ask goal s before x act room way placed going step allowed is_room fewer = record {
  is_goal = way.is_goal;
  rooms = (is_room, (s, step, way.rooms));
  allowed = allowed-cons machine ask act (acts_of x.choices) allowed way.allowed;
  at_most = omega (arith, fewer);
  places = (tt, have-places machine (slot_order machine plans) x.choices placed way.places);
  can_stop = λ stop. absurd cc;
}

-- rooms stay with other places of the newest choice
pub HaveRooms-places : (machine : Machine) (ask : Ask) (goal s : State) (c : Choice) (places : List ℕ) (choices : List Choice) (rooms : List ℕ)
    → HaveRooms machine ask goal s (c ∷ choices) rooms → HaveRooms machine ask goal s (record { act = c.act; places = places } ∷ choices) rooms
HaveRooms-places machine ask goal s c places choices [] have = absurd have
HaveRooms-places machine ask goal s c places choices (room ∷ rooms) have = have

-- the holds of an action are on different resources, so the first of them leave the order of the next
holds-differ : (machine : Machine) (act : ActId) → AllPairs Differ (holds_of_act (action_at machine act.0))
holds-differ machine act = go (action_at machine act.0) refl where
  go : (o : Option Action) → action_at machine act.0 ≡ o → AllPairs Differ (holds_of_act o)
  go None e = AllPairs-nil Differ
  go (Some a) e = (is_machine machine).differ act.0 a e

not-same : (m n : ℕ) → m ≢ n → (m == n) ≡ false
not-same m n differ = grind (arith, nat_tests)

put_places-next : (from to : Spot) (rules : List HoldRule) (places : List ℕ) (rule : HoldRule) (order : List Slot) → AllPairs Differ rules → slice_get rules (length places) ≡ Some rule
    → put_places rule.resource.0 from to rules places order ≡ order
put_places-next from to [] places rule order differ next = absurd cc
put_places-next from to (h ∷ rules) [] rule order differ next = refl
put_places-next from to (h ∷ rules) (place ∷ places) rule order differ next =
    let other : Differ h rule = All-contains (Differ h) rules rule (AllPairs-head Differ h rules differ) (contains-get rules (length places) rule next) in
    rw (not-same h.resource.0 rule.resource.0 other) (put_places-next from to rules places rule order (AllPairs-tail Differ h rules differ) next)

pub order-next : (machine : Machine) (plans : List Plan) (c : Choice) (choices : List Choice) (rule : HoldRule) → slice_get (holds_of_act (action_at machine c.act.0)) (length c.places) ≡ Some rule
    → placed machine rule.resource.0 (slot_order machine plans rule.resource.0) (c ∷ choices) ≡ placed machine rule.resource.0 (slot_order machine plans rule.resource.0) choices
order-next machine plans c choices rule next = put_places-next _ _ (holds_of_act (action_at machine c.act.0)) c.places rule _ (holds-differ machine c.act) next

within-push : (orders : ℕ → List Slot) (rules : List HoldRule) (places : List ℕ) (rule : HoldRule) (place : ℕ) → AreWithinSoFar orders rules places → slice_get rules (length places) ≡ Some rule
    → place ≤ length (orders rule.resource.0) → AreWithinSoFar orders rules (places ++ place ∷ [])
within-push orders [] places rule place within next le = absurd cc
within-push orders (h ∷ rules) [] rule place within next le = let same : rule ≡ h = cc in (subst (λ r. place ≤ length (orders r.resource.0)) same le, tt)
within-push orders (h ∷ rules) (p ∷ places) rule place within next le = (within.0, within-push orders rules places rule place within.1 next le)

module _ (machine : Machine) (plans : List Plan) (ask : Ask) (goal s : State) (rooms : List ℕ) (stopped : Bool) (c : Choice) (choices : List Choice) (rule : HoldRule) (place : ℕ)
    (next : slice_get (holds_of_act (action_at machine c.act.0)) (length c.places) ≡ Some rule) (going : IsFalse stopped) where
  abbrev old : Suffix
  old = record { choices = c ∷ choices; rooms = rooms; stopped = stopped }

  placing-way : IsWay machine plans ask goal s old → place ≤ length (order_in machine plans old rule.resource.0) → IsWay machine plans ask goal s (with_place place old)
  placing-way way le = record {
    is_goal = way.is_goal;
    rooms = HaveRooms-places machine ask goal s c (c.places ++ place ∷ []) choices rooms way.rooms;
    allowed = way.allowed;
    at_most = way.at_most;
    places = (within-push _ (holds_of_act (action_at machine c.act.0)) c.places rule place way.places.0 next (subst (λ order. place ≤ length order) (order-next machine plans c choices rule next) le), way.places.1);
    can_stop = λ stop. absurd cc;
  }

pub place-way : PlaceWay
place-way machine plans ask goal s x c choices rule place way going is next le =
    subst (λ cs. IsWay machine plans ask goal s (record { choices = cs; rooms = x.rooms; stopped = x.stopped }) → place ≤ length (order_in machine plans (record { choices = cs; rooms = x.rooms; stopped = x.stopped }) rule.resource.0)
    → IsWay machine plans ask goal s (with_place place (record { choices = cs; rooms = x.rooms; stopped = x.stopped })))
    (sym is) (placing-way machine plans ask goal s x.rooms x.stopped c choices rule place next going) way le

pub stop-way : StopWay
stop-way machine plans ask goal state end count x way origin some = record {
  is_goal = way.is_goal;
  rooms = way.rooms;
  allowed = way.allowed;
  at_most = way.at_most;
  places = way.places;
  can_stop = λ stop. subst (λ o. CanStop machine ask (list_of goal (with_stop x)) o) (sym origin) (some, way-walk machine plans ask goal state x way);
}
