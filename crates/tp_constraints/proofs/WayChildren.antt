-- Which lists below a way do not open, and what the places of those that do are.
use Rattle.std.proofs.Common.{◌≡◌, ℕ, ◌≤◌, Bool, false, cond, ◌==◌, List, [], ◌∷◌, ◌++◌, insert, length, refl, sym, arith, AllPairs, subst, Some, IsFalse}
use Rattle.std.specs.Prelude.{slice_get}
use Rattle.tp_machine.specs.Modes.{gap_at}
use Rattle.tp_machine.specs.ModuleUse.{action_at}
use Rattle.tp_machine.specs.declared.parts.HoldRule.{HoldRule}
use Rattle.tp_machine.specs.declared.parts.State.{State}
use Rattle.tp_machine.specs.declared.machine.Machine.{Machine}
use Rattle.tp_schedule.proofs.Walks.{AreAllowed-head, walk_first}
use Rattle.tp_schedule.specs.Choices.{AreWithin, Choice, OpensTo, acts_of, going, placed, put_places}
use Rattle.tp_schedule.specs.Holders.{holds_of_act}
use Rattle.tp_schedule.specs.Routes.{Reaches, step_by}
use Rattle.tp_schedule.specs.Spots.{IsApart, Slot, Spot, Ticks, slot_order}
use Rattle.tp_schedule.specs.Spots.Spot.{own}
use Rattle.tp_schedule.specs.declared.parts.Ask.{Ask}
use Rattle.tp_schedule.specs.declared.parts.Plan.{Plan}
use Rattle.tp_choices.proofs.ShorterLists.{AllPairs-put_places_out}
use Rattle.tp_constraints.specs.Suffixes.{Suffix, SuffixTimes, with_stop}
use Rattle.tp_constraints.proofs.WayLists.{first-only, open-times, opened-times}
use Rattle.tp_constraints.proofs.WaySteps.{HaveRooms-places, goal-way, order-next}
use Rattle.tp_constraints.specs.Ways.{IsWay}
use Rattle.tp_constraints.specs.WayLaws.{ChildClosed, ChildFull, ChildLate, ChildPlaces, GoalClosed, GoalLate, PlaceBeyond, StopLate}

pub goal-late : GoalLate
goal-late machine plans ask goal room late is_room o =
    let way = goal-way machine plans ask goal room o.1.is_list.goal is_room (omega (arith, o.1.is_list.at_most)) in
    let times = open-times machine plans ask goal goal _ way o in
    late times.0 times.1

pub goal-closed : GoalClosed
goal-closed machine plans ask goal none o =
    let same : o.1.state ≡ goal = let leads = o.1.first_state in cc in
    none o.1.before o.1.allowed (subst (λ s. Reaches machine ask o.1.before s) same o.1.reaches)

-- without the last of the places fewer holds are put in
put_places-fewer : (R : Slot → Slot → Type 0) (resource : ℕ) (from to : Spot) (rules : List HoldRule) (places rest : List ℕ) (order : List Slot)
    → AllPairs R (put_places resource from to rules (places ++ rest) order) → AllPairs R (put_places resource from to rules places order)
put_places-fewer R resource from to [] places rest order all = all
put_places-fewer R resource from to (rule ∷ rules) [] rest order all = AllPairs-put_places_out R resource from to (rule ∷ rules) rest order all
put_places-fewer R resource from to (rule ∷ rules) (place ∷ places) rest order all =
    put_places-fewer R resource from to rules places rest (cond (rule.resource.0 == resource) (insert order place (record { rule = rule; from = from; to = to })) order) all

-- so the times of more places are times of fewer
fewer-times : (machine : Machine) (plans : List Plan) (ask : Ask) (rooms : List ℕ) (stopped : Bool) (c : Choice) (choices : List Choice) (rest : List ℕ) (t : Ticks)
    → SuffixTimes machine plans ask (record { choices = record { act = c.act; places = c.places ++ rest } ∷ choices; rooms = rooms; stopped = stopped }) t
    → SuffixTimes machine plans ask (record { choices = c ∷ choices; rooms = rooms; stopped = stopped }) t
fewer-times machine plans ask rooms stopped c choices rest t times = record {
  keeps = times.keeps;
  lasts = times.lasts;
  lows = times.lows;
  last = times.last;
  line = times.line;
  apart = λ resource. put_places-fewer (IsApart (gap_at machine resource) t) resource _ _ (holds_of_act (action_at machine c.act.0)) c.places rest _ (times.apart resource);
  stopped = times.stopped;
}

module _ (machine : Machine) (plans : List Plan) (ask : Ask) (goal s : State) (x : Suffix) (c : Choice) (choices : List Choice) (rest : List ℕ) where
  abbrev child : Choice
  child = record { act = c.act; places = c.places ++ rest }

  -- a list with further places of the newest choice opens to times of the first ones
  pub child-times : IsWay machine plans ask goal s x → IsFalse x.stopped → x.choices ≡ c ∷ choices → (end : ℕ) → OpensTo machine plans ask (going goal (child ∷ choices)) end
      → (t : Ticks) × SuffixTimes machine plans ask x t × (t (own 0) ≡ end)
  child-times way going' is end o =
      let old : Suffix = record { choices = c ∷ choices; rooms = x.rooms; stopped = false } in
      let full : Suffix = record { choices = child ∷ choices; rooms = x.rooms; stopped = false } in
      let same : x ≡ old = (λ i. record { choices = is i; rooms = x.rooms; stopped = going' i }) in
      let way' = subst (λ y. IsWay machine plans ask goal s y) same way in
      let rooms = HaveRooms-places machine ask goal s c (c.places ++ rest) choices x.rooms way'.rooms in
      let times = fewer-times machine plans ask x.rooms false c choices rest o.ticks (opened-times machine plans ask goal s full rooms way'.allowed end o) in
      (o.ticks, subst (λ y. SuffixTimes machine plans ask y o.ticks) (sym same) times, o.ends)

pub child-late : ChildLate
child-late machine plans ask goal s x c choices rest way going is late o =
    let times = child-times machine plans ask goal s x c choices rest way going is o.0 o.1 in
    late times.0 times.1

pub stop-late : StopLate
stop-late machine plans ask goal state x way late o = late o.1.ticks (opened-times machine plans ask goal state (with_stop x) way.rooms way.allowed o.0 o.1)

pub child-closed : ChildClosed
child-closed machine plans ask goal s x act places way closed o =
    let step = walk_first machine ask.want act (acts_of x.choices) o.1.state goal o.1.first_state in
    let same : step.0 ≡ s = first-only machine plans ask goal s x step.0 way step.2 in
    closed o.1.state (subst (λ r. step_by machine ask.want act o.1.state ≡ Some r) same step.1) (AreAllowed-head machine ask.outs act (acts_of x.choices) o.1.is_list.allowed) o.1.before o.1.allowed o.1.reaches

pub child-full : ChildFull
child-full machine plans ask goal x c full o = omega (arith, o.1.is_list.at_most)

-- places for all holds
within-count : (orders : ℕ → List Slot) (rules : List HoldRule) (places : List ℕ) → AreWithin orders rules places → length places ≡ length rules
within-count orders [] [] within = refl
within-count orders [] (place ∷ places) within = absurd within
within-count orders (rule ∷ rules) [] within = absurd within
within-count orders (rule ∷ rules) (place ∷ places) within = omega (arith, within-count orders rules places within.1)

pub child-places : ChildPlaces
child-places machine plans ask goal c choices o = within-count _ (holds_of_act (action_at machine c.act.0)) c.places o.1.is_list.places.0

within-at : (orders : ℕ → List Slot) (rules : List HoldRule) (first : List ℕ) (place : ℕ) (rest : List ℕ) (rule : HoldRule) → AreWithin orders rules (first ++ place ∷ rest) → slice_get rules (length first) ≡ Some rule
    → place ≤ length (orders rule.resource.0)
within-at orders [] first place rest rule within next = absurd cc
within-at orders (h ∷ rules) [] place rest rule within next = let same : h ≡ rule = cc in subst (λ r. place ≤ length (orders r.resource.0)) same within.0
within-at orders (h ∷ rules) (p ∷ first) place rest rule within next = within-at orders rules first place rest rule within.1 next

pub place-beyond : PlaceBeyond
place-beyond machine plans ask goal x c choices first place rest rule o is places next =
    let orders = λ (r : ℕ). placed machine r (slot_order machine plans r) choices in
    let rules = holds_of_act (action_at machine c.act.0) in
    let all = subst (λ ps. AreWithin orders rules ps) places o.1.is_list.places.0 in
    let within : place ≤ length (orders rule.resource.0) = within-at orders rules first place rest rule all next in
    let same = order-next machine plans (record { act = c.act; places = first }) choices rule next in
    subst (λ cs. place ≤ length (placed machine rule.resource.0 (slot_order machine plans rule.resource.0) cs)) (sym is) (subst (λ order. place ≤ length order) (sym same) within)
