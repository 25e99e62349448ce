-- Ways as choice lists: where their actions lead, and to what they open.
use Rattle.std.proofs.Common.{◌≡◌, ℕ, ◌≤◌, List, [], ◌∷◌, length, refl, sym, arith, ap, subst, Some}
use Rattle.tp_machine.specs.ModuleUse.{action_at}
use Rattle.tp_machine.specs.declared.parts.HoldRule.{HoldRule}
use Rattle.tp_machine.specs.declared.parts.State.{State}
use Rattle.tp_machine.specs.declared.machine.Machine.{Machine}
use Rattle.tp_schedule.specs.Choices.{Choice, AreWithin, HasTimes, HavePlaces, OpensTo, acts_of}
use Rattle.tp_schedule.specs.Holders.{holds_of_act}
use Rattle.tp_schedule.specs.Routes.{AreAllowed, Reaches, least_sum, walk}
use Rattle.tp_schedule.specs.Spots.{Slot, Ticks}
use Rattle.tp_schedule.specs.Spots.Spot.{own}
use Rattle.tp_schedule.specs.declared.parts.Ask.{Ask}
use Rattle.tp_schedule.specs.declared.parts.Plan.{Plan}
use Rattle.tp_choices.proofs.ShorterLists.{HasTimes-less}
use Rattle.tp_constraints.proofs.FirstStates.{first-unique}
use Rattle.tp_constraints.proofs.Rooms.{first-of, room_law}
use Rattle.tp_constraints.specs.Suffixes.{AreWithinSoFar, HavePlacesSoFar, HaveRooms, Suffix, SuffixTimes, list_of}
use Rattle.tp_constraints.specs.Ways.{IsPlaced, IsWay}
use Rattle.tp_constraints.specs.WayLaws.{FirstOnly, OpenTimes, WayList, WayOpens, WayWalk}

-- with rooms of their states the choices lead to the goal
rooms-walk : (machine : Machine) (ask : Ask) (goal first : State) (choices : List Choice) (rooms : List ℕ) → HaveRooms machine ask goal first choices rooms → walk machine ask.want (acts_of choices) first ≡ Some goal
rooms-walk machine ask goal first [] [] have = absurd have
rooms-walk machine ask goal first [] (room ∷ rooms) have = ap Some have.0
rooms-walk machine ask goal first (c ∷ choices) [] have = absurd have
rooms-walk machine ask goal first (c ∷ choices) (room ∷ rooms) have = rw have.1.1 (rooms-walk machine ask goal have.1.0 choices rooms have.1.2)

pub way-walk : WayWalk
way-walk machine plans ask goal first x way = rooms-walk machine ask goal first x.choices x.rooms way.rooms

pub first-only : FirstOnly
first-only machine plans ask goal first x other way leads = first-unique machine ask.want (acts_of x.choices) other first goal leads (way-walk machine plans ask goal first x way)

-- first places for all holds are all places
all-within : (orders : ℕ → List Slot) (rules : List HoldRule) (places : List ℕ) → length places ≡ length rules → AreWithinSoFar orders rules places → AreWithin orders rules places
all-within orders [] [] all within = tt
all-within orders [] (place ∷ places) all within = absurd within
all-within orders (rule ∷ rules) [] all within = absurd (omega (arith, all))
all-within orders (rule ∷ rules) (place ∷ places) all within = (within.0, all-within orders rules places (omega arith) within.1)

pub have-places : (machine : Machine) (orders : ℕ → List Slot) (choices : List Choice) → IsPlaced machine choices → HavePlacesSoFar machine orders choices → HavePlaces machine orders choices
have-places machine orders [] placed have = tt
have-places machine orders (c ∷ choices) placed have = (all-within _ (holds_of_act (action_at machine c.act.0)) c.places placed have.0, have.1)

pub way-list : WayList
way-list machine plans ask goal first x way placed = record {
  goal = way.is_goal;
  allowed = way.allowed;
  at_most = way.at_most;
  places = have-places machine _ x.choices placed way.places;
  can_stop = way.can_stop;
}

module _ (machine : Machine) (plans : List Plan) (ask : Ask) (goal first : State) (x : Suffix) (have : HaveRooms machine ask goal first x.choices x.rooms) (allowed : AreAllowed machine ask.outs (acts_of x.choices)) where
  -- ticks to which the list opens are times, since the room is the least before them
  pub opened-times : (end : ℕ) (o : OpensTo machine plans ask (list_of goal x) end) → SuffixTimes machine plans ask x o.ticks
  opened-times end o =
      let f = first-of machine ask goal first x.choices x.rooms have in
      let leads = rooms-walk machine ask goal first x.choices x.rooms have in
      let same : o.state ≡ first = first-unique machine ask.want (acts_of x.choices) o.state first goal o.first_state leads in
      let le : f.room ≤ least_sum machine o.before = f.is_room.least o.before o.allowed (subst (λ s. Reaches machine ask o.before s) same o.reaches) in
      (room_law machine plans ask x goal first f.room f.rest o.ticks f.is have allowed).1 (HasTimes-less machine plans ask (list_of goal x) (least_sum machine o.before) f.room o.ticks le o.times)

module _ (machine : Machine) (plans : List Plan) (ask : Ask) (goal first : State) (x : Suffix) (way : IsWay machine plans ask goal first x) (placed : IsPlaced machine x.choices) where
  -- the list opens to the end of each of its times
  pub way-opens_to : (t : Ticks) → SuffixTimes machine plans ask x t → OpensTo machine plans ask (list_of goal x) (t (own 0))
  way-opens_to t times =
      let f = first-of machine ask goal first x.choices x.rooms way.rooms in
      let h : HasTimes machine plans ask (list_of goal x) f.room t = (room_law machine plans ask x goal first f.room f.rest t f.is way.rooms way.allowed).0 times in
      record {
        is_list = way-list machine plans ask goal first x way placed;
        state = first;
        first_state = way-walk machine plans ask goal first x way;
        before = f.is_room.acts;
        allowed = f.is_room.allowed;
        reaches = f.is_room.reaches;
        ticks = t;
        times = subst (λ room. HasTimes machine plans ask (list_of goal x) room t) (sym f.is_room.sum) h;
        ends = refl;
      }

pub way-opens : WayOpens
way-opens machine plans ask goal first x t way placed times = (t (own 0), way-opens_to machine plans ask goal first x way placed t times)

pub open-times : OpenTimes
open-times machine plans ask goal first x way o = (o.1.ticks, opened-times machine plans ask goal first x way.rooms way.allowed o.0 o.1)
