-- Leaving out the newest choice, or the stop, leaves an open list: its ticks are the same function, and what room the
-- choice needed was before it.
use Rattle.std.proofs.Common.{ℕ, suc, ◌+◌, ◌≤◌, Bool, true, false, cond, List, [], ◌∷◌, ◌++◌, insert, length, sym, arith, AllPairs, subst, Option, Some, None, IsSomeAnd, ◌==◌}
use Rattle.tp_machine.specs.Modes.{gap_at}
use Rattle.tp_machine.specs.ModuleUse.{action_at}
use Rattle.tp_schedule.proofs.Walks.{walk_first, walk_on, least_sum-push, AreAllowed-head, AreAllowed-tail, AreAllowed-push}
use Rattle.tp_schedule.proofs.Pairs.{AllPairs-insert_out}
use Rattle.tp_schedule.specs.Choices.{Choice, ChoiceList, acts_of, put_places, HasTimes, OpensTo, going, stopping}
use Rattle.tp_schedule.specs.Plans.{LastsWithin}
use Rattle.tp_schedule.specs.Routes.{least_sum, least_of, least_in}
use Rattle.tp_schedule.specs.Spots.{Spot, Ticks, Slot, IsApart}
use Rattle.tp_machine.specs.declared.parts.ActId.{ActId}
use Rattle.tp_machine.specs.declared.parts.Action.{Action}
use Rattle.tp_machine.specs.declared.parts.HoldRule.{HoldRule}
use Rattle.tp_machine.specs.declared.parts.State.{State}
use Rattle.tp_machine.specs.declared.machine.Machine.{Machine}
use Rattle.tp_schedule.specs.declared.parts.Ask.{Ask}
use Rattle.tp_schedule.specs.declared.parts.Plan.{Plan}
use Rattle.tp_schedule.specs.Spots.Spot.{own}
use Rattle.tp_schedule.specs.Choices.IsChild.{one_more, stopped}
use Rattle.tp_choices.specs.Parents.{ParentOpens, ParentBound}

-- without the holds that were put in
pub AllPairs-put_places_out : (R : Slot → Slot → Type 0) (resource : ℕ) (from to : Spot) (rules : List HoldRule) (places : List ℕ) (order : List Slot) → AllPairs R (put_places resource from to rules places order) → AllPairs R order
AllPairs-put_places_out R resource from to [] places order all = all
AllPairs-put_places_out R resource from to (rule ∷ rules) [] order all = all
AllPairs-put_places_out R resource from to (rule ∷ rules) (place ∷ places) order all =
    let slot : Slot = record { rule = rule; from = from; to = to } in
    go (rule.resource.0 == resource) (AllPairs-put_places_out R resource from to rules places (cond (rule.resource.0 == resource) (insert order place slot) order) all) where
      go : (b : Bool) → AllPairs R (cond b (insert order place (record { rule = rule; from = from; to = to })) order) → AllPairs R order
      go true all' = AllPairs-insert_out R order place (record { rule = rule; from = from; to = to }) all'
      go false all' = all'

lasts_least : (o : Option Action) (start end : ℕ) → IsSomeAnd o (λ a. (start + a.least ≤ end) × (end ≤ start + a.most)) → start + least_in o ≤ end
lasts_least None start end h = absurd h
lasts_least (Some a) start end h = h.0

pub LastsWithin-least : (machine : Machine) (act : ActId) (start end : ℕ) → LastsWithin machine act start end → start + least_of machine act ≤ end
LastsWithin-least machine act start end h = lasts_least (action_at machine act.0) start end h

-- the ticks of a list are ticks of its parent, with the least duration more of room
pub HasTimes-without : (machine : Machine) (plans : List Plan) (ask : Ask) (goal : State) (c : Choice) (choices : List Choice) (room : ℕ) (t : Ticks)
    → HasTimes machine plans ask (going goal (c ∷ choices)) room t → HasTimes machine plans ask (going goal choices) (room + least_of machine c.act) t
HasTimes-without machine plans ask goal c choices room t times =
    let first = LastsWithin-least machine c.act (t (own (suc (length choices)))) (t (own (length choices))) times.lasts.0 in
    record {
      keeps = times.keeps;
      lasts = times.lasts.1;
      first = omega (arith, first, times.first);
      last = times.last;
      line = times.line;
      apart = λ resource. AllPairs-put_places_out (IsApart (gap_at machine resource) t) resource _ _ _ c.places _ (times.apart resource);
      stopped = λ no. absurd (cc);
    }

HasTimes-going : (machine : Machine) (plans : List Plan) (ask : Ask) (goal : State) (choices : List Choice) (room : ℕ) (t : Ticks)
    → HasTimes machine plans ask (stopping goal choices) room t → HasTimes machine plans ask (going goal choices) room t
HasTimes-going machine plans ask goal choices room t times = record {
  keeps = times.keeps;
  lasts = times.lasts;
  first = times.first;
  last = times.last;
  line = times.line;
  apart = times.apart;
  stopped = λ no. absurd (cc);
}

pub OpensTo-without : (machine : Machine) (plans : List Plan) (ask : Ask) (goal : State) (c : Choice) (choices : List Choice) (end : ℕ)
    → OpensTo machine plans ask (going goal (c ∷ choices)) end → OpensTo machine plans ask (going goal choices) end
OpensTo-without machine plans ask goal c choices end o =
    let first = walk_first machine ask.want c.act (acts_of choices) o.state goal o.first_state in
    record {
      is_list = record {
        goal = o.is_list.goal;
        allowed = AreAllowed-tail machine ask.outs c.act (acts_of choices) o.is_list.allowed;
        at_most = omega (arith, o.is_list.at_most);
        places = o.is_list.places.1;
        can_stop = λ no. absurd (cc);
      };
      state = first.0;
      first_state = first.2;
      before = o.before ++ c.act ∷ [];
      allowed = AreAllowed-push machine ask.outs o.before c.act o.allowed (AreAllowed-head machine ask.outs c.act (acts_of choices) o.is_list.allowed);
      reaches = record {
        start = o.reaches.start;
        starts = o.reaches.starts;
        leads = walk_on machine ask.want o.before c.act o.reaches.start o.state first.0 o.reaches.leads first.1;
      };
      ticks = o.ticks;
      times = subst (λ room. HasTimes machine plans ask (going goal choices) room o.ticks) (sym (least_sum-push machine o.before c.act)) (HasTimes-without machine plans ask goal c choices (least_sum machine o.before) o.ticks o.times);
      ends = o.ends;
    }

OpensTo-going : (machine : Machine) (plans : List Plan) (ask : Ask) (goal : State) (choices : List Choice) (end : ℕ)
    → OpensTo machine plans ask (stopping goal choices) end → OpensTo machine plans ask (going goal choices) end
OpensTo-going machine plans ask goal choices end o = record {
  is_list = record {
    goal = o.is_list.goal;
    allowed = o.is_list.allowed;
    at_most = o.is_list.at_most;
    places = o.is_list.places;
    can_stop = λ no. absurd (cc);
  };
  state = o.state;
  first_state = o.first_state;
  before = o.before;
  allowed = o.allowed;
  reaches = o.reaches;
  ticks = o.ticks;
  times = HasTimes-going machine plans ask goal choices (least_sum machine o.before) o.ticks o.times;
  ends = o.ends;
}

pub parent_opens : ParentOpens
parent_opens machine plans ask parent child end (one_more {goal} {choices} c) o = OpensTo-without machine plans ask goal c choices end o
parent_opens machine plans ask parent child end (stopped {goal} {choices} can) o = OpensTo-going machine plans ask goal choices end o

pub parent_bound : ParentBound
parent_bound machine plans ask parent child b c is_child pb cb = pb.least c (parent_opens machine plans ask parent child c is_child cb.opens)

-- with the least of all ways before it the list opens to the same ends
pub HasTimes-less : (machine : Machine) (plans : List Plan) (ask : Ask) (list : ChoiceList) (room less : ℕ) (t : Ticks) → less ≤ room → HasTimes machine plans ask list room t → HasTimes machine plans ask list less t
HasTimes-less machine plans ask list room less t le times = record {
  keeps = times.keeps;
  lasts = times.lasts;
  first = omega (arith, times.first);
  last = times.last;
  line = times.line;
  apart = times.apart;
  stopped = times.stopped;
}
