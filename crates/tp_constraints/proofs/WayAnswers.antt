-- A complete way that has times is an alternative that ends as they do.
use Rattle.std.proofs.Common.{◌≡◌, ◌<◌, Bool, true, false, true≢false, List, [], ◌∷◌, length, Contains, Some, refl, sym, ap, subst, ◌∙◌, arith}
use Rattle.std.proofs.lemmas.List.Elements.{All-contains}
use Rattle.std.proofs.lemmas.Option.{same_Some}
use Rattle.tp_machine.specs.Machines.{IsLocation, IsMachine, IsOpenLocation}
use Rattle.tp_machine.specs.declared.parts.Feeder.{Feeder}
use Rattle.tp_machine.specs.declared.parts.State.{State}
use Rattle.tp_machine.specs.declared.machine.Machine.{Machine}
use Rattle.tp_machine.proofs.MachineFacts.{is_machine}
use Rattle.tp_schedule.specs.Choices.{CanStop, Choice, ChoiceList, IsComplete, IsCompleteFrom, IsOpen, going}
use Rattle.tp_schedule.specs.Completions.{answered}
use Rattle.tp_schedule.specs.PlannerAnswers.{IsKnownGoal}
use Rattle.tp_schedule.specs.Routes.{IsFreshStart, IsGoalState, IsStartFrom, least_sum}
use Rattle.tp_schedule.specs.Spots.Spot.{own}
use Rattle.tp_schedule.specs.declared.parts.Ask.{Ask}
use Rattle.tp_schedule.specs.declared.parts.Goal.{Goal}
use Rattle.tp_schedule.specs.declared.parts.Goal.TheVariants.{Purge, Tray}
use Rattle.tp_schedule.specs.declared.parts.Origin.{Origin}
use Rattle.tp_schedule.specs.declared.parts.Origin.TheVariants.{Feeder as FromFeeder, Front as FromFront}
use Rattle.tp_schedule.specs.declared.parts.Plan.{Plan}
use Rattle.tp_choices.proofs.CompleteAnswers.{complete_answers}
use Rattle.tp_constraints.specs.Suffixes.{list_of}
use Rattle.tp_constraints.specs.Ends.{CompleteEnds}
use Rattle.tp_constraints.proofs.WayLists.{way-opens_to}

-- nothing can be put away at a feeder
goal-placed : (machine : Machine) (ask : Ask) (state : State) (goal : Goal) → IsKnownGoal machine goal → IsGoalState machine ask.want goal state → IsOpenLocation machine state.loc → ⊥
goal-placed machine ask state (Tray tray) known is free =
    let at : state.loc ≡ tray = ap (λ (s : State). s.loc) is in
    free.0 (subst (Contains machine.trays) (sym at) known)
goal-placed machine ask state Purge known is free = free.1 is

-- a goal's list is not complete: no goal state is a start state of a new copy, and for one in flight it is not stopped
pub goal-incomplete : (machine : Machine) (ask : Ask) (state : State) → IsMachine machine → IsKnownGoal machine ask.goal → IsGoalState machine ask.want ask.goal state → ¬ IsComplete machine ask (going state [])
goal-incomplete machine ask state is-machine known is = go ask.origin refl where
  fed : (first : State) → Some first ≡ Some state → IsFreshStart machine ask.want first → ⊥
  fed first leads (k, feeder, within, at, (media, fresh)) =
      let location = All-contains (λ (f : Feeder). IsLocation machine f.loc × IsOpenLocation machine f.loc) machine.feeders feeder is-machine.feeders (k, within, at) in
      let loc : state.loc ≡ feeder.loc = ap (λ (s : State). s.loc) (sym (same_Some first state leads) ∙ fresh) in
      goal-placed machine ask state ask.goal known is (subst (IsOpenLocation machine) (sym loc) location.1)

  go : (origin : Origin) → ask.origin ≡ origin → IsCompleteFrom machine ask (going state []) origin → ⊥
  go FromFeeder from (first, leads, start) = fed first leads (subst (λ o. IsStartFrom machine ask o first) from start).0
  go (FromFront state' end count) from halted = absurd (true≢false (sym halted))

-- a complete open list has a choice
pub complete-some : (machine : Machine) (plans : List Plan) (ask : Ask) → IsMachine machine → IsKnownGoal machine ask.goal → (list : ChoiceList) → IsOpen machine plans ask list → IsComplete machine ask list → 0 < length list.choices
complete-some machine plans ask is-machine known list opens complete = go list.goal list.choices list.stopped opens complete where
  stops : (o : Origin) (l : ChoiceList) → l.choices ≡ [] → CanStop machine ask l o → ⊥
  stops FromFeeder l none can = absurd can
  stops (FromFront state end count) l none can = can.0 none

  go : (goal : State) (choices : List Choice) (stopped : Bool) → IsOpen machine plans ask (record { goal = goal; choices = choices; stopped = stopped }) → IsComplete machine ask (record { goal = goal; choices = choices; stopped = stopped }) → 0 < length choices
  go goal (c ∷ choices) stopped o is = omega arith
  go goal [] false o is = absurd (goal-incomplete machine ask goal is-machine known o.1.is_list.goal is)
  go goal [] true o is = absurd (stops ask.origin (record { goal = goal; choices = []; stopped = true }) refl (o.1.is_list.can_stop refl))

pub complete-ends : CompleteEnds
complete-ends machine plans ask goal first x last legal asked known way placed complete ends =
    let opens = way-opens_to machine plans ask goal first x way placed ends.ticks ends.are_times in
    let some = complete-some machine plans ask (is_machine machine) known (list_of goal x) (ends.ticks (own 0), opens) complete in
    let a = complete_answers machine plans ask (list_of goal x) (least_sum machine opens.before) opens.ticks legal asked opens.is_list complete some opens.times in
    let by = ends.by in
    let at = a.1 in
    record { answer = answered plans ask x.choices opens.ticks; alternative = a.0; by = omega (arith, at, by) }
