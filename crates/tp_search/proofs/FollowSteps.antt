-- One stored choice more on a board whose list with it is open: it can be laid, and makes a way of that list.
use Rattle.std.proofs.Common.{◌≡◌, ℕ, ◌<◌, false, List, [], ◌∷◌, length, take, refl, sym, ap, ◌∙◌, arith, subst, Option, Some, None, IsSomeAnd, IsTrue}
use Rattle.std.specs.Prelude.{option_map, unwrap_or}
use Rattle.std.proofs.lemmas.Option.{slice_get_within}
use Rattle.tp_base.specs.Readings.{Reading}
use Rattle.tp_machine.specs.ModuleUse.{action_at, is_allowed}
use Rattle.tp_machine.specs.declared.parts.ActId.{ActId}
use Rattle.tp_machine.specs.declared.parts.Action.{Action}
use Rattle.tp_machine.specs.declared.parts.State.{State}
use Rattle.tp_machine.specs.declared.machine.Machine.{Machine}
use Rattle.tp_pool.specs.declared.choice.Choice.{Choice as Stored}
use Rattle.tp_schedule.proofs.Walks.{AreAllowed-head}
use Rattle.tp_schedule.specs.Choices.{Choice, IsOpen, acts_of, going, stopping}
use Rattle.tp_schedule.specs.Holders.{holds_of_act}
use Rattle.tp_schedule.specs.declared.parts.Ask.{Ask}
use Rattle.tp_schedule.specs.declared.parts.Plan.{Plan}
use Rattle.tp_constraints.specs.Suffixes.{Suffix, with_action, with_stop}
use Rattle.tp_placing.specs.Boards.{BoardValue, suffix_of}
use Rattle.tp_placing.specs.Calls.{HasNoTimes, IsSameLoad}
use Rattle.tp_placing.specs.LoadedBoard.{Stands}
use Rattle.tp_placing.proofs.StandFacts.{and-some, some-and}
use Rattle.tp_search.proofs.FollowGoal.{refused-late}
use Rattle.tp_search.proofs.FollowPlaces.{all-placed}
use Rattle.tp_constraints.proofs.WayChildren.{child-closed, child-late, child-places, stop-late}
use Rattle.tp_constraints.proofs.WaySteps.{action-way}
use Rattle.tp_search.specs.StoredLists.{AwaitsPlaces, HasList, IsWayTo, with_places}
use Rattle.tp_search.specs.States.{HasNoneBefore, IsBefore}
use Rattle.tp_search.specs.Stored.{child_by, choice_with, is_stop, with_stored}
use Rattle.tp_constraints.specs.Ways.{IsPlaced, IsWay}
use Rattle.tp_search.specs.declared.states.Before.{Before}

-- a stored choice is the stop, or an action more
pub child-stop : (machine : Machine) (goal : State) (choices : List Choice) (c : Stored) → c.act ≡ None → child_by machine goal choices c ≡ stopping goal choices
child-stop machine goal choices c is = λ i. record { goal = goal; choices = with_stored machine (is i) c.places choices; stopped = is_stop (is i) }

pub child-more : (machine : Machine) (goal : State) (choices : List Choice) (c : Stored) (act : ActId) → c.act ≡ Some act → child_by machine goal choices c ≡ going goal (choice_with machine act c.places ∷ choices)
child-more machine goal choices c act is = λ i. record { goal = goal; choices = with_stored machine (is i) c.places choices; stopped = is_stop (is i) }

-- an action of an open list is the machine's
pub act_within : (machine : Machine) (plans : List Plan) (ask : Ask) (goal : State) (c : Choice) (choices : List Choice) → IsOpen machine plans ask (going goal (c ∷ choices)) → c.act.0 < length machine.actions
act_within machine plans ask goal c choices o = go (action_at machine c.act.0) refl (AreAllowed-head machine ask.outs c.act (acts_of choices) o.1.is_list.allowed) where
  go : (a : Option Action) → action_at machine c.act.0 ≡ a → IsTrue (unwrap_or (option_map (is_allowed machine ask.outs) a) false) → c.act.0 < length machine.actions
  go None is allowed = absurd cc
  go (Some a) is allowed = slice_get_within machine.actions c.act.0 a is

module _ {N : Type 0} (reading : Reading N) (machine : Machine) (b : BoardValue N) (ask : Ask) (goal first : State) (choices : List Choice)
    (laid : HasList reading b machine ask first (going goal choices)) where
  found : (x : Suffix) × (suffix_of b ≡ Some x) × IsWayTo machine b.plans ask first (going goal choices) x
  found = some-and (suffix_of b) _ laid.way

  -- what the board carries
  abbrev carried : Suffix
  carried = record { choices = choices; rooms = found.0.rooms; stopped = false }

  is-carried : found.0 ≡ carried
  is-carried = λ i. record { choices = (found.2.same i).choices; rooms = found.0.rooms; stopped = (found.2.same i).stopped }

  suffix-is : suffix_of b ≡ Some carried
  suffix-is = found.1 ∙ ap Some is-carried

  way-is : IsWay machine b.plans ask goal first carried
  way-is = subst (λ x. IsWay machine b.plans ask goal first x) is-carried found.2.way

  -- and each choice has its places
  pub placed-is : IsPlaced machine choices
  placed-is = subst (λ (x : Suffix). IsPlaced machine x.choices) is-carried found.2.placed

  -- the stop
  module _ (o : IsOpen machine b.plans ask (stopping goal choices)) where
    pub stop-laid : (e : BoardValue N) → Stands reading e machine → IsSomeAnd (suffix_of b) (λ x. suffix_of e ≡ Some (with_stop x)) → IsSameLoad b e → HasList reading e machine ask first (stopping goal choices)
    stop-laid e stands so load =
        let now : suffix_of e ≡ Some (with_stop carried) = subst (λ s. IsSomeAnd s (λ x. suffix_of e ≡ Some (with_stop x))) suffix-is so in
        let way : IsWayTo machine b.plans ask first (stopping goal choices) (with_stop carried) = record {
          way = record {
            is_goal = way-is.is_goal;
            rooms = way-is.rooms;
            allowed = way-is.allowed;
            at_most = way-is.at_most;
            places = way-is.places;
            can_stop = λ stop. o.1.is_list.can_stop refl;
          };
          placed = placed-is;
          same = refl;
        } in
        record {
          stands = stands;
          asked = load.ask ∙ laid.asked;
          way = and-some (suffix_of e) (with_stop carried) _ now (subst (λ plans. IsWayTo machine plans ask first (stopping goal choices) (with_stop carried)) (sym load.plans) way);
        }

    pub stop-in_time : IsSomeAnd (suffix_of b) (λ x. HasNoTimes machine b (with_stop x)) → ⊥
    stop-in_time none =
        let late = refused-late machine b ask (with_stop carried) laid.asked (subst (λ s. IsSomeAnd s (λ x. HasNoTimes machine b (with_stop x))) suffix-is none) in
        stop-late machine b.plans ask goal first carried way-is late o

  -- an action more
  module _ (act : ActId) (places : List ℕ) (o : IsOpen machine b.plans ask (going goal (choice_with machine act places ∷ choices))) where
    pub some-before : HasNoneBefore machine ask act first → ⊥
    some-before none = child-closed machine b.plans ask goal first carried act (take (length (holds_of_act (action_at machine act.0))) places) way-is none o

    module _ (before : Before) (is_before : IsBefore machine ask act first before) where
      way-more : IsWay machine b.plans ask goal before.state (with_action act before.room carried)
      way-more =
          let most = o.1.is_list.at_most in
          action-way machine b.plans ask goal first before.state carried act before.room way-is placed-is refl is_before.step is_before.allowed is_before.is_room (omega (arith, most))

      pub action-in_time : IsSomeAnd (suffix_of b) (λ x. HasNoTimes machine b (with_action act before.room x)) → ⊥
      action-in_time none =
          let late = refused-late machine b ask (with_action act before.room carried) laid.asked (subst (λ s. IsSomeAnd s (λ x. HasNoTimes machine b (with_action act before.room x))) suffix-is none) in
          child-late machine b.plans ask goal before.state (with_action act before.room carried) (record { act = act; places = [] }) choices (take (length (holds_of_act (action_at machine act.0))) places) way-more refl refl late o

      -- after the action is opened
      module _ (m : BoardValue N) (so : IsSomeAnd (suffix_of b) (λ x. suffix_of m ≡ Some (with_action act before.room x))) (load : IsSameLoad b m) where
        opened : suffix_of m ≡ Some (with_action act before.room carried)
        opened = subst (λ s. IsSomeAnd s (λ x. suffix_of m ≡ Some (with_action act before.room x))) suffix-is so

        abbrev awaits : AwaitsPlaces machine b.plans ask act places (with_action act before.room carried)
        awaits = record { goal = goal; first = before.state; choices = choices; newest = refl; goes_on = refl; way = way-more; is_open = o }

        pub waits-more : IsSomeAnd m.ask (λ ask. IsSomeAnd (suffix_of m) (AwaitsPlaces machine m.plans ask act places))
        waits-more = and-some m.ask ask _ (load.ask ∙ laid.asked) (and-some (suffix_of m) (with_action act before.room carried) _ opened
            (subst (λ plans. AwaitsPlaces machine plans ask act places (with_action act before.room carried)) (sym load.plans) awaits))

        pub more-laid : (e : BoardValue N) → Stands reading e machine
            → IsSomeAnd (suffix_of m) (λ x. suffix_of e ≡ Some (with_places (take (length (holds_of_act (action_at machine act.0))) places) x)) → IsSameLoad m e
            → HasList reading e machine ask before.state (going goal (choice_with machine act places ∷ choices))
        more-laid e stands placed load' =
            let all = take (length (holds_of_act (action_at machine act.0))) places in
            let end : Suffix = record { choices = record { act = act; places = all } ∷ choices; rooms = before.room ∷ found.0.rooms; stopped = false } in
            let now : suffix_of e ≡ Some end = subst (λ s. IsSomeAnd s (λ x. suffix_of e ≡ Some (with_places all x))) opened placed in
            let way : IsWayTo machine b.plans ask before.state (going goal (choice_with machine act places ∷ choices)) end = record {
              way = all-placed machine b.plans ask act places (with_action act before.room carried) awaits;
              placed = child-places machine b.plans ask goal (choice_with machine act places) choices o;
              same = refl;
            } in
            record {
              stands = stands;
              asked = load'.ask ∙ (load.ask ∙ laid.asked);
              way = and-some (suffix_of e) end _ now
                  (subst (λ plans. IsWayTo machine plans ask before.state (going goal (choice_with machine act places ∷ choices)) end) (sym (load'.plans ∙ load.plans)) way);
            }
