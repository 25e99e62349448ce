-- A whole list is come to by steps from its goal, and its ticks are ticks of each branch on the way.
use Rattle.std.proofs.Common.{◌≡◌, ℕ, suc, ◌+◌, ◌≤◌, ◌<◌, true, false, List, [], ◌∷◌, ◌++◌, length, refl, Option, Some, None, IsSome, slice_get}
use Rattle.tp_bounds.specs.declared.tree.TreeRow.{TreeRow}
use Rattle.tp_machine.specs.ModuleUse.{action_at}
use Rattle.tp_machine.specs.declared.parts.ActId.{ActId}
use Rattle.tp_machine.specs.declared.parts.Action.{Action}
use Rattle.tp_machine.specs.declared.parts.HoldRule.{HoldRule}
use Rattle.tp_machine.specs.declared.parts.State.{State}
use Rattle.tp_machine.specs.declared.machine.Machine.{Machine}
use Rattle.tp_schedule.specs.Answers.{IsAsked, kept_of}
use Rattle.tp_schedule.specs.Choices.{Choice}
use Rattle.tp_schedule.specs.Holders.{holds_of_act}
use Rattle.tp_schedule.specs.Routes.{AreAllowed, Reaches, is_act_allowed, step_by}
use Rattle.tp_schedule.specs.Spots.{Ticks}
use Rattle.tp_schedule.specs.declared.parts.Ask.{Ask}
use Rattle.tp_schedule.specs.declared.parts.Origin.{Origin}
use Rattle.tp_schedule.specs.declared.parts.Origin.TheVariants.{Feeder as FromFeeder, Front as FromFront}
use Rattle.tp_schedule.specs.declared.parts.Plan.{Plan}
use Rattle.tp_schedule.proofs.Walks.{walk_on, AreAllowed-push}
use Rattle.tp_constraints.specs.Suffixes.{IsInFlight, Suffix, SuffixTimes, order_in, with_action, with_place, with_stop}
use Rattle.tp_constraints.proofs.PlaceGaps.{place_law}
use Rattle.tp_constraints.proofs.Steps.{action_law, stop_law}
use Rattle.tp_bound_laws.specs.Places.{has_choice, is_begun, is_front_state, next_rule, room_at, rule_in}

module _ (machine : Machine) (plans : List Plan) (ask : Ask) (rows : List TreeRow) where
  -- some allowed actions lead to the state
  pub record IsReached (s : State) : Type 0 where
    pub acts : List ActId
    pub allowed : AreAllowed machine ask.outs acts
    pub reaches : Reaches machine ask acts s

  -- the list of this suffix and first state is whole: nothing is left to place, and it begins at a start or is stopped
  pub record IsWhole (s : State) (x : Suffix) : Type 0 where
    pub reached : IsReached s
    pub full : next_rule machine x ≡ None
    pub complete : x.stopped ≡ false → is_begun machine ask ask.origin s ≡ true

  -- from a state and a suffix steps lead to a whole list
  pub data Way (X : Suffix) : State → Suffix → Type 0 where
    there : (s : State) → IsWhole s X → Way X s X
    by_action : (act : ActId) (before s : State) (x : Suffix) → next_rule machine x ≡ None → x.stopped ≡ false → length x.rooms ≡ suc (length x.choices) → kept_of ask + length x.choices < 64
        → is_act_allowed machine ask.outs act ≡ true → step_by machine ask.want act before ≡ Some s → Way X before (with_action act (room_at machine plans ask rows before) x) → Way X s x
    by_place : (rule : HoldRule) (place : ℕ) (s : State) (x : Suffix) → next_rule machine x ≡ Some rule → x.stopped ≡ false → place ≤ length (order_in machine plans x rule.resource.0) → Way X s (with_place place x) → Way X s x
    by_stop : (s : State) (x : Suffix) → next_rule machine x ≡ None → x.stopped ≡ false → has_choice machine plans ask rows x.choices ≡ true → is_front_state ask.origin s ≡ true → Way X s (with_stop x) → Way X s x

  -- each state on the way can be reached
  pub way-reached : (X : Suffix) (s : State) (x : Suffix) → Way X s x → IsReached s
  way-reached X _ _ (there s whole) = whole.reached
  way-reached X _ _ (by_action act before s x full going lengths few allowed step way) =
      let r = way-reached X before (with_action act (room_at machine plans ask rows before) x) way in
      record {
        acts = r.acts ++ act ∷ [];
        allowed = AreAllowed-push machine ask.outs r.acts act r.allowed allowed;
        reaches = record { start = r.reaches.start; starts = r.reaches.starts; leads = walk_on machine ask.want r.acts act r.reaches.start before s r.reaches.leads step };
      }
  way-reached X _ _ (by_place rule place s x next going le way) = way-reached X s (with_place place x) way
  way-reached X _ _ (by_stop s x full going some front way) = way-reached X s (with_stop x) way

  -- the newest choice of a suffix with a hold to place
  pub newest : (choices : List Choice) (rule : HoldRule) → rule_in machine choices ≡ Some rule → (c : Choice) × (cs : List Choice) × (choices ≡ c ∷ cs) × (slice_get (holds_of_act (action_at machine c.act.0)) (length c.places) ≡ Some rule)
  newest [] rule e = absurd cc
  newest (c ∷ cs) rule e = (c, cs, refl, e)

  known-act : (act : ActId) (s s' : State) → step_by machine ask.want act s ≡ Some s' → IsSome (action_at machine act.0)
  known-act act s s' e = go (action_at machine act.0) refl where
    go : (o : Option Action) → action_at machine act.0 ≡ o → IsSome o
    go None none = let no : step_by machine ask.want act s ≡ None = rw none refl in absurd cc
    go (Some a) some = refl

  in-flight : (o : Origin) (s : State) → is_front_state o s ≡ true → IsInFlight o
  in-flight FromFeeder s e = absurd cc
  in-flight (FromFront state end count) s e = tt

  -- ticks of the list are ticks of each branch on the way
  pub way-times : (asked : IsAsked machine plans ask) (t : Ticks) (X : Suffix) → SuffixTimes machine plans ask X t → (s : State) (x : Suffix) → Way X s x → SuffixTimes machine plans ask x t
  way-times asked t X times _ _ (there s whole) = times
  way-times asked t X times _ _ (by_action act before s x full going lengths few allowed step way) =
      let more = way-times asked t X times before (with_action act (room_at machine plans ask rows before) x) way in
      ((action_law machine plans ask x act (room_at machine plans ask rows before) t lengths going (known-act act before s step)).0 more).0
  way-times asked t X times _ _ (by_place rule place s x next going le way) =
      let n = newest x.choices rule next in
      ((place_law machine plans ask x n.0 n.1 rule place t n.2 n.3 le).0 (way-times asked t X times s (with_place place x) way)).0
  way-times asked t X times _ _ (by_stop s x full going some front way) =
      ((stop_law machine plans ask x t asked (in-flight ask.origin s front) going).0 (way-times asked t X times s (with_stop x) way)).0
