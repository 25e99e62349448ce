-- The open goals of the numbers so far, and those of all numbers.
use Rattle.std.proofs.Common.{◌≡◌, ◌≢◌, ◌⊎◌, inl, inr, ℕ, ◌+◌, ◌*◌, ◌<◌, ◌≤◌, Bool, true, false, List, [], ◌∷◌, ◌++◌, length, map, All, AllPairs, Contains, refl, sym, ap, subst, ◌∙◌, arith}
use Rattle.std.proofs.lemmas.Bool.{cases_lt}
use Rattle.std.proofs.lemmas.List.{length_push}
use Rattle.std.proofs.lemmas.List.Elements.{All-cons, All-nil, All-push, All-weaker, Contains-append_left, Contains-push}
use Rattle.tp_machine.specs.declared.machine.Machine.{Machine}
use Rattle.tp_machine.specs.declared.parts.State.{State}
use Rattle.tp_schedule.specs.Routes.{IsGoalState}
use Rattle.tp_schedule.specs.Choices.{CanStop, ChoiceList, IsBound, IsOpen, going}
use Rattle.tp_schedule.specs.declared.parts.Ask.{Ask}
use Rattle.tp_schedule.specs.declared.parts.Origin.{Origin}
use Rattle.tp_schedule.specs.declared.parts.Origin.TheVariants.{Feeder as FromFeeder, Front as FromFront}
use Rattle.tp_schedule.specs.declared.parts.Plan.{Plan}
use Rattle.tp_schedule.proofs.Membership.{Contains-map}
use Rattle.tp_schedule.proofs.Pairs.{AllPairs-nil, AllPairs-cons}
use Rattle.tp_constraints.proofs.Lists.{AllPairs-append}
use Rattle.tp_routes.specs.Numbers.{number_of, state_at}
use Rattle.tp_routes.specs.Tables.{IsKnownOrigin}
use Rattle.tp_search.specs.SearchProgress.{AreOpenGoals, list_of_goal}
use Rattle.tp_search.specs.declared.goals.OpenGoal.{OpenGoal}
use Rattle.tp_search.proofs.FollowGoal.{goal_within}
use Rattle.tp_search.proofs.StateFacts.{every_state, number_of_state}

module _ (machine : Machine) (plans : List Plan) (ask : Ask) where
  -- these are the open goals of the numbers below this one
  pub record AreGoalsBelow (number : ℕ) (goals : List OpenGoal) : Type 0 where
    pub bounds : All (λ g. IsBound machine plans ask (list_of_goal g) g.bound) goals
    pub below : All (λ g. number_of g.state < number) goals
    pub apart : AllPairs (λ a b. a.state ≢ b.state) goals
    pub every : (n : ℕ) → n < number → IsOpen machine plans ask (going (state_at n) []) → (g : OpenGoal) × Contains goals g × (g.state ≡ state_at n)
    pub few : length goals ≤ number

  -- the goal of this number is not open
  pub goals-skip : (number : ℕ) (goals : List OpenGoal) → AreGoalsBelow number goals → ¬ IsOpen machine plans ask (going (state_at number) []) → AreGoalsBelow (number + 1) goals
  goals-skip number goals a shut = record {
    bounds = a.bounds;
    below = All-weaker (λ g. number_of g.state < number) (λ g. number_of g.state < number + 1) (λ g lower. omega (arith, lower)) goals a.below;
    apart = a.apart;
    every = λ n within o. there n o (cases_lt n number) within;
    few = omega (arith, a.few);
  } where
    there : (n : ℕ) → IsOpen machine plans ask (going (state_at n) []) → (n < number) ⊎ (number ≤ n) → n < number + 1 → (g : OpenGoal) × Contains goals g × (g.state ≡ state_at n)
    there n o (inl lower) within = a.every n lower o
    there n o (inr upper) within = (let same : n ≡ number = omega arith in absurd (shut (subst (λ k. IsOpen machine plans ask (going (state_at k) [])) same o)))

  -- or it is, and comes last
  pub goals-push : (number : ℕ) (goals : List OpenGoal) (g : OpenGoal) → AreGoalsBelow number goals → g.state ≡ state_at number → IsBound machine plans ask (list_of_goal g) g.bound → AreGoalsBelow (number + 1) (goals ++ g ∷ [])
  goals-push number goals g a numbered bound = record {
    bounds = All-push (λ x. IsBound machine plans ask (list_of_goal x) x.bound) goals g a.bounds bound;
    below = All-push (λ x. number_of x.state < number + 1) goals g (All-weaker (λ x. number_of x.state < number) (λ x. number_of x.state < number + 1) (λ x lower. omega (arith, lower)) goals a.below) (omega (arith, its-number));
    apart = AllPairs-append (λ x y. x.state ≢ y.state) goals (g ∷ []) a.apart
        (AllPairs-cons (λ x y. x.state ≢ y.state) g [] (All-nil (λ x. g.state ≢ x.state)) (AllPairs-nil (λ x y. x.state ≢ y.state)))
        (All-weaker (λ x. number_of x.state < number) (λ x. All (λ y. x.state ≢ y.state) (g ∷ [])) (λ x lower. All-cons (λ y. x.state ≢ y.state) g [] (λ same. omega (arith, lower, its-number, ap number_of same)) (All-nil (λ y. x.state ≢ y.state))) goals a.below);
    every = λ n within o. there n o (cases_lt n number) within;
    few = omega (arith, a.few, length_push goals g);
  } where
    its-number : number_of g.state ≡ number
    its-number = ap number_of numbered ∙ number_of_state number

    there : (n : ℕ) → IsOpen machine plans ask (going (state_at n) []) → (n < number) ⊎ (number ≤ n) → n < number + 1 → (x : OpenGoal) × Contains (goals ++ g ∷ []) x × (x.state ≡ state_at n)
    there n o (inl lower) within = let x = a.every n lower o in (x.0, Contains-append_left goals (g ∷ []) x.0 x.1, x.2)
    there n o (inr upper) within = (let same : number ≡ n = omega arith in (g, Contains-push goals g, numbered ∙ ap state_at same))

  -- a list without choices is not stopped
  not-stopped : (list : ChoiceList) (origin : Origin) → list.choices ≡ [] → ¬ CanStop machine ask list origin
  not-stopped list FromFeeder none can = can
  not-stopped list (FromFront state end count) none can = can.0 none

  is-going : (list : ChoiceList) → list.choices ≡ [] → IsOpen machine plans ask list → list ≡ going list.goal []
  is-going list none o = by list.stopped refl where
    by : (b : Bool) → list.stopped ≡ b → list ≡ going list.goal []
    by false is = λ i. record { goal = list.goal; choices = none i; stopped = is i }
    by true is = absurd (not-stopped list ask.origin none (o.1.is_list.can_stop is))

  -- those of all numbers are all
  pub goals-all : (goals : List OpenGoal) → IsKnownOrigin machine ask.origin → AreGoalsBelow (8 * length machine.locations) goals → AreOpenGoals machine plans ask goals
  goals-all goals origin a = record {
    bounds = a.bounds;
    apart = a.apart;
    every = λ list none o. there list (is-going list none o) o;
  } where
    there : (list : ChoiceList) → list ≡ going list.goal [] → IsOpen machine plans ask list → Contains (map list_of_goal goals) list
    there list is o =
        let opens = subst (IsOpen machine plans ask) is o in
        let s = every_state machine list.goal (goal_within machine plans ask list.goal origin opens) in
        let g = a.every s.0 s.1 (subst (λ state. IsOpen machine plans ask (going state [])) (sym s.2) opens) in
        let same : list_of_goal g.0 ≡ list = ap (λ state. going state []) (g.2 ∙ s.2) ∙ sym is in
        subst (Contains (map list_of_goal goals)) same (Contains-map list_of_goal goals g.0 g.1)

  -- where an ask has one goal state, that one alone or none
  module _ (state : State) (only : (goal : State) → IsGoalState machine ask.want ask.goal goal → goal ≡ state) where
    is-only : (list : ChoiceList) → list.choices ≡ [] → IsOpen machine plans ask list → list ≡ going state []
    is-only list none o = (let is = is-going list none o in is ∙ ap (λ s. going s []) (only list.goal o.1.is_list.goal))

    pub goal-alone : (g : OpenGoal) → g.state ≡ state → IsBound machine plans ask (list_of_goal g) g.bound → AreOpenGoals machine plans ask (g ∷ [])
    goal-alone g is bound = record {
      bounds = All-cons (λ x. IsBound machine plans ask (list_of_goal x) x.bound) g [] bound (All-nil (λ x. IsBound machine plans ask (list_of_goal x) x.bound));
      apart = AllPairs-cons (λ x y. x.state ≢ y.state) g [] (All-nil (λ y. g.state ≢ y.state)) (AllPairs-nil (λ x y. x.state ≢ y.state));
      every = λ list none o. subst (Contains (list_of_goal g ∷ [])) (ap (λ s. going s []) is ∙ sym (is-only list none o)) (Contains-push [] (list_of_goal g));
    }

    pub goal-none : ¬ IsOpen machine plans ask (going state []) → AreOpenGoals machine plans ask []
    goal-none shut = record {
      bounds = All-nil (λ x. IsBound machine plans ask (list_of_goal x) x.bound);
      apart = AllPairs-nil (λ x y. x.state ≢ y.state);
      every = λ list none o. absurd (shut (subst (IsOpen machine plans ask) (is-only list none o) o));
    }
