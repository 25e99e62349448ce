-- The children of a list that a board carries: their bounds, and which of them have no times.
use Rattle.std.proofs.Common.{◌≡◌, ℕ, ◌+◌, ◌<◌, ◌≤◌, false, List, [], ◌∷◌, ◌++◌, length, take, refl, ap, sym, subst, arith, Some, IsSomeAnd, IsFalse, ◌↔◌}
use Rattle.std.specs.Prelude.{slice_get}
use Rattle.tp_base.specs.Readings.{Reading}
use Rattle.tp_machine.specs.ModuleUse.{action_at}
use Rattle.tp_machine.specs.declared.parts.ActId.{ActId}
use Rattle.tp_machine.specs.declared.parts.HoldRule.{HoldRule}
use Rattle.tp_machine.specs.declared.parts.State.{State}
use Rattle.tp_machine.specs.declared.machine.Machine.{Machine}
use Rattle.tp_pool.specs.declared.choice.Choice.{Choice as Stored}
use Rattle.tp_schedule.specs.Choices.{Choice, ChoiceList, IsBound, IsChild, IsComplete, IsOpen, OpensTo, going, start_floor}
use Rattle.tp_schedule.specs.Choices.IsChild.{one_more}
use Rattle.tp_schedule.specs.Holders.{holds_of_act}
use Rattle.tp_schedule.specs.Routes.{IsStart}
use Rattle.tp_schedule.specs.Spots.{Ticks}
use Rattle.tp_schedule.specs.Spots.Spot.{own}
use Rattle.tp_schedule.specs.declared.parts.Ask.{Ask}
use Rattle.tp_schedule.specs.declared.parts.Origin.{Origin}
use Rattle.tp_schedule.specs.declared.parts.Origin.TheVariants.{Feeder as FromFeeder, Front as FromFront}
use Rattle.tp_schedule.specs.declared.parts.Plan.{Plan}
use Rattle.tp_choices.proofs.CompletePlans.{ChoicesLast-rise}
use Rattle.tp_constraints.specs.Suffixes.{Suffix, SuffixTimes, list_of, order_in, place_first, with_place}
use Rattle.tp_placing.specs.Boards.{BoardValue, suffix_of}
use Rattle.tp_placing.specs.Calls.{CanPlace, HasNoTimes}
use Rattle.tp_placing.specs.LoadedBoard.{order_after}
use Rattle.tp_placing.specs.Ticks.{HasLeastTick, IsLeastTick, TimesOf}
use Rattle.tp_placing.specs.RefusedPlace.{EndsAfterUpTo}
use Rattle.tp_search.specs.Boards.{IsLaid}
use Rattle.tp_search.specs.Stored.{child_by}
use Rattle.tp_constraints.specs.Ways.{IsPlaced}
use Rattle.tp_search.proofs.BoardSteps.{TheWay, the-way}
use Rattle.tp_search.proofs.ChildFacts.{child_by-act}
use Rattle.tp_constraints.proofs.WayChildren.{child-places, child-times, place-beyond}
use Rattle.tp_constraints.proofs.WayEnds.{complete-start, going-incomplete, start-complete}
use Rattle.tp_search.proofs.WayBounds.{way-bound}
use Rattle.tp_constraints.proofs.WaySteps.{place-way}

-- the list of a way of these choices that is not stopped
pub going-of : (goal : State) (choices : List Choice) (x : Suffix) → x.choices ≡ choices → IsFalse x.stopped → list_of goal x ≡ going goal choices
going-of goal choices x same going' = let stopped : x.stopped ≡ false = going' in λ i. record { goal = goal; choices = same i; stopped = stopped i }

-- a bound is between the start floor and the horizon
pub bound-range : (machine : Machine) (plans : List Plan) (ask : Ask) (list : ChoiceList) (bound : ℕ) → IsBound machine plans ask list bound → (start_floor machine ask.now ask.origin ≤ bound) × (bound ≤ ask.now + machine.window)
bound-range machine plans ask list bound b =
    let o = b.opens in
    let first = o.times.first in
    let last = o.times.last in
    let rise = (ChoicesLast-rise machine o.ticks list.choices o.times.lasts (length list.choices) (omega arith)).1 in
    let ends = o.ends in
    (omega arith, omega arith)

module _ {N : Type 0} (reading : Reading N) (b : BoardValue N) (machine : Machine) (ask : Ask) (goal first : State) where
  -- the least end on the board is that of the way that it carries
  laid-least : (choices : List Choice) (tick : ℕ) → (l : IsLaid reading b machine ask goal first choices) → HasLeastTick machine b (own 0) tick
      → IsLeastTick (TimesOf machine b.plans ask (Some (the-way reading b machine ask goal first choices l).x)) (own 0) tick
  laid-least choices tick l least =
      let w = the-way reading b machine ask goal first choices l in
      let here : IsLeastTick (TimesOf machine b.plans ask (suffix_of b)) (own 0) tick = subst (λ o. IsSomeAnd o (λ k. IsLeastTick (TimesOf machine b.plans k (suffix_of b)) (own 0) tick)) l.asked least in
      subst (λ o. IsLeastTick (TimesOf machine b.plans ask o) (own 0) tick) w.suffix here

  -- and the bound of its list
  pub laid-bound : (choices : List Choice) (tick : ℕ) → IsLaid reading b machine ask goal first choices → IsPlaced machine choices → HasLeastTick machine b (own 0) tick → IsBound machine b.plans ask (going goal choices) tick
  laid-bound choices tick l placed least =
      let w = the-way reading b machine ask goal first choices l in
      subst (λ list. IsBound machine b.plans ask list tick) (going-of goal choices w.x w.is.same w.is.going)
      (way-bound machine b.plans ask goal first w.x tick w.is.way (subst (IsPlaced machine) (sym w.is.same) placed) (laid-least choices tick l least))

  -- it is complete for a new copy that begins at a start state
  pub laid-complete : (choices : List Choice) → IsLaid reading b machine ask goal first choices → ((ask.origin ≡ FromFeeder) × IsStart machine ask first) ↔ IsComplete machine ask (going goal choices)
  laid-complete choices l =
      let w = the-way reading b machine ask goal first choices l in
      let list = going-of goal choices w.x w.is.same w.is.going in (
        λ (new, starts). subst (IsComplete machine ask) list (start-complete machine b.plans ask goal first w.x new w.is.way starts),
        λ complete. (go w ask.origin refl (subst (IsComplete machine ask) (sym list) complete)),
      ) where
        go : (w : TheWay reading b machine ask goal first choices) (origin : Origin) → ask.origin ≡ origin → IsComplete machine ask (list_of goal w.x) → (ask.origin ≡ FromFeeder) × IsStart machine ask first
        go w FromFeeder is complete = (is, complete-start machine b.plans ask goal first w.x w.is.way complete)
        go w (FromFront state end count) is complete = absurd (going-incomplete machine ask goal state end count w.x is w.is.going complete)

  module _ (choices : List Choice) (act : ActId) (places : List ℕ) (l : IsLaid reading b machine ask goal first (record { act = act; places = places } ∷ choices)) where
    abbrev newest : Choice
    newest = record { act = act; places = places }

    -- the next hold may be placed, within the order of its resource
    pub can-place : (hold place : ℕ) (rule : HoldRule) → hold ≡ length places → slice_get (holds_of_act (action_at machine act.0)) hold ≡ Some rule → place ≤ length (order_after machine b.plans (suffix_of b) rule.resource.0)
        → IsSomeAnd (suffix_of b) (λ x. CanPlace machine b.plans x hold place)
    can-place hold place rule is is_rule within =
        let w = the-way reading b machine ask goal first (newest ∷ choices) l in
        let inside : place ≤ length (order_in machine b.plans w.x rule.resource.0) = subst (λ o. place ≤ length (order_after machine b.plans o rule.resource.0)) w.suffix within in
        subst (λ o. IsSomeAnd o (λ x. CanPlace machine b.plans x hold place)) (sym w.suffix)
        (record { choice = newest; choices = choices; newest = w.is.same; next = is; rule = rule; is_rule = is_rule; within = inside })

    pub place-within : (place : ℕ) (rule : HoldRule) → place ≤ length (order_after machine b.plans (suffix_of b) rule.resource.0) → IsSomeAnd (suffix_of b) (λ x. place ≤ length (order_in machine b.plans x rule.resource.0))
    place-within place rule within =
        let w = the-way reading b machine ask goal first (newest ∷ choices) l in
        subst (λ o. IsSomeAnd o (λ x. place ≤ length (order_in machine b.plans x rule.resource.0))) (sym w.suffix) (subst (λ o. place ≤ length (order_after machine b.plans o rule.resource.0)) w.suffix within)

    -- a list with further places ends no earlier than the board's
    pub end-after : (tick : ℕ) → HasLeastTick machine b (own 0) tick → (rest : List ℕ) (end : ℕ) → OpensTo machine b.plans ask (going goal (record { act = act; places = places ++ rest } ∷ choices)) end → tick ≤ end
    end-after tick least rest end opens =
        let w = the-way reading b machine ask goal first (newest ∷ choices) l in
        let here = laid-least (newest ∷ choices) tick l least in
        let times = child-times machine b.plans ask goal first w.x newest choices rest w.is.way w.is.going w.is.same end opens in
        omega (arith, here.least times.0 times.1, times.2)

    -- the list with a place more, and others behind it, opens to times of the one with the place
    place-times : (place : ℕ) (rule : HoldRule) → slice_get (holds_of_act (action_at machine act.0)) (length places) ≡ Some rule → place ≤ length (order_after machine b.plans (suffix_of b) rule.resource.0)
        → (rest : List ℕ) (end : ℕ) → OpensTo machine b.plans ask (going goal (record { act = act; places = (places ++ place ∷ []) ++ rest } ∷ choices)) end
        → (t : Ticks) × SuffixTimes machine b.plans ask (with_place place (the-way reading b machine ask goal first (newest ∷ choices) l).x) t × (t (own 0) ≡ end)
    place-times place rule is_rule within rest end opens =
        let w = the-way reading b machine ask goal first (newest ∷ choices) l in
        let inside : place ≤ length (order_in machine b.plans w.x rule.resource.0) = subst (λ o. place ≤ length (order_after machine b.plans o rule.resource.0)) w.suffix within in
        let way = place-way machine b.plans ask goal first w.x newest choices rule place w.is.way w.is.going w.is.same is_rule inside in
        let same : (with_place place w.x).choices ≡ record { act = act; places = places ++ place ∷ [] } ∷ choices = ap (place_first place) w.is.same in
        child-times machine b.plans ask goal first (with_place place w.x) (record { act = act; places = places ++ place ∷ [] }) choices rest way w.is.going same end opens

    -- a place that is late opens with no further places
    pub place-shut : (place : ℕ) (rule : HoldRule) → slice_get (holds_of_act (action_at machine act.0)) (length places) ≡ Some rule → place ≤ length (order_after machine b.plans (suffix_of b) rule.resource.0)
        → IsSomeAnd (suffix_of b) (λ x. HasNoTimes machine b (with_place place x)) → (rest : List ℕ) (end : ℕ) → OpensTo machine b.plans ask (going goal (record { act = act; places = (places ++ place ∷ []) ++ rest } ∷ choices)) end → ⊥
    place-shut place rule is_rule within late rest end opens =
        let w = the-way reading b machine ask goal first (newest ∷ choices) l in
        let none : HasNoTimes machine b (with_place place w.x) = subst (λ o. IsSomeAnd o (λ x. HasNoTimes machine b (with_place place x))) w.suffix late in
        let none' = subst (λ o. IsSomeAnd o (λ k. (t : Ticks) → ¬ SuffixTimes machine b.plans k (with_place place w.x) t)) l.asked none in
        let times = place-times place rule is_rule within rest end opens in
        none' times.0 times.1

    -- where each place up to one ends after a limit, so does each list with further places
    pub crowded-after : (place last limit : ℕ) (rule : HoldRule) → slice_get (holds_of_act (action_at machine act.0)) (length places) ≡ Some rule → place ≤ last → last ≤ length (order_after machine b.plans (suffix_of b) rule.resource.0)
        → IsSomeAnd (suffix_of b) (EndsAfterUpTo machine b last limit) → (rest : List ℕ) (end : ℕ) → OpensTo machine b.plans ask (going goal (record { act = act; places = (places ++ place ∷ []) ++ rest } ∷ choices)) end → limit < end
    crowded-after place last limit rule is_rule up within crowded rest end opens =
        let w = the-way reading b machine ask goal first (newest ∷ choices) l in
        let all : EndsAfterUpTo machine b last limit w.x = subst (λ o. IsSomeAnd o (EndsAfterUpTo machine b last limit)) w.suffix crowded in
        let all' = subst (λ o. IsSomeAnd o (λ k. (earlier : ℕ) → earlier ≤ last → (t : Ticks) → SuffixTimes machine b.plans k (with_place earlier w.x) t → limit < t (own 0))) l.asked all in
        let times = place-times place rule is_rule (omega (arith, up, within)) rest end opens in
        omega (arith, all' place up times.0 times.1, times.2)

    -- and one beyond the order is no place
    pub beyond-shut : (place : ℕ) (rule : HoldRule) (rest : List ℕ) → slice_get (holds_of_act (action_at machine act.0)) (length places) ≡ Some rule → length (order_after machine b.plans (suffix_of b) rule.resource.0) < place
        → IsOpen machine b.plans ask (going goal (record { act = act; places = places ++ place ∷ rest } ∷ choices)) → ⊥
    beyond-shut place rule rest is_rule beyond open' =
        let w = the-way reading b machine ask goal first (newest ∷ choices) l in
        let beyond' : length (order_in machine b.plans w.x rule.resource.0) < place = subst (λ o. length (order_after machine b.plans o rule.resource.0) < place) w.suffix beyond in
        let within = place-beyond machine b.plans ask goal w.x (record { act = act; places = places ++ place ∷ rest }) choices places place rest rule open' w.is.same refl is_rule in
        omega arith

    -- nor is one with too few places
    pub few-shut : length places < length (holds_of_act (action_at machine act.0)) → IsOpen machine b.plans ask (going goal (newest ∷ choices)) → ⊥
    few-shut few open' = let all = child-places machine b.plans ask goal newest choices open' in omega arith

-- the child by a stored choice with an action is a child
pub is-child-more : (machine : Machine) (ask : Ask) (goal : State) (choices : List Choice) (c : Stored) (act : ActId) (places : List ℕ) → c.act ≡ Some act → take (length (holds_of_act (action_at machine act.0))) c.places ≡ places
    → IsChild machine ask (going goal choices) (child_by machine goal choices c)
is-child-more machine ask goal choices c act places is_act is_places =
    subst (IsChild machine ask (going goal choices)) (sym (child_by-act machine goal choices c act places is_act is_places)) (one_more (record { act = act; places = places }))
