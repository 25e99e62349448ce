-- Placing the holds of a newest choice whose list is open: each place is within its order, and leaves times.
use Rattle.std.proofs.Common.{◌≡◌, ℕ, ◌+◌, ◌<◌, ◌≤◌, false, List, [], ◌∷◌, ◌++◌, length, take, drop, get_or, refl, sym, ap, ◌∙◌, arith, subst, Some, IsSomeAnd}
use Rattle.std.specs.Prelude.{slice_get}
use Rattle.std.proofs.lemmas.List.{append-nil, drop_more, get_or-take, length-take, take-append-drop, take-take, take_more}
use Rattle.tp_machine.specs.ModuleUse.{action_at}
use Rattle.tp_machine.specs.declared.parts.ActId.{ActId}
use Rattle.tp_machine.specs.declared.parts.HoldRule.{HoldRule}
use Rattle.tp_machine.specs.declared.parts.State.{State}
use Rattle.tp_machine.specs.declared.machine.Machine.{Machine}
use Rattle.tp_schedule.specs.Choices.{AreWithin, Choice, IsOpen, going}
use Rattle.tp_schedule.specs.Holders.{holds_of_act}
use Rattle.tp_schedule.specs.Spots.{Slot}
use Rattle.tp_schedule.specs.declared.parts.Ask.{Ask}
use Rattle.tp_schedule.specs.declared.parts.Plan.{Plan}
use Rattle.tp_constraints.proofs.Lists.{get-there}
use Rattle.tp_constraints.specs.Suffixes.{AreWithinSoFar, Suffix, place_first, with_place}
use Rattle.tp_placing.specs.Boards.{BoardValue, suffix_of}
use Rattle.tp_placing.specs.Calls.{CanPlace, HasNoTimes, IsSameLoad}
use Rattle.tp_placing.proofs.StandFacts.{and-some, some-and}
use Rattle.tp_search.proofs.FollowGoal.{refused-late}
use Rattle.tp_constraints.proofs.WayChildren.{child-late, child-places, place-beyond}
use Rattle.tp_constraints.proofs.WaySteps.{HaveRooms-places}
use Rattle.tp_search.specs.StoredLists.{AwaitsPlaces, newest_with, with_places}
use Rattle.tp_search.specs.Stored.{choice_with}
use Rattle.tp_constraints.specs.WayLaws.{IsLate}
use Rattle.tp_constraints.specs.Ways.{IsWay}

-- the first of all places are places for the first holds
within-first : (orders : ℕ → List Slot) (rules : List HoldRule) (first rest : List ℕ) → AreWithin orders rules (first ++ rest) → AreWithinSoFar orders rules first
within-first orders rules [] rest within = tt
within-first orders [] (place ∷ first) rest within = absurd within
within-first orders (rule ∷ rules) (place ∷ first) rest within = (within.0, within-first orders rules first rest within.1)

-- a way with the first places of its newest choice in an open list is a way
pub part-way : (machine : Machine) (plans : List Plan) (ask : Ask) (goal s : State) (act : ActId) (choices : List Choice) (rooms : List ℕ) (none first rest : List ℕ)
    → IsWay machine plans ask goal s (record { choices = record { act = act; places = none } ∷ choices; rooms = rooms; stopped = false })
    → IsOpen machine plans ask (going goal (record { act = act; places = first ++ rest } ∷ choices))
    → IsWay machine plans ask goal s (record { choices = record { act = act; places = first } ∷ choices; rooms = rooms; stopped = false })
part-way machine plans ask goal s act choices rooms none first rest way o = record {
  is_goal = way.is_goal;
  rooms = HaveRooms-places machine ask goal s (record { act = act; places = none }) first choices rooms way.rooms;
  allowed = way.allowed;
  at_most = way.at_most;
  places = (within-first _ (holds_of_act (action_at machine act.0)) first rest o.1.is_list.places.0, way.places.1);
  can_stop = λ stop. absurd cc;
}

-- one place more
newest-more : (places : List ℕ) (place : ℕ) (choices : List Choice) → place_first place (newest_with places choices) ≡ newest_with (places ++ place ∷ []) choices
newest-more places place [] = refl
newest-more places place (c ∷ choices) = refl

pub places-more : (places : List ℕ) (hold place : ℕ) (x : Suffix) → hold < length places → get_or places hold 0 ≡ place → with_place place (with_places (take hold places) x) ≡ with_places (take (hold + 1) places) x
places-more places hold place x less is =
    let more : take hold places ++ place ∷ [] ≡ take (hold + 1) places = ap (λ p. take hold places ++ p ∷ []) (sym is) ∙ sym (take_more places hold 0 less) in
    let choices = newest-more (take hold places) place x.choices ∙ ap (λ ps. newest_with ps x.choices) more in
    λ i. record { choices = choices i; rooms = x.rooms; stopped = x.stopped }

module _ (machine : Machine) (plans : List Plan) (ask : Ask) (act : ActId) (places : List ℕ) (x : Suffix) (w : AwaitsPlaces machine plans ask act places x) where
  abbrev holds : ℕ
  holds = length (holds_of_act (action_at machine act.0))

  abbrev all : List ℕ
  all = take holds places

  -- there is a place for each hold
  pub enough : holds ≤ length places
  enough =
      let count : length all ≡ holds = child-places machine plans ask w.goal (choice_with machine act places) w.choices w.is_open in
      let len = length-take holds places in
      omega arith

  -- the suffix with these places
  abbrev placed-with : List ℕ → Suffix
  placed-with ps = record { choices = record { act = act; places = ps } ∷ w.choices; rooms = x.rooms; stopped = false }

  pub is-placed : (ps : List ℕ) → with_places ps x ≡ placed-with ps
  is-placed ps = λ i. record { choices = newest_with ps (w.newest i); rooms = x.rooms; stopped = w.goes_on i }

  begins : x ≡ placed-with []
  begins = λ i. record { choices = w.newest i; rooms = x.rooms; stopped = w.goes_on i }

  -- the first places of the open list make a way
  so-far : (first rest : List ℕ) → all ≡ first ++ rest → IsWay machine plans ask w.goal w.first (placed-with first)
  so-far first rest parts =
      part-way machine plans ask w.goal w.first act w.choices x.rooms [] first rest (subst (λ y. IsWay machine plans ask w.goal w.first y) begins w.way)
      (subst (λ ps. IsOpen machine plans ask (going w.goal (record { act = act; places = ps } ∷ w.choices))) parts w.is_open)

  take-first : (hold : ℕ) → hold ≤ holds → all ≡ take hold places ++ drop hold all
  take-first hold le = sym (take-append-drop hold all) ∙ ap (λ ps. ps ++ drop hold all) (take-take hold holds places le)

  -- the place of this hold stands behind the first ones
  take-next : (hold : ℕ) → hold < holds → all ≡ take hold places ++ get_or places hold 0 ∷ drop (hold + 1) all
  take-next hold less =
      let count : length all ≡ holds = child-places machine plans ask w.goal (choice_with machine act places) w.choices w.is_open in
      let behind : drop hold all ≡ get_or all hold 0 ∷ drop (hold + 1) all = drop_more all hold 0 (omega arith) in
      let place : get_or all hold 0 ≡ get_or places hold 0 = get_or-take holds places hold 0 less in
      take-first hold (omega arith) ∙ ap (λ ps. take hold places ++ ps) (behind ∙ ap (λ p. p ∷ drop (hold + 1) all) place)

  length-first : (hold : ℕ) → hold ≤ holds → length (take hold places) ≡ hold
  length-first hold le = let len = length-take hold places in let room = enough in omega arith

  -- the next hold can be placed
  pub can-place : (hold : ℕ) → hold < holds → CanPlace machine plans (with_places (take hold places) x) hold (get_or places hold 0)
  can-place hold less =
      let rules = holds_of_act (action_at machine act.0) in
      let rule = get-there rules hold less in
      let count : length (take hold places) ≡ hold = length-first hold (omega arith) in
      let next : slice_get rules (length (take hold places)) ≡ Some rule.0 = ap (slice_get rules) count ∙ rule.1 in
      subst (λ y. CanPlace machine plans y hold (get_or places hold 0)) (sym (is-placed (take hold places))) (record {
        choice = record { act = act; places = take hold places };
        choices = w.choices;
        newest = refl;
        next = sym count;
        rule = rule.0;
        is_rule = rule.1;
        within = place-beyond machine plans ask w.goal (placed-with (take hold places)) (choice_with machine act places) w.choices (take hold places) (get_or places hold 0) (drop (hold + 1) all) rule.0
            w.is_open refl (take-next hold less) next;
      })

  -- and with it there are times
  pub not-late : (hold : ℕ) → hold < holds → IsLate machine plans ask (with_place (get_or places hold 0) (with_places (take hold places) x)) → ⊥
  not-late hold less late =
      let room = enough in
      let first = take (hold + 1) places in
      let rest = drop (hold + 1) all in
      let parts : all ≡ first ++ rest = take-first (hold + 1) (omega arith) in
      let more = places-more places hold (get_or places hold 0) x (omega arith) refl in
      child-late machine plans ask w.goal w.first (placed-with first) (record { act = act; places = first }) w.choices rest (so-far first rest parts) refl refl
      (subst (λ y. IsLate machine plans ask y) (more ∙ is-placed first) late)
      (subst (λ ps. IsOpen machine plans ask (going w.goal (record { act = act; places = ps } ∷ w.choices))) parts w.is_open)

  -- with all places it is a way of the list
  pub all-placed : IsWay machine plans ask w.goal w.first (placed-with all)
  all-placed = so-far all [] (sym (append-nil all))

-- the same on a board: the first holds have their places
module _ {N : Type 0} (machine : Machine) (b b' : BoardValue N) (act : ActId) (places : List ℕ) (waits : IsSomeAnd b.ask (λ ask. IsSomeAnd (suffix_of b) (AwaitsPlaces machine b.plans ask act places))) (hold : ℕ)
    (so : IsSomeAnd (suffix_of b) (λ x. suffix_of b' ≡ Some (with_places (take hold places) x))) (load : IsSameLoad b b') (less : hold < length (holds_of_act (action_at machine act.0))) where
  of-ask : (ask : Ask) × (b.ask ≡ Some ask) × IsSomeAnd (suffix_of b) (AwaitsPlaces machine b.plans ask act places)
  of-ask = some-and b.ask _ waits

  of-suffix : (x : Suffix) × (suffix_of b ≡ Some x) × AwaitsPlaces machine b.plans of-ask.0 act places x
  of-suffix = some-and (suffix_of b) _ of-ask.2

  now : suffix_of b' ≡ Some (with_places (take hold places) of-suffix.0)
  now = subst (λ o. IsSomeAnd o (λ x. suffix_of b' ≡ Some (with_places (take hold places) x))) of-suffix.1 so

  pub place-next : IsSomeAnd (suffix_of b') (λ y. CanPlace machine b'.plans y hold (get_or places hold 0))
  place-next = and-some (suffix_of b') _ _ now
      (subst (λ plans. CanPlace machine plans (with_places (take hold places) of-suffix.0) hold (get_or places hold 0)) (sym load.plans) (can-place machine b.plans of-ask.0 act places of-suffix.0 of-suffix.2 hold less))

  pub place-not-late : IsSomeAnd (suffix_of b') (λ y. HasNoTimes machine b' (with_place (get_or places hold 0) y)) → ⊥
  place-not-late late =
      let none = subst (λ o. IsSomeAnd o (λ y. HasNoTimes machine b' (with_place (get_or places hold 0) y))) now late in
      let is_late = refused-late machine b' of-ask.0 _ (load.ask ∙ of-ask.1) none in
      not-late machine b.plans of-ask.0 act places of-suffix.0 of-suffix.2 hold less
      (subst (λ plans. IsLate machine plans of-ask.0 (with_place (get_or places hold 0) (with_places (take hold places) of-suffix.0))) load.plans is_late)
