-- A complete branch that a board carries, with times that end by the limit, is an alternative that ends by it.
use Rattle.std.proofs.Common.{◌≡◌, ◌≢◌, ℕ, ◌<◌, ◌≤◌, true, ◌&&◌, not, List, [], ◌∷◌, length, refl, sym, ◌∙◌, ap, subst, arith, Option, Some, None, IsSomeAnd, Result, Ok, Err}
use Rattle.std.specs.Prelude.{MatchOption, slice_get, IfErr}
use Rattle.std.specs.List.{list_any}
use Rattle.std.specs.Str.{bytes_eq}
use Rattle.std.proofs.lemmas.Bool.{and_parts, not-true}
use Rattle.std.proofs.lemmas.List.Folds.{Any-from_list_any}
use Rattle.std.proofs.lemmas.Slice.Eq.{bytes_eq-Decides}
use Rattle.tp_base.specs.Readings.{Reading}
use Rattle.tp_machine.specs.ModuleUse.{action_at}
use Rattle.tp_machine.specs.declared.parts.ActId.{ActId}
use Rattle.tp_machine.specs.declared.parts.Feeder.{Feeder}
use Rattle.tp_machine.specs.declared.parts.HoldRule.{HoldRule}
use Rattle.tp_machine.specs.declared.parts.State.{State}
use Rattle.tp_machine.specs.declared.machine.Machine.{Machine}
use Rattle.tp_schedule.specs.Choices.{Choice, IsCompleteFrom}
use Rattle.tp_schedule.specs.Holders.{holds_of_act}
use Rattle.tp_schedule.specs.LocationSets.{has}
use Rattle.tp_schedule.specs.Routes.{HasNoRoom, IsRoom, IsStartFrom, fresh}
use Rattle.tp_schedule.specs.Spots.{Slot, Ticks}
use Rattle.tp_schedule.specs.Spots.Spot.{own}
use Rattle.tp_schedule.specs.declared.parts.Ask.{Ask}
use Rattle.tp_schedule.specs.declared.parts.Origin.{Origin}
use Rattle.tp_schedule.specs.declared.parts.Origin.TheVariants.{Feeder as FromFeeder, Front as FromFront}
use Rattle.tp_schedule.specs.declared.parts.Plan.{Plan}
use Rattle.tp_constraints.specs.Suffixes.{AreWithinSoFar, HavePlacesSoFar, Suffix, SuffixTimes, list_of, with_stop}
use Rattle.tp_placing.specs.Boards.{BoardValue, suffix_of}
use Rattle.tp_placing.specs.Calls.{HasTimes, IsSameLoad}
use Rattle.tp_placing.specs.LoadedBoard.{StandsOn}
use Rattle.tp_placing.specs.Ticks.{HasLeastTick, IsLeastTick, TimesOf}
use Rattle.tp_routes.specs.Numbers.{number_of}
use Rattle.tp_routes.specs.Tables.{AreRooms, sum_at}
use Rattle.tp_bound_laws.specs.Places.{is_begun, is_front_state}
use Rattle.tp_bound_laws.specs.Rows.{is_same_state}
use Rattle.tp_bound_laws.proofs.RowFacts.{same_state-is}
use Rattle.tp_constraints.specs.Ends.{EndsBy, HasEndBy}
use Rattle.tp_constraints.specs.Ways.{IsPlaced}
use Rattle.tp_constraints.proofs.WayAnswers.{complete-ends}
use Rattle.tp_constraints.proofs.WayEnds.{start-complete}
use Rattle.tp_constraints.proofs.WayMeets.{stop-ends}
use Rattle.tp_constraints.proofs.WaySteps.{stop-way}
use Rattle.tp_bound_make.specs.TreeProgress.{Carries, IsEarlyEnd, IsNewest, IsSet, hold_after, hold_of}
use Rattle.tp_bound_make.specs.declared.scene.ShowBranch.{ShowBranch}
use Rattle.tp_bound_make.specs.declared.scene.NotShown.{NotShown}
use Rattle.tp_bound_make.specs.declared.scene.NotShown.TheVariants.{Memory}

-- want of memory tells of no end
pub memory-early : {X : Type 0} (machine : Machine) (plans : List Plan) (ask : Ask) (limit : ℕ) (r : Result X NotShown) → IfErr r (λ fault. fault ≡ Memory) → IfErr r (IsEarlyEnd machine plans ask limit)
memory-early machine plans ask limit (Ok x) e = tt
memory-early machine plans ask limit (Err fault) e = subst (IsEarlyEnd machine plans ask limit) (sym e) tt

-- the room of a state that has one in the table
pub room-is : (machine : Machine) (ask : Ask) (sums : List (Option ℕ)) (s : State) (room : ℕ) → AreRooms machine ask sums → s.loc.0 < length machine.locations → sum_at sums (number_of s) ≡ Some room → IsRoom machine ask s room
room-is machine ask sums s room rooms known at = subst (λ o. MatchOption o (HasNoRoom machine ask s) (IsRoom machine ask s)) at (rooms s known)

-- a new copy that begins in a state starts there
begun-start : (machine : Machine) (ask : Ask) (origin : Origin) (s : State) → is_begun machine ask origin s ≡ true → (origin ≡ FromFeeder) × IsStartFrom machine ask FromFeeder s
begun-start machine ask FromFeeder s e =
    let parts = and_parts (list_any (λ (f : Feeder). bytes_eq f.media ask.want.media && is_same_state s (fresh f.loc)) machine.feeders) (not (has ask.empty s.loc)) e in
    let a = Any-from_list_any (λ (f : Feeder). bytes_eq f.media ask.want.media && is_same_state s (fresh f.loc)) machine.feeders parts.0 in
    let both = and_parts (bytes_eq a.1.media ask.want.media) (is_same_state s (fresh a.1.loc)) a.4 in
    (refl, ((a.0, a.1, a.2, a.3, ((bytes_eq-Decides a.1.media ask.want.media).0 both.0, same_state-is s (fresh a.1.loc) both.1)), not-true (has ask.empty s.loc) parts.1))
begun-start machine ask (FromFront state end count) s e = absurd cc

-- a newest choice without a hold to place has all its places
within-most : (orders : ℕ → List Slot) (rules : List HoldRule) (places : List ℕ) → AreWithinSoFar orders rules places → slice_get rules (length places) ≡ None → length places ≡ length rules
within-most orders [] [] within none = refl
within-most orders [] (place ∷ places) within none = absurd within
within-most orders (rule ∷ rules) [] within none = absurd cc
within-most orders (rule ∷ rules) (place ∷ places) within none = let rest = within-most orders rules places within.1 none in omega (arith, rest)

pub branch-placed : (machine : Machine) (orders : ℕ → List Slot) (newest : Option ActId) (places : ℕ) (choices : List Choice) → IsNewest machine newest places choices → hold_after machine newest places ≡ None → HavePlacesSoFar machine orders choices
    → IsPlaced machine choices
branch-placed machine orders None places [] is none have = tt
branch-placed machine orders None places (c ∷ choices) is none have = absurd is
branch-placed machine orders (Some act) places [] is none have = absurd is
branch-placed machine orders (Some act) places (c ∷ choices) is none have =
    let all : slice_get (holds_of_act (action_at machine c.act.0)) (length c.places) ≡ None = (λ i. slice_get (holds_of_act (action_at machine (is.0 i).0)) (is.1 i)) ∙ none in
    within-most _ (holds_of_act (action_at machine c.act.0)) c.places have.0 all

module _ {N : Type 0} (reading : Reading N) (machine : Machine) (ask : Ask) (b : BoardValue N) where
  -- the board stands on the ask that it was loaded for
  pub stands-on : IsSet reading machine ask b → StandsOn reading b machine ask
  stands-on set = let same : set.stands.0 ≡ ask = let one = set.stands.1.asked in let two = set.asked in cc in subst (StandsOn reading b machine) same set.stands.1

  -- a least end by the limit
  pub least-by : (x : Suffix) (tick limit : ℕ) → b.ask ≡ Some ask → suffix_of b ≡ Some x → HasLeastTick machine b (own 0) tick → tick ≤ limit → HasEndBy machine b.plans ask x limit
  least-by x tick limit asked carried least le =
      let one : IsLeastTick (TimesOf machine b.plans ask (suffix_of b)) (own 0) tick = subst (λ o. IsSomeAnd o (λ k. IsLeastTick (TimesOf machine b.plans k (suffix_of b)) (own 0) tick)) asked least in
      let two : IsLeastTick (TimesOf machine b.plans ask (Some x)) (own 0) tick = subst (λ o. IsLeastTick (TimesOf machine b.plans ask o) (own 0) tick) carried one in
      let at = two.there in
      record { ticks = two.ticks; are_times = two.are_times; by = omega (arith, at, le) }

  module _ (set : IsSet reading machine ask b) (r : ShowBranch) (x : Suffix) (c : Carries reading machine ask b r x) (none : hold_of machine r ≡ None) where
    pub has-places : IsPlaced machine x.choices
    has-places = branch-placed machine _ r.newest r.places x.choices c.newest none c.way.places

    -- a branch that begins where a new copy does
    pub begun-ends : (limit : ℕ) → is_begun machine ask ask.origin r.first ≡ true → HasEndBy machine b.plans ask x limit → EndsBy machine b.plans ask limit
    begun-ends limit begun ends =
        let s = stands-on set in
        let start = begun-start machine ask ask.origin r.first begun in
        let starts : IsStartFrom machine ask ask.origin r.first = subst (λ o. IsStartFrom machine ask o r.first) (sym start.0) start.1 in
        complete-ends machine b.plans ask c.goal r.first x limit s.loadable.legal s.origin set.goal c.way has-places (start-complete machine b.plans ask c.goal r.first x start.0 c.way starts) ends

    -- a branch at the front's state that can be stopped
    pub stopped-ends : (b' : BoardValue N) (limit : ℕ) → is_front_state ask.origin r.first ≡ true → 0 < length x.choices → HasEndBy machine b.plans ask x limit → IsSomeAnd (suffix_of b) (λ y. suffix_of b' ≡ Some (with_stop y)) → IsSameLoad b b'
        → IsSomeAnd (suffix_of b') (HasTimes machine b') → EndsBy machine b.plans ask limit
    stopped-ends b' limit front some ends put load times = go ask.origin refl front where
      times-of : (t : Ticks) × SuffixTimes machine b.plans ask (with_stop x) t
      times-of =
          let now : suffix_of b' ≡ Some (with_stop x) = subst (λ o. IsSomeAnd o (λ y. suffix_of b' ≡ Some (with_stop y))) c.carried put in
          let one : HasTimes machine b' (with_stop x) = subst (λ o. IsSomeAnd o (HasTimes machine b')) now times in
          let two : (t : Ticks) × SuffixTimes machine b'.plans ask (with_stop x) t = subst (λ o. IsSomeAnd o (λ k. (t : Ticks) × SuffixTimes machine b'.plans k (with_stop x) t)) (load.ask ∙ set.asked) one in
          subst (λ ps. (t : Ticks) × SuffixTimes machine ps ask (with_stop x) t) load.plans two

      some-choices : x.choices ≢ []
      some-choices none' = let l = ap length none' in omega (arith, l, some)

      go : (o : Origin) → ask.origin ≡ o → is_front_state o r.first ≡ true → EndsBy machine b.plans ask limit
      go FromFeeder is e = absurd cc
      go (FromFront state end count) is e =
          let s = stands-on set in
          let at : r.first ≡ state = same_state-is r.first state e in
          let from : ask.origin ≡ FromFront r.first end count = is ∙ ap (λ q. FromFront q end count) (sym at) in
          let way = stop-way machine b.plans ask c.goal r.first end count x c.way from some-choices in
          let stops = stop-ends machine b.plans ask c.goal r.first x limit times-of.0 s.loadable s.origin c.way c.going ends times-of.1 in
          complete-ends machine b.plans ask c.goal r.first (with_stop x) limit s.loadable.legal s.origin set.goal way has-places (subst (λ q. IsCompleteFrom machine ask (list_of c.goal (with_stop x)) q) (sym from) refl) stops
