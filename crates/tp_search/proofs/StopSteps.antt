-- The steps of opening the stopped list: it is no child, or it is late, or it is looked at with its bound.
use Rattle.std.proofs.Common.{◌≡◌, ◌≢◌, ◌↔◌, ◌⊎◌, inl, inr, ◌<◌, ◌≤◌, ℕ, true, false, IsTrue, IsSomeAnd, List, [], ◌∷◌, length, Some, None, refl, sym, ap, subst, ◌∙◌, arith}
use Rattle.std.proofs.lemmas.List.{nil_from_length}
use Rattle.tp_base.specs.Readings.{Reading}
use Rattle.tp_machine.specs.declared.parts.State.{State}
use Rattle.tp_machine.specs.declared.machine.Machine.{Machine}
use Rattle.tp_pool.specs.Entries.{choices_before}
use Rattle.tp_pool.specs.declared.choice.Choice.{Choice as Stored}
use Rattle.tp_schedule.specs.Choices.{Choice, ChoiceList, CanStop, IsBound, IsChild, IsComplete, IsCompleteFrom, IsOpen, acts_of, going, stopping}
use Rattle.tp_schedule.specs.Choices.IsChild.{one_more, stopped}
use Rattle.tp_schedule.specs.Routes.{walk}
use Rattle.tp_schedule.specs.Spots.{Ticks}
use Rattle.tp_schedule.specs.Spots.Spot.{own}
use Rattle.tp_schedule.specs.declared.parts.Ask.{Ask}
use Rattle.tp_schedule.specs.declared.parts.Origin.TheVariants.{Feeder as FromFeeder, Front as FromFront}
use Rattle.tp_schedule.specs.declared.parts.Plan.{Plan}
use Rattle.tp_constraints.specs.Suffixes.{SuffixTimes, with_stop}
use Rattle.tp_placing.specs.Boards.{BoardValue, suffix_of}
use Rattle.tp_placing.specs.Calls.{HasNoTimes, IsSameLoad}
use Rattle.tp_placing.specs.LoadedBoard.{Stands}
use Rattle.tp_placing.specs.Ticks.{HasLeastTick, IsLeastTick, TimesOf}
use Rattle.tp_placing.proofs.StandFacts.{and-some}
use Rattle.tp_search.specs.Boards.{IsFurther, IsLaid}
use Rattle.tp_search.specs.Children.{HasFound}
use Rattle.tp_search.specs.StoredLists.{IsWayTo}
use Rattle.tp_search.specs.OpenedLists.{IsAhead, IsAtProgress, IsFresh, IsLooked, parent_of}
use Rattle.tp_search.specs.OpenedLists.Progress.{nothing, up_to}
use Rattle.tp_search.specs.Stored.{child_by, choices_by}
use Rattle.tp_search.specs.Stores.{HasBounds, IsInRange, StoreValue, after_keep}
use Rattle.tp_constraints.specs.Ways.{IsPlaced, IsWay}
use Rattle.tp_search.specs.declared.opening.Opening.{Opening}
use Rattle.tp_search.proofs.BoardSteps.{TheWay, the-way}
use Rattle.tp_search.proofs.ChildBoards.{bound-range}
use Rattle.tp_search.proofs.ChildFacts.{child-form, child_by-stop}
use Rattle.tp_search.proofs.OpeningFacts.{opening-on, opening-stop}
use Rattle.tp_search.proofs.ProgressFacts.{tried-none}
use Rattle.tp_constraints.proofs.WayChildren.{stop-late}
use Rattle.tp_constraints.proofs.WayLists.{first-only, way-walk}
use Rattle.tp_search.proofs.WayBounds.{way-bound}
use Rattle.tp_constraints.proofs.WaySteps.{stop-way}

-- a stopped child may stop
stopped-can : {machine : Machine} {ask : Ask} {p l : ChoiceList} → IsChild machine ask p l → IsTrue l.stopped → CanStop machine ask p ask.origin
stopped-can (one_more c) is = absurd (let e : false ≡ true = is in cc)
stopped-can (stopped can) is = can

-- no choice stands before the first action
pub none-ahead : (choices : List Choice) → IsAhead 0 [] choices → ⊥
none-ahead [] none = none
none-ahead (c ∷ choices) (inl lower) = omega arith
none-ahead (c ∷ choices) (inr same) = tried-none c.places same.1

-- where no stopped child opens, it was looked at
pub opening-going : (machine : Machine) (plans : List Plan) (ask : Ask) (o : Opening) (s : StoreValue)
    → (CanStop machine ask (parent_of machine s.entries o.goal o.parent) ask.origin → IsOpen machine plans ask (stopping o.goal (choices_by machine (choices_before s.entries o.parent))) → ⊥)
    → IsAtProgress machine plans ask o s nothing → IsAtProgress machine plans ask o s (up_to 0 [])
opening-going machine plans ask o s shut opening = opening-on machine plans ask o s nothing (up_to 0 []) opening (λ l none. absurd none) only where
  closed : (l : ChoiceList) → IsChild machine ask (parent_of machine s.entries o.goal o.parent) l → IsTrue l.stopped
      → ((c : Choice) × (l ≡ going o.goal (c ∷ choices_by machine (choices_before s.entries o.parent)))) ⊎ (l ≡ stopping o.goal (choices_by machine (choices_before s.entries o.parent))) → IsOpen machine plans ask l → ⊥
  closed l child is-stopped (inl (c, is)) opens = absurd (let e : false ≡ true = sym (ap (λ (x : ChoiceList). x.stopped) is) ∙ is-stopped in cc)
  closed l child is-stopped (inr is) opens = shut (stopped-can child is-stopped) (subst (IsOpen machine plans ask) is opens)

  only : (l : ChoiceList) → IsChild machine ask (parent_of machine s.entries o.goal o.parent) l → IsLooked (up_to 0 []) l → IsLooked nothing l ⊎ (IsOpen machine plans ask l → ⊥)
  only l child (inl is-stopped) = inr (λ opens. closed l child is-stopped (child-form child) opens)
  only l child (inr ahead) = absurd (none-ahead l.choices ahead)

module _ (machine : Machine) (plans : List Plan) (ask : Ask) (o : Opening) (s : StoreValue) where
  -- a new copy is not stopped
  pub new-going : ask.origin ≡ FromFeeder → IsAtProgress machine plans ask o s nothing → IsAtProgress machine plans ask o s (up_to 0 [])
  new-going new opening = opening-going machine plans ask o s (λ can opens. subst (CanStop machine ask (parent_of machine s.entries o.goal o.parent)) new can) opening

  -- nor a list without choices
  pub empty-going : (state : State) (end kept : ℕ) → ask.origin ≡ FromFront state end kept → length (choices_by machine (choices_before s.entries o.parent)) ≡ 0
      → IsAtProgress machine plans ask o s nothing → IsAtProgress machine plans ask o s (up_to 0 [])
  empty-going state end kept is none opening =
      opening-going machine plans ask o s (λ can opens. (subst (CanStop machine ask (parent_of machine s.entries o.goal o.parent)) is can).0 (nil_from_length _ none)) opening

module _ {N : Type 0} (reading : Reading N) (machine : Machine) (ask : Ask) (first : State) (o : Opening) (s : StoreValue) (state : State) (end kept : ℕ)
    (is : ask.origin ≡ FromFront state end kept) (b : BoardValue N) (l : IsLaid reading b machine ask o.goal first (choices_by machine (choices_before s.entries o.parent))) where
  abbrev olds : List Choice
  olds = choices_by machine (choices_before s.entries o.parent)

  -- nor one that does not come to the front's state
  pub other-going : state ≢ first → IsAtProgress machine b.plans ask o s nothing → IsAtProgress machine b.plans ask o s (up_to 0 [])
  other-going other opening =
      let w = the-way reading b machine ask o.goal first olds l in
      opening-going machine b.plans ask o s (λ can opens. other (leads w (subst (CanStop machine ask (parent_of machine s.entries o.goal o.parent)) is can).1)) opening where
        leads : (w : TheWay reading b machine ask o.goal first olds) → walk machine ask.want (acts_of olds) state ≡ Some o.goal → state ≡ first
        leads w walks = first-only machine b.plans ask o.goal first w.x state w.is.way (subst (λ cs. walk machine ask.want (acts_of cs) state ≡ Some o.goal) (sym w.is.same) walks)

  -- nor one that is late
  pub late-going : IsSomeAnd (suffix_of b) (λ x. HasNoTimes machine b (with_stop x)) → IsAtProgress machine b.plans ask o s nothing → IsAtProgress machine b.plans ask o s (up_to 0 [])
  late-going late opening =
      let w = the-way reading b machine ask o.goal first olds l in
      let none : HasNoTimes machine b (with_stop w.x) = subst (λ x. IsSomeAnd x (λ y. HasNoTimes machine b (with_stop y))) w.suffix late in
      let none' = subst (λ k. IsSomeAnd k (λ y. (t : Ticks) → ¬ SuffixTimes machine b.plans y (with_stop w.x) t)) l.asked none in
      opening-going machine b.plans ask o s (λ can opens. stop-late machine b.plans ask o.goal first w.x w.is.way none'
      (subst (λ cs. IsOpen machine b.plans ask (stopping o.goal cs)) (sym w.is.same) opens)) opening

  module _ (at : state ≡ first) (some : 0 < length olds) where
    some-choices : olds ≢ []
    some-choices none = omega (arith, ap length none, some)

    can-stop : CanStop machine ask (parent_of machine s.entries o.goal o.parent) ask.origin
    can-stop =
        let w = the-way reading b machine ask o.goal first olds l in
        let walks = subst (λ cs. walk machine ask.want (acts_of cs) first ≡ Some o.goal) w.is.same (way-walk machine b.plans ask o.goal first w.x w.is.way) in
        subst (CanStop machine ask (parent_of machine s.entries o.goal o.parent)) (sym is) (some-choices, subst (λ q. walk machine ask.want (acts_of olds) q ≡ Some o.goal) (sym at) walks)

    -- the bound of the stopped list is the least end on the board
    pub stopped-bound : (b' : BoardValue N) (tick : ℕ) → IsPlaced machine olds → IsSomeAnd (suffix_of b) (λ x. suffix_of b' ≡ Some (with_stop x)) → IsSameLoad b b' → HasLeastTick machine b' (own 0) tick
        → IsBound machine b.plans ask (stopping o.goal olds) tick
    stopped-bound b' tick placed put load least =
        let w = the-way reading b machine ask o.goal first olds l in
        let now : suffix_of b' ≡ Some (with_stop w.x) = subst (λ x. IsSomeAnd x (λ y. suffix_of b' ≡ Some (with_stop y))) w.suffix put in
        let here : IsLeastTick (TimesOf machine b'.plans ask (suffix_of b')) (own 0) tick =
        subst (λ k. IsSomeAnd k (λ y. IsLeastTick (TimesOf machine b'.plans y (suffix_of b')) (own 0) tick)) (load.ask ∙ l.asked) least in
        let there = subst (λ x. IsLeastTick (TimesOf machine b'.plans ask x) (own 0) tick) now here in
        let there' = subst (λ ps. IsLeastTick (TimesOf machine ps ask (Some (with_stop w.x))) (own 0) tick) load.plans there in
        let from = subst (λ q. ask.origin ≡ FromFront q end kept) at is in
        let way = stop-way machine b.plans ask o.goal first end kept w.x w.is.way from (λ none. some-choices (sym w.is.same ∙ none)) in
        subst (λ cs. IsBound machine b.plans ask (stopping o.goal cs) tick) w.is.same
        (way-bound machine b.plans ask o.goal first (with_stop w.x) tick way (subst (IsPlaced machine) (sym w.is.same) placed) there')

    stopped-complete : IsComplete machine ask (stopping o.goal olds)
    stopped-complete = subst (IsCompleteFrom machine ask (stopping o.goal olds)) (sym is) refl

    -- the board carries it
    pub stop-found : (b0 b' : BoardValue N) (bound tick : ℕ) → IsFurther reading b0 b' → IsPlaced machine olds → IsSomeAnd (suffix_of b) (λ x. suffix_of b' ≡ Some (with_stop x)) → Stands reading b' machine → IsSameLoad b b'
        → HasLeastTick machine b' (own 0) tick → tick ≤ bound → HasFound reading b0 b' machine ask bound
    stop-found b0 b' bound tick further placed put stands load least in-time =
        let w = the-way reading b machine ask o.goal first olds l in
        let now : suffix_of b' ≡ Some (with_stop w.x) = subst (λ x. IsSomeAnd x (λ y. suffix_of b' ≡ Some (with_stop y))) w.suffix put in
        let from = subst (λ q. ask.origin ≡ FromFront q end kept) at is in
        let way = stop-way machine b.plans ask o.goal first end kept w.x w.is.way from (λ none. some-choices (sym w.is.same ∙ none)) in
        record {
          further = further;
          first = first;
          list = stopping o.goal olds;
          end = tick;
          laid = record {
            stands = stands;
            asked = load.ask ∙ l.asked;
            way = and-some (suffix_of b') (with_stop w.x) (IsWayTo machine b'.plans ask first (stopping o.goal olds)) now (record {
              way = subst (λ ps. IsWay machine ps ask o.goal first (with_stop w.x)) (sym load.plans) way;
              placed = subst (IsPlaced machine) (sym w.is.same) placed;
              same = λ i. stopping o.goal (w.is.same i);
            });
          };
          complete = stopped-complete;
          is_bound = subst (λ ps. IsBound machine ps ask (stopping o.goal olds) tick) (sym load.plans) (stopped-bound b' tick placed put load least);
          in_time = in-time;
        }

    -- it is looked at with its bound
    pub stop-looked : (c : Stored) (tick : ℕ) → IsBound machine b.plans ask (stopping o.goal olds) tick → c.act ≡ None → c.goal ≡ o.goal → IsFresh machine ask o s → HasBounds machine ask s
        → IsAtProgress machine b.plans ask o s nothing → (tick ≡ o.bound → ⊥) → IsInRange s tick × IsAtProgress machine b.plans ask o (after_keep o.parent c tick true s) (up_to 0 [])
    stop-looked c tick bound has goal fresh bounds opening other =
        let child = stopping o.goal olds in
        let range = bound-range machine b.plans ask child tick bound in
        let by : child_by machine o.goal olds c ≡ child = child_by-stop machine o.goal olds c has in
        let base = bounds.0 in
        let width = bounds.1 in (
          (omega (arith, range.0), omega (arith, range.1)),
          opening-stop machine b.plans ask o s c tick true fresh opening has goal (subst (IsChild machine ask (parent_of machine s.entries o.goal o.parent)) (sym by) (stopped can-stop))
              (subst (λ list. IsBound machine b.plans ask list tick) (sym by) bound) (subst (λ list. IsTrue true ↔ IsComplete machine ask list) (sym by) (λ t. stopped-complete, λ t. refl)) (λ t same. other same),
        )
