-- The steps of placing the holds of a choice: the last hold is placed, and a place is tried and taken back.
use Rattle.std.proofs.Common.{◌≡◌, ◌↔◌, ℕ, zero, suc, ◌+◌, ◌-◌, ◌<◌, ◌≤◌, Bool, IsTrue, IsSome, IsSomeAnd, List, [], ◌∷◌, ◌++◌, length, take, Option, None, Some, refl, sym, ap, subst, ◌∙◌, arith, length-take-le}
use Rattle.std.specs.Prelude.{slice_get, slice_set}
use Rattle.std.proofs.lemmas.List.{length-append, take_more_set}
use Rattle.tp_base.specs.Readings.{Reading}
use Rattle.tp_machine.specs.ModuleUse.{action_at}
use Rattle.tp_machine.specs.declared.parts.Action.{Action}
use Rattle.tp_machine.specs.declared.parts.ActId.{ActId}
use Rattle.tp_machine.specs.declared.parts.HoldRule.{HoldRule}
use Rattle.tp_machine.specs.declared.parts.State.{State}
use Rattle.tp_machine.specs.declared.machine.Machine.{Machine}
use Rattle.tp_machine.proofs.MachineFacts.{is_machine}
use Rattle.tp_pool.specs.Entries.{choices_before}
use Rattle.tp_pool.specs.declared.choice.Choice.{Choice as Stored}
use Rattle.tp_schedule.specs.Choices.{Choice, ChoiceList, IsBound, IsComplete, going}
use Rattle.tp_schedule.specs.Holders.{holds_of_act}
use Rattle.tp_schedule.specs.Routes.{IsStart}
use Rattle.tp_schedule.specs.Spots.Spot.{own}
use Rattle.tp_schedule.specs.declared.parts.Ask.{Ask}
use Rattle.tp_schedule.specs.declared.parts.Origin.TheVariants.{Feeder as FromFeeder}
use Rattle.tp_constraints.specs.Suffixes.{with_place}
use Rattle.tp_constraints.proofs.Lists.{contains-get}
use Rattle.tp_placing.specs.Boards.{BoardValue, content_of, past_of, suffix_of}
use Rattle.tp_placing.specs.Calls.{CanPlace, HasNoTimes, IsSameLoad}
use Rattle.tp_placing.specs.Laws.{MarkKeeps, UndoKeeps}
use Rattle.tp_placing.specs.LoadedBoard.{Stands, order_after}
use Rattle.tp_placing.specs.RefusedPlace.{EndsAfterUpTo, HasNoTimesUpTo, StandsBack}
use Rattle.tp_placing.specs.Ticks.{HasLeastTick}
use Rattle.tp_placing.proofs.StandFacts.{some-and}
use Rattle.tp_search.specs.Boards.{HasMarks, IsBack, IsLaid}
use Rattle.tp_search.specs.Children.{HasFound}
use Rattle.tp_search.specs.Limits.{IsWithin}
use Rattle.tp_search.specs.OpenedLists.{IsAtProgress, IsFresh, IsSameOpening, parent_of}
use Rattle.tp_search.specs.OpenedLists.Progress.{through, up_to}
use Rattle.tp_search.specs.Stored.{child_by, choices_by}
use Rattle.tp_search.specs.Stores.{HasBounds, IsInRange, StoreValue, after_keep}
use Rattle.tp_search.specs.declared.opening.Opening.{Opening}
use Rattle.tp_search.specs.declared.store.Limit.TheVariants.{By}
use Rattle.tp_search.proofs.BoardSteps.{IsMarked, IsSince, IsSinceMark, IsUndone, back-trans, laid-back, laid-marked, laid-place, load-of, mark-back, since-back, since-mark, suffix-back}
use Rattle.tp_search.proofs.ChildBoards.{bound-range, can-place, is-child-more, laid-bound, laid-complete, place-within}
use Rattle.tp_search.proofs.ChildFacts.{child_by-act}
use Rattle.tp_search.proofs.FurtherFacts.{found-further, further-back, further-marked, further-step, further-trans}
use Rattle.tp_search.proofs.OpeningFacts.{opening-child}
use Rattle.tp_search.proofs.OpeningSame.{before-same, same-itself, same-trans}
use Rattle.tp_search.proofs.PlaceFacts.{opening-next, place-late, places-begin, places-beyond, places-crowded, places-end, places-shut}

-- a hold's resource is one of the machine's
pub resource-known : (machine : Machine) (act : ℕ) (a : Action) (hold : ℕ) (rule : HoldRule) → action_at machine act ≡ Some a → slice_get a.holds hold ≡ Some rule → rule.resource.0 < length machine.resources
resource-known machine act a hold rule is is_rule = (is_machine machine).known act a is rule (contains-get a.holds hold rule is_rule)

-- an action has at most four holds
pub holds-four : (machine : Machine) (act : ℕ) → length (holds_of_act (action_at machine act)) ≤ 4
holds-four machine act = go (action_at machine act) refl where
  go : (a : Option Action) → action_at machine act ≡ a → length (holds_of_act a) ≤ 4
  go None is = omega arith
  go (Some a) is = (is_machine machine).few_holds act a is

-- the list that is being opened stays
pub parent-same : (machine : Machine) (ask : Ask) (o o' : Opening) (s s' : StoreValue) → IsSameOpening o o' s s' → IsFresh machine ask o s → parent_of machine s'.entries o'.goal o'.parent ≡ going o.goal (choices_by machine (choices_before s.entries o.parent))
parent-same machine ask o o' s s' same fresh =
    ap {B = ChoiceList} (λ (g : State). going g (choices_by machine (choices_before s'.entries o'.parent))) same.goal ∙ ap {B = ChoiceList} (λ cs. going o.goal (choices_by machine cs)) (before-same machine ask o o' s s' same fresh)

-- the first places with the next one
pub next-places : (places : List ℕ) (hold place : ℕ) → hold < length places → take (hold + 1) (slice_set places hold place) ≡ take hold places ++ place ∷ []
next-places places hold place within = take_more_set places hold place within

module _ {N : Type 0} (reading : Reading N) (machine : Machine) (ask : Ask) (first : State) (o : Opening) (s : StoreValue) (b : BoardValue N) where
  -- what a board carries for the list that is being opened, by what the opening and the store were before
  pub laid-same : (o' : Opening) (s' : StoreValue) (with : List Choice → List Choice) → IsSameOpening o o' s s' → IsFresh machine ask o s → IsLaid reading b machine ask o.goal first (with (choices_by machine (choices_before s.entries o.parent)))
      → IsLaid reading b machine ask o'.goal first (with (choices_by machine (choices_before s'.entries o'.parent)))
  laid-same o' s' with same fresh l =
      subst (λ g. IsLaid reading b machine ask g first (with (choices_by machine (choices_before s'.entries o'.parent)))) (sym same.goal)
      (subst (λ cs. IsLaid reading b machine ask o.goal first (with (choices_by machine cs))) (sym (before-same machine ask o o' s s' same fresh)) l)

  -- where all holds are placed, the child is looked at with its bound
  pub all-placed : (act : ActId) (choice : Stored) (places : List ℕ) (complete : Bool) (tick : ℕ) → choice.act ≡ Some act → choice.goal ≡ o.goal → places ≡ take (length (holds_of_act (action_at machine act.0))) choice.places → length (holds_of_act (action_at machine act.0)) ≤ length choice.places
      → (IsTrue complete ↔ ((ask.origin ≡ FromFeeder) × IsStart machine ask first)) → IsLaid reading b machine ask o.goal first (record { act = act; places = places } ∷ choices_by machine (choices_before s.entries o.parent))
      → IsFresh machine ask o s → HasBounds machine ask s → IsAtProgress machine b.plans ask o s (up_to act.0 places) → HasLeastTick machine b (own 0) tick
      → (IsTrue complete → tick ≡ o.bound → ⊥) → IsInRange s tick × IsAtProgress machine b.plans ask o (after_keep o.parent choice tick complete s) (through act.0 places)
  all-placed act choice places complete tick has goal are many exactly l fresh bounds opening least other =
      let olds = choices_by machine (choices_before s.entries o.parent) in
      let child = going o.goal (record { act = act; places = places } ∷ olds) in
      let count : length places ≡ length (holds_of_act (action_at machine act.0)) = ap length are ∙ length-take-le (length (holds_of_act (action_at machine act.0))) choice.places many in
      let bound = laid-bound reading b machine ask o.goal first (record { act = act; places = places } ∷ olds) tick l count least in
      let whole = laid-complete reading b machine ask o.goal first (record { act = act; places = places } ∷ olds) l in
      let range = bound-range machine b.plans ask child tick bound in
      let is : child_by machine o.goal olds choice ≡ child = child_by-act machine o.goal olds choice act places has (sym are) in
      let base = bounds.0 in
      let width = bounds.1 in (
        (omega (arith, range.0), omega (arith, range.1)),
        opening-child machine b.plans ask o s act places choice tick complete fresh opening has goal (sym are) (is-child-more machine ask o.goal olds choice act places has (sym are))
            (subst (λ list. IsBound machine b.plans ask list tick) (sym is) bound) (subst (λ list. IsTrue complete ↔ IsComplete machine ask list) (sym is) (λ t. whole.0 (exactly.0 t), λ c. exactly.1 (whole.1 c))) other,
      )

-- a place is tried on a marked board, in the loop over the places
module _ {N A : Type 0} (reading : Reading N) (untouched : N → A) (machine : Machine) (ask : Ask) (first : State) (act : ActId) (o o1 : Opening) (s s1 : StoreValue) (b b1 b2 : BoardValue N) (mark : ℕ)
    (places : List ℕ) (place : ℕ) (rule : HoldRule) where
  -- what holds before
  pub record IsTrying : Type 0 where
    pub keeps : MarkKeeps reading untouched
    pub undoes : UndoKeeps reading untouched
    pub laid : IsLaid reading b machine ask o.goal first (record { act = act; places = places } ∷ choices_by machine (choices_before s.entries o.parent))
    pub fresh : IsFresh machine ask o s
    pub is_rule : slice_get (holds_of_act (action_at machine act.0)) (length places) ≡ Some rule
    pub within : place ≤ length (order_after machine b.plans (suffix_of b) rule.resource.0)
    pub same : IsSameOpening o o1 s s1
    pub back : IsBack reading b b1 machine
    pub progress : IsAtProgress machine b1.plans ask o1 s1 (up_to act.0 (places ++ place ∷ []))
    pub marked : IsMarked reading untouched b1 b2 mark

  -- what holds after: the children under the place were looked at
  pub record IsTried (b3 : BoardValue N) (o2 : Opening) (s2 : StoreValue) : Type 0 where
    pub since : IsSinceMark reading untouched b2 b3 machine
    pub same : IsSameOpening o1 o2 s1 s2
    pub progress : IsAtProgress machine b2.plans ask o2 s2 (through act.0 (places ++ place ∷ []))

  pub tried-as : (b3 b4 : BoardValue N) (o2 o3 : Opening) (s2 s3 : StoreValue) → b4 ≡ b3 → o3 ≡ o2 → s3 ≡ s2 → IsTried b3 o2 s2 → IsTried b4 o3 s3
  tried-as b3 b4 o2 o3 s2 s3 board opening store r = subst (λ x. IsTried x o3 s3) (sym board) (subst (λ x. IsTried b3 x s3) (sym opening) (subst (λ x. IsTried b3 o2 x) (sym store) r))

  -- by what the calls before say
  pub trying : (a : Action) (hold last : ℕ) → MarkKeeps reading untouched → UndoKeeps reading untouched
      → IsLaid reading b machine ask o.goal first (record { act = act; places = places } ∷ choices_by machine (choices_before s.entries o.parent)) → IsFresh machine ask o s
      → action_at machine act.0 ≡ Some a → slice_get a.holds hold ≡ Some rule → length places ≡ hold → ((m : Machine) → Stands reading b m → last ≡ length (order_after m b.plans (suffix_of b) rule.resource.0)) → place ≤ last
      → IsSameOpening o o1 s s1 → IsBack reading b b1 machine → IsAtProgress machine b1.plans ask o1 s1 (up_to act.0 (places ++ place ∷ [])) → IsMarked reading untouched b1 b2 mark → IsTrying
  trying a hold last keeps undoes laid fresh is_act is_rule count counted test same back progress marked = record {
    keeps = keeps;
    undoes = undoes;
    laid = laid;
    fresh = fresh;
    is_rule = (λ i. slice_get (ap holds_of_act is_act i) (count i)) ∙ is_rule;
    within = omega (arith, counted machine laid.stands);
    same = same;
    back = back;
    progress = progress;
    marked = marked;
  }

  module _ (t : IsTrying) where
    pub marked-laid : IsLaid reading b2 machine ask o.goal first (record { act = act; places = places } ∷ choices_by machine (choices_before s.entries o.parent))
    marked-laid =
        let olds = choices_by machine (choices_before s.entries o.parent) in
        laid-marked reading untouched t.keeps b1 b2 mark machine ask o.goal first (record { act = act; places = places } ∷ olds) t.marked
        (laid-back reading b b1 machine ask o.goal first (record { act = act; places = places } ∷ olds) t.back t.laid)

    pub marked-stands : Stands reading b2 machine
    marked-stands = marked-laid.stands

    plans-now : b2.plans ≡ b1.plans
    plans-now = (load-of reading untouched b1 b2 t.marked.untouched_same).plans

    -- the place is in the order of each board that carries the same
    within-as : (b' : BoardValue N) → b'.plans ≡ b.plans → suffix_of b' ≡ suffix_of b → place ≤ length (order_after machine b'.plans (suffix_of b') rule.resource.0)
    within-as b' plans suffix =
        let order : order_after machine b'.plans (suffix_of b') rule.resource.0 ≡ order_after machine b.plans (suffix_of b) rule.resource.0 = (λ i. order_after machine (plans i) (suffix i) rule.resource.0) in
        omega (arith, ap length order, t.within)

    within-now : place ≤ length (order_after machine b2.plans (suffix_of b2) rule.resource.0)
    within-now = within-as b2 (plans-now ∙ t.back.loaded.plans) (suffix-back reading b1 b2 t.marked.content_same ∙ suffix-back reading b b1 t.back.same_content)

    progress-now : IsAtProgress machine b2.plans ask o1 s1 (up_to act.0 (places ++ place ∷ []))
    progress-now = subst (λ ps. IsAtProgress machine ps ask o1 s1 (up_to act.0 (places ++ place ∷ []))) (sym plans-now) t.progress

    pub may-place : IsSomeAnd (suffix_of b2) (λ x. CanPlace machine b2.plans x (length places) place)
    may-place = can-place reading b2 machine ask o.goal first (choices_by machine (choices_before s.entries o.parent)) act places marked-laid (length places) place rule refl t.is_rule within-now

    -- the board with the place carries it
    pub placed-laid : (b3 : BoardValue N) → IsSomeAnd (suffix_of b2) (λ x. suffix_of b3 ≡ Some (with_place place x)) → Stands reading b3 machine → IsSameLoad b2 b3
        → IsLaid reading b3 machine ask o1.goal first (record { act = act; places = places ++ place ∷ [] } ∷ choices_by machine (choices_before s1.entries o1.parent))
    placed-laid b3 put stands load =
        let olds = choices_by machine (choices_before s.entries o.parent) in
        laid-same reading machine ask first o s b3 o1 s1 (λ cs. record { act = act; places = places ++ place ∷ [] } ∷ cs) t.same t.fresh
        (laid-place reading b2 b3 machine ask o.goal first olds act places place rule marked-laid put stands load t.is_rule
        (place-within reading b2 machine ask o.goal first olds act places marked-laid place rule within-now))

    -- a goal is open on it, also once what was behind it is taken back
    pub placed-open : (b3 b4 : BoardValue N) → IsSomeAnd (suffix_of b2) (λ x. suffix_of b3 ≡ Some (with_place place x)) → IsBack reading b3 b4 machine → IsSome (suffix_of b4)
    placed-open b3 b4 put back =
        let x = some-and (suffix_of b2) (λ x. suffix_of b3 ≡ Some (with_place place x)) put in
        subst IsSome (sym (suffix-back reading b3 b4 back.same_content ∙ x.2)) refl

    pub placed-progress : (b3 : BoardValue N) → IsSameLoad b2 b3 → IsAtProgress machine b3.plans ask o1 s1 (up_to act.0 (places ++ place ∷ []))
    placed-progress b3 load = subst (λ ps. IsAtProgress machine ps ask o1 s1 (up_to act.0 (places ++ place ∷ []))) (sym load.plans) progress-now

    pub placed-marks : (count : ℕ) (b3 : BoardValue N) → HasMarks reading (suc count) b → past_of reading b3 ≡ past_of reading b2 → reading.max_marks b3.net ≡ reading.max_marks b2.net → HasMarks reading count b3
    placed-marks count b3 marks past_same room =
        let one = ap length (past_same ∙ t.marked.past_more) ∙ length-append (past_of reading b1) (content_of reading b1 ∷ []) in
        let old = ap length t.back.same_past in
        let rooms = ap (λ n. n - 1) room ∙ t.marked.room_same ∙ t.back.marks in
        omega (arith, marks)

    -- a place that was refused
    pub refused-since : (b3 : BoardValue N) → past_of reading b3 ≡ past_of reading b2 → IsSameLoad b2 b3 → reading.max_marks b3.net ≡ reading.max_marks b2.net → StandsBack reading untouched b3 machine → IsSinceMark reading untouched b2 b3 machine
    refused-since b3 same load room back = record { past_same = same; load = load; room = ap (λ n. n - 1) room; back = λ s. back }

    -- the place is late
    pub tried-late : (b3 : BoardValue N) → IsSinceMark reading untouched b2 b3 machine → IsSomeAnd (suffix_of b2) (λ x. HasNoTimes machine b2 (with_place place x)) → IsTried b3 o1 s1
    tried-late b3 since late = record {
      since = since;
      same = same-itself o1 s1;
      progress = place-late reading b2 machine ask o.goal first (choices_by machine (choices_before s.entries o.parent)) act places marked-laid rule t.is_rule o1 s1
          (parent-same machine ask o o1 s s1 t.same t.fresh) place within-now late progress-now;
    }

    -- the place is late with all before it
    pub shut-now : length places < length (holds_of_act (action_at machine act.0)) → IsSomeAnd (suffix_of b2) (HasNoTimesUpTo machine b2 place) → IsAtProgress machine b.plans ask o1 s1 (through act.0 places)
    shut-now few late =
        let plans : b2.plans ≡ b.plans = plans-now ∙ t.back.loaded.plans in
        let parent = parent-same machine ask o o1 s s1 t.same t.fresh in
        let olds = choices_by machine (choices_before s.entries o.parent) in
        subst (λ ps. IsAtProgress machine ps ask o1 s1 (through act.0 places)) plans
        (places-end reading b2 machine ask o.goal first olds act places marked-laid rule t.is_rule o1 s1 parent few
        (places-shut reading b2 machine ask o.goal first olds act places marked-laid rule t.is_rule o1 s1 parent place within-now late progress-now))

    -- the holds behind it were placed
    pub tried-placed : (b3 b4 : BoardValue N) (o2 : Opening) (s2 : StoreValue) → IsSince reading b2 b3 machine → IsSameOpening o1 o2 s1 s2 → IsBack reading b3 b4 machine
        → IsAtProgress machine b3.plans ask o2 s2 (through act.0 (places ++ place ∷ [])) → IsTried b4 o2 s2
    tried-placed b3 b4 o2 s2 since same back progress = record {
      since = since-mark reading untouched t.undoes b2 b4 machine (since-back reading b2 b3 b4 machine since back);
      same = same;
      progress = subst (λ ps. IsAtProgress machine ps ask o2 s2 (through act.0 (places ++ place ∷ []))) since.load.plans progress;
    }

    -- an answer was found behind it
    pub found-now : (b3 b4 : BoardValue N) → past_of reading b3 ≡ past_of reading b2 → IsSameLoad b2 b3 → reading.max_marks b3.net ≡ reading.max_marks b2.net → HasFound reading b3 b4 machine ask o1.bound → HasFound reading b b4 machine ask o.bound
    found-now b3 b4 same load room found =
        let further = further-trans reading b b1 b2 (further-back reading b b1 machine t.back) (further-marked reading untouched b1 b2 mark t.marked) in
        found-further reading b b3 b4 machine ask o.bound (further-step reading b b2 b3 further same load room) (subst (HasFound reading b3 b4 machine ask) t.same.bound found)

    module _ (b3 b4 : BoardValue N) (o2 : Opening) (s2 : StoreValue) (r : IsTried b3 o2 s2) where
      -- it is taken back
      pub back-now : IsUndone reading untouched b3 b4 mark → IsBack reading b b4 machine
      back-now undone = back-trans reading b b1 b4 machine t.back (mark-back reading untouched t.keeps b1 b2 b3 b4 machine mark t.marked r.since undone)

      pub same-now : IsSameOpening o o2 s s2
      same-now = same-trans o o1 o2 s s1 s2 t.same r.same

      at-place : IsAtProgress machine b.plans ask o2 s2 (through act.0 (places ++ place ∷ []))
      at-place =
          let plans : b2.plans ≡ b.plans = plans-now ∙ t.back.loaded.plans in
          subst (λ ps. IsAtProgress machine ps ask o2 s2 (through act.0 (places ++ place ∷ []))) plans r.progress

      -- the place before is next
      pub next-now : (before : ℕ) → place ≡ suc before → IsBack reading b b4 machine → IsAtProgress machine b4.plans ask o2 s2 (up_to act.0 (places ++ before ∷ []))
      next-now before is back =
          subst (λ ps. IsAtProgress machine ps ask o2 s2 (up_to act.0 (places ++ before ∷ []))) (sym back.loaded.plans)
          (opening-next machine b.plans ask o2 s2 act.0 places before (subst (λ n. IsAtProgress machine b.plans ask o2 s2 (through act.0 (places ++ n ∷ []))) is at-place))

      -- or there is none
      pub end-now : place ≡ 0 → length places < length (holds_of_act (action_at machine act.0)) → IsAtProgress machine b.plans ask o2 s2 (through act.0 places)
      end-now is few =
          places-end reading b machine ask o.goal first (choices_by machine (choices_before s.entries o.parent)) act places t.laid rule t.is_rule o2 s2
          (parent-same machine ask o o2 s s2 same-now t.fresh) few (subst (λ n. IsAtProgress machine b.plans ask o2 s2 (through act.0 (places ++ n ∷ []))) is at-place)

      -- once it is taken back, the next hold may be placed there again
      pub may-again : IsBack reading b b4 machine → IsSomeAnd (suffix_of b4) (λ x. CanPlace machine b4.plans x (length places) place)
      may-again back =
          let olds = choices_by machine (choices_before s.entries o.parent) in
          can-place reading b4 machine ask o.goal first olds act places (laid-back reading b b4 machine ask o.goal first (record { act = act; places = places } ∷ olds) back t.laid) (length places) place rule refl t.is_rule
          (within-as b4 back.loaded.plans (suffix-back reading b b4 back.same_content))

      -- none is left where the place and all before it end beyond the limit
      pub crowded-now : (limit : ℕ) → IsBack reading b b4 machine → s2.limit ≡ By limit → IsSomeAnd (suffix_of b4) (EndsAfterUpTo machine b4 place limit) → length places < length (holds_of_act (action_at machine act.0))
          → IsAtProgress machine b.plans ask o2 s2 (through act.0 places)
      crowded-now limit back is crowded few = go place refl where
        go : (n : ℕ) → place ≡ n → IsAtProgress machine b.plans ask o2 s2 (through act.0 places)
        go zero at = end-now at few
        go (suc before) at =
            let olds = choices_by machine (choices_before s.entries o.parent) in
            let laid = laid-back reading b b4 machine ask o.goal first (record { act = act; places = places } ∷ olds) back t.laid in
            let parent = parent-same machine ask o o2 s s2 same-now t.fresh in
            subst (λ ps. IsAtProgress machine ps ask o2 s2 (through act.0 places)) back.loaded.plans
            (places-end reading b4 machine ask o.goal first olds act places laid rule t.is_rule o2 s2 parent few
            (places-crowded reading b4 machine ask o.goal first olds act places laid rule t.is_rule o2 s2 parent before place limit (omega (arith, at))
            (within-as b4 back.loaded.plans (suffix-back reading b b4 back.same_content)) is crowded (next-now before at back)))

-- the last place is the first that is tried
pub begin-now : {N : Type 0} (reading : Reading N) (machine : Machine) (ask : Ask) (first : State) (act : ActId) (o : Opening) (s : StoreValue) (b : BoardValue N) (places : List ℕ) (rule : HoldRule)
    → IsLaid reading b machine ask o.goal first (record { act = act; places = places } ∷ choices_by machine (choices_before s.entries o.parent)) → IsFresh machine ask o s
    → slice_get (holds_of_act (action_at machine act.0)) (length places) ≡ Some rule → (last : ℕ) → ((m : Machine) → Stands reading b m → last ≡ length (order_after m b.plans (suffix_of b) rule.resource.0))
    → IsAtProgress machine b.plans ask o s (up_to act.0 places) → IsAtProgress machine b.plans ask o s (up_to act.0 (places ++ last ∷ []))
begin-now reading machine ask first act o s b places rule laid fresh is_rule last counted progress =
    let c = counted machine laid.stands in
    opening-next machine b.plans ask o s act.0 places last
    (places-begin reading b machine ask o.goal first (choices_by machine (choices_before s.entries o.parent)) act places laid rule is_rule o s
    (parent-same machine ask o o s s (same-itself o s) fresh) (suc last) (omega (arith, c)) progress)

-- where the least end is beyond the limit, no place is tried
pub beyond-now : {N : Type 0} (reading : Reading N) (machine : Machine) (ask : Ask) (first : State) (act : ActId) (o : Opening) (s : StoreValue) (b : BoardValue N) (places : List ℕ) (tick : ℕ)
    → IsLaid reading b machine ask o.goal first (record { act = act; places = places } ∷ choices_by machine (choices_before s.entries o.parent)) → IsFresh machine ask o s → HasLeastTick machine b (own 0) tick → ¬ IsWithin s.limit tick
    → IsAtProgress machine b.plans ask o s (up_to act.0 places) → IsAtProgress machine b.plans ask o s (through act.0 places)
beyond-now reading machine ask first act o s b places tick laid fresh least beyond =
    places-beyond reading b machine ask o.goal first (choices_by machine (choices_before s.entries o.parent)) act places laid o s (parent-same machine ask o o s s (same-itself o s) fresh) tick least beyond
