-- Looking at the children under some first places: those that are shut, the next place, and all places of a hold.
use Rattle.std.proofs.Common.{◌≡◌, ◌⊎◌, inl, inr, ℕ, suc, ◌+◌, ◌<◌, ◌≤◌, IsTrue, IsSomeAnd, List, [], ◌∷◌, ◌++◌, length, Some, sym, ap, subst, ◌∙◌, arith}
use Rattle.std.specs.Prelude.{slice_get}
use Rattle.std.proofs.lemmas.List.{append_assoc}
use Rattle.tp_base.specs.Readings.{Reading}
use Rattle.tp_machine.specs.ModuleUse.{action_at}
use Rattle.tp_machine.specs.declared.parts.ActId.{ActId}
use Rattle.tp_machine.specs.declared.parts.HoldRule.{HoldRule}
use Rattle.tp_machine.specs.declared.parts.State.{State}
use Rattle.tp_machine.specs.declared.machine.Machine.{Machine}
use Rattle.tp_schedule.specs.Choices.{Choice, ChoiceList, IsChild, OpensTo, going, stopping}
use Rattle.tp_schedule.specs.Holders.{holds_of_act}
use Rattle.tp_schedule.specs.declared.parts.Ask.{Ask}
use Rattle.tp_schedule.specs.declared.parts.Plan.{Plan}
use Rattle.tp_schedule.specs.Spots.{Ticks}
use Rattle.tp_schedule.specs.Spots.Spot.{own}
use Rattle.tp_constraints.specs.Suffixes.{SuffixTimes, with_place}
use Rattle.tp_placing.specs.Boards.{BoardValue, suffix_of}
use Rattle.tp_placing.specs.Calls.{HasNoTimes}
use Rattle.tp_placing.specs.LoadedBoard.{order_after}
use Rattle.tp_placing.specs.Ticks.{HasLeastTick}
use Rattle.tp_placing.specs.RefusedPlace.{EndsAfterUpTo, HasNoTimesUpTo}
use Rattle.tp_placing.proofs.StandFacts.{and-some, some-and}
use Rattle.tp_search.specs.Boards.{IsLaid}
use Rattle.tp_search.specs.Limits.{IsWithin, OpensWithin}
use Rattle.tp_search.specs.OpenedLists.{IsAtProgress, IsLooked, IsUnder, parent_of}
use Rattle.tp_search.specs.OpenedLists.Progress.{through, up_to}
use Rattle.tp_search.specs.Stores.{StoreValue}
use Rattle.tp_search.specs.declared.store.Limit.{Limit}
use Rattle.tp_search.specs.declared.store.Limit.TheVariants.{By, Sought, Unsought}
use Rattle.tp_search.specs.declared.opening.Opening.{Opening}
use Rattle.tp_search.proofs.ChildBoards.{beyond-shut, crowded-after, end-after, few-shut, place-shut}
use Rattle.tp_search.proofs.ChildFacts.{child-form}
use Rattle.tp_search.proofs.OpeningFacts.{opening-on, opening-over}
use Rattle.tp_search.proofs.ProgressFacts.{IsAlone, IsNext, from-all, from-beyond, from-first, next-act, next-place, to-all, to-beyond, to-first}

-- a tick up to one within a limit is within it
within-least : (limit : Limit) (tick end : ℕ) → tick ≤ end → IsWithin limit end → IsWithin limit tick
within-least Unsought tick end up within = tt
within-least Sought tick end up within = tt
within-least (By l) tick end up within = omega (arith, up, within)

-- a choice with this action and these first places
choice-under : (act : ActId) (places : List ℕ) (c : Choice) → c.act.0 ≡ act.0 → (rest : List ℕ) → c.places ≡ places ++ rest → c ≡ record { act = act; places = places ++ rest }
choice-under act places c same rest is =
    let act_same : c.act ≡ act = ap {B = ActId} (λ n. record { 0 = n }) same in
    λ i. record { act = act_same i; places = is i }

-- a child under these places is stopped, or has them with some more
child-under : (machine : Machine) (ask : Ask) (goal : State) (olds : List Choice) (act : ActId) (places : List ℕ) (l : ChoiceList) → IsChild machine ask (going goal olds) l → IsUnder act.0 places l.choices
    → IsTrue l.stopped ⊎ ((rest : List ℕ) × (l ≡ going goal (record { act = act; places = places ++ rest } ∷ olds)))
child-under machine ask goal olds act places l child under = go (child-form child) where
  go : ((c : Choice) × (l ≡ going goal (c ∷ olds))) ⊎ (l ≡ stopping goal olds) → IsTrue l.stopped ⊎ ((rest : List ℕ) × (l ≡ going goal (record { act = act; places = places ++ rest } ∷ olds)))
  go (inl (c, is)) =
      let here : IsUnder act.0 places (c ∷ olds) = subst (λ (x : ChoiceList). IsUnder act.0 places x.choices) is under in
      inr (here.1.0, is ∙ ap (λ d. going goal (d ∷ olds)) (choice-under act places c here.0 here.1.0 here.1.1))
  go (inr is) = inl (ap (λ (x : ChoiceList). x.stopped) is)

-- where no child under these places opens to an end within the limit, they were looked at
pub opening-shut : (machine : Machine) (plans : List Plan) (ask : Ask) (o : Opening) (s : StoreValue) (goal : State) (olds : List Choice) (act : ActId) (places : List ℕ) → parent_of machine s.entries o.goal o.parent ≡ going goal olds
    → ((rest : List ℕ) → OpensWithin machine plans ask s.limit (going goal (record { act = act; places = places ++ rest } ∷ olds)) → ⊥) → IsAtProgress machine plans ask o s (up_to act.0 places) → IsAtProgress machine plans ask o s (through act.0 places)
opening-shut machine plans ask o s goal olds act places parent shut opening = opening-over machine plans ask o s (up_to act.0 places) (through act.0 places) opening more only where
  more : (l : ChoiceList) → IsLooked (up_to act.0 places) l → IsLooked (through act.0 places) l
  more l (inl is-stopped) = inl is-stopped
  more l (inr ahead) = inr (inl ahead)

  under : (l : ChoiceList) → IsTrue l.stopped ⊎ ((rest : List ℕ) × (l ≡ going goal (record { act = act; places = places ++ rest } ∷ olds))) → IsLooked (up_to act.0 places) l ⊎ (OpensWithin machine plans ask s.limit l → ⊥)
  under l (inl is-stopped) = inl (inl is-stopped)
  under l (inr (rest, is)) = inr (λ opens. shut rest (subst (OpensWithin machine plans ask s.limit) is opens))

  only : (l : ChoiceList) → IsChild machine ask (parent_of machine s.entries o.goal o.parent) l → IsLooked (through act.0 places) l → IsLooked (up_to act.0 places) l ⊎ (OpensWithin machine plans ask s.limit l → ⊥)
  only l child (inl is-stopped) = inl (inl is-stopped)
  only l child (inr (inl ahead)) = inl (inr ahead)
  only l child (inr (inr here)) = under l (child-under machine ask goal olds act places l (subst (λ p. IsChild machine ask p l) parent child) here)

-- a child that has these places with a next one, or alone, is stopped, or closed where none of these opens to an end within a
-- limit
closed-as : (machine : Machine) (plans : List Plan) (ask : Ask) (limit : Limit) (goal : State) (olds : List Choice) (act : ActId) (all : List ℕ) (l : ChoiceList) → IsChild machine ask (going goal olds) l
    → (c : Choice) (choices : List Choice) → l.choices ≡ c ∷ choices → c.act.0 ≡ act.0 → c.places ≡ all → (OpensWithin machine plans ask limit (going goal (record { act = act; places = all } ∷ olds)) → ⊥)
    → IsTrue l.stopped ⊎ (OpensWithin machine plans ask limit l → ⊥)
closed-as machine plans ask limit goal olds act all l child c choices newest same starts shut = go (child-form child) where
  go : ((d : Choice) × (l ≡ going goal (d ∷ olds))) ⊎ (l ≡ stopping goal olds) → IsTrue l.stopped ⊎ (OpensWithin machine plans ask limit l → ⊥)
  go (inl (d, is)) =
      let first : d ∷ olds ≡ c ∷ choices = sym (ap (λ (x : ChoiceList). x.choices) is) ∙ newest in
      let d-is : d ≡ c = cc in
      let act_same : c.act ≡ act = ap {B = ActId} (λ n. record { 0 = n }) same in
      let now : d ≡ record { act = act; places = all } = d-is ∙ (λ i. record { act = act_same i; places = starts i }) in
      inr (λ opens. shut (subst (λ e. OpensWithin machine plans ask limit (going goal (e ∷ olds))) now (subst (OpensWithin machine plans ask limit) is opens)))
  go (inr is) = inl (ap (λ (x : ChoiceList). x.stopped) is)

next-shut : (machine : Machine) (plans : List Plan) (ask : Ask) (limit : Limit) (goal : State) (olds : List Choice) (act : ActId) (places : List ℕ) (P : ℕ → Type 0)
    → ((k : ℕ) (rest : List ℕ) → P k → OpensWithin machine plans ask limit (going goal (record { act = act; places = places ++ k ∷ rest } ∷ olds)) → ⊥)
    → (l : ChoiceList) → IsChild machine ask (going goal olds) l → IsNext P act.0 places l → IsTrue l.stopped ⊎ (OpensWithin machine plans ask limit l → ⊥)
next-shut machine plans ask limit goal olds act places P shut l child next =
    closed-as machine plans ask limit goal olds act (places ++ next.place ∷ next.rest) l child next.choice next.choices next.newest next.same next.starts (shut next.place next.rest next.is)

alone-shut : (machine : Machine) (plans : List Plan) (ask : Ask) (limit : Limit) (goal : State) (olds : List Choice) (act : ActId) (places : List ℕ)
    → (OpensWithin machine plans ask limit (going goal (record { act = act; places = places } ∷ olds)) → ⊥)
    → (l : ChoiceList) → IsChild machine ask (going goal olds) l → IsAlone act.0 places l → IsTrue l.stopped ⊎ (OpensWithin machine plans ask limit l → ⊥)
alone-shut machine plans ask limit goal olds act places shut l child a = closed-as machine plans ask limit goal olds act places l child a.choice a.choices a.newest a.same a.alone shut

-- behind the last place of the next hold, where no child opens to an end within the limit
pub opening-beyond : (machine : Machine) (plans : List Plan) (ask : Ask) (o : Opening) (s : StoreValue) (goal : State) (olds : List Choice) (act : ActId) (places : List ℕ) (n : ℕ) → parent_of machine s.entries o.goal o.parent ≡ going goal olds
    → ((k : ℕ) (rest : List ℕ) → n ≤ k → OpensWithin machine plans ask s.limit (going goal (record { act = act; places = places ++ k ∷ rest } ∷ olds)) → ⊥)
    → IsAtProgress machine plans ask o s (up_to act.0 places) → IsAtProgress machine plans ask o s (through act.0 (places ++ n ∷ []))
opening-beyond machine plans ask o s goal olds act places n parent beyond opening =
    opening-over machine plans ask o s (up_to act.0 places) (through act.0 (places ++ n ∷ [])) opening (from-beyond act.0 places n) (λ l child looked. elim (to-beyond act.0 places n l looked) [
      | inl earlier ↦ inl earlier
      | inr next ↦ (elim (next-shut machine plans ask s.limit goal olds act places (λ k. n ≤ k) beyond l (subst (λ p. IsChild machine ask p l) parent child) next) [
        | inl is-stopped ↦ inl (inl is-stopped)
        | inr closed ↦ inr closed
      ])
    ])

-- from one place to the one before
pub opening-next : (machine : Machine) (plans : List Plan) (ask : Ask) (o : Opening) (s : StoreValue) (act : ℕ) (places : List ℕ) (place : ℕ)
    → IsAtProgress machine plans ask o s (through act (places ++ suc place ∷ [])) → IsAtProgress machine plans ask o s (up_to act (places ++ place ∷ []))
opening-next machine plans ask o s act places place opening =
    opening-on machine plans ask o s (through act (places ++ suc place ∷ [])) (up_to act (places ++ place ∷ [])) opening (λ l looked. (next-place act places place l).1 looked) (λ l child looked. inl ((next-place act places place l).0 looked))

-- and to the first, where no child opens to an end within the limit with the place or one before
pub opening-first : (machine : Machine) (plans : List Plan) (ask : Ask) (o : Opening) (s : StoreValue) (goal : State) (olds : List Choice) (act : ActId) (places : List ℕ) (n : ℕ) → parent_of machine s.entries o.goal o.parent ≡ going goal olds
    → ((k : ℕ) (rest : List ℕ) → k ≤ n → OpensWithin machine plans ask s.limit (going goal (record { act = act; places = places ++ k ∷ rest } ∷ olds)) → ⊥)
    → IsAtProgress machine plans ask o s (up_to act.0 (places ++ n ∷ [])) → IsAtProgress machine plans ask o s (through act.0 (places ++ 0 ∷ []))
opening-first machine plans ask o s goal olds act places n parent shut opening =
    opening-over machine plans ask o s (up_to act.0 (places ++ n ∷ [])) (through act.0 (places ++ 0 ∷ [])) opening (from-first act.0 places n) (λ l child looked. elim (to-first act.0 places n l looked) [
      | inl earlier ↦ inl earlier
      | inr next ↦ (elim (next-shut machine plans ask s.limit goal olds act places (λ k. k ≤ n) shut l (subst (λ p. IsChild machine ask p l) parent child) next) [
        | inl is-stopped ↦ inl (inl is-stopped)
        | inr closed ↦ inr closed
      ])
    ])

-- where no child with these places alone opens to an end within the limit, all were looked at
pub opening-all : (machine : Machine) (plans : List Plan) (ask : Ask) (o : Opening) (s : StoreValue) (goal : State) (olds : List Choice) (act : ActId) (places : List ℕ) → parent_of machine s.entries o.goal o.parent ≡ going goal olds
    → (OpensWithin machine plans ask s.limit (going goal (record { act = act; places = places } ∷ olds)) → ⊥)
    → IsAtProgress machine plans ask o s (through act.0 (places ++ 0 ∷ [])) → IsAtProgress machine plans ask o s (through act.0 places)
opening-all machine plans ask o s goal olds act places parent few opening =
    opening-over machine plans ask o s (through act.0 (places ++ 0 ∷ [])) (through act.0 places) opening (from-all act.0 places) (λ l child looked. elim (to-all act.0 places l looked) [
      | inl earlier ↦ inl earlier
      | inr is-alone ↦ (elim (alone-shut machine plans ask s.limit goal olds act places few l (subst (λ p. IsChild machine ask p l) parent child) is-alone) [
        | inl is-stopped ↦ inl (inl is-stopped)
        | inr closed ↦ inr closed
      ])
    ])

-- from an action to the next
pub opening-next_act : (machine : Machine) (plans : List Plan) (ask : Ask) (o : Opening) (s : StoreValue) (act : ℕ)
    → IsAtProgress machine plans ask o s (through act []) → IsAtProgress machine plans ask o s (up_to (act + 1) [])
opening-next_act machine plans ask o s act opening =
    opening-on machine plans ask o s (through act []) (up_to (act + 1) []) opening (λ l looked. (next-act act l).1 looked) (λ l child looked. inl ((next-act act l).0 looked))

-- where the least end with these places is beyond the limit, they were looked at
pub places-beyond : {N : Type 0} (reading : Reading N) (b : BoardValue N) (machine : Machine) (ask : Ask) (goal first : State) (olds : List Choice) (act : ActId) (places : List ℕ) → IsLaid reading b machine ask goal first (record { act = act; places = places } ∷ olds)
    → (o : Opening) (s : StoreValue) → parent_of machine s.entries o.goal o.parent ≡ going goal olds → (tick : ℕ) → HasLeastTick machine b (own 0) tick → ¬ IsWithin s.limit tick
    → IsAtProgress machine b.plans ask o s (up_to act.0 places) → IsAtProgress machine b.plans ask o s (through act.0 places)
places-beyond reading b machine ask goal first olds act places l o s parent tick least beyond opening =
    opening-shut machine b.plans ask o s goal olds act places parent
    (λ rest opens. beyond (within-least s.limit tick opens.end (end-after reading b machine ask goal first olds act places l tick least rest opens.end opens.opens) opens.within)) opening

module _ {N : Type 0} (reading : Reading N) (b : BoardValue N) (machine : Machine) (ask : Ask) (goal first : State) (olds : List Choice) (act : ActId) (places : List ℕ)
    (l : IsLaid reading b machine ask goal first (record { act = act; places = places } ∷ olds)) (rule : HoldRule) (is_rule : slice_get (holds_of_act (action_at machine act.0)) (length places) ≡ Some rule) (o : Opening) (s : StoreValue)
    (parent : parent_of machine s.entries o.goal o.parent ≡ going goal olds) where
  -- a place that is late was looked at
  pub place-late : (place : ℕ) → place ≤ length (order_after machine b.plans (suffix_of b) rule.resource.0) → IsSomeAnd (suffix_of b) (λ x. HasNoTimes machine b (with_place place x))
      → IsAtProgress machine b.plans ask o s (up_to act.0 (places ++ place ∷ [])) → IsAtProgress machine b.plans ask o s (through act.0 (places ++ place ∷ []))
  place-late place within late opening =
      opening-shut machine b.plans ask o s goal olds act (places ++ place ∷ []) parent (λ rest opens. place-shut reading b machine ask goal first olds act places l place rule is_rule within late rest opens.end opens.opens) opening

  -- nothing lies beyond the order
  pub places-begin : (n : ℕ) → length (order_after machine b.plans (suffix_of b) rule.resource.0) < n
      → IsAtProgress machine b.plans ask o s (up_to act.0 places) → IsAtProgress machine b.plans ask o s (through act.0 (places ++ n ∷ []))
  places-begin n beyond opening =
      opening-beyond machine b.plans ask o s goal olds act places n parent
      (λ k rest later opens. beyond-shut reading b machine ask goal first olds act places l k rule rest is_rule (omega (arith, beyond, later)) (opens.end, opens.opens)) opening

  -- a place that is late with all before it
  late-at : (place earlier : ℕ) → earlier ≤ place → IsSomeAnd (suffix_of b) (HasNoTimesUpTo machine b place) → IsSomeAnd (suffix_of b) (λ x. HasNoTimes machine b (with_place earlier x))
  late-at place earlier le late =
      let s = some-and (suffix_of b) (HasNoTimesUpTo machine b place) late in
      let a = some-and b.ask (λ k. (earlier : ℕ) → earlier ≤ place → (t : Ticks) → ¬ SuffixTimes machine b.plans k (with_place earlier s.0) t) s.2 in
      and-some (suffix_of b) s.0 (λ x. HasNoTimes machine b (with_place earlier x)) s.1 (and-some b.ask a.0 (λ k. (t : Ticks) → ¬ SuffixTimes machine b.plans k (with_place earlier s.0) t) a.1 (a.2 earlier le))

  pub places-shut : (place : ℕ) → place ≤ length (order_after machine b.plans (suffix_of b) rule.resource.0) → IsSomeAnd (suffix_of b) (HasNoTimesUpTo machine b place)
      → IsAtProgress machine b.plans ask o s (up_to act.0 (places ++ place ∷ [])) → IsAtProgress machine b.plans ask o s (through act.0 (places ++ 0 ∷ []))
  places-shut place within late opening =
      opening-first machine b.plans ask o s goal olds act places place parent
      (λ k rest le opens.
      place-shut reading b machine ask goal first olds act places l k rule is_rule (omega (arith, within, le)) (late-at place k le late) rest opens.end
      (subst (λ ps. OpensTo machine b.plans ask (going goal (record { act = act; places = ps } ∷ olds)) opens.end) (sym (append_assoc places (k ∷ []) rest)) opens.opens))
      opening

  -- the places up to one, where all of them end after the limit
  pub places-crowded : (place last limit : ℕ) → place ≤ last → last ≤ length (order_after machine b.plans (suffix_of b) rule.resource.0) → s.limit ≡ By limit → IsSomeAnd (suffix_of b) (EndsAfterUpTo machine b last limit)
      → IsAtProgress machine b.plans ask o s (up_to act.0 (places ++ place ∷ [])) → IsAtProgress machine b.plans ask o s (through act.0 (places ++ 0 ∷ []))
  places-crowded place last limit up within is crowded opening =
      opening-first machine b.plans ask o s goal olds act places place parent
      (λ k rest le opens.
      let after = crowded-after reading b machine ask goal first olds act places l k last limit rule is_rule (omega (arith, up, le)) within crowded rest opens.end
      (subst (λ ps. OpensTo machine b.plans ask (going goal (record { act = act; places = ps } ∷ olds)) opens.end) (sym (append_assoc places (k ∷ []) rest)) opens.opens) in
      let before : opens.end ≤ limit = subst (λ m. IsWithin m opens.end) is opens.within in
      omega (arith, after, before))
      opening

  -- after the first place all were looked at
  pub places-end : length places < length (holds_of_act (action_at machine act.0))
      → IsAtProgress machine b.plans ask o s (through act.0 (places ++ 0 ∷ [])) → IsAtProgress machine b.plans ask o s (through act.0 places)
  places-end few opening =
      opening-all machine b.plans ask o s goal olds act places parent (λ opens. few-shut reading b machine ask goal first olds act places l few (opens.end, opens.opens)) opening
