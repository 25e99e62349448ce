-- The steps of opening an action: no action leads to the list, or it is late, or its holds are placed.
use Rattle.std.proofs.Common.{◌≡◌, ◌⊎◌, inl, inr, false, ◌+◌, ◌<◌, ◌≤◌, ℕ, IsSomeAnd, List, [], ◌∷◌, length, refl, sym, ap, subst, arith}
use Rattle.tp_base.specs.Readings.{Reading}
use Rattle.tp_machine.specs.declared.parts.ActId.{ActId}
use Rattle.tp_machine.specs.declared.parts.State.{State}
use Rattle.tp_machine.specs.declared.machine.Machine.{Machine}
use Rattle.tp_pool.specs.Entries.{choices_before}
use Rattle.tp_schedule.specs.Answers.{kept_of}
use Rattle.tp_schedule.specs.Choices.{Choice, ChoiceList, IsChild, IsOpen, going, stopping}
use Rattle.tp_schedule.specs.Spots.{Ticks}
use Rattle.tp_schedule.specs.declared.parts.Ask.{Ask}
use Rattle.tp_schedule.specs.declared.parts.Plan.{Plan}
use Rattle.tp_constraints.specs.Suffixes.{SuffixTimes, with_action}
use Rattle.tp_placing.specs.Boards.{BoardValue, suffix_of}
use Rattle.tp_placing.specs.Calls.{HasNoTimes}
use Rattle.tp_search.specs.Boards.{IsBack, IsLaid}
use Rattle.tp_search.specs.OpenedLists.{IsAtProgress, IsLooked, IsSameOpening, parent_of}
use Rattle.tp_search.specs.OpenedLists.Progress.{through, up_to}
use Rattle.tp_search.specs.States.{HasNoneBefore, IsBefore}
use Rattle.tp_search.specs.Stored.{choices_by}
use Rattle.tp_search.specs.Stores.{StoreValue}
use Rattle.tp_constraints.specs.Ways.{IsPlaced}
use Rattle.tp_search.specs.declared.opening.Opening.{Opening}
use Rattle.tp_search.proofs.BoardSteps.{IsSince, since-back, the-way}
use Rattle.tp_search.proofs.ChildFacts.{child-form}
use Rattle.tp_search.proofs.OpeningFacts.{opening-on}
use Rattle.tp_search.proofs.OpeningSame.{same-itself}
use Rattle.tp_search.proofs.PlaceFacts.{opening-shut}
use Rattle.tp_search.proofs.StopSteps.{none-ahead}
use Rattle.tp_constraints.proofs.WayChildren.{child-closed, child-full, child-late}
use Rattle.tp_constraints.proofs.WaySteps.{action-way}

module _ {N : Type 0} (reading : Reading N) (b : BoardValue N) (machine : Machine) (ask : Ask) (first : State) (act : ActId) (o : Opening) (s : StoreValue)
    (l : IsLaid reading b machine ask o.goal first (choices_by machine (choices_before s.entries o.parent))) where
  abbrev olds : List Choice
  olds = choices_by machine (choices_before s.entries o.parent)

  -- where the action leads here from no state with room, no child has it
  pub act-shut : HasNoneBefore machine ask act first → IsAtProgress machine b.plans ask o s (up_to act.0 []) → IsAtProgress machine b.plans ask o s (through act.0 [])
  act-shut none opening =
      let w = the-way reading b machine ask o.goal first olds l in
      opening-shut machine b.plans ask o s o.goal olds act [] refl (λ rest opens. child-closed machine b.plans ask o.goal first w.x act rest w.is.way none
      (subst (λ cs. IsOpen machine b.plans ask (going o.goal (record { act = act; places = rest } ∷ cs))) (sym w.is.same) (opens.end, opens.opens))) opening

  -- nor where it is late
  pub act-late : (before : State) (room : ℕ) → IsPlaced machine olds → IsBefore machine ask act first (record { state = before; room = room }) → kept_of ask + length olds < 64
      → IsSomeAnd (suffix_of b) (λ x. HasNoTimes machine b (with_action act room x)) → IsAtProgress machine b.plans ask o s (up_to act.0 []) → IsAtProgress machine b.plans ask o s (through act.0 [])
  act-late before room placed r fewer late opening =
      let w = the-way reading b machine ask o.goal first olds l in
      let none : HasNoTimes machine b (with_action act room w.x) = subst (λ x. IsSomeAnd x (λ y. HasNoTimes machine b (with_action act room y))) w.suffix late in
      let none' = subst (λ k. IsSomeAnd k (λ y. (t : Ticks) → ¬ SuffixTimes machine b.plans y (with_action act room w.x) t)) l.asked none in
      let many = ap length w.is.same in
      let placed' = subst (IsPlaced machine) (sym w.is.same) placed in
      let way = action-way machine b.plans ask o.goal first before w.x act room w.is.way placed' w.is.going r.step r.allowed r.is_room (omega arith) in
      opening-shut machine b.plans ask o s o.goal olds act [] refl (λ rest opens. child-late machine b.plans ask o.goal before (with_action act room w.x) (record { act = act; places = [] }) w.x.choices rest way w.is.going refl none'
      (subst (λ cs. IsOpen machine b.plans ask (going o.goal (record { act = act; places = rest } ∷ cs))) (sym w.is.same) (opens.end, opens.opens))) opening

-- after an action was tried on a marked board
module _ {N : Type 0} (reading : Reading N) (machine : Machine) (ask : Ask) (act : ActId) (o : Opening) (s : StoreValue) (b : BoardValue N) where
  -- the children with it were looked at
  pub record IsActed (b' : BoardValue N) (o' : Opening) (s' : StoreValue) : Type 0 where
    pub since : IsSince reading b b' machine
    pub same : IsSameOpening o o' s s'
    pub progress : IsAtProgress machine b.plans ask o' s' (through act.0 [])

  pub acted-as : (b1 b2 : BoardValue N) (o1 o2 : Opening) (s1 s2 : StoreValue) → b2 ≡ b1 → o2 ≡ o1 → s2 ≡ s1 → IsActed b1 o1 s1 → IsActed b2 o2 s2
  acted-as b1 b2 o1 o2 s1 s2 board opening store r = subst (λ x. IsActed x o2 s2) (sym board) (subst (λ x. IsActed b1 x s2) (sym opening) (subst (λ x. IsActed b1 o1 x) (sym store) r))

  -- as it is late
  pub acted-late : (b1 : BoardValue N) → IsSince reading b b1 machine → IsAtProgress machine b.plans ask o s (through act.0 []) → IsActed b1 o s
  acted-late b1 since progress = record { since = since; same = same-itself o s; progress = progress }

  -- or its holds were placed
  pub acted-placed : (b1 b2 : BoardValue N) (o1 : Opening) (s1 : StoreValue) → IsSince reading b b1 machine → IsSameOpening o o1 s s1 → IsBack reading b1 b2 machine
      → IsAtProgress machine b1.plans ask o1 s1 (through act.0 []) → IsActed b2 o1 s1
  acted-placed b1 b2 o1 s1 since same back progress = record {
    since = since-back reading b b1 b2 machine since back;
    same = same;
    progress = subst (λ ps. IsAtProgress machine ps ask o1 s1 (through act.0 [])) since.load.plans progress;
  }

-- a list of as many choices as there can be has no open child with one more
pub opening-full_list : (machine : Machine) (plans : List Plan) (ask : Ask) (o : Opening) (s : StoreValue) (goal : State) (olds : List Choice) (n : ℕ)
    → parent_of machine s.entries o.goal o.parent ≡ going goal olds → kept_of ask + length olds ≡ 64 → IsAtProgress machine plans ask o s (up_to 0 []) → IsAtProgress machine plans ask o s (up_to n [])
opening-full_list machine plans ask o s goal olds n parent full opening = opening-on machine plans ask o s (up_to 0 []) (up_to n []) opening more only where
  more : (l : ChoiceList) → IsLooked (up_to 0 []) l → IsLooked (up_to n []) l
  more l (inl is-stopped) = inl is-stopped
  more l (inr ahead) = absurd (none-ahead l.choices ahead)

  closed : (l : ChoiceList) → ((c : Choice) × (l ≡ going goal (c ∷ olds))) ⊎ (l ≡ stopping goal olds) → IsLooked (up_to 0 []) l ⊎ (IsOpen machine plans ask l → ⊥)
  closed l (inl (c, is)) = inr (λ opens. child-full machine plans ask goal (record { choices = olds; rooms = []; stopped = false }) c full (subst (IsOpen machine plans ask) is opens))
  closed l (inr is) = inl (inl (ap (λ (x : ChoiceList). x.stopped) is))

  only : (l : ChoiceList) → IsChild machine ask (parent_of machine s.entries o.goal o.parent) l → IsLooked (up_to n []) l → IsLooked (up_to 0 []) l ⊎ (IsOpen machine plans ask l → ⊥)
  only l child looked = closed l (child-form (subst (λ p. IsChild machine ask p l) parent child))

-- the choices that a board carries are at most so many
pub laid-at_most : {N : Type 0} (reading : Reading N) (b : BoardValue N) (machine : Machine) (ask : Ask) (goal first : State) (choices : List Choice)
    → IsLaid reading b machine ask goal first choices → kept_of ask + length choices ≤ 64
laid-at_most reading b machine ask goal first choices l =
    let w = the-way reading b machine ask goal first choices l in
    omega (arith, ap length w.is.same, w.is.way.at_most)
