-- A step of a search: what is known of the list that was taken, told of the store without it.
use Rattle.std.proofs.Common.{◌≡◌, ℕ, true, false, ◌+◌, ◌<◌, ◌≤◌, List, [], ◌∷◌, length, Some, IfSome, Vec, refl, sym, ap, subst, ◌∙◌, arith}
use Rattle.std.specs.declared.alloc.Global.{Global}
use Rattle.std.proofs.lemmas.List.{length-append}
use Rattle.std.proofs.lemmas.List.Elements.{All-contains}
use Rattle.tp_base.specs.Readings.{Reading}
use Rattle.tp_machine.specs.Machines.{IsMachine}
use Rattle.tp_machine.specs.declared.machine.Machine.{Machine}
use Rattle.tp_pool.specs.Entries.{IsParentOf, bound_of, choices_before, choices_of, entry_at}
use Rattle.tp_schedule.specs.Answers.{IsAsked, NoneBefore}
use Rattle.tp_schedule.specs.Choices.{IsBound, IsComplete}
use Rattle.tp_schedule.specs.PlannerAnswers.{IsKnownGoal}
use Rattle.tp_schedule.specs.Legality.{IsLegal}
use Rattle.tp_schedule.specs.SpentBudget.{IsSpent}
use Rattle.tp_schedule.specs.declared.parts.Ask.{Ask}
use Rattle.tp_schedule.specs.declared.parts.Plan.{Plan}
use Rattle.tp_choices.proofs.ShorterLists.{parent_bound}
use Rattle.tp_choices.proofs.SearchAncestors.{full_spends}
use Rattle.tp_placing.specs.Boards.{BoardValue}
use Rattle.tp_search.specs.Boards.{IsBack}
use Rattle.tp_search.specs.StoredLists.{HasList}
use Rattle.tp_search.specs.HeldLists.{HoldsList, IsOneMore}
use Rattle.tp_search.specs.Limits.{HasNoLimit}
use Rattle.tp_search.specs.OpenedLists.{IsAtProgress, IsFresh, IsOpenChild, IsOpening, IsSameOpening, parent_of}
use Rattle.tp_search.specs.OpenedLists.Progress.{nothing, up_to}
use Rattle.tp_search.specs.Outcomes.{CanLay, CanOpen, IsAllOpened, IsOutcome}
use Rattle.tp_search.specs.SearchProgress.{IsBestLater, IsNext, IsSameSpace, IsSearching, next_bound, next_list, next_node, opening_of, still_to_take}
use Rattle.tp_search.specs.Stores.{HasBounds, StoreGrows, StoreValue}
use Rattle.tp_search.specs.declared.goals.OpenGoal.{OpenGoal}
use Rattle.tp_search.specs.declared.held_list.HeldList.{HeldList}
use Rattle.tp_search.specs.declared.opening.Opening.{Opening}
use Rattle.tp_search.specs.declared.best_first.Outcome.{Outcome}
use Rattle.tp_search.specs.declared.best_first.Outcome.TheVariants.{Again, Spent}
use Rattle.tp_search.specs.declared.store.Limit.{Limit}
use Rattle.tp_search.specs.declared.store.Limit.TheVariants.{By, Sought, Unsought}
use Rattle.tp_search.specs.declared.next_list.Next.{Next}
use Rattle.tp_search.specs.declared.next_list.Next.TheVariants.{Goal, Node}
use Rattle.tp_search.proofs.SearchEnds.{IsBestList, next-incomplete, next-none_before, next-within, searching-best}
use Rattle.tp_search.proofs.SearchFresh.{next-begins, next-fresh, next-going}
use Rattle.tp_search.proofs.SearchGrown.{entry-new}
use Rattle.tp_search.proofs.SearchOpened.{next-opening}
use Rattle.tp_search.proofs.SearchFull.{searching-full}
use Rattle.tp_search.proofs.SearchNext.{IsKnownNext, next-formed, next-known}
use Rattle.tp_search.proofs.SearchOn.{searching-on}
use Rattle.tp_search.proofs.StoreFacts.{as-long}

pub space-trans : (gs gs' gs'' : Vec OpenGoal Global) (s s' s'' : StoreValue) → IsSameSpace gs gs' s s' → IsSameSpace gs' gs'' s' s'' → IsSameSpace gs gs'' s s''
space-trans gs gs' gs'' s s' s'' first second = record {
  capacity = second.capacity ∙ first.capacity;
  width = second.width ∙ first.width;
  space = (let a = first.space in let b = second.space in omega arith);
}

-- which lists wait does not matter for the list that was taken
list-as : (machine : Machine) (s : StoreValue) (waits : List ℕ) (next : Next) → next_list machine (record s { waits = waits }) next ≡ next_list machine s next
list-as machine s waits (Goal g) = refl
list-as machine s waits (Node n) = refl

bound-as : (s : StoreValue) (waits : List ℕ) (next : Next) → next_bound (record s { waits = waits }) next ≡ next_bound s next
bound-as s waits (Goal g) = refl
bound-as s waits (Node n) = refl

opening-as : (machine : Machine) (s : StoreValue) (waits : List ℕ) (next : Next) → opening_of machine (record s { waits = waits }) next ≡ opening_of machine s next
opening-as machine s waits (Goal g) = refl
opening-as machine s waits (Node n) = refl

module _ (machine : Machine) (plans : List Plan) (ask : Ask) (goals : List OpenGoal) (s : StoreValue) (bound : ℕ) (searching : IsSearching machine plans ask goals s bound) (goals' : List OpenGoal) (s' : StoreValue) (next : Next)
    (is-next : IsNext goals s goals' s' next) where
  pub known : IsKnownNext machine plans ask goals s bound goals' s' next
  known = next-known machine plans ask goals s bound searching goals' s' next is-next

  list-same : next_list machine s' next ≡ next_list machine s next
  list-same = ap (λ t. next_list machine t next) known.same ∙ list-as machine s s'.waits next

  bound-same : next_bound s' next ≡ next_bound s next
  bound-same = ap (λ t. next_bound t next) known.same ∙ bound-as s s'.waits next

  opening-same : opening_of machine s' next ≡ opening_of machine s next
  opening-same = ap (λ t. opening_of machine t next) known.same ∙ opening-as machine s s'.waits next

  pub next-there : IfSome (next_node next) (λ node. node < length s'.entries)
  next-there = go next (subst (λ (t : StoreValue). IsParentOf (length t.entries) (next_node next)) (sym known.same) known.parent) where
    go : (n : Next) → IsParentOf (length s'.entries) (next_node n) → IfSome (next_node n) (λ node. node < length s'.entries)
    go (Goal g) parent = tt
    go (Node n) parent = parent

  pub room-same : s'.capacity ≡ s.capacity
  room-same = ap (λ (t : StoreValue). t.capacity) known.same

  later-then : IsBestLater s' (next_bound s' next) → IsBestLater s (next_bound s next)
  later-then later = subst (IsBestLater s) bound-same (subst (λ t. IsBestLater t (next_bound s' next)) known.same later)

  -- the best list, where it is no later than the one that was taken
  pub best-list : IsLegal machine plans → IsAsked machine plans ask → (best : ℕ) → s'.best ≡ Some best → bound_of s'.entries best ≤ next_bound s' next → IsBestList machine plans ask s' best
  best-list legal asked best is low =
      subst (λ t. IsBestList machine plans ask t best) (sym known.same)
      (as-taken (searching-best machine plans ask goals s bound searching goals' s' next is-next legal asked best (ap (λ (t : StoreValue). t.best) (sym known.same) ∙ is) (subst (λ b. bound_of s.entries best ≤ b) bound-same (subst (λ (t : StoreValue). bound_of t.entries best ≤ next_bound s' next) known.same low))))
    where
      as-taken : IsBestList machine plans ask s best → IsBestList machine plans ask (record s { waits = s'.waits }) best
      as-taken l = record { there = l.there; complete = l.complete; is_bound = l.is_bound; formed = l.formed; none_before = l.none_before }

  -- it can be laid, whether it is complete or not
  can-lay : CanLay machine plans ask s' next
  can-lay = subst (λ t. CanLay machine plans ask t next) (sym known.same) (go next is-next known.is_bound) where
    go : (n : Next) → IsNext goals s goals' s' n → IsBound machine plans ask (next_list machine s n) (next_bound s n) → CanLay machine plans ask (record s { waits = s'.waits }) n
    go (Goal g) is b = (g.bound, b.opens)
    go (Node n) is b = (searching.waits_known n is.out.1.waited, next-formed machine plans ask goals s bound searching n is.out.1.waited, (bound_of s.entries n, b.opens))

  module _ (is-machine : IsMachine machine) (known-goal : IsKnownGoal machine ask.goal) (later : IsBestLater s' (next_bound s' next)) where
    incomplete : ¬ IsComplete machine ask (next_list machine s next)
    incomplete = next-incomplete machine plans ask goals s bound searching goals' s' next is-next (later-then later) is-machine known-goal

    pub can-open : CanOpen machine plans ask s' next
    can-open = record {
      can_lay = can-lay;
      goes_on = list-same ∙ next-going machine plans ask goals s bound goals' s' next searching known incomplete ∙ sym parent-is;
      fresh = subst (λ o. IsFresh machine ask o s') (sym opening-same) (next-fresh machine plans ask goals s bound goals' s' next searching known incomplete);
      range = subst (HasBounds machine ask) (sym known.same) searching.range;
      begins = subst (λ o. IsAtProgress machine plans ask o s' nothing) (sym opening-same) (next-begins machine plans ask goals s bound goals' s' next searching known incomplete (next-within machine plans ask goals s bound searching goals' s' next is-next));
    } where
      parent-is : parent_of machine s'.entries (next_list machine s' next).goal (next_node next) ≡ parent_of machine s.entries (next_list machine s next).goal (next_node next)
      parent-is =
          ap (λ (t : StoreValue). parent_of machine t.entries (next_list machine s' next).goal (next_node next)) known.same
          ∙ ap (λ l. parent_of machine s.entries l.goal (next_node next)) list-same

    -- no alternative ends before its bound
    pub step-none_before : IsLegal machine plans → IsAsked machine plans ask → NoneBefore machine plans ask (next_bound s' next)
    step-none_before legal asked = subst (NoneBefore machine plans ask) (sym bound-same) (next-none_before machine plans ask goals s bound searching goals' s' next is-next legal asked)

    -- while it was opened, lists were stored
    pub space-then : (s'' : StoreValue) → StoreGrows s' s'' → (gs gs' : Vec OpenGoal Global) → IsSameSpace gs gs' s s' → IsSameSpace gs gs' s s''
    space-then s'' grows gs gs' taken = record { capacity = grows.capacity ∙ taken.capacity; width = grows.width ∙ taken.width; space = taken.space }

    -- it was opened
    module _ (s'' : StoreValue) (all : IsAllOpened machine plans ask s' next s'') where
      abbrev o : Opening
      o = opening_of machine s' next

      same : IsSameOpening (opening_of machine s next) o s' s''
      same = subst (λ x. IsSameOpening x o s' s'') opening-same (record { goal = refl; parent = refl; bound = refl; stored = refl; grows = all.grows })

      grown-by : IsOpening machine plans ask (next_list machine s next) (next_bound s next) s''.limit (choices_before s.entries (next_node next)) s.entries (up_to (length machine.actions) []) s''.entries s''.capacity s''.full s''.best
      grown-by = next-opening machine plans ask goals s bound goals' s' next searching known incomplete o s'' (up_to (length machine.actions) []) same all.progress

      room-then : s''.capacity ≡ s.capacity
      room-then = all.grows.capacity ∙ room-same

      pub step-full : s''.full ≡ true → HasNoLimit s''.limit → IsLegal machine plans → IsAsked machine plans ask → IsSpent machine plans ask s.capacity (next_bound s' next)
      step-full full none legal asked = subst (IsSpent machine plans ask s.capacity) (sym bound-same)
          (searching-full machine plans ask goals s bound searching goals' s' next is-next incomplete o s'' same all.progress full none (later-then later) full_spends legal asked)

      pub step-on : s''.full ≡ false → IsSearching machine plans ask goals' s'' (next_bound s' next)
      step-on not-full = subst (IsSearching machine plans ask goals' s'') (sym bound-same)
          (searching-on machine plans ask goals s bound goals' s' next o s'' searching is-next incomplete parent_bound same all.progress not-full)

      -- a board that carries the list holds it: what was stored since are its children
      pub step-holds : {N : Type 0} (reading : Reading N) (b : BoardValue N) (held : HeldList) → HasList reading b machine ask held.laid.first (next_list machine s' next) → held.stored ≡ length s'.entries
          → HoldsList reading b machine ask s'' held
      step-holds reading b held laid stored = record {
        goal = (next_list machine s next).goal;
        before = choices_before s.entries (next_node next);
        laid = subst (HasList reading b machine ask held.laid.first) (list-same ∙ next-going machine plans ask goals s bound goals' s' next searching known incomplete) laid;
        children = λ node from within. child node (subst (λ n. n ≤ node) (stored ∙ ap (λ (t : StoreValue). length t.entries) known.same) from) within;
      } where
        child : (node : ℕ) → length s.entries ≤ node → node < length s''.entries → IsOneMore (next_list machine s next).goal (choices_before s.entries (next_node next)) (choices_of s''.entries node)
        child node from within =
            let e = All-contains (IsOpenChild machine plans ask (next_list machine s next) (next_bound s next) (choices_before s.entries (next_node next)) (up_to (length machine.actions) [])) grown-by.new (entry_at s''.entries node) grown-by.children
            (entry-new machine goals s s'' grown-by.new grown-by.grown node from within) in
            record { newest = e.newest; same = e.choices; same_goal = e.goal }

      pub step-less : length s''.entries ≤ s''.capacity → still_to_take goals' s'' < still_to_take goals s
      step-less within =
          let entries = ap (λ (t : StoreValue). length t.entries) known.same in
          let rooms = room-then in
          let grows = all.grows.as_many in
          let longer = as-long s' s'' all.grows in
          taken-less entries rooms grows longer
        where
          one-taken : length goals' + length s'.waits + 1 ≡ length goals + length s.waits
          one-taken = go next is-next where
            go : (n : Next) → IsNext goals s goals' s' n → length goals' + length s'.waits + 1 ≡ length goals + length s.waits
            go (Goal g) is = (let out = is.out.0 in let there = ap length out.there in let rest = ap length out.rest in let l = length-append out.before (g ∷ out.after) in let r = length-append out.before out.after in let w = ap (λ (t : StoreValue). length t.waits) is.out.1 in omega arith)
            go (Node n) is = (let f = is.out.1.fewer in let l = ap length is.out.0 in omega arith)

          taken-less : length s'.entries ≡ length s.entries → s''.capacity ≡ s.capacity → length s''.waits + length s'.entries ≡ length s'.waits + length s''.entries → length s'.entries ≤ length s''.entries → still_to_take goals' s'' < still_to_take goals s
          taken-less entries rooms grows longer = (let less = one-taken in omega arith)

-- how a search ends whose store is full: the budget is spent, or lists beyond a limit were left out
pub full-ends : {N : Type 0} (reading : Reading N) (b b' : BoardValue N) (machine : Machine) (ask : Ask) (nodes bound : ℕ) (limit : Limit) (outcome : Outcome) → (HasNoLimit limit → outcome ≡ Spent bound) → (¬ HasNoLimit limit → outcome ≡ Again)
    → (HasNoLimit limit → IsSpent machine b.plans ask nodes bound) → IsBack reading b b' machine → IsOutcome reading b b' machine ask nodes outcome
full-ends reading b b' machine ask nodes bound Unsought outcome spent again is back = subst (IsOutcome reading b b' machine ask nodes) (sym (spent tt)) (is tt, back)
full-ends reading b b' machine ask nodes bound Sought outcome spent again is back = subst (IsOutcome reading b b' machine ask nodes) (sym (spent tt)) (is tt, back)
full-ends reading b b' machine ask nodes bound (By l) outcome spent again is back = subst (IsOutcome reading b b' machine ask nodes) (sym (again (λ none. none))) back

spent-other : (bound : ℕ) → Spent bound ≡ Again → ⊥
spent-other bound is = cc

pub again-limited : (bound : ℕ) (limit : Limit) (outcome : Outcome) → (HasNoLimit limit → outcome ≡ Spent bound) → outcome ≡ Again → ¬ HasNoLimit limit
again-limited bound limit outcome spent again none = spent-other bound (sym (spent none) ∙ again)
