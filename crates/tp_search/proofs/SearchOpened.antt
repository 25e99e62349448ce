-- The list that was taken was opened to the end: what was stored, and what was opened.
use Rattle.std.proofs.Common.{◌≡◌, ◌≢◌, ◌⊎◌, inl, inr, ℕ, ◌≤◌, false, List, [], ◌∷◌, ◌++◌, length, take, All, AllPairs, Contains, refl, sym, ap, subst, ◌∙◌, arith}
use Rattle.std.proofs.lemmas.Bool.{false≢true}
use Rattle.std.proofs.lemmas.List.{map-append, take_all}
use Rattle.std.proofs.lemmas.List.Elements.{All-append, All-cons, All-contains, Contains-append_cases, Contains-append_left}
use Rattle.tp_machine.specs.declared.machine.Machine.{Machine}
use Rattle.tp_pool.specs.Entries.{Entry, choices_before}
use Rattle.tp_pool.specs.declared.choice.Choice.{Choice as Stored}
use Rattle.tp_schedule.specs.Choices.{ChoiceList, IsBound, IsChild, IsComplete, OpensTo}
use Rattle.tp_schedule.specs.SpentBudget.{IsStoredOrEmpty}
use Rattle.tp_schedule.specs.declared.parts.Ask.{Ask}
use Rattle.tp_schedule.specs.declared.parts.Plan.{Plan}
use Rattle.tp_schedule.proofs.Membership.{All-from_contains, Contains-cons_cases, Contains-here, Contains-later, Contains-map_from}
use Rattle.tp_constraints.proofs.Lists.{AllPairs-append}
use Rattle.tp_search.specs.StoredLists.{HaveGoal, IsStoredList}
use Rattle.tp_search.specs.Limits.{OpensWithin}
use Rattle.tp_search.specs.OpenedLists.{IsAtProgress, IsOpenChild, IsOpening, IsSameOpening, Progress, parent_of}
use Rattle.tp_search.specs.OpenedLists.Progress.{up_to}
use Rattle.tp_search.specs.SearchProgress.{IsOpenEntry, IsSearching, next_bound, next_list, next_node, opening_of}
use Rattle.tp_search.specs.Stored.{list_by, lists_by}
use Rattle.tp_search.specs.Stores.{StoreValue}
use Rattle.tp_search.specs.declared.goals.OpenGoal.{OpenGoal}
use Rattle.tp_search.specs.declared.opening.Opening.{Opening}
use Rattle.tp_search.specs.declared.next_list.Next.{Next}
use Rattle.tp_search.proofs.OpeningSame.{before-same, stored-same}
use Rattle.tp_search.proofs.PlaceSteps.{parent-same}
use Rattle.tp_search.proofs.SearchFresh.{next-all_acts, next-fresh, next-going, next-no_child}
use Rattle.tp_search.proofs.SearchNext.{IsKnownNext}
use Rattle.tp_search.proofs.SearchParents.{child-looked, child-some, one-parent}

-- the opening of the next list, whose children were all looked at
abbrev pub IsOpenedToEnd : Machine → List Plan → Ask → StoreValue → Next → StoreValue → Type 0
IsOpenedToEnd machine plans ask s next s'' =
    IsOpening machine plans ask (next_list machine s next) (next_bound s next) s''.limit (choices_before s.entries (next_node next)) s.entries (up_to (length machine.actions) []) s''.entries s''.capacity s''.full s''.best

module _ (machine : Machine) (plans : List Plan) (ask : Ask) (goals : List OpenGoal) (s : StoreValue) (bound : ℕ) (goals' : List OpenGoal) (s' : StoreValue) (next : Next)
    (searching : IsSearching machine plans ask goals s bound) (known : IsKnownNext machine plans ask goals s bound goals' s' next) (not : ¬ IsComplete machine ask (next_list machine s next)) where
  -- an opening, said of the list that was taken and of the entries as they were then
  pub next-opening : (o' : Opening) (s'' : StoreValue) (p : Progress) → IsSameOpening (opening_of machine s next) o' s' s'' → IsAtProgress machine plans ask o' s'' p
      → IsOpening machine plans ask (next_list machine s next) (next_bound s next) s''.limit (choices_before s.entries (next_node next)) s.entries p s''.entries s''.capacity s''.full s''.best
  next-opening o' s'' p same progress =
      let o = opening_of machine s next in
      let list = next_list machine s next in
      let before = choices_before s.entries (next_node next) in
      let fresh = next-fresh machine plans ask goals s bound goals' s' next searching known not in
      let entries : s'.entries ≡ s.entries = ap (λ (t : StoreValue). t.entries) known.same in
      let is-list = parent-same machine ask o o' s' s'' same fresh ∙ ap (λ es. parent_of machine es list.goal (next_node next)) entries ∙ sym (next-going machine plans ask goals s bound goals' s' next searching known not) in
      let is-before = before-same machine ask o o' s' s'' same fresh ∙ ap (λ es. choices_before es (next_node next)) entries in
      let is-base = stored-same machine ask o o' s' s'' same fresh ∙ ap (take (length s.entries)) entries ∙ take_all (length s.entries) s.entries (omega arith) in
      let first = subst (λ l. IsOpening machine plans ask l o'.bound s''.limit (choices_before s''.entries o'.parent) (take o'.stored s''.entries) p s''.entries s''.capacity s''.full s''.best) is-list progress in
      let second = subst (λ b. IsOpening machine plans ask list b s''.limit (choices_before s''.entries o'.parent) (take o'.stored s''.entries) p s''.entries s''.capacity s''.full s''.best) same.bound first in
      let third = subst (λ cs. IsOpening machine plans ask list (next_bound s next) s''.limit cs (take o'.stored s''.entries) p s''.entries s''.capacity s''.full s''.best) is-before second in
      subst (λ es. IsOpening machine plans ask list (next_bound s next) s''.limit before es p s''.entries s''.capacity s''.full s''.best) is-base third

  pub opened : (o' : Opening) (s'' : StoreValue) → IsSameOpening (opening_of machine s next) o' s' s'' → IsAtProgress machine plans ask o' s'' (up_to (length machine.actions) [])
      → IsOpenedToEnd machine plans ask s next s''
  opened o' s'' same progress = next-opening o' s'' (up_to (length machine.actions) []) same progress

  -- no list that was opened has a greater bound
  pub opened-earlier : (l : ChoiceList) (end : ℕ) → Contains (next_list machine s next ∷ searching.opened) l → IsBound machine plans ask l end → end ≤ next_bound s next
  opened-earlier l end there is = elim (Contains-cons_cases (next_list machine s next) searching.opened l there) [
    | inl same ↦ is.least (next_bound s next) (subst (λ x. OpensTo machine plans ask x (next_bound s next)) same known.is_bound.opens)
    | inr earlier ↦ (let before = searching.opened_earlier l end earlier is in let later = known.later in omega arith)
  ]

  module _ (s'' : StoreValue) (opening : IsOpenedToEnd machine plans ask s next s'') where
    pub new-child : (e : Entry) → Contains opening.new e → IsOpenChild machine plans ask (next_list machine s next) (next_bound s next) (choices_before s.entries (next_node next)) (up_to (length machine.actions) []) e
    new-child e there =
        All-contains (IsOpenChild machine plans ask (next_list machine s next) (next_bound s next) (choices_before s.entries (next_node next)) (up_to (length machine.actions) [])) opening.new e opening.children there

    pub new-list : (l : ChoiceList) → Contains (lists_by machine opening.new) l → IsChild machine ask (next_list machine s next) l
    new-list l there =
        let from = Contains-map_from (λ (e : Entry). list_by machine e.choices) opening.new l there in
        subst (IsChild machine ask (next_list machine s next)) (sym from.2) (new-child from.0 from.1).is_child

    -- each child that opens to an end within the limit was stored, unless the store is full
    pub child-stored : s''.full ≡ false → (l : ChoiceList) → IsChild machine ask (next_list machine s next) l → OpensWithin machine plans ask s''.limit l → Contains (lists_by machine opening.new) l
    child-stored not-full l child opens = elim (opening.reached l child (child-looked machine plans ask (next_list machine s next) l child (opens.end, opens.opens)) opens) [
      | inl full ↦ absurd (false≢true (sym not-full ∙ full))
      | inr there ↦ there
    ]

    new-entry : (e : Entry) → Contains opening.new e → IsOpenEntry machine plans ask e
    new-entry e there =
        let child = new-child e there in
        let before = choices_before s.entries (next_node next) in
        let goals-of : HaveGoal child.newest.goal before = subst (λ g. HaveGoal g before) (sym child.goal) known.same_goal in
        let formed : IsStoredList child.newest.goal (child.newest ∷ before) = record {
          some = omega arith;
          goals = All-cons (λ (c : Stored). c.goal ≡ child.newest.goal) child.newest before refl goals-of;
          acts = next-all_acts machine plans ask goals s bound goals' s' next searching known not;
        } in
        record {
          formed = subst (λ cs. IsStoredList (list_by machine cs).goal cs) (sym child.choices) formed;
          some = child-some child.is_child;
          is_bound = child.is_bound;
        }

    pub all-entries : All (IsOpenEntry machine plans ask) s''.entries
    all-entries =
        subst (All (IsOpenEntry machine plans ask)) (sym opening.grown)
        (All-append (IsOpenEntry machine plans ask) s.entries opening.new searching.entries (All-from_contains (IsOpenEntry machine plans ask) opening.new new-entry))

    pub all-apart : AllPairs (λ (a b : Entry). list_by machine a.choices ≢ list_by machine b.choices) s''.entries
    all-apart =
        let differ = λ (a b : Entry). list_by machine a.choices ≢ list_by machine b.choices in
        subst (AllPairs differ) (sym opening.grown) (AllPairs-append differ s.entries opening.new searching.entries_apart opening.apart across) where
          across : All (λ (a : Entry). All (λ (b : Entry). list_by machine a.choices ≢ list_by machine b.choices) opening.new) s.entries
          across = All-from_contains (λ (a : Entry). All (λ (b : Entry). list_by machine a.choices ≢ list_by machine b.choices) opening.new) s.entries
              (λ a old. All-from_contains (λ (b : Entry). list_by machine a.choices ≢ list_by machine b.choices) opening.new
              (λ b there same. next-no_child machine plans ask goals s bound goals' s' next searching known not a old (subst (IsChild machine ask (next_list machine s next)) (sym same) (new-child b there).is_child)))

    both-lists : lists_by machine s''.entries ≡ lists_by machine s.entries ++ lists_by machine opening.new
    both-lists = ap (lists_by machine) opening.grown ∙ map-append (λ (e : Entry). list_by machine e.choices) s.entries opening.new

    -- a stored list was stored before, or is new
    pub stored-cases : (l : ChoiceList) → Contains (lists_by machine s''.entries) l → Contains (lists_by machine s.entries) l ⊎ Contains (lists_by machine opening.new) l
    stored-cases l there = Contains-append_cases (lists_by machine s.entries) (lists_by machine opening.new) l (subst (λ ls. Contains ls l) both-lists there)

    pub stored-on : (l : ChoiceList) → IsStoredOrEmpty (lists_by machine s.entries) l → IsStoredOrEmpty (lists_by machine s''.entries) l
    stored-on l (inl there) = inl (subst (λ ls. Contains ls l) (sym both-lists) (Contains-append_left (lists_by machine s.entries) (lists_by machine opening.new) l there))
    stored-on l (inr empty) = inr empty

    -- the parent of a stored list was opened
    pub from-opened : (parent child : ChoiceList) → Contains (lists_by machine s''.entries) child → IsChild machine ask parent child → Contains (next_list machine s next ∷ searching.opened) parent
    from-opened parent child there is-child = elim (stored-cases child there) [
      | inl old ↦ Contains-later (next_list machine s next) searching.opened parent (searching.from_opened parent child old is-child)
      | inr new ↦ subst (Contains (next_list machine s next ∷ searching.opened)) (one-parent machine ask (next_list machine s next) parent child (new-list child new) is-child)
          (Contains-here (next_list machine s next) searching.opened)
    ]
