-- A search goes on: after the list that was taken was opened, and the store is not full.
use Rattle.std.proofs.Common.{◌≡◌, ◌⊎◌, inl, inr, ℕ, ◌<◌, ◌≤◌, false, List, [], ◌∷◌, ◌++◌, length, All, Contains, sym, ap, subst, ◌∙◌, arith}
use Rattle.tp_machine.specs.declared.machine.Machine.{Machine}
use Rattle.tp_pool.specs.Entries.{Entry, bound_of, entry_at}
use Rattle.tp_schedule.specs.Choices.{ChoiceList, IsChild, IsComplete}
use Rattle.tp_schedule.specs.SpentBudget.{IsStoredOrEmpty}
use Rattle.tp_schedule.specs.declared.parts.Ask.{Ask}
use Rattle.tp_schedule.specs.declared.parts.Plan.{Plan}
use Rattle.tp_schedule.proofs.Membership.{Contains-cons_cases, Contains-here, Contains-later}
use Rattle.tp_choices.specs.Parents.{ParentBound}
use Rattle.tp_choices.specs.Searches.{IsKnown}
use Rattle.tp_search.specs.Limits.{IsLimitKept, IsSearchedTo, OpensWithin}
use Rattle.tp_search.specs.OpenedLists.{IsAtProgress, IsSameOpening}
use Rattle.tp_search.specs.OpenedLists.Progress.{up_to}
use Rattle.tp_search.specs.SearchProgress.{IsNext, IsSearching, next_bound, next_list, opening_of, waiting_in}
use Rattle.tp_search.specs.Stored.{list_by, lists_by}
use Rattle.tp_search.specs.Stores.{HasBounds, StoreGrows, StoreValue}
use Rattle.tp_search.specs.declared.goals.OpenGoal.{OpenGoal}
use Rattle.tp_search.specs.declared.opening.Opening.{Opening}
use Rattle.tp_search.specs.declared.next_list.Next.{Next}
use Rattle.tp_search.proofs.LimitFacts.{within-before}
use Rattle.tp_search.proofs.SearchGrown.{entry-new, entry-stays, grown-come, grown-known, grown-only, grown-stay}
use Rattle.tp_search.proofs.SearchNext.{IsKnownNext, next-known}
use Rattle.tp_search.proofs.SearchOpened.{IsOpenedToEnd, all-apart, all-entries, child-stored, from-opened, new-child, new-list, opened, opened-earlier, stored-on}
use Rattle.tp_search.proofs.SearchParents.{child-other, child-some}

module _ (machine : Machine) (plans : List Plan) (ask : Ask) (goals : List OpenGoal) (s : StoreValue) (bound : ℕ) (goals' : List OpenGoal) (s' : StoreValue) (next : Next)
    (searching : IsSearching machine plans ask goals s bound) (known : IsKnownNext machine plans ask goals s bound goals' s' next) (not : ¬ IsComplete machine ask (next_list machine s next)) (law : ParentBound)
    (s'' : StoreValue) (opening : IsOpenedToEnd machine plans ask s next s'') (grows : StoreGrows s' s'') where
  abbrev list : ChoiceList
  list = next_list machine s next

  -- the lists that were opened, with this one
  abbrev more : List ChoiceList
  more = list ∷ searching.opened

  -- taking it changed no entry
  same-entries : s'.entries ≡ s.entries
  same-entries = ap (λ (t : StoreValue). t.entries) known.same

  grown : s''.entries ≡ s'.entries ++ opening.new
  grown = opening.grown ∙ ap (λ es. es ++ opening.new) (sym same-entries)

  waits-within : (node : ℕ) → Contains s'.waits node → node < length s'.entries
  waits-within node there = subst (λ es. node < length es) (sym same-entries) (searching.waits_known node (known.nodes node there))

  still-waits : (l : ChoiceList) → Contains (waiting_in machine goals' s') l → Contains (waiting_in machine goals' s'') l
  still-waits = grown-stay machine goals' s' s'' opening.new grown grows waits-within

  new-waits : (l : ChoiceList) → Contains (lists_by machine opening.new) l → Contains (waiting_in machine goals' s'') l
  new-waits = grown-come machine goals' s' s'' opening.new grown grows waits-within

  waits-cases : (l : ChoiceList) → Contains (waiting_in machine goals' s'') l → Contains (waiting_in machine goals' s') l ⊎ Contains (lists_by machine opening.new) l
  waits-cases = grown-only machine goals' s' s'' opening.new grown grows waits-within

  is-new : (l : ChoiceList) → Contains (lists_by machine opening.new) l → IsChild machine ask list l
  is-new = new-list machine plans ask goals s bound goals' s' next searching known not s'' opening

  -- what was known is known
  known-on : (l : ChoiceList) → IsKnown machine plans ask (waiting_in machine goals s) searching.opened l → IsKnown machine plans ask (waiting_in machine goals' s'') more l
  known-on l (inl waited) = elim (known.stay l waited) [
    | inl same ↦ inr (subst (Contains more) (sym same) (Contains-here list searching.opened))
    | inr still ↦ inl (still-waits l still)
  ]
  known-on l (inr opened) = inr (Contains-later list searching.opened l opened)

  -- what is within the limit now was so before
  before : (l : ChoiceList) → OpensWithin machine plans ask s''.limit l → OpensWithin machine plans ask s.limit l
  before l opens =
      let kept = subst (λ m. IsLimitKept m s''.limit) (ap (λ (t : StoreValue). t.limit) known.same) grows.limit in
      record { end = opens.end; opens = opens.opens; within = within-before s.limit s''.limit kept opens.end opens.within }

  searched-on : s''.full ≡ false → IsSearchedTo machine plans ask s''.limit (waiting_in machine goals' s'') more
  searched-on not-full = record {
    starts = λ l empty opens. known-on l (searching.searched.starts l empty opens);
    spread = λ l child there is-child opens. elim (Contains-cons_cases list searching.opened l there) [
      | inl same ↦ inl (new-waits child (child-stored machine plans ask goals s bound goals' s' next searching known not s'' opening not-full child (subst (λ p. IsChild machine ask p child) (sym same) is-child) opens))
      | inr earlier ↦ known-on child (searching.searched.spread l child earlier is-child (before child opens))
    ];
    unfinished = λ l there complete. elim (Contains-cons_cases list searching.opened l there) [
      | inl same ↦ not (subst (IsComplete machine ask) (sym same) complete)
      | inr earlier ↦ searching.searched.unfinished l earlier complete
    ];
  }

  opened-stored : (l : ChoiceList) → Contains more l → IsStoredOrEmpty (lists_by machine s''.entries) l
  opened-stored l there = elim (Contains-cons_cases list searching.opened l there) [
    | inl same ↦ on l (subst (IsStoredOrEmpty (lists_by machine s.entries)) same known.stored)
    | inr earlier ↦ on l (searching.opened_stored l earlier)
  ] where
    on : (l : ChoiceList) → IsStoredOrEmpty (lists_by machine s.entries) l → IsStoredOrEmpty (lists_by machine s''.entries) l
    on = stored-on machine plans ask goals s bound goals' s' next searching known not s'' opening

  -- a child was not opened
  new-unopened : (l : ChoiceList) → IsChild machine ask list l → ¬ Contains more l
  new-unopened l child there = elim (Contains-cons_cases list searching.opened l there) [
    | inl same ↦ child-other child (sym same)
    | inr earlier ↦ elim (searching.opened_stored l earlier) [
      | inl stored ↦ searching.unopened list known.waited (searching.from_opened list l stored child)
      | inr empty ↦ child-some child empty
    ]
  ]

  unopened-on : (l : ChoiceList) → Contains (waiting_in machine goals' s'') l → ¬ Contains more l
  unopened-on l there opened = elim (waits-cases l there) [
    | inl old ↦
        let waited = known.only l old in
        elim (Contains-cons_cases list searching.opened l opened) [
          | inl same ↦ waited.1 (sym same)
          | inr earlier ↦ searching.unopened l waited.0 earlier
        ]
    | inr new ↦ new-unopened l (is-new l new) opened
  ]

  waits-later : ((node : ℕ) → Contains s'.waits node → next_bound s next ≤ bound_of s.entries node) → (node : ℕ) → Contains s''.waits node → next_bound s next ≤ bound_of s''.entries node
  waits-later later node there = elim (grows.only node there) [
    | inl old ↦
        let stays = entry-stays machine goals' s' s'' opening.new grown node (waits-within node old) ∙ ap (λ es. entry_at es node) same-entries in
        subst (λ (e : Entry). next_bound s next ≤ e.bound) (sym stays) (later node old)
    | inr new ↦
        let e = entry_at s''.entries node in
        let child = new-child machine plans ask goals s bound goals' s' next searching known not s'' opening e (entry-new machine goals' s' s'' opening.new grown node new.0 new.1) in
        law machine plans ask list (list_by machine e.choices) (next_bound s next) e.bound child.is_child known.is_bound child.is_bound
  ]

  range-on : HasBounds machine ask s''
  range-on =
      let base = grows.base ∙ ap (λ (t : StoreValue). t.base) known.same in
      let width = grows.width ∙ ap (λ (t : StoreValue). t.width) known.same in
      let first = searching.range.0 in
      let last = searching.range.1 in
      (omega arith, omega arith)

  search-on : All (λ (g : OpenGoal). next_bound s next ≤ g.bound) goals' → ((node : ℕ) → Contains s'.waits node → next_bound s next ≤ bound_of s.entries node) → s''.full ≡ false
      → IsSearching machine plans ask goals' s'' (next_bound s next)
  search-on goals-later later not-full = record {
    opened = more;
    searched = searched-on not-full;
    met = opening.met;
    goals_bound = known.goals_bound;
    goals_apart = known.goals_apart;
    goals_later = goals-later;
    entries = all-entries machine plans ask goals s bound goals' s' next searching known not s'' opening;
    entries_apart = all-apart machine plans ask goals s bound goals' s' next searching known not s'' opening;
    waits_known = grown-known machine goals' s' s'' opening.new grown grows waits-within;
    waits_later = waits-later later;
    opened_stored = opened-stored;
    from_opened = from-opened machine plans ask goals s bound goals' s' next searching known not s'' opening;
    opened_earlier = opened-earlier machine plans ask goals s bound goals' s' next searching known not;
    unopened = unopened-on;
    has_best = opening.has_best;
    not_full = not-full;
    range = range-on;
  }

-- the search goes on, at the bound of the list that was taken
pub searching-on : (machine : Machine) (plans : List Plan) (ask : Ask) (goals : List OpenGoal) (s : StoreValue) (bound : ℕ) (goals' : List OpenGoal) (s' : StoreValue) (next : Next) (o' : Opening) (s'' : StoreValue)
    → IsSearching machine plans ask goals s bound → IsNext goals s goals' s' next → ¬ IsComplete machine ask (next_list machine s next) → ParentBound → IsSameOpening (opening_of machine s next) o' s' s''
    → IsAtProgress machine plans ask o' s'' (up_to (length machine.actions) []) → s''.full ≡ false → IsSearching machine plans ask goals' s'' (next_bound s next)
searching-on machine plans ask goals s bound goals' s' next o' s'' searching is not law same progress not-full =
    let known = next-known machine plans ask goals s bound searching goals' s' next is in
    let opening = opened machine plans ask goals s bound goals' s' next searching known not o' s'' same progress in
    search-on machine plans ask goals s bound goals' s' next searching known not law s'' opening same.grows is.goals_later is.waits_later not-full
