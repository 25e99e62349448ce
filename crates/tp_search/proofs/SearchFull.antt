-- What the opening of the list that was taken tells where the store became full: the budget is spent.
use Rattle.std.proofs.Common.{◌≡◌, ◌≢◌, inl, inr, ℕ, true, List, [], ◌∷◌, length, Contains, sym, ap, subst, ◌∙◌, arith}
use Rattle.std.proofs.lemmas.List.{length-map}
use Rattle.std.proofs.lemmas.List.Elements.{All-contains}
use Rattle.tp_choices.specs.Searches.{FullSpends, IsFull, IsKnown}
use Rattle.tp_machine.specs.declared.machine.Machine.{Machine}
use Rattle.tp_pool.specs.Entries.{Entry}
use Rattle.tp_schedule.specs.Answers.{IsAsked}
use Rattle.tp_schedule.specs.Choices.{ChoiceList, IsBound, IsChild, IsComplete, IsOpen, OpensTo}
use Rattle.tp_schedule.specs.Legality.{IsLegal}
use Rattle.tp_schedule.specs.SpentBudget.{IsSpent, IsStoredOrEmpty}
use Rattle.tp_schedule.specs.declared.parts.Ask.{Ask}
use Rattle.tp_schedule.specs.declared.parts.Plan.{Plan}
use Rattle.tp_schedule.proofs.Membership.{Contains-cons_cases, Contains-later, Contains-map_from}
use Rattle.tp_schedule.proofs.Pairs.{AllPairs-map}
use Rattle.tp_search.specs.Limits.{HasNoLimit, IsLimitKept}
use Rattle.tp_search.specs.OpenedLists.{IsAtProgress, IsSameOpening}
use Rattle.tp_search.specs.OpenedLists.Progress.{up_to}
use Rattle.tp_search.specs.SearchProgress.{IsBestLater, IsNext, IsOpenEntry, IsSearching, next_bound, next_list, opening_of, waiting_in}
use Rattle.tp_search.specs.Stored.{list_by, lists_by}
use Rattle.tp_search.specs.Stores.{StoreValue}
use Rattle.tp_search.specs.declared.goals.OpenGoal.{OpenGoal}
use Rattle.tp_search.specs.declared.opening.Opening.{Opening}
use Rattle.tp_search.specs.declared.next_list.Next.{Next}
use Rattle.tp_search.proofs.LimitFacts.{none-before, searched-whole}
use Rattle.tp_search.proofs.SearchEnds.{complete-later, next-below}
use Rattle.tp_search.proofs.SearchNext.{IsKnownNext, next-known, node-stored, waiting-cases}
use Rattle.tp_search.proofs.SearchOpened.{IsOpenedToEnd, all-apart, all-entries, from-opened, new-list, opened, opened-earlier, stored-cases, stored-on}
use Rattle.tp_search.proofs.SearchParents.{child-looked}

-- the opening of the list that was taken, with what was known before it
module _ (machine : Machine) (plans : List Plan) (ask : Ask) (goals : List OpenGoal) (s : StoreValue) (bound : ℕ) (searching : IsSearching machine plans ask goals s bound) (goals' : List OpenGoal) (s' : StoreValue) (next : Next)
    (is-next : IsNext goals s goals' s' next) (incomplete : ¬ IsComplete machine ask (next_list machine s next)) (o' : Opening) (s'' : StoreValue) (same : IsSameOpening (opening_of machine s next) o' s' s'') where
  abbrev last : ChoiceList
  last = next_list machine s next

  known : IsKnownNext machine plans ask goals s bound goals' s' next
  known = next-known machine plans ask goals s bound searching goals' s' next is-next

  -- the store became full
  module _ (progress : IsAtProgress machine plans ask o' s'' (up_to (length machine.actions) [])) (full : s''.full ≡ true) (none : HasNoLimit s''.limit) (later : IsBestLater s (next_bound s next)) where
    at-end : IsOpenedToEnd machine plans ask s next s''
    at-end = opened machine plans ask goals s bound goals' s' next searching known incomplete o' s'' same progress

    -- the last list is one of those that wait
    waits-too : (list : ChoiceList) → Contains (last ∷ waiting_in machine goals s) list → Contains (waiting_in machine goals s) list
    waits-too list there = elim (Contains-cons_cases last (waiting_in machine goals s) list there) [
      | inl same-list ↦ subst (Contains (waiting_in machine goals s)) same-list known.waited
      | inr waits ↦ waits
    ]

    is-known : (list : ChoiceList) → IsKnown machine plans ask (last ∷ waiting_in machine goals s) searching.opened list → IsStoredOrEmpty (lists_by machine s''.entries) list
    is-known list at = stored-on machine plans ask goals s bound goals' s' next searching known incomplete s'' at-end list (before at) where
      before : IsKnown machine plans ask (last ∷ waiting_in machine goals s) searching.opened list → IsStoredOrEmpty (lists_by machine s.entries) list
      before (inl waits) = elim (waiting-cases machine goals s list (waits-too list waits)) [
        | inl (g, there, is) ↦ inr (ap (λ (l : ChoiceList). l.choices) is)
        | inr (n, there, is) ↦ inl (subst (Contains (lists_by machine s.entries)) (sym is) (node-stored machine plans ask goals s bound searching n (searching.waits_known n there)))
      ]
      before (inr done) = searching.opened_stored list done

    chosen : (list : ChoiceList) → Contains (lists_by machine s''.entries) list → IsOpen machine plans ask list × (list.choices ≢ [])
    chosen list there =
        let from = Contains-map_from (λ (e : Entry). list_by machine e.choices) s''.entries list there in
        let entry = All-contains (IsOpenEntry machine plans ask) s''.entries from.0 (all-entries machine plans ask goals s bound goals' s' next searching known incomplete s'' at-end) from.1 in
        subst (λ l. IsOpen machine plans ask l × (l.choices ≢ [])) (sym from.2) ((from.0.bound, entry.is_bound.opens), entry.some)

    -- a complete child with its bound would be an answer
    none-answers : (child : ChoiceList) → IsChild machine ask last child → IsComplete machine ask child → IsBound machine plans ask child (next_bound s next) → ⊥
    none-answers child is-child complete is-bound =
        let looked = child-looked machine plans ask last child is-child (next_bound s next, is-bound.opens) in
        at-end.finished child looked (record { is_child = is-child; complete = complete; is_bound = is-bound })

    none-complete : (list : ChoiceList) → Contains (lists_by machine s''.entries) list → IsComplete machine ask list → IsBound machine plans ask list (next_bound s next) → ⊥
    none-complete list there complete is-bound = elim (stored-cases machine plans ask goals s bound goals' s' next searching known incomplete s'' at-end list there) [
      | inl old ↦
          let from = Contains-map_from (λ (e : Entry). list_by machine e.choices) s.entries list old in
          let entry = All-contains (IsOpenEntry machine plans ask) s.entries from.0 searching.entries from.1 in
          let late = complete-later machine plans ask goals s bound searching goals' s' next is-next later from.0 from.1 (subst (IsComplete machine ask) from.2 complete) in
          let least = entry.is_bound.least (next_bound s next) (subst (λ l. OpensTo machine plans ask l (next_bound s next)) from.2 is-bound.opens) in
          omega arith
      | inr new ↦ none-answers list (new-list machine plans ask goals s bound goals' s' next searching known incomplete s'' at-end list new) complete is-bound
    ]

    -- the search stands where it must store one list too many
    is-full : IsFull machine plans ask (waiting_in machine goals s) searching.opened (lists_by machine s''.entries) last (next_bound s next)
    is-full =
        let missing = at-end.spent full in
        let kept = subst (λ m. IsLimitKept m s''.limit) (ap (λ (t : StoreValue). t.limit) known.same) same.grows.limit in
        let whole = searched-whole machine plans ask s.limit (waiting_in machine goals s) searching.opened searching.searched (none-before s.limit s''.limit kept none) in
        record {
          searched = record {
            starts = λ list none opens. elim (searching.searched.starts list none opens) [ inl waits ↦ inl (Contains-later last (waiting_in machine goals s) list waits) | inr done ↦ inr done ];
            spread = λ list child done is-child opens. elim (whole.spread list child done is-child opens) [ inl waits ↦ inl (Contains-later last (waiting_in machine goals s) child waits) | inr too ↦ inr too ];
            unfinished = searching.searched.unfinished;
          };
          different = AllPairs-map (λ (a b : Entry). list_by machine a.choices ≢ list_by machine b.choices) (λ a b. a ≢ b) (λ e. Unit {0}) (λ (e : Entry). list_by machine e.choices) s''.entries (λ k d below. tt)
              (all-apart machine plans ask goals s bound goals' s' next searching known incomplete s'' at-end) (λ a b x y differ. differ);
          chosen = chosen;
          known = is-known;
          from_opened = from-opened machine plans ask goals s bound goals' s' next searching known incomplete s'' at-end;
          in_rising_order = opened-earlier machine plans ask goals s bound goals' s' next searching known incomplete;
          last_bound = known.is_bound;
          none_below = λ list there. next-below machine plans ask goals s bound searching goals' s' next is-next list (waits-too list there);
          missing = (missing.child, missing.is_child, missing.is_open, missing.not_stored);
          none_stored_complete = none-complete;
          no_child_complete = none-answers;
        }

    -- so the budget is spent
    pub searching-full : FullSpends → IsLegal machine plans → IsAsked machine plans ask → IsSpent machine plans ask s.capacity (next_bound s next)
    searching-full spends legal asked =
        let many : length (lists_by machine s''.entries) ≡ s''.capacity = length-map s''.entries (λ (e : Entry). list_by machine e.choices) ∙ (at-end.spent full).all in
        let room = many ∙ same.grows.capacity ∙ ap (λ (t : StoreValue). t.capacity) known.same in
        subst (λ n. IsSpent machine plans ask n (next_bound s next)) room
        (spends machine plans ask (waiting_in machine goals s) searching.opened (lists_by machine s''.entries) last (next_bound s next) legal asked is-full)
