-- What is known where a search ends: no answer ends before the bound to which it has come, the best complete list has its
-- bound, and the list that is opened is not complete.
use Rattle.std.proofs.Common.{◌≡◌, inl, inr, ◌<◌, ◌≤◌, ℕ, List, [], ◌++◌, length, map, Contains, Option, Some, None, IfSome, ap, subst, ◌∙◌, le_trans, arith}
use Rattle.std.proofs.lemmas.List.{length-map}
use Rattle.std.proofs.lemmas.List.Elements.{All-contains, Contains-get_or}
use Rattle.tp_choices.specs.Frontiers.{FrontierEnds, NoneOpensBelow}
use Rattle.tp_choices.specs.Searches.{EndedHasFew, IsSearched, SearchFronts}
use Rattle.tp_machine.specs.Machines.{IsMachine}
use Rattle.tp_machine.specs.declared.machine.Machine.{Machine}
use Rattle.tp_pool.specs.Entries.{Entry, bound_of, choices_of, entry_at}
use Rattle.tp_schedule.specs.Answers.{IsAlternative, IsAsked, NoneBefore}
use Rattle.tp_schedule.specs.Choices.{IsBound, IsComplete, OpensTo}
use Rattle.tp_schedule.specs.PlannerAnswers.{IsKnownGoal}
use Rattle.tp_schedule.specs.Legality.{IsLegal}
use Rattle.tp_schedule.specs.SpentBudget.{FewListsOpen}
use Rattle.tp_schedule.specs.declared.parts.Ask.{Ask}
use Rattle.tp_schedule.specs.declared.parts.Plan.{Plan}
use Rattle.tp_search.specs.StoredLists.{IsStoredList}
use Rattle.tp_search.specs.Limits.{IsSearchedTo, IsWithin}
use Rattle.tp_search.specs.SearchProgress.{IsBestLater, IsNext, IsSearching, list_at, list_of_goal, next_bound, next_list, waiting_in}
use Rattle.tp_search.specs.Stored.{HasBest, list_by, lists_by}
use Rattle.tp_search.specs.Stores.{StoreValue}
use Rattle.tp_search.specs.declared.goals.OpenGoal.{OpenGoal}
use Rattle.tp_search.specs.declared.next_list.Next.{Next}
use Rattle.tp_search.specs.declared.next_list.Next.TheVariants.{Goal, Node}
use Rattle.tp_constraints.proofs.WayAnswers.{goal-incomplete}
use Rattle.tp_search.proofs.LimitFacts.{bound-within, no-limit, none-before-within, searched-whole}
use Rattle.tp_search.proofs.SearchNext.{IsKnownNext, entry-open, next-known, waiting-cases}

-- the list of this node is complete and ends first
pub record IsBestList (machine : Machine) (plans : List Plan) (ask : Ask) (s : StoreValue) (node : ℕ) : Type 0 where
  pub there : node < length s.entries
  pub complete : IsComplete machine ask (list_at machine s.entries node)
  pub is_bound : IsBound machine plans ask (list_at machine s.entries node) (bound_of s.entries node)
  pub formed : IsStoredList (list_at machine s.entries node).goal (choices_of s.entries node)
  pub none_before : NoneBefore machine plans ask (bound_of s.entries node)

module _ (machine : Machine) (plans : List Plan) (ask : Ask) (goals : List OpenGoal) (s : StoreValue) (bound : ℕ) (searching : IsSearching machine plans ask goals s bound) where
  none-waits : goals ≡ [] → s.waits ≡ [] → waiting_in machine goals s ≡ []
  none-waits no-goals no-nodes = ap (λ gs. map list_of_goal gs ++ map (list_at machine s.entries) s.waits) no-goals ∙ ap (map (list_at machine s.entries)) no-nodes

  -- where no list waits there is no limit, and each open child was opened
  whole-ended : goals ≡ [] → s.waits ≡ [] → IsSearched machine plans ask [] searching.opened
  whole-ended no-goals no-nodes =
      let searched = subst (λ ls. IsSearchedTo machine plans ask s.limit ls searching.opened) (none-waits no-goals no-nodes) searching.searched in
      searched-whole machine plans ask s.limit [] searching.opened searched (no-limit machine plans ask s.limit searching.opened searched searching.met)

  -- nor is there an answer
  pub searching-never : SearchFronts → FrontierEnds → IsLegal machine plans → IsAsked machine plans ask → goals ≡ [] → s.waits ≡ [] → (plans' : List Plan) → IsAlternative machine plans ask plans' → ⊥
  searching-never fronts ends legal asked no-goals no-nodes = ends machine plans ask legal asked (fronts machine plans ask [] searching.opened (whole-ended no-goals no-nodes))

  -- nor are there more open lists with choices than nodes
  pub searching-few : EndedHasFew → length s.entries ≤ s.capacity → goals ≡ [] → s.waits ≡ [] → FewListsOpen machine plans ask s.capacity
  searching-few ended within no-goals no-nodes lists differ each =
      let few = ended machine plans ask searching.opened (lists_by machine s.entries) (whole-ended no-goals no-nodes) searching.opened_stored lists differ each in
      omega (arith, few, within, length-map s.entries (λ (e : Entry). list_by machine e.choices))

  module _ (goals' : List OpenGoal) (s' : StoreValue) (next : Next) (is-next : IsNext goals s goals' s' next) where
    known : IsKnownNext machine plans ask goals s bound goals' s' next
    known = next-known machine plans ask goals s bound searching goals' s' next is-next

    -- no list that waits opens below the bound of the one that is taken
    pub next-below : NoneOpensBelow machine plans ask (waiting_in machine goals s) (next_bound s next)
    next-below list waits end opens = elim (known.stay list waits) [
      | inl same ↦ known.is_bound.least end (subst (λ l. OpensTo machine plans ask l end) same opens)
      | inr stays ↦ elim (waiting-cases machine goals' s' list stays) [
        | inl (g, there, is) ↦
            let bound-of = All-contains (λ (h : OpenGoal). IsBound machine plans ask (list_of_goal h) h.bound) goals' g known.goals_bound there in
            let least = bound-of.least end (subst (λ l. OpensTo machine plans ask l end) is opens) in
            let later = All-contains (λ (h : OpenGoal). next_bound s next ≤ h.bound) goals' g is-next.goals_later there in
            omega arith
        | inr (n, there, is) ↦
            let at : list ≡ list_at machine s.entries n = is ∙ ap (λ (t : StoreValue). list_at machine t.entries n) known.same in
            let entry = entry-open machine plans ask goals s bound searching n (searching.waits_known n (known.nodes n there)) in
            let least = entry.is_bound.least end (subst (λ l. OpensTo machine plans ask l end) at opens) in
            let later = is-next.waits_later n there in
            omega arith
      ]
    ]

    -- it is within the limit
    pub next-within : IsWithin s.limit (next_bound s next)
    next-within = bound-within machine plans ask s.limit (waiting_in machine goals s) searching.opened (next_bound s next) searching.searched searching.met next-below

    -- so no answer ends before it
    pub next-none_before : IsLegal machine plans → IsAsked machine plans ask → NoneBefore machine plans ask (next_bound s next)
    next-none_before legal asked =
        none-before-within machine plans ask s.limit (waiting_in machine goals s) searching.opened searching.searched (next_bound s next) legal asked next-below next-within

    -- a complete list that is stored, with a bound that is not greater, is a best one
    pub searching-best : IsLegal machine plans → IsAsked machine plans ask → (best : ℕ) → s.best ≡ Some best → bound_of s.entries best ≤ next_bound s next → IsBestList machine plans ask s best
    searching-best legal asked best is low =
        let found = subst (HasBest machine ask s.entries) is searching.has_best in
        let entry = entry-open machine plans ask goals s bound searching best found.there in
        let none = next-none_before legal asked in
        record {
          there = found.there;
          complete = found.complete;
          is_bound = entry.is_bound;
          formed = entry.formed;
          none_before = λ plans' a. le_trans low (none plans' a);
        }

    -- where the best complete list has a greater bound, or there is none, each one that is stored has
    module _ (later : IsBestLater s (next_bound s next)) where
      pub complete-later : (e : Entry) → Contains s.entries e → IsComplete machine ask (list_by machine e.choices) → next_bound s next < e.bound
      complete-later e there complete = go s.best searching.has_best later where
        go : (best : Option ℕ) → HasBest machine ask s.entries best → IfSome best (λ b. next_bound s next < bound_of s.entries b) → next_bound s next < e.bound
        go None none late = absurd (none e there complete)
        go (Some best) has late = let low = has.least e there complete in omega arith

      -- so the list that is taken is not complete
      pub next-incomplete : IsMachine machine → IsKnownGoal machine ask.goal → ¬ IsComplete machine ask (next_list machine s next)
      next-incomplete is-machine is-known = go next known complete-later where
        go : (n : Next) → IsKnownNext machine plans ask goals s bound goals' s' n → ((e : Entry) → Contains s.entries e → IsComplete machine ask (list_by machine e.choices) → next_bound s n < e.bound)
            → ¬ IsComplete machine ask (next_list machine s n)
        go (Goal g) k late complete = goal-incomplete machine ask g.state is-machine is-known k.is_bound.opens.is_list.goal complete
        go (Node n) k late complete =
            let above = late (entry_at s.entries n) (Contains-get_or s.entries n (record { choices = []; bound = 0 }) k.parent) complete in
            omega arith
