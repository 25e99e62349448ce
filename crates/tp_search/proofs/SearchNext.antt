-- The list that is taken next: it waited, it is open with its bound, and the others that waited still wait.
use Rattle.std.proofs.Common.{◌≡◌, ◌≢◌, ◌⊎◌, inl, inr, ℕ, ◌<◌, ◌≤◌, List, [], ◌∷◌, ◌++◌, length, drop, map, All, AllPairs, Contains, IsSome, refl, sym, ap, subst, ◌∙◌, arith}
use Rattle.std.proofs.lemmas.Bool.{cases_lt}
use Rattle.std.proofs.lemmas.List.Elements.{All-cons, All-contains, All-head, All-nil, All-tail, Contains-append_cases, Contains-append_left, Contains-append_right, Contains-get_or}
use Rattle.tp_machine.specs.declared.machine.Machine.{Machine}
use Rattle.tp_pool.specs.Entries.{Entry, IsParentOf, choices_before, choices_of, entry_at}
use Rattle.tp_pool.specs.declared.choice.Choice.{Choice as Stored}
use Rattle.tp_schedule.specs.Choices.{ChoiceList, IsBound}
use Rattle.tp_schedule.specs.SpentBudget.{IsStoredOrEmpty}
use Rattle.tp_schedule.specs.declared.parts.Ask.{Ask}
use Rattle.tp_schedule.specs.declared.parts.Plan.{Plan}
use Rattle.tp_schedule.proofs.Membership.{Contains-cons_cases, Contains-here, Contains-later, Contains-map, Contains-map_from}
use Rattle.tp_schedule.proofs.Pairs.{AllPairs-cons, AllPairs-head, AllPairs-tail}
use Rattle.tp_choices.proofs.Lists.{AllPairs-across, AllPairs-append_right}
use Rattle.tp_search.specs.StoredLists.{HaveGoal, IsStoredList}
use Rattle.tp_search.specs.SearchProgress.{IsGoalTaken, IsNext, IsOpenEntry, IsSearching, list_at, list_of_goal, next_bound, next_list, next_node, waiting_in}
use Rattle.tp_search.specs.Stored.{choices_by, list_by, lists_by}
use Rattle.tp_search.specs.Stores.{IsTaken, StoreValue}
use Rattle.tp_search.specs.declared.goals.OpenGoal.{OpenGoal}
use Rattle.tp_search.specs.declared.next_list.Next.{Next}
use Rattle.tp_search.specs.declared.next_list.Next.TheVariants.{Goal, Node}

-- without one of the elements
pub All-without : {X : Type 0} (P : X → Type 0) (before : List X) (x : X) (after : List X) → All P (before ++ x ∷ after) → All P (before ++ after)
All-without P [] x after all = All-tail P x after all
All-without P (y ∷ before) x after all = All-cons P y (before ++ after) (All-head P y (before ++ x ∷ after) all) (All-without P before x after (All-tail P y (before ++ x ∷ after) all))

pub AllPairs-without : {X : Type 0} (R : X → X → Type 0) (before : List X) (x : X) (after : List X) → AllPairs R (before ++ x ∷ after) → AllPairs R (before ++ after)
AllPairs-without R [] x after all = AllPairs-tail R x after all
AllPairs-without R (y ∷ before) x after all =
    AllPairs-cons R y (before ++ after) (All-without (R y) before x after (AllPairs-head R y (before ++ x ∷ after) all)) (AllPairs-without R before x after (AllPairs-tail R y (before ++ x ∷ after) all))

module _ (machine : Machine) (goals : List OpenGoal) (s : StoreValue) where
  pub goal-waits : (g : OpenGoal) → Contains goals g → Contains (waiting_in machine goals s) (list_of_goal g)
  goal-waits g there = Contains-append_left (map list_of_goal goals) (map (list_at machine s.entries) s.waits) (list_of_goal g) (Contains-map list_of_goal goals g there)

  pub node-waits : (n : ℕ) → Contains s.waits n → Contains (waiting_in machine goals s) (list_at machine s.entries n)
  node-waits n there =
      Contains-append_right (map list_of_goal goals) (map (list_at machine s.entries) s.waits) (list_at machine s.entries n) (Contains-map (list_at machine s.entries) s.waits n there)

  -- what waits is a goal's list or a node's
  pub waiting-cases : (l : ChoiceList) → Contains (waiting_in machine goals s) l
      → ((g : OpenGoal) × Contains goals g × (l ≡ list_of_goal g)) ⊎ ((n : ℕ) × Contains s.waits n × (l ≡ list_at machine s.entries n))
  waiting-cases l there = elim (Contains-append_cases (map list_of_goal goals) (map (list_at machine s.entries) s.waits) l there) [
    | inl goal ↦ inl (Contains-map_from list_of_goal goals l goal)
    | inr node ↦ inr (Contains-map_from (list_at machine s.entries) s.waits l node)
  ]

-- what is known of the next list, and of the lists that wait without it
pub record IsKnownNext (machine : Machine) (plans : List Plan) (ask : Ask) (goals : List OpenGoal) (s : StoreValue) (bound : ℕ) (goals' : List OpenGoal) (s' : StoreValue) (next : Next) : Type 0 where
  pub waited : Contains (waiting_in machine goals s) (next_list machine s next)
  pub is_bound : IsBound machine plans ask (next_list machine s next) (next_bound s next)
  pub later : bound ≤ next_bound s next
  pub same : s' ≡ record s { waits = s'.waits }
  pub stay : (l : ChoiceList) → Contains (waiting_in machine goals s) l → (l ≡ next_list machine s next) ⊎ Contains (waiting_in machine goals' s') l
  pub only : (l : ChoiceList) → Contains (waiting_in machine goals' s') l → Contains (waiting_in machine goals s) l × (l ≢ next_list machine s next)
  pub nodes : (node : ℕ) → Contains s'.waits node → Contains s.waits node
  pub goals_bound : All (λ g. IsBound machine plans ask (list_of_goal g) g.bound) goals'
  pub goals_apart : AllPairs (λ a b. a.state ≢ b.state) goals'
  pub stored : IsStoredOrEmpty (lists_by machine s.entries) (next_list machine s next)
  pub parent : IsParentOf (length s.entries) (next_node next)
  pub choices : (next_list machine s next).choices ≡ choices_by machine (choices_before s.entries (next_node next))
  pub same_goal : HaveGoal (next_list machine s next).goal (choices_before s.entries (next_node next))
  pub acts : All (λ c. IsSome c.act) (drop 1 (choices_before s.entries (next_node next)))

module _ (machine : Machine) (plans : List Plan) (ask : Ask) (goals : List OpenGoal) (s : StoreValue) (bound : ℕ) (searching : IsSearching machine plans ask goals s bound) where
  pub entry-open : (n : ℕ) → n < length s.entries → IsOpenEntry machine plans ask (entry_at s.entries n)
  entry-open n within = searching.entries n (record { choices = []; bound = 0 }) within

  pub node-stored : (n : ℕ) → n < length s.entries → Contains (lists_by machine s.entries) (list_at machine s.entries n)
  node-stored n within = Contains-map (λ (e : Entry). list_by machine e.choices) s.entries (entry_at s.entries n) (Contains-get_or s.entries n (record { choices = []; bound = 0 }) within)

  -- different nodes have different lists
  nodes-apart : (m n : ℕ) → m < length s.entries → n < length s.entries → (m ≡ n → ⊥) → list_at machine s.entries m ≢ list_at machine s.entries n
  nodes-apart m n m-within n-within differ is = elim (cases_lt m n) [
    | inl before ↦ searching.entries_apart m n (record { choices = []; bound = 0 }) before n-within is
    | inr later ↦ elim (cases_lt n m) [
      | inl after ↦ searching.entries_apart n m (record { choices = []; bound = 0 }) after m-within (sym is)
      | inr earlier ↦ differ (omega arith)
    ]
  ]

  -- a goal's list is no node's
  node-no_goal : (n : ℕ) (g : OpenGoal) → Contains s.waits n → list_at machine s.entries n ≢ list_of_goal g
  node-no_goal n g waits is = (entry-open n (searching.waits_known n waits)).some (ap (λ (l : ChoiceList). l.choices) is)

  module _ (goals' : List OpenGoal) where
    known-goal : (g : OpenGoal) → IsGoalTaken goals g goals' → IsKnownNext machine plans ask goals s bound goals' s (Goal g)
    known-goal g taken = record {
      waited = goal-waits machine goals s g in-goals;
      is_bound = All-contains (λ (h : OpenGoal). IsBound machine plans ask (list_of_goal h) h.bound) goals g searching.goals_bound in-goals;
      later = All-contains (λ (h : OpenGoal). bound ≤ h.bound) goals g searching.goals_later in-goals;
      same = refl;
      stay = λ l waits. elim (waiting-cases machine goals s l waits) [
        | inl (h, there, is) ↦ elim (cases h (subst (λ gs. Contains gs h) taken.there there)) [
          | inl same ↦ inl (is ∙ ap list_of_goal same)
          | inr other ↦ inr (subst (Contains (waiting_in machine goals' s)) (sym is) (goal-waits machine goals' s h (subst (λ gs. Contains gs h) (sym taken.rest) other)))
        ]
        | inr (n, there, is) ↦ inr (subst (Contains (waiting_in machine goals' s)) (sym is) (node-waits machine goals' s n there))
      ];
      only = λ l waits. elim (waiting-cases machine goals' s l waits) [
        | inl (h, there, is) ↦
            let other = subst (λ gs. Contains gs h) taken.rest there in (
              subst (Contains (waiting_in machine goals s)) (sym is) (goal-waits machine goals s h (subst (λ gs. Contains gs h) (sym taken.there) (back h other))),
              λ same. apart h other (ap (λ (x : ChoiceList). x.goal) (sym is ∙ same)),
            )
        | inr (n, there, is) ↦ (subst (Contains (waiting_in machine goals s)) (sym is) (node-waits machine goals s n there), λ same. node-no_goal n g there (sym is ∙ same))
      ];
      nodes = λ node waits. waits;
      goals_bound = subst (All (λ (h : OpenGoal). IsBound machine plans ask (list_of_goal h) h.bound)) (sym taken.rest)
          (All-without (λ (h : OpenGoal). IsBound machine plans ask (list_of_goal h) h.bound) taken.before g taken.after
          (subst (All (λ (h : OpenGoal). IsBound machine plans ask (list_of_goal h) h.bound)) taken.there searching.goals_bound));
      goals_apart = subst (AllPairs (λ (a b : OpenGoal). a.state ≢ b.state)) (sym taken.rest) (AllPairs-without (λ (a b : OpenGoal). a.state ≢ b.state) taken.before g taken.after pairs);
      stored = inr refl;
      parent = tt;
      choices = refl;
      same_goal = All-nil (λ (c : Stored). c.goal ≡ g.state);
      acts = All-nil (λ (c : Stored). IsSome c.act);
    } where
      in-goals : Contains goals g
      in-goals = subst (λ gs. Contains gs g) (sym taken.there) (Contains-append_right taken.before (g ∷ taken.after) g (Contains-here g taken.after))

      pairs : AllPairs (λ (a b : OpenGoal). a.state ≢ b.state) (taken.before ++ g ∷ taken.after)
      pairs = subst (AllPairs (λ (a b : OpenGoal). a.state ≢ b.state)) taken.there searching.goals_apart

      cases : (h : OpenGoal) → Contains (taken.before ++ g ∷ taken.after) h → (h ≡ g) ⊎ Contains (taken.before ++ taken.after) h
      cases h there = elim (Contains-append_cases taken.before (g ∷ taken.after) h there) [
        | inl early ↦ inr (Contains-append_left taken.before taken.after h early)
        | inr late ↦ elim (Contains-cons_cases g taken.after h late) [
          | inl same ↦ inl (sym same)
          | inr after ↦ inr (Contains-append_right taken.before taken.after h after)
        ]
      ]

      back : (h : OpenGoal) → Contains (taken.before ++ taken.after) h → Contains (taken.before ++ g ∷ taken.after) h
      back h there = elim (Contains-append_cases taken.before taken.after h there) [
        | inl early ↦ Contains-append_left taken.before (g ∷ taken.after) h early
        | inr late ↦ Contains-append_right taken.before (g ∷ taken.after) h (Contains-later g taken.after h late)
      ]

      apart : (h : OpenGoal) → Contains (taken.before ++ taken.after) h → h.state ≢ g.state
      apart h there = elim (Contains-append_cases taken.before taken.after h there) [
        | inl early ↦ All-head (λ (b : OpenGoal). h.state ≢ b.state) g taken.after (AllPairs-across (λ (a b : OpenGoal). a.state ≢ b.state) taken.before (g ∷ taken.after) h pairs early)
        | inr late ↦ (λ same. All-contains (λ (b : OpenGoal). g.state ≢ b.state) taken.after h
            (AllPairs-head (λ (a b : OpenGoal). a.state ≢ b.state) g taken.after (AllPairs-append_right (λ (a b : OpenGoal). a.state ≢ b.state) taken.before (g ∷ taken.after) pairs)) late (sym same))
      ]

  known-node : (s' : StoreValue) (n : ℕ) → IsTaken s n s' → IsKnownNext machine plans ask goals s bound goals s' (Node n)
  known-node s' n taken = record {
    waited = node-waits machine goals s n taken.waited;
    is_bound = entry.is_bound;
    later = searching.waits_later n taken.waited;
    same = taken.rest;
    stay = λ l waits. elim (waiting-cases machine goals s l waits) [
      | inl (g, there, is) ↦ inr (subst (Contains (waiting_in machine goals s')) (sym is) (goal-waits machine goals s' g there))
      | inr (m, there, is) ↦ elim (taken.stay m there) [
        | inl same ↦ inl (is ∙ ap (list_at machine s.entries) same)
        | inr other ↦ inr (subst (Contains (waiting_in machine goals s')) (ap (λ es. list_at machine es m) entries ∙ sym is) (node-waits machine goals s' m other))
      ]
    ];
    only = λ l waits. elim (waiting-cases machine goals s' l waits) [
      | inl (g, there, is) ↦ (subst (Contains (waiting_in machine goals s)) (sym is) (goal-waits machine goals s g there), λ same. node-no_goal n g taken.waited (sym same ∙ is))
      | inr (m, there, is) ↦
          let old = taken.only m there in
          let at : l ≡ list_at machine s.entries m = is ∙ ap (λ es. list_at machine es m) entries in (
            subst (Contains (waiting_in machine goals s)) (sym at) (node-waits machine goals s m old),
            λ same. nodes-apart m n (searching.waits_known m old) within (λ e. taken.gone (subst (Contains s'.waits) e there)) (sym at ∙ same),
          )
    ];
    nodes = taken.only;
    goals_bound = searching.goals_bound;
    goals_apart = searching.goals_apart;
    stored = inl (node-stored n within);
    parent = within;
    choices = choices-are (choices_of s.entries n);
    same_goal = entry.formed.goals;
    acts = entry.formed.acts;
  } where
    within : n < length s.entries
    within = searching.waits_known n taken.waited

    entry : IsOpenEntry machine plans ask (entry_at s.entries n)
    entry = entry-open n within

    entries : s'.entries ≡ s.entries
    entries = ap (λ (t : StoreValue). t.entries) taken.rest

    choices-are : (cs : List Stored) → (list_by machine cs).choices ≡ choices_by machine cs
    choices-are [] = refl
    choices-are (c ∷ cs) = refl

  pub next-known : (goals' : List OpenGoal) (s' : StoreValue) (next : Next) → IsNext goals s goals' s' next → IsKnownNext machine plans ask goals s bound goals' s' next
  next-known goals' s' (Goal g) is = subst (λ t. IsKnownNext machine plans ask goals s bound goals' t (Goal g)) (sym is.out.1) (known-goal goals' g is.out.0)
  next-known goals' s' (Node n) is = subst (λ gs. IsKnownNext machine plans ask goals s bound gs s' (Node n)) (sym is.out.0) (known-node s' n is.out.1)

  -- the node's choices make a list
  pub next-formed : (n : ℕ) → Contains s.waits n → IsStoredList (list_at machine s.entries n).goal (choices_of s.entries n)
  next-formed n waits = (entry-open n (searching.waits_known n waits)).formed
