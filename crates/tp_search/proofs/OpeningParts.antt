-- What is known while a list is opened, with one child more that was looked at.
use Rattle.std.proofs.Common.{◌≡◌, ◌≢◌, ◌⊎◌, ◌↔◌, inl, inr, ℕ, Bool, true, IsTrue, List, [], ◌∷◌, ◌++◌, length, All, Contains, Option, get_or, refl, sym, ap, subst, ◌∙◌, arith}
use Rattle.std.proofs.lemmas.List.{append_assoc, map-append}
use Rattle.std.proofs.lemmas.List.Elements.{All-contains, All-push, All-weaker, Contains-append_cases, Contains-append_left, Contains-get_or, Contains-push}
use Rattle.std.proofs.lemmas.List.Quantifiers.{all_pairs_push}
use Rattle.tp_machine.specs.declared.machine.Machine.{Machine}
use Rattle.tp_pool.specs.Entries.{Entry}
use Rattle.tp_pool.specs.declared.choice.Choice.{Choice as Stored}
use Rattle.tp_schedule.specs.Choices.{ChoiceList, IsBound, IsChild, IsComplete, IsOpen, OpensTo}
use Rattle.tp_schedule.specs.declared.parts.Ask.{Ask}
use Rattle.tp_schedule.specs.declared.parts.Plan.{Plan}
use Rattle.tp_schedule.proofs.Membership.{Contains-map_from}
use Rattle.tp_search.specs.Limits.{OpensWithin}
use Rattle.tp_search.specs.declared.store.Limit.{Limit}
use Rattle.tp_search.specs.OpenedLists.{Answers, IsLooked, IsOpenChild, IsOpening, Progress}
use Rattle.tp_search.specs.Stored.{list_by, lists_by}
use Rattle.tp_search.specs.Stores.{better}
use Rattle.tp_search.proofs.BestFacts.{best-more}

module _ (machine : Machine) (plans : List Plan) (ask : Ask) (parent : ChoiceList) where
  -- by one open child, the progress comes from here to there
  pub record IsStep (before after : Progress) (child : ChoiceList) : Type 0 where
    pub more : (l : ChoiceList) → IsLooked before l → IsLooked after l
    pub new : IsLooked before child → ⊥
    pub there : IsLooked after child
    pub only : (l : ChoiceList) → IsChild machine ask parent l → IsLooked after l → IsOpen machine plans ask l → IsLooked before l ⊎ (l ≡ child)

module _ (machine : Machine) (plans : List Plan) (ask : Ask) (parent : ChoiceList) (bound : ℕ) (limit : Limit) (old : List Stored) (base : List Entry) (before after : Progress) (entries : List Entry) (room : ℕ) (full : Bool) (best : Option ℕ) (child : ChoiceList) (b : ℕ)
    (opening : IsOpening machine plans ask parent bound limit old base before entries room full best) (step : IsStep machine plans ask parent before after child) (is-child : IsChild machine ask parent child) (is-bound : IsBound machine plans ask child b) where
  -- the open children that were looked at go on with the progress
  children-on : All (IsOpenChild machine plans ask parent bound old after) opening.new
  children-on = All-weaker _ _ on opening.new opening.children where
    on : (e : Entry) → IsOpenChild machine plans ask parent bound old before e → IsOpenChild machine plans ask parent bound old after e
    on e is = record { newest = is.newest; choices = is.choices; is_child = is.is_child; goal = is.goal; looked = step.more (list_by machine e.choices) is.looked; is_bound = is.is_bound }

  -- a child with another bound, or that isn't complete, finishes nothing
  finished-on : (IsComplete machine ask child → b ≡ bound → ⊥) → (l : ChoiceList) → IsLooked after l → ¬ Answers machine plans ask parent bound l
  finished-on other l looked answers = elim (step.only l answers.is_child looked (bound, answers.is_bound.opens)) [
    | inl earlier ↦ opening.finished l earlier answers
    | inr is ↦
        let least = is-bound.least bound (subst (λ x. OpensTo machine plans ask x bound) is answers.is_bound.opens) in
        let most = answers.is_bound.least b (subst (λ x. OpensTo machine plans ask x b) (sym is) is-bound.opens) in
        other (subst (IsComplete machine ask) is answers.complete) (omega arith)
  ]

  -- the child is none of those that were stored
  not-new : (e : Entry) → Contains opening.new e → list_by machine e.choices ≡ child → ⊥
  not-new e there is = step.new (subst (IsLooked before) is (All-contains (IsOpenChild machine plans ask parent bound old before) opening.new e opening.children there).looked)

  -- where the store is full, the child is missing
  pub opening-full : (IsComplete machine ask child → b ≡ bound → ⊥) → ((e : Entry) → Contains base e → ¬ IsChild machine ask parent (list_by machine e.choices)) → length entries ≡ room
      → IsOpening machine plans ask parent bound limit old base after entries room true best
  opening-full other none all = record {
    in_limit = opening.in_limit;
    met = opening.met;
    new = opening.new;
    grown = opening.grown;
    children = children-on;
    apart = opening.apart;
    reached = λ l l-child looked opens. inl refl;
    finished = finished-on other;
    spent = λ is. record { all = all; child = child; is_child = is-child; is_open = (b, is-bound.opens); not_stored = missing };
    has_best = opening.has_best;
  } where
    missing : Contains (lists_by machine entries) child → ⊥
    missing there =
        let from = Contains-map_from (λ (e : Entry). list_by machine e.choices) entries child there in
        elim (Contains-append_cases base opening.new from.0 (subst (λ es. Contains es from.0) opening.grown from.1)) [
          | inl early ↦ none from.0 early (subst (IsChild machine ask parent) from.2 is-child)
          | inr late ↦ not-new from.0 late (sym from.2)
        ]

  -- and otherwise it is stored
  pub opening-stored : (IsComplete machine ask child → b ≡ bound → ⊥) → (length entries ≡ room → ⊥) → (c : Stored) → list_by machine (c ∷ old) ≡ child → c.goal ≡ parent.goal → (complete : Bool) → (IsTrue complete ↔ IsComplete machine ask child)
      → IsOpening machine plans ask parent bound limit old base after (entries ++ record { choices = c ∷ old; bound = b } ∷ []) room full (better entries complete b (length entries) best)
  opening-stored other space c is goal complete exactly = record {
    in_limit = opening.in_limit;
    met = opening.met;
    new = opening.new ++ e ∷ [];
    grown = ap (λ es. es ++ e ∷ []) opening.grown ∙ append_assoc base opening.new (e ∷ []);
    children = All-push (IsOpenChild machine plans ask parent bound old after) opening.new e children-on here;
    apart = all_pairs_push (λ x y. list_by machine x.choices ≢ list_by machine y.choices) opening.new e opening.apart (λ k d within same. not-new (get_or opening.new k d) (Contains-get_or opening.new k d within) (same ∙ is));
    reached = reached;
    finished = finished-on other;
    spent = λ is-full. absurd (space (opening.spent is-full).all);
    has_best = best-more machine ask entries e complete best (subst (λ l. IsTrue complete ↔ IsComplete machine ask l) (sym is) exactly) opening.has_best;
  } where
    e : Entry
    e = record { choices = c ∷ old; bound = b }

    here : IsOpenChild machine plans ask parent bound old after e
    here = record {
      newest = c;
      choices = refl;
      goal = goal;
      is_child = subst (IsChild machine ask parent) (sym is) is-child;
      looked = subst (IsLooked after) (sym is) step.there;
      is_bound = subst (λ x. IsBound machine plans ask x b) (sym is) is-bound;
    }

    lists : lists_by machine (opening.new ++ e ∷ []) ≡ lists_by machine opening.new ++ list_by machine (c ∷ old) ∷ []
    lists = map-append (λ (x : Entry). list_by machine x.choices) opening.new (e ∷ [])

    reached : (l : ChoiceList) → IsChild machine ask parent l → IsLooked after l → OpensWithin machine plans ask limit l → IsTrue full ⊎ Contains (lists_by machine (opening.new ++ e ∷ [])) l
    reached l l-child looked opens = elim (step.only l l-child looked (opens.end, opens.opens)) [
      | inl earlier ↦ elim (opening.reached l l-child earlier opens) [
        | inl is-full ↦ inl is-full
        | inr stored ↦ inr (subst (λ ls. Contains ls l) (sym lists) (Contains-append_left (lists_by machine opening.new) (list_by machine (c ∷ old) ∷ []) l stored))
      ]
      | inr same ↦ inr (subst (λ ls. Contains ls l) (sym lists) (subst (Contains (lists_by machine opening.new ++ list_by machine (c ∷ old) ∷ [])) (is ∙ sym same) (Contains-push (lists_by machine opening.new) (list_by machine (c ∷ old)))))
    ]
