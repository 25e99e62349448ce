-- The lists that wait in a store that has grown: those that waited, and the new ones.
use Rattle.std.proofs.Common.{◌≡◌, ◌⊎◌, inl, inr, ℕ, ◌+◌, ◌-◌, ◌<◌, ◌≤◌, List, [], ◌++◌, length, Contains, refl, sym, ap, subst, ◌∙◌, arith}
use Rattle.std.proofs.lemmas.List.{get_or-append-add, get_or-append_right, get_or_append_left, length-append}
use Rattle.std.proofs.lemmas.List.Elements.{Contains-get_or, at_from_Contains}
use Rattle.tp_machine.specs.declared.machine.Machine.{Machine}
use Rattle.tp_pool.specs.Entries.{Entry, entry_at}
use Rattle.tp_schedule.specs.Choices.{ChoiceList}
use Rattle.tp_schedule.proofs.Membership.{Contains-map, Contains-map_from}
use Rattle.tp_search.specs.SearchProgress.{list_at, waiting_in}
use Rattle.tp_search.specs.Stored.{list_by, lists_by}
use Rattle.tp_search.specs.Stores.{StoreGrows, StoreValue}
use Rattle.tp_search.specs.declared.goals.OpenGoal.{OpenGoal}
use Rattle.tp_search.proofs.SearchNext.{goal-waits, node-waits, waiting-cases}

-- what stands for an entry that is not there
abbrev none : Entry
none = record { choices = []; bound = 0 }

module _ (machine : Machine) (goals : List OpenGoal) (s s' : StoreValue) (new : List Entry) (is : s'.entries ≡ s.entries ++ new) where
  as-many : length s'.entries ≡ length s.entries + length new
  as-many = ap length is ∙ length-append s.entries new

  -- an entry stays, or is one of the new ones
  pub entry-stays : (n : ℕ) → n < length s.entries → entry_at s'.entries n ≡ entry_at s.entries n
  entry-stays n within = ap (λ es. entry_at es n) is ∙ get_or_append_left s.entries new none n within

  pub entry-new : (n : ℕ) → length s.entries ≤ n → n < length s'.entries → Contains new (entry_at s'.entries n)
  entry-new n from below =
      let at : entry_at s'.entries n ≡ entry_at new (n - length s.entries) = ap (λ es. entry_at es n) is ∙ get_or-append_right s.entries new (length s.entries) n none refl from in
      let many = as-many in
      subst (Contains new) (sym at) (Contains-get_or new (n - length s.entries) none (omega arith))

  list-stays : (n : ℕ) → n < length s.entries → list_at machine s'.entries n ≡ list_at machine s.entries n
  list-stays n within = ap (λ (e : Entry). list_by machine e.choices) (entry-stays n within)

  module _ (grows : StoreGrows s s') (known : (node : ℕ) → Contains s.waits node → node < length s.entries) where
    pub grown-stay : (l : ChoiceList) → Contains (waiting_in machine goals s) l → Contains (waiting_in machine goals s') l
    grown-stay l waits = elim (waiting-cases machine goals s l waits) [
      | inl (g, there, same) ↦ subst (Contains (waiting_in machine goals s')) (sym same) (goal-waits machine goals s' g there)
      | inr (n, there, same) ↦ subst (Contains (waiting_in machine goals s')) (list-stays n (known n there) ∙ sym same) (node-waits machine goals s' n (grows.stay n there))
    ]

    pub grown-come : (l : ChoiceList) → Contains (lists_by machine new) l → Contains (waiting_in machine goals s') l
    grown-come l there =
        let from = Contains-map_from (λ (e : Entry). list_by machine e.choices) new l there in
        let at = at_from_Contains new from.0 from.1 in
        let node = length s.entries + at.0 in
        let entry : entry_at s'.entries node ≡ from.0 = ap (λ es. entry_at es node) is ∙ get_or-append-add s.entries new at.0 none ∙ at.2 none in
        let many = as-many in
        let within = at.1 in
        subst (Contains (waiting_in machine goals s')) (ap (λ (e : Entry). list_by machine e.choices) entry ∙ sym from.2) (node-waits machine goals s' node (grows.come node (omega arith) (omega arith)))

    pub grown-only : (l : ChoiceList) → Contains (waiting_in machine goals s') l → Contains (waiting_in machine goals s) l ⊎ Contains (lists_by machine new) l
    grown-only l waits = elim (waiting-cases machine goals s' l waits) [
      | inl (g, there, same) ↦ inl (subst (Contains (waiting_in machine goals s)) (sym same) (goal-waits machine goals s g there))
      | inr (n, there, same) ↦ elim (grows.only n there) [
        | inl old ↦ inl (subst (Contains (waiting_in machine goals s)) (sym (same ∙ list-stays n (known n old))) (node-waits machine goals s n old))
        | inr later ↦ inr (subst (Contains (lists_by machine new)) (sym same) (Contains-map (λ (e : Entry). list_by machine e.choices) new (entry_at s'.entries n) (entry-new n later.0 later.1)))
      ]
    ]

    pub grown-known : (node : ℕ) → Contains s'.waits node → node < length s'.entries
    grown-known node waits = elim (grows.only node waits) [
      | inl old ↦ (let within = known node old in let many = as-many in omega arith)
      | inr later ↦ later.1
    ]
