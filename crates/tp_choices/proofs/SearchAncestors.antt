-- What a search knows: each open list has a line of ancestors of smaller bounds, the first of which that was not
-- opened waits.
use Rattle.std.proofs.Common.{◌≡◌, ◌≢◌, ◌⊎◌, inl, inr, List, [], ◌∷◌, true, false, ◌∙◌, refl, arith, Contains, subst}
use Rattle.tp_machine.specs.declared.machine.Machine.{Machine}
use Rattle.tp_schedule.specs.declared.parts.Ask.{Ask}
use Rattle.tp_schedule.specs.declared.parts.Plan.{Plan}
use Rattle.tp_choices.proofs.Frontier.{ancestor_opens, from_goal, frontier_bounds}
use Rattle.tp_schedule.proofs.Membership.{Contains-here, Contains-cons_cases}
use Rattle.tp_schedule.specs.Choices.{ChoiceList, IsOpen, IsChild, CanStop, going}
use Rattle.tp_schedule.specs.SpentBudget.{IsStoredOrEmpty}
use Rattle.tp_schedule.specs.Choices.IsChild.{one_more, stopped}
use Rattle.tp_choices.specs.Frontiers.Extends.{itself, further}
use Rattle.tp_schedule.specs.declared.parts.Origin.{Origin}
use Rattle.tp_schedule.specs.declared.parts.Origin.TheVariants.{Feeder as FromFeeder, Front as FromFront}
use Rattle.tp_choices.specs.Searches.{SearchReaches, SearchBelow, SearchFronts, FullSpends, IsSearched, IsKnown}
use Rattle.tp_choices.specs.Frontiers.{Extends, IsMet}

-- from a known list on, each open list that extends it extends one that waits, or was opened
reaches_from : (machine : Machine) (plans : List Plan) (ask : Ask) (waiting opened : List ChoiceList) → IsSearched machine plans ask waiting opened → (f list : ChoiceList)
    → Extends machine ask f list → IsKnown machine plans ask waiting opened f → IsOpen machine plans ask list → IsMet machine plans ask waiting list ⊎ Contains opened list
reaches_from machine plans ask waiting opened searched f list itself (inl waits) o = inl (f, waits, itself)
reaches_from machine plans ask waiting opened searched f list itself (inr done) o = inr done
reaches_from machine plans ask waiting opened searched f list (further {next = g} child more) (inl waits) o = inl (f, waits, further child more)
reaches_from machine plans ask waiting opened searched f list (further {next = g} child more) (inr done) o =
    reaches_from machine plans ask waiting opened searched g list more (searched.spread f g done child (o.0, ancestor_opens more o.1)) o

pub search_reaches : SearchReaches
search_reaches machine plans ask waiting opened searched list o =
    let from = from_goal machine plans ask list o.1.is_list in
    reaches_from machine plans ask waiting opened searched (going list.goal []) list from (searched.starts (going list.goal []) refl (o.0, ancestor_opens from o.1)) o

pub search_fronts : SearchFronts
search_fronts machine plans ask waiting opened searched list complete o = elim (search_reaches machine plans ask waiting opened searched list o) [
  | inl met ↦ met
  | inr done ↦ absurd (searched.unfinished list done complete)
]

pub search_below : SearchBelow
search_below machine plans ask waiting opened bound searched none list end o below = elim (search_reaches machine plans ask waiting opened searched list (end, o)) [
  | inl met ↦ let le = none met.0 met.1 end (ancestor_opens met.2 o) in absurd (omega arith)
  | inr done ↦ done
]

parent_of : ChoiceList → ChoiceList
parent_of list = elim list.stopped [ true ↦ going list.goal list.choices | false ↦ going list.goal (elim list.choices [ [] ↦ [] | c ∷ choices ↦ choices ]) ]

child_has : {machine : Machine} {ask : Ask} {p list : ChoiceList} → IsChild machine ask p list → list.choices ≢ []
child_has (one_more c) = λ e. (absurd (cc))
child_has {machine = machine} {ask = ask} (stopped {goal} {choices} can) = go ask.origin can where
  go : (o : Origin) → CanStop machine ask (going goal choices) o → choices ≢ []
  go FromFeeder bad = absurd bad
  go (FromFront state end count) can' = can'.0

pub full_spends : FullSpends
full_spends machine plans ask waiting opened stored last bound legal asked full = record {
  stored = stored;
  count = refl;
  different = full.different;
  chosen = full.chosen;
  last = last;
  last_bound = full.last_bound;
  last_known = full.known last (inl (Contains-here last waiting));
  parents = λ parent list in' child.
      let from = full.from_opened parent list in' child in
      (parent_known parent from, λ end is. full.in_rising_order parent end from is);
  below = λ list end is less child is_child open-child.
      let done = search_below machine plans ask (last ∷ waiting) opened bound full.searched full.none_below list end is.opens less in
      elim (full.known child (full.searched.spread list child done is_child open-child)) [
        | inl in' ↦ in'
        | inr none ↦ absurd (child_has is_child none)
      ];
  missing = full.missing;
  none_stored_complete = full.none_stored_complete;
  no_child_complete = full.no_child_complete;
  none_before = frontier_bounds machine plans ask (last ∷ waiting) bound legal asked (search_fronts machine plans ask (last ∷ waiting) opened full.searched) full.none_below;
} where
  parent_known : (parent : ChoiceList) → Contains (last ∷ opened) parent → IsStoredOrEmpty stored parent
  parent_known parent from = elim (Contains-cons_cases last opened parent from) [
    | inl e ↦ subst (IsStoredOrEmpty stored) e (full.known last (inl (Contains-here last waiting)))
    | inr done ↦ full.known parent (inr done)
  ]
