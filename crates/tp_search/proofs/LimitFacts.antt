-- What a search under a limit knows: of the lists that open to an end within it, each extends one that waits, or was opened.
use Rattle.std.proofs.Common.{◌⊎◌, inl, inr, ℕ, ◌<◌, List, [], refl, subst, arith, Contains}
use Rattle.std.proofs.lemmas.Bool.{cases_lt}
use Rattle.tp_machine.specs.declared.machine.Machine.{Machine}
use Rattle.tp_choices.proofs.Frontier.{ancestor_opens, from_goal}
use Rattle.tp_choices.proofs.AnswerOpens.{answer_opens}
use Rattle.tp_choices.specs.Frontiers.{Extends, IsMet, NoneOpensBelow}
use Rattle.tp_choices.specs.Frontiers.Extends.{itself, further}
use Rattle.tp_choices.specs.Searches.{IsKnown, IsSearched}
use Rattle.tp_schedule.specs.Answers.{IsAsked, NoneBefore}
use Rattle.tp_schedule.specs.Choices.{ChoiceList, IsComplete, going}
use Rattle.tp_schedule.specs.Legality.{IsLegal}
use Rattle.tp_schedule.specs.Plans.{end_of_plan}
use Rattle.tp_schedule.specs.declared.parts.Ask.{Ask}
use Rattle.tp_schedule.specs.declared.parts.Plan.{Plan}
use Rattle.tp_search.specs.Limits.{HasNoLimit, IsLimitKept, IsMetLimit, IsSearchedTo, IsWithin, OpensWithin}
use Rattle.tp_search.specs.declared.store.Limit.{Limit}
use Rattle.tp_search.specs.declared.store.Limit.TheVariants.{By, Sought, Unsought}

-- an end within a limit that was kept or found is within the one before
pub within-before : (a b : Limit) → IsLimitKept a b → (end : ℕ) → IsWithin b end → IsWithin a end
within-before Unsought b kept end within = tt
within-before Sought b kept end within = tt
within-before (By l) b kept end within = subst (λ m. IsWithin m end) kept within

pub none-before : (a b : Limit) → IsLimitKept a b → HasNoLimit b → HasNoLimit a
none-before Unsought b kept none = tt
none-before Sought b kept none = tt
none-before (By l) b kept none = subst HasNoLimit kept none

pub within-none : (a : Limit) → HasNoLimit a → (end : ℕ) → IsWithin a end
within-none Unsought none end = tt
within-none Sought none end = tt
within-none (By l) none end = absurd none

-- what is below an end within the limit is within it
within-below : (a : Limit) (end bound : ℕ) → end < bound → IsWithin a bound → IsWithin a end
within-below Unsought end bound below within = tt
within-below Sought end bound below within = tt
within-below (By l) end bound below within = omega (arith, below, within)

-- where there is no limit, none has to be met
pub met-none : (machine : Machine) (plans : List Plan) (ask : Ask) (limit : Limit) → HasNoLimit limit → IsMetLimit machine plans ask limit
met-none machine plans ask Unsought none = tt
met-none machine plans ask Sought none = tt
met-none machine plans ask (By l) none = absurd none

module _ (machine : Machine) (plans : List Plan) (ask : Ask) (limit : Limit) (waiting opened : List ChoiceList) (searched : IsSearchedTo machine plans ask limit waiting opened) where
  -- without a limit each open child is known
  pub searched-whole : HasNoLimit limit → IsSearched machine plans ask waiting opened
  searched-whole none = record {
    starts = searched.starts;
    spread = λ list child there is-child opens. searched.spread list child there is-child (record { end = opens.0; opens = opens.1; within = within-none limit none opens.0 });
    unfinished = searched.unfinished;
  }

  reaches-from : (f list : ChoiceList) → Extends machine ask f list → IsKnown machine plans ask waiting opened f → OpensWithin machine plans ask limit list → IsMet machine plans ask waiting list ⊎ Contains opened list
  reaches-from f list itself (inl waits) o = inl (f, waits, itself)
  reaches-from f list itself (inr done) o = inr done
  reaches-from f list (further {next = g} child more) (inl waits) o = inl (f, waits, further child more)
  reaches-from f list (further {next = g} child more) (inr done) o =
      reaches-from g list more (searched.spread f g done child (record { end = o.end; opens = ancestor_opens more o.opens; within = o.within })) o

  pub reaches-within : (list : ChoiceList) → OpensWithin machine plans ask limit list → IsMet machine plans ask waiting list ⊎ Contains opened list
  reaches-within list o =
      let from = from_goal machine plans ask list o.opens.is_list in
      reaches-from (going list.goal []) list from (searched.starts (going list.goal []) refl (o.end, ancestor_opens from o.opens)) o

  -- a complete list that opens to an end within the limit extends one that waits
  complete-met : (list : ChoiceList) → IsComplete machine ask list → OpensWithin machine plans ask limit list → IsMet machine plans ask waiting list
  complete-met list complete o = elim (reaches-within list o) [
    | inl met ↦ met
    | inr done ↦ absurd (searched.unfinished list done complete)
  ]

  -- where no list that waits opens to an end below a bound within the limit, no answer ends before it
  pub none-before-within : (bound : ℕ) → IsLegal machine plans → IsAsked machine plans ask → NoneOpensBelow machine plans ask waiting bound → IsWithin limit bound → NoneBefore machine plans ask bound
  none-before-within bound legal asked none within plans' a =
      let found = answer_opens machine plans plans' ask legal asked a in
      elim (cases_lt (end_of_plan a.plan) bound) [
        | inl below ↦
            let met = complete-met found.0 found.1 (record { end = end_of_plan a.plan; opens = found.2; within = within-below limit (end_of_plan a.plan) bound below within }) in
            none met.0 met.1 (end_of_plan a.plan) (ancestor_opens met.2 found.2)
        | inr late ↦ late
      ]

-- the least bound of those that wait is within the limit
pub bound-within : (machine : Machine) (plans : List Plan) (ask : Ask) (limit : Limit) (waiting opened : List ChoiceList) (bound : ℕ) → IsSearchedTo machine plans ask limit waiting opened → IsMetLimit machine plans ask limit
    → NoneOpensBelow machine plans ask waiting bound → IsWithin limit bound
bound-within machine plans ask Unsought waiting opened bound searched met none = tt
bound-within machine plans ask Sought waiting opened bound searched met none = tt
bound-within machine plans ask (By l) waiting opened bound searched (list, complete, o) none =
    let met = complete-met machine plans ask (By l) waiting opened searched list complete o in
    let least = none met.0 met.1 o.end (ancestor_opens met.2 o.opens) in
    let within = o.within in
    omega arith

-- where no list waits there is no limit
pub no-limit : (machine : Machine) (plans : List Plan) (ask : Ask) (limit : Limit) (opened : List ChoiceList) → IsSearchedTo machine plans ask limit [] opened → IsMetLimit machine plans ask limit → HasNoLimit limit
no-limit machine plans ask Unsought opened searched met = tt
no-limit machine plans ask Sought opened searched met = tt
no-limit machine plans ask (By l) opened searched (list, complete, o) =
    let met = complete-met machine plans ask (By l) [] opened searched list complete o in
    let in' = met.1 in
    absurd (omega (arith, in'.1))
