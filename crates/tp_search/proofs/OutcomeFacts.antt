-- How a search ends, said of a board that is back, is how it ends of the board before.
use Rattle.std.proofs.Common.{ℕ, List, ◌∷◌, ◌++◌, length, ap, subst, ◌∙◌}
use Rattle.tp_base.specs.Readings.{Reading}
use Rattle.tp_machine.specs.declared.machine.Machine.{Machine}
use Rattle.tp_schedule.specs.Answers.{IsAlternative, NoneBefore}
use Rattle.tp_schedule.specs.Choices.{IsBound}
use Rattle.tp_schedule.specs.SpentBudget.{FewListsOpen, IsSpent}
use Rattle.tp_schedule.specs.declared.parts.Ask.{Ask}
use Rattle.tp_schedule.specs.declared.parts.Plan.{Plan}
use Rattle.tp_placing.specs.Boards.{BoardValue}
use Rattle.tp_search.specs.Boards.{IsBack}
use Rattle.tp_search.specs.Outcomes.{HasAnswer, IsOutcome}
use Rattle.tp_search.specs.declared.best_first.Outcome.{Outcome}
use Rattle.tp_search.specs.declared.best_first.Outcome.TheVariants.{Again, Found, Never, Spent}
use Rattle.tp_search.proofs.BoardSteps.{back-trans, load-trans}

module _ {N : Type 0} (reading : Reading N) (b b1 b' : BoardValue N) (machine : Machine) (ask : Ask) (back : IsBack reading b b1 machine) where
  answer-back : (base : ℕ) → HasAnswer reading b1 b' machine ask base → HasAnswer reading b b' machine ask base
  answer-back base a = record {
    number = a.number ∙ ap length back.same_past;
    kept = a.kept;
    past_more = a.past_more ∙ (λ i. back.same_past i ++ back.same_content i ∷ a.kept);
    loaded = load-trans reading b b1 b' back.loaded a.loaded;
    marks = a.marks ∙ back.marks;
    first = a.first;
    list = a.list;
    bound = a.bound;
    laid = a.laid;
    complete = a.complete;
    is_bound = subst (λ ps. IsBound machine ps ask a.list a.bound) back.loaded.plans a.is_bound;
    none_before = subst (λ ps. NoneBefore machine ps ask a.bound) back.loaded.plans a.none_before;
  }

  pub outcome-back : (nodes : ℕ) (outcome : Outcome) → IsOutcome reading b1 b' machine ask nodes outcome → IsOutcome reading b b' machine ask nodes outcome
  outcome-back nodes (Found base) answer = answer-back base.0 answer
  outcome-back nodes Never (never, back', few) = (
    subst (λ ps. (plans' : List Plan) → ¬ IsAlternative machine ps ask plans') back.loaded.plans never,
    back-trans reading b b1 b' machine back back',
    subst (λ ps. FewListsOpen machine ps ask nodes) back.loaded.plans few,
  )
  outcome-back nodes (Spent bound) (spent, back') = (subst (λ ps. IsSpent machine ps ask nodes bound) back.loaded.plans spent, back-trans reading b b1 b' machine back back')
  outcome-back nodes Again back' = back-trans reading b b1 b' machine back back'
