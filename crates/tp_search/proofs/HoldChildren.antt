-- A child of a list that a board carries: its newest choice can be laid, which makes the child.
use Rattle.std.proofs.Common.{◌≡◌, ◌-◌, ◌<◌, ◌≤◌, List, ◌∷◌, length, IfSome, Option, Some, None, sym, ap, subst, ◌∙◌, arith}
use Rattle.std.proofs.lemmas.Option.{same_Some}
use Rattle.std.specs.List.{slice_get}
use Rattle.tp_base.specs.Readings.{Reading}
use Rattle.tp_machine.specs.declared.parts.State.{State}
use Rattle.tp_machine.specs.declared.machine.Machine.{Machine}
use Rattle.tp_pool.specs.Entries.{choice_made, choices_of}
use Rattle.tp_pool.specs.declared.choice.Choice.{Choice as Stored}
use Rattle.tp_schedule.specs.Choices.{IsOpen, going}
use Rattle.tp_schedule.specs.declared.parts.Ask.{Ask}
use Rattle.tp_placing.specs.Boards.{BoardValue, suffix_of}
use Rattle.tp_placing.specs.LoadedBoard.{choices_of as laid_by}
use Rattle.tp_search.specs.StoredLists.{HasList}
use Rattle.tp_search.specs.HeldLists.{HoldsList, IsOneMore}
use Rattle.tp_search.specs.Stored.{child_by, choices_by, list_by}
use Rattle.tp_search.specs.Stores.{StoreValue}
use Rattle.tp_search.specs.declared.held_list.HeldList.{HeldList}
use Rattle.tp_search.proofs.OpenSteps.{choices-carried}

-- which lists wait does not matter for a held list
pub holds-taken : {N : Type 0} (reading : Reading N) (b : BoardValue N) (machine : Machine) (ask : Ask) (s s' : StoreValue) (held : Option HeldList) → s'.entries ≡ s.entries → IfSome held (HoldsList reading b machine ask s)
    → IfSome held (HoldsList reading b machine ask s')
holds-taken reading b machine ask s s' None same holds = tt
holds-taken reading b machine ask s s' (Some held) same holds = record {
  goal = holds.goal;
  before = holds.before;
  laid = holds.laid;
  children = λ node from within. subst (λ es. IsOneMore holds.goal holds.before (choices_of es node)) (sym same) (holds.children node from (subst (λ es. node < length es) same within));
}

-- the choice that was made last
last-made : (choices : List Stored) (c newest : Stored) (before : List Stored) → choices ≡ newest ∷ before → choice_made choices (length choices) ≡ Some c → c ≡ newest
last-made choices c newest before is made =
    let same : choice_made (newest ∷ before) (length (newest ∷ before)) ≡ Some c = subst (λ cs. choice_made cs (length cs) ≡ Some c) is made in
    let at : length (newest ∷ before) - length (newest ∷ before) ≡ 0 = omega arith in
    let first : slice_get (newest ∷ before) 0 ≡ Some c = subst (λ n. slice_get (newest ∷ before) n ≡ Some c) at same in
    sym (same_Some newest c first)

pub child-some : {goal : State} {before choices : List Stored} → IsOneMore goal before choices → 1 ≤ length choices
child-some {goal} {before} {choices} more = omega (arith, ap length more.same)

-- a child of the list that a board carries
module _ {N : Type 0} (reading : Reading N) (b : BoardValue N) (machine : Machine) (ask : Ask) (first goal : State) (before choices : List Stored)
    (laid : HasList reading b machine ask first (going goal (choices_by machine before))) (more : IsOneMore goal before choices) (c : Stored) (made : choice_made choices (length choices) ≡ Some c) where
  newest-is : c ≡ more.newest
  newest-is = last-made choices c more.newest before more.same made

  goal-is : c.goal ≡ goal
  goal-is = ap (λ (d : Stored). d.goal) newest-is ∙ more.same_goal

  carried : (laid_by (suffix_of b)).choices ≡ choices_by machine before
  carried = choices-carried reading b machine ask first goal (choices_by machine before) laid

  -- its newest choice can be laid
  pub child-laid : HasList reading b machine ask first (going c.goal (laid_by (suffix_of b)).choices)
  child-laid = subst (HasList reading b machine ask first) (λ i. going (sym goal-is i) (sym carried i)) laid

  -- which makes the child
  pub child-whole : child_by machine c.goal (laid_by (suffix_of b)).choices c ≡ list_by machine choices
  child-whole = (λ i. child_by machine c.goal (carried i) c) ∙ (λ i. list_by machine (newest-is i ∷ before)) ∙ ap (list_by machine) (sym more.same)

  pub child-opens : IsOpen machine b.plans ask (list_by machine choices) → IsOpen machine b.plans ask (child_by machine c.goal (laid_by (suffix_of b)).choices c)
  child-opens o = subst (IsOpen machine b.plans ask) (sym child-whole) o
