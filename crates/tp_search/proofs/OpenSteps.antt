-- The list that was taken, as it is opened on a board: how many choices it has, and that the board carries it still.
use Rattle.std.proofs.Common.{◌≡◌, false, List, [], ◌∷◌, length, All, Option, Some, None, IsSome, IsSomeAnd, refl, sym, ap, subst, ◌∙◌, arith}
use Rattle.std.proofs.lemmas.List.Elements.{All-cons, All-head, All-tail}
use Rattle.std.proofs.lemmas.Bool.{true≢false}
use Rattle.tp_base.specs.Readings.{Reading}
use Rattle.tp_machine.specs.declared.parts.ActId.{ActId}
use Rattle.tp_machine.specs.declared.parts.State.{State}
use Rattle.tp_machine.specs.declared.machine.Machine.{Machine}
use Rattle.tp_pool.specs.Entries.{choices_before, choices_of as stored_at}
use Rattle.tp_pool.specs.declared.choice.Choice.{Choice as Stored}
use Rattle.tp_schedule.specs.Choices.{Choice, ChoiceList, going}
use Rattle.tp_schedule.specs.declared.parts.Ask.{Ask}
use Rattle.tp_schedule.specs.declared.parts.Plan.{Plan}
use Rattle.tp_placing.specs.Boards.{BoardValue, suffix_of}
use Rattle.tp_placing.specs.LoadedBoard.{choices_of}
use Rattle.tp_placing.proofs.StandFacts.{some-and}
use Rattle.tp_search.specs.Boards.{IsBack}
use Rattle.tp_search.specs.StoredLists.{HasList, IsStoredList, IsWayTo}
use Rattle.tp_search.specs.Outcomes.{CanOpen}
use Rattle.tp_search.specs.SearchProgress.{next_node}
use Rattle.tp_search.specs.Stored.{choices_by, is_stop, list_by, with_stored}
use Rattle.tp_search.specs.Stores.{StoreValue}
use Rattle.tp_search.specs.declared.next_list.Next.{Next}
use Rattle.tp_search.specs.declared.next_list.Next.TheVariants.{Goal, Node}
use Rattle.tp_search.proofs.BoardSteps.{suffix-back}

-- stored choices without the stop are as many as the choices
goes-on : (a : Option ActId) → is_stop a ≡ false → IsSome a
goes-on None is = absurd (true≢false is)
goes-on (Some act) is = refl

as-many : (machine : Machine) (cs : List Stored) → All (λ c. IsSome c.act) cs → length cs ≡ length (choices_by machine cs)
as-many machine [] all = refl
as-many machine (c ∷ cs) all = go c.act (All-head (λ (d : Stored). IsSome d.act) c cs all) (as-many machine cs (All-tail (λ (d : Stored). IsSome d.act) c cs all)) where
  go : (a : Option ActId) → IsSome a → length cs ≡ length (choices_by machine cs) → length (c ∷ cs) ≡ length (with_stored machine a c.places (choices_by machine cs))
  go None is rest = absurd cc
  go (Some act) is rest = omega arith

many-going : (machine : Machine) (goal : State) (cs : List Stored) → IsStoredList goal cs → (list_by machine cs).stopped ≡ false → length cs ≡ length (choices_by machine cs)
many-going machine goal [] stored going = refl
many-going machine goal (c ∷ cs) stored going = as-many machine (c ∷ cs) (All-cons (λ (d : Stored). IsSome d.act) c cs (goes-on c.act going) stored.acts)

pub next-many : (machine : Machine) (plans : List Plan) (ask : Ask) (s : StoreValue) (next : Next) → CanOpen machine plans ask s next → length (choices_before s.entries (next_node next)) ≡ length (choices_by machine (choices_before s.entries (next_node next)))
next-many machine plans ask s (Goal g) can = refl
next-many machine plans ask s (Node n) can = many-going machine (list_by machine (stored_at s.entries n)).goal (stored_at s.entries n) can.can_lay.1 (ap (λ (l : ChoiceList). l.stopped) can.goes_on)

module _ {N : Type 0} (reading : Reading N) where
  -- a board that is back carries the list that it carried
  pub list-back : (b b' : BoardValue N) (machine : Machine) (ask : Ask) (first : State) (list : ChoiceList) → IsBack reading b b' machine → HasList reading b machine ask first list → HasList reading b' machine ask first list
  list-back b b' machine ask first list back laid = record {
    stands = back.stands laid.stands;
    asked = back.loaded.ask ∙ laid.asked;
    way = subst (λ o. IsSomeAnd o (IsWayTo machine b'.plans ask first list)) (sym (suffix-back reading b b' back.same_content))
        (subst (λ ps. IsSomeAnd (suffix_of b) (IsWayTo machine ps ask first list)) (sym back.loaded.plans) laid.way);
  }

  -- and its choices are the list's
  pub choices-carried : (b : BoardValue N) (machine : Machine) (ask : Ask) (first goal : State) (choices : List Choice) → HasList reading b machine ask first (going goal choices) → (choices_of (suffix_of b)).choices ≡ choices
  choices-carried b machine ask first goal choices laid =
      let x = some-and (suffix_of b) (IsWayTo machine b.plans ask first (going goal choices)) laid.way in
      ap (λ o. (choices_of o).choices) x.1 ∙ ap (λ (l : ChoiceList). l.choices) x.2.same
