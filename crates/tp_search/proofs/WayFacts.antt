-- A way that is laid on a board: it begins with a goal's list, and is taken off again.
use Rattle.std.proofs.Common.{◌≡◌, ℕ, [], ◌∷◌, ◌++◌, ◌∙◌, ap, refl, None}
use Rattle.std.proofs.lemmas.List.{append_assoc}
use Rattle.tp_base.specs.Readings.{Reading}
use Rattle.tp_machine.specs.declared.machine.Machine.{Machine}
use Rattle.tp_machine.specs.declared.parts.State.{State}
use Rattle.tp_schedule.specs.Choices.{ChoiceList, going}
use Rattle.tp_schedule.specs.declared.parts.Ask.{Ask}
use Rattle.tp_placing.specs.Boards.{BoardValue, content_of, past_of, suffix_of}
use Rattle.tp_placing.specs.Laws.{UndoKeeps}
use Rattle.tp_placing.specs.LoadedBoard.{Stands}
use Rattle.tp_placing.proofs.StandFacts.{and-some, some-and}
use Rattle.tp_search.specs.Boards.{IsBack, IsFurther, IsWayOf}
use Rattle.tp_search.specs.Dives.{CanDive}
use Rattle.tp_search.specs.HeldLists.{IsLaidSince}
use Rattle.tp_search.specs.StoredLists.{HasList, IsWayTo}
use Rattle.tp_search.proofs.BoardSteps.{IsUndone, load-trans, undone-back}

module _ {N : Type 0} (reading : Reading N) where
  -- a goal's list without choices can go on
  pub goal-carried : (b : BoardValue N) (machine : Machine) (ask : Ask) (goal : State) → HasList reading b machine ask goal (going goal []) → CanDive reading b machine ask (record { first = goal; count = 0 })
  goal-carried b machine ask goal laid =
      let found = some-and (suffix_of b) (IsWayTo machine b.plans ask goal (going goal [])) laid.way in
      let way = found.2 in
      record {
        goal = goal;
        choices = [];
        laid = record {
          stands = laid.stands;
          asked = laid.asked;
          way = and-some (suffix_of b) found.0 (IsWayOf machine b.plans ask goal goal []) found.1
              (record { way = way.way; same = ap (λ (l : ChoiceList). l.choices) way.same; going = ap (λ (l : ChoiceList). l.stopped) way.same });
        };
        placed = tt;
        count = refl;
      }

  -- what was laid since a mark is further
  pub since-further : (b b' : BoardValue N) (machine : Machine) (ask : Ask) (base : ℕ) → IsLaidSince reading b b' machine ask base None → IsFurther reading b b'
  since-further b b' machine ask base since = record { kept = content_of reading b ∷ since.kept; past_more = since.past_more; loaded = since.loaded; marks = since.marks }

module _ {N A : Type 0} (reading : Reading N) (untouched : N → A) where
  -- a board that is further than one laid since a mark, taken back to the mark, is as before it
  pub way-undone : UndoKeeps reading untouched → (b b1 b2 b3 : BoardValue N) (machine : Machine) (ask : Ask) (base : ℕ) → IsLaidSince reading b b1 machine ask base None → IsFurther reading b1 b2
      → Stands reading b2 machine → IsUndone reading untouched b2 b3 base → IsBack reading b b3 machine
  way-undone undoes b b1 b2 b3 machine ask base since x stands u =
      let was : past_of reading b2 ≡ past_of reading b ++ content_of reading b ∷ (since.kept ++ x.kept) =
      x.past_more ∙ ap (λ p. p ++ x.kept) since.past_more ∙ append_assoc (past_of reading b) (content_of reading b ∷ since.kept) x.kept in
      undone-back reading untouched undoes b b2 b3 machine base (since.kept ++ x.kept) since.number was (load-trans reading b b1 b2 since.loaded x.loaded) (x.marks ∙ since.marks) (λ s. stands) u
