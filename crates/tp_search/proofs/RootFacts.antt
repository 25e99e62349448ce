-- The mark at a goal: it can be set on a board that carries the goal's list, and the board taken back to it carries that list.
use Rattle.std.proofs.Common.{◌≡◌, ℕ, ◌-◌, ◌+◌, ◌<◌, ◌≤◌, List, [], ◌∷◌, ◌++◌, length, take, Some, None, IsSomeAnd, refl, sym, ap, subst, ◌∙◌, arith}
use Rattle.std.proofs.Math.Seq.{take-append_seam}
use Rattle.std.proofs.lemmas.List.{length-append}
use Rattle.std.proofs.lemmas.Option.{same_Some}
use Rattle.std.specs.List.{slice_get}
use Rattle.tp_base.specs.Readings.{Reading}
use Rattle.tp_machine.specs.declared.machine.Machine.{Machine}
use Rattle.tp_schedule.specs.Choices.{going}
use Rattle.tp_schedule.specs.declared.parts.Ask.{Ask}
use Rattle.tp_placing.specs.Boards.{BoardContent, BoardValue, content_of, past_of, suffix_after, suffix_of}
use Rattle.tp_placing.specs.Laws.{MarkKeeps, UndoKeeps}
use Rattle.tp_placing.specs.LoadedBoard.{Stands}
use Rattle.tp_search.specs.StoredLists.{HasList, IsWayTo}
use Rattle.tp_search.specs.HeldLists.{CarriesGoal, IsLaidSince}
use Rattle.tp_search.specs.declared.held_list.Root.{Root}
use Rattle.tp_search.proofs.BoardSteps.{IsMarked, IsUndone, load-of, load-trans, slice-at, suffix-back}
use Rattle.tp_search.proofs.HoldFacts.{two-behind}

module _ {N A : Type 0} (reading : Reading N) (untouched : N → A) where
  module _ (undoes : UndoKeeps reading untouched) (b b' b'' : BoardValue N) (machine : Machine) (ask : Ask) (base : ℕ) (root : Root) (since : IsLaidSince reading b b' machine ask base (Some root))
      (u : IsUndone reading untouched b' b'' root.mark.0) where
    -- what the board had in its past before the mark at the goal
    abbrev first : List BoardContent
    first = past_of reading b ++ content_of reading b ∷ []

    abbrev x : BoardContent
    x = since.are_kept.0

    past-is : past_of reading b' ≡ first ++ x ∷ []
    past-is = since.past_more ∙ ap (λ kept. past_of reading b ++ content_of reading b ∷ kept) since.are_kept.1 ∙ sym (two-behind (past_of reading b) (content_of reading b) x)

    number : root.mark.0 ≡ length first
    number = omega (arith, since.are_kept.2, since.number, length-append (past_of reading b) (content_of reading b ∷ []))

    at : slice_get (past_of reading b') root.mark.0 ≡ Some x
    at = (λ i. slice_get (past-is i) (number i)) ∙ slice-at first x []

    content-is : content_of reading b'' ≡ x
    content-is = same_Some (content_of reading b'') x (sym u.content_then ∙ at)

    loaded : b''.plans ≡ b.plans
    loaded = (load-of reading untouched b' b'' u.untouched_same).plans ∙ since.loaded.plans

    stands : Stands reading b'' machine
    stands = undoes b' b'' machine root.mark.0 u.content_then u.untouched_same u.past_less since.stands

    -- it carries the goal's list
    pub goal-undone : b'.ask ≡ Some ask → HasList reading b'' machine ask root.goal (going root.goal [])
    goal-undone asked = record {
      stands = stands;
      asked = (load-of reading untouched b' b'' u.untouched_same).ask ∙ asked;
      way = subst (λ (y : BoardContent). IsSomeAnd (suffix_after y.steps) (IsWayTo machine b''.plans ask root.goal (going root.goal []))) (sym content-is)
          (subst (λ ps. CarriesGoal machine ps ask root.goal x) (sym loaded) since.are_kept.3);
    }

    -- since the base alone
    pub base-undone : IsLaidSince reading b b'' machine ask base None
    base-undone = record {
      number = since.number;
      kept = [];
      past_more = u.past_less ∙ (λ i. take (number i) (past-is i)) ∙ take-append_seam first (x ∷ []);
      are_kept = refl;
      room = tt;
      loaded = load-trans reading b b' b'' since.loaded (load-of reading untouched b' b'' u.untouched_same);
      marks = u.room_same ∙ since.marks;
      stands = stands;
    }

  module _ (keeps : MarkKeeps reading untouched) (b' b'' : BoardValue N) (machine : Machine) (ask : Ask) (root : Root)
      (laid : HasList reading b' machine ask root.goal (going root.goal [])) (m : IsMarked reading untouched b' b'' root.mark.0) where
    still : Stands reading b'' machine
    still = keeps b' b'' machine m.content_same m.untouched_same m.past_more laid.stands

    pub goal-marked : HasList reading b'' machine ask root.goal (going root.goal [])
    goal-marked =
        let load = load-of reading untouched b' b'' m.untouched_same in
        record {
          stands = still;
          asked = load.ask ∙ laid.asked;
          way = subst (λ o. IsSomeAnd o (IsWayTo machine b''.plans ask root.goal (going root.goal []))) (sym (suffix-back reading b' b'' m.content_same))
              (subst (λ ps. IsSomeAnd (suffix_of b') (IsWayTo machine ps ask root.goal (going root.goal []))) (sym load.plans) laid.way);
        }

    module _ (b : BoardValue N) (base : ℕ) (since : IsLaidSince reading b b' machine ask base None) where
      past-was : past_of reading b' ≡ past_of reading b ++ content_of reading b ∷ []
      past-was = since.past_more ∙ ap (λ kept. past_of reading b ++ content_of reading b ∷ kept) since.are_kept

      number-is : root.mark.0 ≡ base + 1
      number-is = omega (arith, m.number, ap length past-was, length-append (past_of reading b) (content_of reading b ∷ []), since.number)

      pub root-marked : 7 ≤ reading.max_marks b'.net - 1 - length (past_of reading b') → IsLaidSince reading b b'' machine ask base (Some root)
      root-marked spare = record {
        number = since.number;
        kept = content_of reading b' ∷ [];
        past_more = m.past_more ∙ ap (λ p. p ++ content_of reading b' ∷ []) past-was ∙ two-behind (past_of reading b) (content_of reading b) (content_of reading b');
        are_kept = (content_of reading b', refl, number-is, subst (λ ps. CarriesGoal machine ps ask root.goal (content_of reading b')) since.loaded.plans laid.way);
        room = omega (arith, spare, ap length past-was, length-append (past_of reading b) (content_of reading b ∷ []), since.marks);
        loaded = load-trans reading b b' b'' since.loaded (load-of reading untouched b' b'' m.untouched_same);
        marks = m.room_same ∙ since.marks;
        stands = still;
      }

-- the mark at the goal is in force
pub root-known : {N : Type 0} (reading : Reading N) (b b' : BoardValue N) (machine : Machine) (ask : Ask) (base : ℕ) (root : Root) → IsLaidSince reading b b' machine ask base (Some root)
    → root.mark.0 < length (past_of reading b')
root-known reading b b' machine ask base root since =
    omega (arith, since.are_kept.2, since.number, ap length since.past_more, ap length since.are_kept.1, length-append (past_of reading b) (content_of reading b ∷ since.kept))
