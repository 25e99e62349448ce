-- A board that is further than another one: step after step, and taken back to a mark.
use Rattle.std.proofs.Common.{◌≡◌, ℕ, ◌-◌, [], ◌∷◌, ◌++◌, sym, ap, ◌∙◌}
use Rattle.std.proofs.lemmas.List.{append-nil, append_assoc}
use Rattle.tp_base.specs.Readings.{Reading}
use Rattle.tp_machine.specs.declared.machine.Machine.{Machine}
use Rattle.tp_schedule.specs.declared.parts.Ask.{Ask}
use Rattle.tp_placing.specs.Boards.{BoardValue, content_of, past_of}
use Rattle.tp_placing.specs.Calls.{IsSameLoad}
use Rattle.tp_placing.specs.Laws.{UndoKeeps}
use Rattle.tp_placing.specs.LoadedBoard.{Stands}
use Rattle.tp_search.specs.Boards.{IsBack, IsFurther}
use Rattle.tp_search.specs.Children.{HasFound}
use Rattle.tp_search.specs.Dives.{IsDeeper}
use Rattle.tp_search.specs.declared.stored_list.Laid.{Laid}
use Rattle.tp_search.proofs.BoardSteps.{IsMarked, IsUndone, load-of, load-trans, undone-back}

module _ {N : Type 0} (reading : Reading N) where
  pub further-trans : (a b c : BoardValue N) → IsFurther reading a b → IsFurther reading b c → IsFurther reading a c
  further-trans a b c x y = record {
    kept = x.kept ++ y.kept;
    past_more = y.past_more ∙ ap (λ p. p ++ y.kept) x.past_more ∙ append_assoc (past_of reading a) x.kept y.kept;
    loaded = load-trans reading a b c x.loaded y.loaded;
    marks = y.marks ∙ x.marks;
  }

  -- with the same marks
  pub further-same : (a b : BoardValue N) → past_of reading b ≡ past_of reading a → IsSameLoad a b → reading.max_marks b.net - 1 ≡ reading.max_marks a.net - 1 → IsFurther reading a b
  further-same a b same load marks = record { kept = []; past_more = same ∙ sym (append-nil (past_of reading a)); loaded = load; marks = marks }

  pub further-back : (a b : BoardValue N) (machine : Machine) → IsBack reading a b machine → IsFurther reading a b
  further-back a b machine back = further-same a b back.same_past back.loaded back.marks

  -- after one step
  pub further-step : (a b c : BoardValue N) → IsFurther reading a b → past_of reading c ≡ past_of reading b → IsSameLoad b c → reading.max_marks c.net ≡ reading.max_marks b.net → IsFurther reading a c
  further-step a b c x same load marks = further-trans a b c x (further-same b c same load (ap (λ n. n - 1) marks))

  -- what is found from a board that is further is found from the first one
  pub found-further : (a b c : BoardValue N) (machine : Machine) (ask : Ask) (bound : ℕ) → IsFurther reading a b → HasFound reading b c machine ask bound → HasFound reading a c machine ask bound
  found-further a b c machine ask bound x found = record {
    further = further-trans a b c x found.further;
    first = found.first;
    list = found.list;
    end = found.end;
    laid = found.laid;
    complete = found.complete;
    is_bound = found.is_bound;
    in_time = found.in_time;
  }

  pub deeper-further : (a b c : BoardValue N) (machine : Machine) (ask : Ask) (bound : ℕ) (list : Laid) → IsFurther reading a b → IsDeeper reading b c machine ask bound list
      → IsDeeper reading a c machine ask bound list
  deeper-further a b c machine ask bound list x deeper = record { further = further-trans a b c x deeper.further; carries = deeper.carries; in_time = deeper.in_time }

module _ {N A : Type 0} (reading : Reading N) (untouched : N → A) where
  -- after a mark
  pub further-marked : (a b : BoardValue N) (mark : ℕ) → IsMarked reading untouched a b mark → IsFurther reading a b
  further-marked a b mark m = record { kept = content_of reading a ∷ []; past_more = m.past_more; loaded = load-of reading untouched a b m.untouched_same; marks = m.room_same }

  -- taken back to the mark, a board that is further is as the board before it
  module _ (a b c : BoardValue N) (mark : ℕ) (m : IsMarked reading untouched a b mark) (x : IsFurther reading b c) where
    past-is : past_of reading c ≡ past_of reading a ++ content_of reading a ∷ x.kept
    past-is = x.past_more ∙ ap (λ p. p ++ x.kept) m.past_more ∙ append_assoc (past_of reading a) (content_of reading a ∷ []) x.kept

    pub further-undone : UndoKeeps reading untouched → (d : BoardValue N) (machine : Machine) → Stands reading c machine → IsUndone reading untouched c d mark → IsBack reading a d machine
    further-undone undoes d machine stands u =
        let load = load-trans reading a b c (load-of reading untouched a b m.untouched_same) x.loaded in
        undone-back reading untouched undoes a c d machine mark x.kept m.number past-is load (x.marks ∙ m.room_same) (λ s. stands) u
