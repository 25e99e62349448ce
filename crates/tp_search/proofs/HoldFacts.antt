-- The list that a board holds over another board: what it was laid on, and that it can be taken off.
use Rattle.std.proofs.Common.{◌≡◌, ℕ, ◌-◌, ◌<◌, List, [], ◌∷◌, ◌++◌, length, take, Option, Some, None, refl, sym, ap, subst, ◌∙◌, le_trans, arith}
use Rattle.std.proofs.Math.Seq.{take-append_seam}
use Rattle.std.proofs.lemmas.List.{append_assoc, length-append}
use Rattle.std.proofs.lemmas.Option.{same_Some}
use Rattle.std.specs.List.{slice_get}
use Rattle.tp_base.specs.Readings.{Reading}
use Rattle.tp_machine.specs.declared.parts.State.{State}
use Rattle.tp_machine.specs.declared.machine.Machine.{Machine}
use Rattle.tp_schedule.specs.Answers.{IsAsked, NoneBefore}
use Rattle.tp_schedule.specs.Choices.{ChoiceList, IsBound, IsComplete}
use Rattle.tp_schedule.specs.Legality.{IsLegal}
use Rattle.tp_schedule.specs.declared.parts.Ask.{Ask}
use Rattle.tp_placing.specs.Boards.{BoardValue, content_of, past_of}
use Rattle.tp_placing.specs.Laws.{MarkKeeps, UndoKeeps}
use Rattle.tp_placing.specs.LoadedBoard.{Stands}
use Rattle.tp_search.specs.Boards.{HasMarks, IsBack, IsReady}
use Rattle.tp_search.specs.Children.{HasFound}
use Rattle.tp_search.specs.StoredLists.{HasList, IsSameButSteps}
use Rattle.tp_search.specs.HeldLists.{IsLaidSince, IsOver}
use Rattle.tp_search.specs.Outcomes.{HasAnswer}
use Rattle.tp_search.specs.declared.held_list.HeldList.{HeldList}
use Rattle.tp_search.specs.declared.held_list.Root.{Root}
use Rattle.tp_search.proofs.BoardSteps.{IsMarked, IsUndone, load-of, load-trans, ready-back, slice-at}
use Rattle.tp_search.proofs.StepBoards.{marked-ready, stands-asked, stands-legal}

pub two-behind : {X : Type 0} (xs : List X) (y x : X) → (xs ++ y ∷ []) ++ x ∷ [] ≡ xs ++ y ∷ x ∷ []
two-behind [] y x = refl
two-behind (z ∷ xs) y x = ap (λ l. z ∷ l) (two-behind xs y x)

module _ {N : Type 0} (reading : Reading N) where
  -- the same is loaded
  pub over-plans : (b b' : BoardValue N) (machine : Machine) (ask : Ask) (held : Option HeldList) → IsOver reading b b' machine ask held → b'.plans ≡ b.plans
  over-plans b b' machine ask None back = back.loaded.plans
  over-plans b b' machine ask (Some held) since = since.loaded.plans

  over-ask : (b b' : BoardValue N) (machine : Machine) (ask : Ask) (held : Option HeldList) → IsOver reading b b' machine ask held → b'.ask ≡ b.ask
  over-ask b b' machine ask None back = back.loaded.ask
  over-ask b b' machine ask (Some held) since = since.loaded.ask

  -- the board stands on the machine
  over-stands : (b b' : BoardValue N) (machine : Machine) (ask : Ask) (held : Option HeldList) → IsReady reading b machine ask → IsOver reading b b' machine ask held → Stands reading b' machine
  over-stands b b' machine ask None ready back = back.stands ready.stands
  over-stands b b' machine ask (Some held) ready since = since.stands

  -- the plans are legal, and the ask can be put on them
  pub over-legal : (b b' : BoardValue N) (machine : Machine) (ask : Ask) (held : Option HeldList) → IsReady reading b machine ask → IsOver reading b b' machine ask held → IsLegal machine b'.plans
  over-legal b b' machine ask held ready over = stands-legal reading b' machine (over-stands b b' machine ask held ready over)

  pub over-asked : (b b' : BoardValue N) (machine : Machine) (ask : Ask) (held : Option HeldList) → IsReady reading b machine ask → IsOver reading b b' machine ask held → b'.ask ≡ Some ask
  over-asked b b' machine ask held ready over = over-ask b b' machine ask held over ∙ ready.asked

  pub over-can_ask : (b b' : BoardValue N) (machine : Machine) (ask : Ask) (held : Option HeldList) → IsReady reading b machine ask → IsOver reading b b' machine ask held → IsAsked machine b'.plans ask
  over-can_ask b b' machine ask held ready over = stands-asked reading b' machine ask (over-stands b b' machine ask held ready over) (over-asked b b' machine ask held ready over)

  -- a board that is back has a spare mark where it had one
  pub back-spare : (b b' : BoardValue N) (machine : Machine) → IsBack reading b b' machine → HasMarks reading 1 b → length (past_of reading b') < reading.max_marks b'.net - 1
  back-spare b b' machine back spare = omega (arith, spare, ap length back.same_past, back.marks)

  pub marks-some : (b : BoardValue N) → HasMarks reading 7 b → HasMarks reading 1 b
  marks-some b spare = omega (arith, spare)

  pub some-marks : (b : BoardValue N) → HasMarks reading 8 b → HasMarks reading 1 b
  some-marks b spare = omega (arith, spare)

  -- six marks are spare after those that are set
  pub since-marks : (b b' : BoardValue N) (machine : Machine) (ask : Ask) (base : ℕ) (root : Option Root) → IsLaidSince reading b b' machine ask base root → HasMarks reading 7 b → HasMarks reading 6 b'
  since-marks b b' machine ask base None since spare = omega (arith, spare, ap length since.past_more, length-append (past_of reading b) (content_of reading b ∷ since.kept), ap length since.are_kept, since.marks)
  since-marks b b' machine ask base (Some root) since spare = omega (arith, since.room, ap length since.past_more, length-append (past_of reading b) (content_of reading b ∷ since.kept), ap length since.are_kept.1, since.marks)

  module _ (b b' : BoardValue N) (machine : Machine) (ask : Ask) (base : ℕ) (root : Option Root) (since : IsLaidSince reading b b' machine ask base root) where
    -- the mark is in force
    pub since-known : base < length (past_of reading b')
    since-known = omega (arith, ap length since.past_more, length-append (past_of reading b) (content_of reading b ∷ since.kept), since.number)

    -- more was laid
    pub since-more : (b'' : BoardValue N) → IsSameButSteps reading b' b'' → Stands reading b'' machine → IsLaidSince reading b b'' machine ask base root
    since-more b'' same stands = record {
      number = since.number;
      kept = since.kept;
      past_more = same.same_past ∙ since.past_more;
      are_kept = since.are_kept;
      room = since.room;
      loaded = load-trans reading b b' b'' since.loaded same.loaded;
      marks = ap (λ n. n - 1) same.marks ∙ since.marks;
      stands = stands;
    }

    pub since-back : (b'' : BoardValue N) → IsBack reading b' b'' machine → IsLaidSince reading b b'' machine ask base root
    since-back b'' back = record {
      number = since.number;
      kept = since.kept;
      past_more = back.same_past ∙ since.past_more;
      are_kept = since.are_kept;
      room = since.room;
      loaded = load-trans reading b b' b'' since.loaded back.loaded;
      marks = back.marks ∙ since.marks;
      stands = back.stands since.stands;
    }

  -- a complete list that was laid, before whose bound no answer ends
  pub since-answer : (b b' : BoardValue N) (machine : Machine) (ask : Ask) (base : ℕ) (root : Option Root) → IsLaidSince reading b b' machine ask base root → (first : State) (list : ChoiceList) (bound : ℕ) → HasList reading b' machine ask first list
      → IsComplete machine ask list → IsBound machine b.plans ask list bound → NoneBefore machine b.plans ask bound → HasAnswer reading b b' machine ask base
  since-answer b b' machine ask base root since first list bound laid complete is-bound none = record {
    number = since.number;
    kept = since.kept;
    past_more = since.past_more;
    loaded = since.loaded;
    marks = since.marks;
    first = first;
    list = list;
    bound = bound;
    laid = laid;
    complete = complete;
    is_bound = is-bound;
    none_before = none;
  }

  -- a complete list that was found from what was laid on, and ends by a bound before which no answer ends
  pub since-found : (b b1 b' : BoardValue N) (machine : Machine) (ask : Ask) (base : ℕ) (root : Option Root) (bound : ℕ) → IsLaidSince reading b b1 machine ask base root → HasFound reading b1 b' machine ask bound
      → NoneBefore machine b.plans ask bound → HasAnswer reading b b' machine ask base
  since-found b b1 b' machine ask base root bound since found none = record {
    number = since.number;
    kept = since.kept ++ found.further.kept;
    past_more = found.further.past_more ∙ ap (λ p. p ++ found.further.kept) since.past_more ∙ append_assoc (past_of reading b) (content_of reading b ∷ since.kept) found.further.kept;
    loaded = load-trans reading b b1 b' since.loaded found.further.loaded;
    marks = found.further.marks ∙ since.marks;
    first = found.first;
    list = found.list;
    bound = found.end;
    laid = found.laid;
    complete = found.complete;
    is_bound = subst (λ ps. IsBound machine ps ask found.list found.end) (found.further.loaded.plans ∙ since.loaded.plans) found.is_bound;
    none_before = λ plans' a. le_trans found.in_time (none plans' a);
  }

module _ {N A : Type 0} (reading : Reading N) (untouched : N → A) where
  -- what was laid since the mark is taken off
  pub since-undone : UndoKeeps reading untouched → (b b' b'' : BoardValue N) (machine : Machine) (ask : Ask) (base : ℕ) (root : Option Root) → IsLaidSince reading b b' machine ask base root
      → IsUndone reading untouched b' b'' base → IsBack reading b b'' machine
  since-undone undoes b b' b'' machine ask base root since u =
      let at : slice_get (past_of reading b') base ≡ Some (content_of reading b) = (λ i. slice_get (since.past_more i) (since.number i)) ∙ slice-at (past_of reading b) (content_of reading b) since.kept in
      record {
        same_content = same_Some (content_of reading b'') (content_of reading b) (sym u.content_then ∙ at);
        same_past = u.past_less ∙ (λ i. take (since.number i) (since.past_more i)) ∙ take-append_seam (past_of reading b) (content_of reading b ∷ since.kept);
        loaded = load-trans reading b b' b'' since.loaded (load-of reading untouched b' b'' u.untouched_same);
        marks = u.room_same ∙ since.marks;
        stands = λ s. undoes b' b'' machine base u.content_then u.untouched_same u.past_less since.stands;
      }

  -- a mark on a board that is back
  pub since-mark : MarkKeeps reading untouched → (b b' b'' : BoardValue N) (machine : Machine) (ask : Ask) (mark : ℕ) → IsReady reading b machine ask → IsBack reading b b' machine
      → IsMarked reading untouched b' b'' mark → IsLaidSince reading b b'' machine ask mark None
  since-mark keeps b b' b'' machine ask mark ready back m = record {
    number = m.number ∙ ap length back.same_past;
    kept = [];
    past_more = m.past_more ∙ (λ i. back.same_past i ++ back.same_content i ∷ []);
    are_kept = refl;
    room = tt;
    loaded = load-trans reading b b' b'' back.loaded (load-of reading untouched b' b'' m.untouched_same);
    marks = m.room_same ∙ back.marks;
    stands = keeps b' b'' machine m.content_same m.untouched_same m.past_more (back.stands ready.stands);
  }

  pub ready-marked : MarkKeeps reading untouched → (b b' b'' : BoardValue N) (machine : Machine) (ask : Ask) (mark : ℕ) → IsReady reading b machine ask → IsBack reading b b' machine
      → IsMarked reading untouched b' b'' mark → IsReady reading b'' machine ask
  ready-marked keeps b b' b'' machine ask mark ready back m = marked-ready reading untouched keeps b' b'' machine ask mark m (ready-back reading b b' machine ask back ready)
