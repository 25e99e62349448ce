-- A board with marks: what was done since one is taken back.
use Rattle.std.proofs.Common.{◌≡◌, ℕ, ◌-◌, ◌<◌, [], ◌∷◌, ◌++◌, length, take, refl, ap, sym, ◌∙◌, arith, Some}
use Rattle.std.specs.Prelude.{slice_get}
use Rattle.std.proofs.lemmas.List.{length-append}
use Rattle.std.proofs.Math.Seq.{take-append_seam}
use Rattle.std.proofs.lemmas.Option.{same_Some}
use Rattle.tp_base.specs.Readings.{Reading}
use Rattle.tp_base.proofs.SliceFacts.{slice_get_last}
use Rattle.tp_machine.specs.declared.machine.Machine.{Machine}
use Rattle.tp_placing.specs.Boards.{BoardValue, BoardUntouched, content_of, untouched_of, past_of}
use Rattle.tp_placing.specs.Calls.{IsSameLoad}
use Rattle.tp_placing.specs.Laws.{MarkKeeps, UndoKeeps}
use Rattle.tp_bound_make.specs.TreeProgress.{IsBack, IsSince}

pub load-trans : {N : Type 0} (a b c : BoardValue N) → IsSameLoad a b → IsSameLoad b c → IsSameLoad a c
load-trans a b c x y = record { made_for = y.made_for ∙ x.made_for; plans = y.plans ∙ x.plans; ask = y.ask ∙ x.ask }

module _ {N : Type 0} (reading : Reading N) where
  pub since-itself : (b : BoardValue N) (machine : Machine) → IsSince reading b b machine
  since-itself b machine = record { past_same = refl; load = record { made_for = refl; plans = refl; ask = refl }; room = refl; stands = λ s. s }

  pub since-trans : (a b c : BoardValue N) (machine : Machine) → IsSince reading a b machine → IsSince reading b c machine → IsSince reading a c machine
  since-trans a b c machine x y = record { past_same = y.past_same ∙ x.past_same; load = load-trans a b c x.load y.load; room = y.room ∙ x.room; stands = λ s. y.stands (x.stands s) }

  pub back-itself : (b : BoardValue N) (machine : Machine) → IsBack reading b b machine
  back-itself b machine = record { content_same = refl; since = since-itself b machine }

  pub back-trans : (a b c : BoardValue N) (machine : Machine) → IsBack reading a b machine → IsBack reading b c machine → IsBack reading a c machine
  back-trans a b c machine x y = record { content_same = y.content_same ∙ x.content_same; since = since-trans a b c machine x.since y.since }

module _ {N A : Type 0} (reading : Reading N) (untouched : N → A) where
  -- a board after a mark
  pub record IsMarked (b b' : BoardValue N) (mark : ℕ) : Type 0 where
    pub number : mark ≡ length (past_of reading b)
    pub past_more : past_of reading b' ≡ past_of reading b ++ content_of reading b ∷ []
    pub content_same : content_of reading b' ≡ content_of reading b
    pub untouched_same : untouched_of untouched b' ≡ untouched_of untouched b
    pub room_same : reading.max_marks b'.net - 1 ≡ reading.max_marks b.net - 1

  -- and after it is taken back to one
  pub record IsUndone (b b' : BoardValue N) (mark : ℕ) : Type 0 where
    pub content_then : slice_get (past_of reading b) mark ≡ Some (content_of reading b')
    pub past_less : past_of reading b' ≡ take mark (past_of reading b)
    pub untouched_same : untouched_of untouched b' ≡ untouched_of untouched b
    pub room_same : reading.max_marks b'.net - 1 ≡ reading.max_marks b.net - 1

  -- marks leave the load of a board alone
  pub load-of : (a b : BoardValue N) → untouched_of untouched b ≡ untouched_of untouched a → IsSameLoad a b
  load-of a b e = record {
    made_for = ap (λ (x : BoardUntouched A). x.made_for) e;
    plans = ap (λ (x : BoardUntouched A). x.plans) e;
    ask = ap (λ (x : BoardUntouched A). x.ask) e;
  }

  -- what was done since a mark is taken back
  pub taken-back : MarkKeeps reading untouched → UndoKeeps reading untouched → (b0 b1 b2 b3 : BoardValue N) (machine : Machine) (mark : ℕ) → IsMarked b0 b1 mark → IsSince reading b1 b2 machine → IsUndone b2 b3 mark
      → IsBack reading b0 b3 machine
  taken-back keeps undoes b0 b1 b2 b3 machine mark m since u =
      let was : past_of reading b2 ≡ past_of reading b0 ++ content_of reading b0 ∷ [] = since.past_same ∙ m.past_more in
      let at : slice_get (past_of reading b2) mark ≡ Some (content_of reading b0) = (λ i. slice_get (was i) (m.number i)) ∙ slice_get_last (past_of reading b0) (content_of reading b0) in
      let content_back : content_of reading b3 ≡ content_of reading b0 = same_Some (content_of reading b3) (content_of reading b0) (sym u.content_then ∙ at) in
      let past_back : past_of reading b3 ≡ past_of reading b0 = u.past_less ∙ (λ i. take (m.number i) (was i)) ∙ take-append_seam (past_of reading b0) (content_of reading b0 ∷ []) in
      let marked = load-of b0 b1 m.untouched_same in
      record {
        content_same = content_back;
        since = record {
          past_same = past_back;
          load = load-trans b0 b2 b3 (load-trans b0 b1 b2 marked since.load) (load-of b2 b3 u.untouched_same);
          room = u.room_same ∙ since.room ∙ m.room_same;
          stands = λ s. undoes b2 b3 machine mark u.content_then u.untouched_same u.past_less (since.stands (keeps b0 b1 machine m.content_same m.untouched_same m.past_more s));
        };
      }

  -- the mark is in force until then
  pub mark-known : (b0 b1 b2 : BoardValue N) (mark : ℕ) → IsMarked b0 b1 mark → past_of reading b2 ≡ past_of reading b1 → mark < length (past_of reading b2)
  mark-known b0 b1 b2 mark m same = omega (arith, ap length (same ∙ m.past_more), length-append (past_of reading b0) (content_of reading b0 ∷ []), m.number)
