-- What a board carries after a step, and that it is back after it is taken back.
use Rattle.std.proofs.Common.{◌≡◌, ℕ, ◌+◌, ◌-◌, ◌<◌, ◌≤◌, List, [], ◌∷◌, ◌++◌, length, take, refl, ap, sym, ◌∙◌, subst, arith, Some, IsSomeAnd}
use Rattle.std.specs.Prelude.{slice_get}
use Rattle.std.proofs.lemmas.List.{length-append}
use Rattle.std.proofs.Math.Seq.{take-append_seam}
use Rattle.std.proofs.lemmas.Option.{same_Some}
use Rattle.tp_base.specs.Readings.{Reading}
use Rattle.tp_machine.specs.ModuleUse.{action_at}
use Rattle.tp_machine.specs.declared.parts.ActId.{ActId}
use Rattle.tp_machine.specs.declared.parts.HoldRule.{HoldRule}
use Rattle.tp_machine.specs.declared.parts.State.{State}
use Rattle.tp_machine.specs.declared.machine.Machine.{Machine}
use Rattle.tp_schedule.specs.Answers.{kept_of}
use Rattle.tp_schedule.specs.Choices.{Choice}
use Rattle.tp_schedule.specs.Holders.{holds_of_act}
use Rattle.tp_schedule.specs.declared.parts.Ask.{Ask}
use Rattle.tp_constraints.specs.Suffixes.{Suffix, order_in, place_first, with_action, with_place}
use Rattle.tp_placing.specs.Boards.{BoardValue, BoardContent, BoardUntouched, content_of, untouched_of, past_of, suffix_of, suffix_after}
use Rattle.tp_placing.specs.Calls.{IsSameLoad}
use Rattle.tp_placing.specs.Laws.{MarkKeeps, UndoKeeps}
use Rattle.tp_placing.specs.LoadedBoard.{Stands}
use Rattle.tp_placing.specs.RefusedPlace.{StandsBack}
use Rattle.tp_placing.proofs.StandFacts.{and-some, some-and}
use Rattle.tp_search.specs.Boards.{IsBack, IsLaid, IsReady, IsWayOf}
use Rattle.tp_search.specs.States.{IsBefore}
use Rattle.tp_constraints.specs.Ways.{IsPlaced, IsWay}
use Rattle.tp_constraints.proofs.WaySteps.{action-way, place-way}

module _ {N : Type 0} (reading : Reading N) where
  pub load-trans : (a b c : BoardValue N) → IsSameLoad a b → IsSameLoad b c → IsSameLoad a c
  load-trans a b c x y = record { made_for = y.made_for ∙ x.made_for; plans = y.plans ∙ x.plans; ask = y.ask ∙ x.ask }

  pub back-itself : (b : BoardValue N) (machine : Machine) → IsBack reading b b machine
  back-itself b machine = record { same_content = refl; same_past = refl; loaded = record { made_for = refl; plans = refl; ask = refl }; marks = refl; stands = λ s. s }

  pub back-trans : (a b c : BoardValue N) (machine : Machine) → IsBack reading a b machine → IsBack reading b c machine → IsBack reading a c machine
  back-trans a b c machine x y = record {
    same_content = y.same_content ∙ x.same_content;
    same_past = y.same_past ∙ x.same_past;
    loaded = load-trans a b c x.loaded y.loaded;
    marks = y.marks ∙ x.marks;
    stands = λ s. y.stands (x.stands s);
  }

  -- a board that is back is ready where it was
  pub ready-back : (b b' : BoardValue N) (machine : Machine) (ask : Ask) → IsBack reading b b' machine → IsReady reading b machine ask → IsReady reading b' machine ask
  ready-back b b' machine ask back r = record {
    stands = back.stands r.stands;
    asked = back.loaded.ask ∙ r.asked;
    closed = ap (λ (x : BoardContent). suffix_after x.steps) back.same_content ∙ r.closed;
  }

  -- what is taken back to a mark: the marks and the load are the same
  pub record IsSince (b b' : BoardValue N) (machine : Machine) : Type 0 where
    pub past_same : past_of reading b' ≡ past_of reading b
    pub load : IsSameLoad b b'
    pub room : reading.max_marks b'.net - 1 ≡ reading.max_marks b.net - 1
    pub stands : Stands reading b machine → Stands reading b' machine

  -- after one step, and after more that are back
  pub since-step : (b b' : BoardValue N) (machine : Machine) → past_of reading b' ≡ past_of reading b → IsSameLoad b b' → reading.max_marks b'.net ≡ reading.max_marks b.net → (Stands reading b machine → Stands reading b' machine)
      → IsSince b b' machine
  since-step b b' machine past_same load room stands = record { past_same = past_same; load = load; room = ap (λ n. n - 1) room; stands = stands }

  pub since-back : (a b c : BoardValue N) (machine : Machine) → IsSince a b machine → IsBack reading b c machine → IsSince a c machine
  since-back a b c machine x y = record {
    past_same = y.same_past ∙ x.past_same;
    load = load-trans a b c x.load y.loaded;
    room = y.marks ∙ x.room;
    stands = λ s. y.stands (x.stands s);
  }

  -- a board that is back carries what it carried
  pub suffix-back : (b b' : BoardValue N) → content_of reading b' ≡ content_of reading b → suffix_of b' ≡ suffix_of b
  suffix-back b b' e = ap (λ (x : BoardContent). suffix_after x.steps) e

  pub laid-as : (b b' : BoardValue N) (machine : Machine) (ask : Ask) (goal first : State) (choices : List Choice) → content_of reading b' ≡ content_of reading b → IsSameLoad b b' → Stands reading b' machine
      → IsLaid reading b machine ask goal first choices → IsLaid reading b' machine ask goal first choices
  laid-as b b' machine ask goal first choices same load stands l = record {
    stands = stands;
    asked = load.ask ∙ l.asked;
    way = subst (λ ps. IsSomeAnd (suffix_of b') (IsWayOf machine ps ask goal first choices)) (sym load.plans) (subst (λ o. IsSomeAnd o (IsWayOf machine b.plans ask goal first choices)) (sym (suffix-back b b' same)) l.way);
  }

  pub laid-back : (b b' : BoardValue N) (machine : Machine) (ask : Ask) (goal first : State) (choices : List Choice) → IsBack reading b b' machine
      → IsLaid reading b machine ask goal first choices → IsLaid reading b' machine ask goal first choices
  laid-back b b' machine ask goal first choices back l = laid-as b b' machine ask goal first choices back.same_content back.loaded (back.stands l.stands) l

  -- the way that a board carries
  pub record TheWay (b : BoardValue N) (machine : Machine) (ask : Ask) (goal first : State) (choices : List Choice) : Type 0 where
    pub x : Suffix
    pub suffix : suffix_of b ≡ Some x
    pub is : IsWayOf machine b.plans ask goal first choices x

  pub the-way : (b : BoardValue N) (machine : Machine) (ask : Ask) (goal first : State) (choices : List Choice) → IsLaid reading b machine ask goal first choices → TheWay b machine ask goal first choices
  the-way b machine ask goal first choices l =
      let y = some-and (suffix_of b) (IsWayOf machine b.plans ask goal first choices) l.way in
      record { x = y.0; suffix = y.1; is = y.2 }

  -- one action more
  pub laid-action : (b b' : BoardValue N) (machine : Machine) (ask : Ask) (goal first before : State) (choices : List Choice) (act : ActId) (room : ℕ) → (l : IsLaid reading b machine ask goal first choices) → IsPlaced machine choices
      → IsSomeAnd (suffix_of b) (λ x. suffix_of b' ≡ Some (with_action act room x)) → Stands reading b' machine → IsSameLoad b b' → IsBefore machine ask act first (record { state = before; room = room }) → kept_of ask + length choices < 64
      → IsLaid reading b' machine ask goal before (record { act = act; places = [] } ∷ choices)
  laid-action b b' machine ask goal first before choices act room l placed opened stands load r fewer =
      let w = the-way b machine ask goal first choices l in
      let now : suffix_of b' ≡ Some (with_action act room w.x) = subst (λ o. IsSomeAnd o (λ x. suffix_of b' ≡ Some (with_action act room x))) w.suffix opened in
      let same = w.is.same in
      let placed' : IsPlaced machine w.x.choices = subst (IsPlaced machine) (sym same) placed in
      let many = ap length same in
      let way = action-way machine b.plans ask goal first before w.x act room w.is.way placed' w.is.going r.step r.allowed r.is_room (omega arith) in
      record {
        stands = stands;
        asked = load.ask ∙ l.asked;
        way = and-some (suffix_of b') (with_action act room w.x) (IsWayOf machine b'.plans ask goal before (record { act = act; places = [] } ∷ choices)) now (record {
          way = subst (λ ps. IsWay machine ps ask goal before (with_action act room w.x)) (sym load.plans) way;
          same = ap (λ cs. record { act = act; places = [] } ∷ cs) same;
          going = w.is.going;
        });
      }

  -- one place more
  pub laid-place : (b b' : BoardValue N) (machine : Machine) (ask : Ask) (goal first : State) (choices : List Choice) (act : ActId) (places : List ℕ) (place : ℕ) (rule : HoldRule)
      → IsLaid reading b machine ask goal first (record { act = act; places = places } ∷ choices)
      → IsSomeAnd (suffix_of b) (λ x. suffix_of b' ≡ Some (with_place place x)) → Stands reading b' machine → IsSameLoad b b' → slice_get (holds_of_act (action_at machine act.0)) (length places) ≡ Some rule
      → IsSomeAnd (suffix_of b) (λ x. place ≤ length (order_in machine b.plans x rule.resource.0)) → IsLaid reading b' machine ask goal first (record { act = act; places = places ++ place ∷ [] } ∷ choices)
  laid-place b b' machine ask goal first choices act places place rule l put stands load is_rule within =
      let w = the-way b machine ask goal first (record { act = act; places = places } ∷ choices) l in
      let now : suffix_of b' ≡ Some (with_place place w.x) = subst (λ o. IsSomeAnd o (λ x. suffix_of b' ≡ Some (with_place place x))) w.suffix put in
      let inside : place ≤ length (order_in machine b.plans w.x rule.resource.0) = subst (λ o. IsSomeAnd o (λ x. place ≤ length (order_in machine b.plans x rule.resource.0))) w.suffix within in
      let way = place-way machine b.plans ask goal first w.x (record { act = act; places = places }) choices rule place w.is.way w.is.going w.is.same is_rule inside in
      record {
        stands = stands;
        asked = load.ask ∙ l.asked;
        way = and-some (suffix_of b') (with_place place w.x) (IsWayOf machine b'.plans ask goal first (record { act = act; places = places ++ place ∷ [] } ∷ choices)) now (record {
          way = subst (λ ps. IsWay machine ps ask goal first (with_place place w.x)) (sym load.plans) way;
          same = placed-first w.x.choices (w.is.same);
          going = w.is.going;
        });
      } where
        placed-first : (cs : List Choice) → cs ≡ record { act = act; places = places } ∷ choices → place_first place cs ≡ record { act = act; places = places ++ place ∷ [] } ∷ choices
        placed-first cs e = ap (place_first place) e

-- the element behind the first ones
pub slice-at : {X : Type 0} (xs : List X) (x : X) (ys : List X) → slice_get (xs ++ x ∷ ys) (length xs) ≡ Some x
slice-at [] x ys = refl
slice-at (y ∷ xs) x ys = slice-at xs x ys

-- with marks
module _ {N A : Type 0} (reading : Reading N) (untouched : N → A) where
  -- a board after a mark
  pub record IsMarked (b b' : BoardValue N) (mark : ℕ) : Type 0 where
    pub number : mark ≡ length (past_of reading b)
    pub past_more : past_of reading b' ≡ past_of reading b ++ content_of reading b ∷ []
    pub content_same : content_of reading b' ≡ content_of reading b
    pub untouched_same : untouched_of untouched b' ≡ untouched_of untouched b
    pub room_same : reading.max_marks b'.net - 1 ≡ reading.max_marks b.net - 1

  -- and after it is taken back to one
  pub record IsUndone (b b' : BoardValue N) (mark : ℕ) : Type 0 where
    pub content_then : slice_get (past_of reading b) mark ≡ Some (content_of reading b')
    pub past_less : past_of reading b' ≡ take mark (past_of reading b)
    pub untouched_same : untouched_of untouched b' ≡ untouched_of untouched b
    pub room_same : reading.max_marks b'.net - 1 ≡ reading.max_marks b.net - 1

  -- what is taken back to a mark, where the board may stand only then
  pub record IsSinceMark (b b' : BoardValue N) (machine : Machine) : Type 0 where
    pub past_same : past_of reading b' ≡ past_of reading b
    pub load : IsSameLoad b b'
    pub room : reading.max_marks b'.net - 1 ≡ reading.max_marks b.net - 1
    pub back : Stands reading b machine → StandsBack reading untouched b' machine

  pub since-mark : UndoKeeps reading untouched → (b b' : BoardValue N) (machine : Machine) → IsSince reading b b' machine → IsSinceMark b b' machine
  since-mark undoes b b' machine since = record {
    past_same = since.past_same;
    load = since.load;
    room = since.room;
    back = λ s back k there untouched_same less. undoes b' back machine k there untouched_same less (since.stands s);
  }

  -- marks leave the load of a board alone
  pub load-of : (a b : BoardValue N) → untouched_of untouched b ≡ untouched_of untouched a → IsSameLoad a b
  load-of a b e = record {
    made_for = ap (λ (x : BoardUntouched A). x.made_for) e;
    plans = ap (λ (x : BoardUntouched A). x.plans) e;
    ask = ap (λ (x : BoardUntouched A). x.ask) e;
  }

  -- a board that is undone to a mark, which was made on another board, is as that one
  pub undone-mark : (b0 b2 b3 : BoardValue N) (machine : Machine) (mark : ℕ) (kept : List BoardContent) → mark ≡ length (past_of reading b0) → past_of reading b2 ≡ past_of reading b0 ++ content_of reading b0 ∷ kept
      → IsSameLoad b0 b2 → reading.max_marks b2.net - 1 ≡ reading.max_marks b0.net - 1 → (Stands reading b0 machine → StandsBack reading untouched b2 machine) → IsUndone b2 b3 mark → IsBack reading b0 b3 machine
  undone-mark b0 b2 b3 machine mark kept number was load room stands u =
      let at : slice_get (past_of reading b2) mark ≡ Some (content_of reading b0) = (λ i. slice_get (was i) (number i)) ∙ slice-at (past_of reading b0) (content_of reading b0) kept in
      let content_back : content_of reading b3 ≡ content_of reading b0 = same_Some (content_of reading b3) (content_of reading b0) (sym u.content_then ∙ at) in
      let past_back : past_of reading b3 ≡ past_of reading b0 = u.past_less ∙ (λ i. take (number i) (was i)) ∙ take-append_seam (past_of reading b0) (content_of reading b0 ∷ kept) in
      record {
        same_content = content_back;
        same_past = past_back;
        loaded = load-trans reading b0 b2 b3 load (load-of b2 b3 u.untouched_same);
        marks = u.room_same ∙ room;
        stands = λ s. stands s b3 mark u.content_then u.untouched_same u.past_less;
      }

  pub undone-back : UndoKeeps reading untouched → (b0 b2 b3 : BoardValue N) (machine : Machine) (mark : ℕ) (kept : List BoardContent) → mark ≡ length (past_of reading b0) → past_of reading b2 ≡ past_of reading b0 ++ content_of reading b0 ∷ kept
      → IsSameLoad b0 b2 → reading.max_marks b2.net - 1 ≡ reading.max_marks b0.net - 1 → (Stands reading b0 machine → Stands reading b2 machine) → IsUndone b2 b3 mark → IsBack reading b0 b3 machine
  undone-back undoes b0 b2 b3 machine mark kept number was load room stands u =
      undone-mark b0 b2 b3 machine mark kept number was load room (λ s back k there untouched_same less. undoes b2 back machine k there untouched_same less (stands s)) u

  -- what was done since a mark is taken back
  pub mark-back : MarkKeeps reading untouched → (b0 b1 b2 b3 : BoardValue N) (machine : Machine) (mark : ℕ) → IsMarked b0 b1 mark → IsSinceMark b1 b2 machine → IsUndone b2 b3 mark
      → IsBack reading b0 b3 machine
  mark-back keeps b0 b1 b2 b3 machine mark m since =
      undone-mark b0 b2 b3 machine mark [] m.number (since.past_same ∙ m.past_more) (load-trans reading b0 b1 b2 (load-of b0 b1 m.untouched_same) since.load) (since.room ∙ m.room_same)
      (λ s. since.back (keeps b0 b1 machine m.content_same m.untouched_same m.past_more s))

  pub taken-back : MarkKeeps reading untouched → UndoKeeps reading untouched → (b0 b1 b2 b3 : BoardValue N) (machine : Machine) (mark : ℕ) → IsMarked b0 b1 mark → IsSince reading b1 b2 machine → IsUndone b2 b3 mark
      → IsBack reading b0 b3 machine
  taken-back keeps undoes b0 b1 b2 b3 machine mark m since = mark-back keeps b0 b1 b2 b3 machine mark m (since-mark undoes b1 b2 machine since)

  -- the mark is in force until then
  pub mark-known : (b0 b1 b2 : BoardValue N) (mark : ℕ) → IsMarked b0 b1 mark → past_of reading b2 ≡ past_of reading b1 → mark < length (past_of reading b2)
  mark-known b0 b1 b2 mark m same = omega (arith, ap length (same ∙ m.past_more), length-append (past_of reading b0) (content_of reading b0 ∷ []), m.number)

  pub laid-marked : MarkKeeps reading untouched → (b b' : BoardValue N) (mark : ℕ) (machine : Machine) (ask : Ask) (goal first : State) (choices : List Choice) → IsMarked b b' mark
      → IsLaid reading b machine ask goal first choices → IsLaid reading b' machine ask goal first choices
  laid-marked keeps b b' mark machine ask goal first choices m l =
      laid-as reading b b' machine ask goal first choices m.content_same (load-of b b' m.untouched_same) (keeps b b' machine m.content_same m.untouched_same m.past_more l.stands) l
