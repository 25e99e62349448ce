-- The steps of a dive: a place is tried on a marked board, and an action is opened.
use Rattle.std.proofs.Common.{◌≡◌, ℕ, suc, ◌+◌, ◌-◌, ◌<◌, ◌≤◌, IsSomeAnd, [], ◌∷◌, ◌++◌, length, Some, refl, sym, ap, ◌∙◌, arith}
use Rattle.std.specs.Prelude.{slice_get}
use Rattle.std.proofs.lemmas.List.{length-append}
use Rattle.tp_base.specs.Readings.{Reading}
use Rattle.tp_machine.specs.ModuleUse.{action_at}
use Rattle.tp_machine.specs.declared.parts.ActId.{ActId}
use Rattle.tp_machine.specs.declared.parts.HoldRule.{HoldRule}
use Rattle.tp_machine.specs.declared.parts.State.{State}
use Rattle.tp_machine.specs.declared.machine.Machine.{Machine}
use Rattle.tp_schedule.specs.Answers.{kept_of}
use Rattle.tp_schedule.specs.Holders.{holds_of_act}
use Rattle.tp_schedule.specs.declared.parts.Ask.{Ask}
use Rattle.tp_constraints.specs.Suffixes.{with_action, with_place}
use Rattle.tp_placing.specs.Boards.{BoardValue, content_of, past_of, suffix_of}
use Rattle.tp_placing.specs.Calls.{CanPlace, IsSameLoad}
use Rattle.tp_placing.specs.Laws.{MarkKeeps}
use Rattle.tp_placing.specs.LoadedBoard.{Stands, order_after}
use Rattle.tp_search.specs.Boards.{HasMarks, IsBack, IsFurther, IsLaid}
use Rattle.tp_search.specs.Dives.{CanDive, IsPlacing}
use Rattle.tp_search.specs.States.{IsBefore}
use Rattle.tp_search.specs.declared.stored_list.Laid.{Laid}
use Rattle.tp_search.proofs.BoardSteps.{IsMarked, laid-action, laid-back, laid-marked, laid-place, load-of, suffix-back}
use Rattle.tp_search.proofs.ChildBoards.{can-place, place-within}
use Rattle.tp_search.proofs.FurtherFacts.{further-back, further-marked, further-trans}

-- a mark is set on a board that is back
module _ {N A : Type 0} (reading : Reading N) (untouched : N → A) (machine : Machine) (ask : Ask) (b b1 b2 : BoardValue N) (mark : ℕ)
    (keeps : MarkKeeps reading untouched) (back : IsBack reading b b1 machine) (m : IsMarked reading untouched b1 b2 mark) where
  pub try-further : IsFurther reading b b2
  try-further = further-trans reading b b1 b2 (further-back reading b b1 machine back) (further-marked reading untouched b1 b2 mark m)

  pub try-marks : (count : ℕ) (b3 : BoardValue N) → HasMarks reading (suc count) b → past_of reading b3 ≡ past_of reading b2 → reading.max_marks b3.net ≡ reading.max_marks b2.net → HasMarks reading count b3
  try-marks count b3 marks past_same room =
      let one = ap length (past_same ∙ m.past_more) ∙ length-append (past_of reading b1) (content_of reading b1 ∷ []) in
      let old = ap length back.same_past in
      let rooms = ap (λ n. n - 1) room ∙ m.room_same ∙ back.marks in
      omega (arith, marks)

  plans-now : b2.plans ≡ b.plans
  plans-now = (load-of reading untouched b1 b2 m.untouched_same).plans ∙ back.loaded.plans

  -- the next hold is tried at a place
  module _ (act : ActId) (hold : ℕ) (list : Laid) (p : IsPlacing reading b machine ask act hold list) where
    try-laid : IsLaid reading b2 machine ask p.goal list.first (record { act = act; places = p.places } ∷ p.choices)
    try-laid =
        laid-marked reading untouched keeps b1 b2 mark machine ask p.goal list.first (record { act = act; places = p.places } ∷ p.choices) m
        (laid-back reading b b1 machine ask p.goal list.first (record { act = act; places = p.places } ∷ p.choices) back p.laid)

    pub try-stands : Stands reading b2 machine
    try-stands = try-laid.stands

    module _ (rule : HoldRule) (place : ℕ) (is_rule : slice_get (holds_of_act (action_at machine act.0)) hold ≡ Some rule) (within : place ≤ length (order_after machine b.plans (suffix_of b) rule.resource.0)) where
      within-now : place ≤ length (order_after machine b2.plans (suffix_of b2) rule.resource.0)
      within-now =
          let suffix : suffix_of b2 ≡ suffix_of b = suffix-back reading b1 b2 m.content_same ∙ suffix-back reading b b1 back.same_content in
          let order : order_after machine b2.plans (suffix_of b2) rule.resource.0 ≡ order_after machine b.plans (suffix_of b) rule.resource.0 = λ i. order_after machine (plans-now i) (suffix i) rule.resource.0 in
          omega (arith, ap length order, within)

      rule-next : slice_get (holds_of_act (action_at machine act.0)) (length p.places) ≡ Some rule
      rule-next = ap (slice_get (holds_of_act (action_at machine act.0))) (sym p.next) ∙ is_rule

      pub try-can : IsSomeAnd (suffix_of b2) (λ x. CanPlace machine b2.plans x hold place)
      try-can = can-place reading b2 machine ask p.goal list.first p.choices act p.places try-laid hold place rule p.next is_rule within-now

      -- and has its place there
      pub try-placed : hold < length (holds_of_act (action_at machine act.0)) → (b3 : BoardValue N) → IsSomeAnd (suffix_of b2) (λ x. suffix_of b3 ≡ Some (with_place place x)) → Stands reading b3 machine → IsSameLoad b2 b3
          → IsPlacing reading b3 machine ask act (hold + 1) list
      try-placed some b3 put stands load = record {
        goal = p.goal;
        choices = p.choices;
        places = p.places ++ place ∷ [];
        laid = laid-place reading b2 b3 machine ask p.goal list.first p.choices act p.places place rule try-laid put stands load rule-next
            (place-within reading b2 machine ask p.goal list.first p.choices act p.places try-laid place rule within-now);
        placed = p.placed;
        next = omega (arith, p.next, length-append p.places (place ∷ []));
        within = omega (arith, some);
        count = p.count;
      }

  -- an action is opened
  module _ (list : Laid) (d : CanDive reading b machine ask list) where
    pub carries-now : CanDive reading b2 machine ask list
    carries-now = record {
      goal = d.goal;
      choices = d.choices;
      laid = laid-marked reading untouched keeps b1 b2 mark machine ask d.goal list.first d.choices m (laid-back reading b b1 machine ask d.goal list.first d.choices back d.laid);
      placed = d.placed;
      count = d.count;
    }

    pub carries-stands : Stands reading b2 machine
    carries-stands = carries-now.laid.stands

    pub try-opened : kept_of ask + list.count < 64 → (act : ActId) (before : State) (room : ℕ) (b3 : BoardValue N) → IsBefore machine ask act list.first (record { state = before; room = room }) → IsSomeAnd (suffix_of b2) (λ x. suffix_of b3 ≡ Some (with_action act room x))
        → Stands reading b3 machine → IsSameLoad b2 b3 → IsPlacing reading b3 machine ask act 0 (record { first = before; count = list.count + 1 })
    unfolding carries-now
    try-opened fewer act before room b3 r opened stands load = record {
      goal = d.goal;
      choices = d.choices;
      places = [];
      laid = laid-action reading b2 b3 machine ask d.goal list.first before d.choices act room carries-now.laid d.placed opened stands load r (omega (arith, fewer, d.count));
      placed = d.placed;
      next = refl;
      within = omega arith;
      count = omega (arith, d.count);
    }
