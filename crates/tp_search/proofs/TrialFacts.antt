-- What a search found is a trial: its end is that of the earliest plans, and what is committed is one of them.
use Rattle.std.proofs.Common.{◌≡◌, ℕ, ◌-◌, ◌<◌, ◌≤◌, List, [], ap, length, filter, sym, subst, ◌∙◌, Some, IsSomeAnd, arith}
use Rattle.std.proofs.lemmas.List.{length-map}
use Rattle.tp_base.specs.Readings.{Reading}
use Rattle.tp_machine.specs.Machines.{IsMachine}
use Rattle.tp_machine.specs.declared.machine.Machine.{Machine}
use Rattle.tp_schedule.specs.Answers.{IsAlternative, NoneBefore}
use Rattle.tp_schedule.specs.Choices.{ChoiceList, IsBound, IsComplete, IsCompleteFrom, OpensTo}
use Rattle.tp_schedule.specs.Completions.{answered}
use Rattle.tp_schedule.specs.LivePlans.{is_live}
use Rattle.tp_schedule.specs.PlannerAnswers.{CanAsk}
use Rattle.tp_schedule.specs.Plans.{end_of_plan}
use Rattle.tp_schedule.specs.Routes.{least_sum, walk}
use Rattle.tp_schedule.specs.Spots.Spot.{own}
use Rattle.tp_schedule.specs.declared.parts.Ask.{Ask}
use Rattle.tp_schedule.specs.declared.parts.Origin.{Origin}
use Rattle.tp_schedule.specs.declared.parts.Origin.TheVariants.{Feeder as FromFeeder, Front as FromFront}
use Rattle.tp_schedule.specs.declared.parts.Plan.{Plan}
use Rattle.tp_choices.specs.LiveParts.{forgotten_on, shift_choice, shifted}
use Rattle.tp_choices.proofs.CompleteAnswers.{complete_answers}
use Rattle.tp_choices.proofs.LiveLists.{live_opens}
use Rattle.tp_choices.proofs.ShiftedLists.{acts-shifted}
use Rattle.tp_placing.specs.Boards.{BoardValue, past_of, suffix_of}
use Rattle.tp_placing.specs.Laws.{UndoKeeps}
use Rattle.tp_placing.specs.Ticks.{HasLeastTick, IsLeastTick, TimesOf}
use Rattle.tp_placing.specs.Commits.{CanCommit}
use Rattle.tp_placing.proofs.WriteLive.{gone, may-ask, may-forget, put-of}
use Rattle.tp_search.specs.Boards.{IsAtRest, IsBack, IsReady}
use Rattle.tp_search.specs.Outcomes.{HasAnswer}
use Rattle.tp_schedule.specs.PlannerAnswers.{IsKnownGoal}
use Rattle.tp_search.specs.Trials.{EndsEarliest, IsEarliestTo, IsTrial, board_in}
use Rattle.tp_search.specs.declared.trial.Trial.{Trial}
use Rattle.tp_constraints.proofs.WayAnswers.{complete-some}
use Rattle.tp_search.proofs.AnswerFacts.{answer-commits, answer-ends, none_before-whole, rest}
use Rattle.tp_search.proofs.BoardSteps.{IsUndone, undone-back}

-- a complete list stays complete with its places further on
pub complete-shifted : (machine : Machine) (ask : Ask) (counts : ℕ → ℕ) (list : ChoiceList) → IsComplete machine ask list → IsComplete machine ask (shifted machine counts list)
complete-shifted machine ask counts list = go ask.origin where
  go : (o : Origin) → IsCompleteFrom machine ask list o → IsCompleteFrom machine ask (shifted machine counts list) o
  go FromFeeder (s, first, start) = (s, subst (λ path. walk machine ask.want path s ≡ Some list.goal) (sym (acts-shifted machine counts list.choices)) first, start)
  go (FromFront state end count) h = h

-- an alternative before whose end none ends
pub earliest-to : (machine : Machine) (plans : List Plan) (ask : Ask) (end : ℕ) → NoneBefore machine plans ask end → (new : List Plan) (a : IsAlternative machine plans ask new) → end_of_plan a.plan ≡ end
    → IsEarliestTo machine plans ask end new
earliest-to machine plans ask end none new a ends = record { earliest = record { alternative = a; first = subst (NoneBefore machine plans ask) (sym ends) none }; ends = ends }

module _ (machine : Machine) (plans : List Plan) (ask : Ask) (can : CanAsk machine plans ask) (live : List Plan) (is : live ≡ filter (is_live machine ask.now) plans) (list : ChoiceList) (bound : ℕ) where
  -- a list of the live plans with its places further on, as it is on the whole schedule
  abbrev further : ChoiceList
  further = shifted machine (forgotten_on machine plans (gone machine plans ask.now can.plan_on)) list

  further-opens : OpensTo machine live ask list bound → OpensTo machine plans ask further bound
  further-opens opens =
      live_opens machine plans ask (gone machine plans ask.now can.plan_on) list bound (may-forget machine plans ask.now can.plan_on) (may-ask machine plans ask (put-of machine plans ask can))
      (subst (λ ps. OpensTo machine ps ask list bound) (rest machine plans ask can live is) opens)

  further-some : 0 < length list.choices → 0 < length further.choices
  further-some some = omega (arith, some, length-map list.choices (shift_choice machine (forgotten_on machine plans (gone machine plans ask.now can.plan_on))))

  -- a complete list that is open on the live plans is an alternative on the whole schedule
  pub whole-answer : IsMachine machine → IsKnownGoal machine ask.goal → IsComplete machine ask list → OpensTo machine live ask list bound → (other : List Plan) × IsAlternative machine plans ask other
  whole-answer is-machine known complete o =
      let opens = further-opens o in
      let some = further-some (complete-some machine live ask is-machine known list (bound, o) complete) in
      let done = complete-shifted machine ask (forgotten_on machine plans (gone machine plans ask.now can.plan_on)) list complete in
      let a = complete_answers machine plans ask further (least_sum machine opens.before) opens.ticks can.plan_on.legal can.asked opens.is_list done some opens.times in
      (answered plans ask further.choices opens.ticks, a.0)

  -- a complete list whose bound no alternative ends before tells the end of the earliest plans
  pub ends-earliest : IsMachine machine → IsKnownGoal machine ask.goal → IsComplete machine ask list → IsBound machine live ask list bound → NoneBefore machine live ask bound → EndsEarliest machine plans ask bound
  ends-earliest is-machine known complete is-bound none =
      let opens = further-opens is-bound.opens in
      let some = further-some (complete-some machine live ask is-machine known list (bound, is-bound.opens) complete) in
      let done = complete-shifted machine ask (forgotten_on machine plans (gone machine plans ask.now can.plan_on)) list complete in
      let a = complete_answers machine plans ask further (least_sum machine opens.before) opens.ticks can.plan_on.legal can.asked opens.is_list done some opens.times in (
        answered plans ask further.choices opens.ticks,
        earliest-to machine plans ask bound (none_before-whole machine plans ask can live is bound none) (answered plans ask further.choices opens.ticks) a.0 (a.1 ∙ opens.ends),
      )

module _ {N : Type 0} (reading : Reading N) (b : BoardValue N) (machine : Machine) (trial : Trial N) where
  -- what a search found is a trial to the least end of its board
  pub answer-trial : (ask : Ask) → IsReady reading b machine ask → past_of reading b ≡ [] → IsMachine machine → IsKnownGoal machine ask.goal → HasAnswer reading b (board_in trial) machine ask trial.base.0 → HasLeastTick machine (board_in trial) (own 0) trial.end
      → IsTrial reading b machine trial
  answer-trial ask ready unmarked is-machine known a least =
      let b' = board_in trial in
      record {
        unmarked = unmarked;
        number = a.number;
        kept = a.kept;
        past_more = a.past_more;
        loaded = a.loaded;
        marks = a.marks;
        stands = a.laid.stands;
        ask = ask;
        asked = a.laid.asked;
        ready = ready;
        complete = subst (λ o. IsSomeAnd o (λ k. IsSomeAnd (suffix_of b') (CanCommit machine b'.plans k))) a.laid.asked (answer-commits reading b b' machine ask trial.base.0 a is-machine known);
        ends = least;
        none_before = subst (λ ps. NoneBefore machine ps ask trial.end) (sym a.loaded.plans) (subst (NoneBefore machine b.plans ask) (sym (answer-ends reading b b' machine ask trial.base.0 a trial.end least)) a.none_before);
      }

  -- where it is undone to its mark, the board is as before
  pub trial-back : {A : Type 0} → (untouched : N → A) → UndoKeeps reading untouched → (b' : BoardValue N) → IsTrial reading b machine trial
      → IsUndone reading untouched (board_in trial) b' trial.base.0 → IsBack reading b b' machine
  trial-back untouched undoes b' t u = undone-back reading untouched undoes b (board_in trial) b' machine trial.base.0 t.kept t.number t.past_more t.loaded t.marks (λ _. t.stands) u

-- a board that is back where it was at rest is at rest
pub at-rest : {N : Type 0} (reading : Reading N) (b b' : BoardValue N) (machine : Machine) → IsAtRest reading b machine
    → IsBack reading b b' machine → IsAtRest reading b' machine
at-rest reading b b' machine rests back = record {
  stands = back.stands rests.stands;
  closed = ap (λ x. x.steps) back.same_content ∙ rests.closed;
  unmarked = back.same_past ∙ rests.unmarked;
}

-- it has as many marks in all
pub same-marks : (marks marks' : ℕ) → marks' - 1 ≡ marks - 1 → 330 ≤ marks → marks' ≡ marks
same-marks marks marks' same many = omega (arith, same, many)

-- a board has one least end
pub same-end : {N : Type 0} → (machine : Machine) (b : BoardValue N) (ask : Ask) → b.ask ≡ Some ask → (end other : ℕ) → HasLeastTick machine b (own 0) end → HasLeastTick machine b (own 0) other → end ≡ other
same-end machine b ask asked end other one two =
    let x : IsLeastTick (TimesOf machine b.plans ask (suffix_of b)) (own 0) end = subst (λ o. IsSomeAnd o (λ k. IsLeastTick (TimesOf machine b.plans k (suffix_of b)) (own 0) end)) asked one in
    let y : IsLeastTick (TimesOf machine b.plans ask (suffix_of b)) (own 0) other = subst (λ o. IsSomeAnd o (λ k. IsLeastTick (TimesOf machine b.plans k (suffix_of b)) (own 0) other)) asked two in
    let low = x.least y.ticks y.are_times in
    let high = y.least x.ticks x.are_times in
    omega (arith, low, high, x.there, y.there)

-- a board at the end of its borrow is what was left in it
pub as-left : {B : Type 0} (b b' : B) → b ≡ b' → b ≡ b'
as-left b b' same = same
