-- An answer that a search found can be committed, and what holds on the loaded plans holds on the whole schedule.
use Rattle.std.proofs.Common.{◌≡◌, ℕ, ◌<◌, List, length, filter, Some, IsSomeAnd, sym, subst, ◌∙◌, arith}
use Rattle.tp_base.specs.Readings.{Reading}
use Rattle.tp_machine.specs.Machines.{IsMachine}
use Rattle.tp_machine.specs.declared.machine.Machine.{Machine}
use Rattle.tp_schedule.specs.Answers.{IsAlternative, NoneBefore}
use Rattle.tp_schedule.specs.Choices.{ChoiceList, IsBound, IsComplete}
use Rattle.tp_schedule.specs.LivePlans.{is_live}
use Rattle.tp_schedule.specs.PlannerAnswers.{CanAsk, IsKnownGoal, IsOpenGoal}
use Rattle.tp_schedule.specs.SpentBudget.{FewListsOpen, IsSpent}
use Rattle.tp_schedule.specs.Spots.Spot.{own}
use Rattle.tp_schedule.specs.declared.parts.Ask.{Ask}
use Rattle.tp_schedule.specs.declared.parts.Goal.{Goal}
use Rattle.tp_schedule.specs.declared.parts.Goal.TheVariants.{Tray, Purge}
use Rattle.tp_schedule.specs.declared.parts.Plan.{Plan}
use Rattle.tp_choices.specs.LiveParts.{less}
use Rattle.tp_choices.proofs.FewLists.{live_has_few}
use Rattle.tp_choices.proofs.LiveBounds.{live_bounds_answers, live_has_none}
use Rattle.tp_choices.proofs.LiveSpent.{live_spends}
use Rattle.tp_constraints.specs.Suffixes.{Suffix, list_of}
use Rattle.tp_placing.specs.Boards.{BoardValue, suffix_of}
use Rattle.tp_placing.specs.Ticks.{HasLeastTick, IsLeastTick, TimesOf}
use Rattle.tp_placing.specs.Commits.{CanCommit}
use Rattle.tp_placing.proofs.StandFacts.{and-some, some-and}
use Rattle.tp_placing.proofs.WriteLive.{gone, may-ask, may-forget, put-of, stays}
use Rattle.tp_placing.proofs.WriteWhole.{less-live}
use Rattle.tp_search.specs.StoredLists.{IsWayTo}
use Rattle.tp_search.specs.Outcomes.{HasAnswer}
use Rattle.tp_constraints.proofs.WayAnswers.{complete-some}
use Rattle.tp_constraints.proofs.WayEnds.{complete-start}
use Rattle.tp_search.proofs.WayBounds.{way-bound, way-commit}

pub known-goal : (machine : Machine) (plans : List Plan) (ask : Ask) → CanAsk machine plans ask → IsKnownGoal machine ask.goal
known-goal machine plans ask can = go ask.goal can.open_goal where
  go : (g : Goal) → IsOpenGoal machine plans ask g → IsKnownGoal machine g
  go Purge open-goal = tt
  go (Tray t) open-goal = open-goal.0

module _ {N : Type 0} (reading : Reading N) (b b' : BoardValue N) (machine : Machine) (ask : Ask) (base : ℕ) (a : HasAnswer reading b b' machine ask base) where
  carried : (x : Suffix) × (suffix_of b' ≡ Some x) × IsWayTo machine b'.plans ask a.first a.list x
  carried = some-and (suffix_of b') (IsWayTo machine b'.plans ask a.first a.list) a.laid.way

  -- it is complete, so that it can be committed
  pub answer-commits : IsMachine machine → IsKnownGoal machine ask.goal → IsSomeAnd b'.ask (λ k. IsSomeAnd (suffix_of b') (CanCommit machine b'.plans k))
  answer-commits is-machine known =
      let x = carried in
      let way = x.2 in
      let complete : IsComplete machine ask (list_of a.list.goal x.0) = subst (IsComplete machine ask) (sym way.same) a.complete in
      let some : 0 < length x.0.choices = subst (λ (l : ChoiceList). 0 < length l.choices) (sym way.same) (complete-some machine b.plans ask is-machine known a.list (a.bound, a.is_bound.opens) a.complete) in
      and-some b'.ask ask (λ k. IsSomeAnd (suffix_of b') (CanCommit machine b'.plans k)) a.laid.asked
      (and-some (suffix_of b') x.0 (CanCommit machine b'.plans ask) x.1
      (way-commit machine b'.plans ask a.list.goal a.first x.0 way.way way.placed complete some (complete-start machine b'.plans ask a.list.goal a.first x.0 way.way complete)))

  -- the least end on the board is its bound
  pub answer-ends : (tick : ℕ) → HasLeastTick machine b' (own 0) tick → tick ≡ a.bound
  answer-ends tick least =
      let x = carried in
      let way = x.2 in
      let here : IsLeastTick (TimesOf machine b'.plans ask (suffix_of b')) (own 0) tick = subst (λ o. IsSomeAnd o (λ k. IsLeastTick (TimesOf machine b'.plans k (suffix_of b')) (own 0) tick)) a.laid.asked least in
      let there = subst (λ o. IsLeastTick (TimesOf machine b'.plans ask o) (own 0) tick) x.1 here in
      let bound = way-bound machine b'.plans ask a.list.goal a.first x.0 tick way.way way.placed there in
      let same = subst (λ l. IsBound machine b'.plans ask l tick) way.same bound in
      let on-b = subst (λ ps. IsBound machine ps ask a.list tick) a.loaded.plans same in
      let low = on-b.least a.bound a.is_bound.opens in
      let high = a.is_bound.least tick on-b.opens in
      omega arith

-- what holds on the live plans
module _ (machine : Machine) (plans : List Plan) (ask : Ask) (can : CanAsk machine plans ask) (live : List Plan) (is : live ≡ filter (is_live machine ask.now) plans) where
  pub rest : live ≡ less (gone machine plans ask.now can.plan_on) plans
  rest = is ∙ sym (less-live machine plans ask.now can.plan_on)

  pub never-whole : ((other : List Plan) → ¬ IsAlternative machine live ask other) → (other : List Plan) → ¬ IsAlternative machine plans ask other
  never-whole none = live_has_none machine plans ask (gone machine plans ask.now can.plan_on) (may-forget machine plans ask.now can.plan_on) (stays machine plans ask (put-of machine plans ask can))
      (subst (λ ps. (other : List Plan) → ¬ IsAlternative machine ps ask other) rest none)

  pub few-whole : (nodes : ℕ) → FewListsOpen machine live ask nodes → FewListsOpen machine plans ask nodes
  few-whole nodes few = live_has_few machine plans ask (gone machine plans ask.now can.plan_on) nodes (may-forget machine plans ask.now can.plan_on) (may-ask machine plans ask (put-of machine plans ask can)) (subst (λ ps. FewListsOpen machine ps ask nodes) rest few)

  pub spent-whole : (nodes bound : ℕ) → IsSpent machine live ask nodes bound → IsSpent machine plans ask nodes bound
  spent-whole nodes bound spent = live_spends machine plans ask (gone machine plans ask.now can.plan_on) nodes bound (may-forget machine plans ask.now can.plan_on) (may-ask machine plans ask (put-of machine plans ask can)) (subst (λ ps. IsSpent machine ps ask nodes bound) rest spent)

  pub none_before-whole : (bound : ℕ) → NoneBefore machine live ask bound → NoneBefore machine plans ask bound
  none_before-whole bound none = live_bounds_answers machine plans ask (gone machine plans ask.now can.plan_on) bound (may-forget machine plans ask.now can.plan_on) (stays machine plans ask (put-of machine plans ask can)) (subst (λ ps. NoneBefore machine ps ask bound) rest none)
