-- What holds on the plans that a board holds, where some are over beside the live ones, holds on the whole schedule.
use Rattle.std.proofs.Common.{◌≡◌, ℕ, Bool, List, filter, sym, subst, ◌∙◌}
use Rattle.tp_machine.specs.Machines.{IsMachine}
use Rattle.tp_machine.specs.declared.machine.Machine.{Machine}
use Rattle.tp_schedule.specs.Answers.{IsAlternative, NoneBefore}
use Rattle.tp_schedule.specs.Choices.{ChoiceList, IsBound, IsComplete}
use Rattle.tp_schedule.specs.LivePlans.{is_live}
use Rattle.tp_schedule.specs.PlannerAnswers.{CanAsk, IsKnownGoal}
use Rattle.tp_schedule.specs.SpentBudget.{FewListsOpen, IsSpent}
use Rattle.tp_schedule.specs.declared.parts.Ask.{Ask}
use Rattle.tp_schedule.specs.declared.parts.Plan.{Plan}
use Rattle.tp_schedule.specs.declared.parts.SheetId.{SheetId}
use Rattle.tp_choices.specs.LiveParts.{MayAskBeside, MayForget, less}
use Rattle.tp_placing.specs.Commits.{IsHeldFrom, IsLoadedFrom}
use Rattle.tp_placing.proofs.HeldPlans.{held-live}
use Rattle.tp_placing.proofs.WriteLive.{gone, may-ask, may-forget}
use Rattle.tp_placing.proofs.WriteWhole.{less-live}
use Rattle.tp_search.specs.Trials.{EndsEarliest}
use Rattle.tp_search.proofs.AnswerFacts.{few-whole, never-whole, none_before-whole, spent-whole}
use Rattle.tp_search.proofs.HeldParts.{complete-left, few-left, never-left, none_before-left, spent-left}
use Rattle.tp_search.proofs.TrialFacts.{ends-earliest}

-- a board that was loaded with the live plans holds them
pub live-held : (machine : Machine) (plans : List Plan) (ask : Ask) (live : List Plan) → CanAsk machine plans ask → live ≡ filter (is_live machine ask.now) plans → IsHeldFrom machine plans ask live
live-held machine plans ask live can is = subst (IsHeldFrom machine plans ask) (sym is) (held-live machine plans ask can)

pub loaded-held : (machine : Machine) (plans : List Plan) (ask : Ask) (live : List Plan) → IsLoadedFrom machine plans ask live → IsHeldFrom machine plans ask live
loaded-held machine plans ask live loaded = live-held machine plans ask live loaded.can_ask loaded.live_part

module _ (machine : Machine) (plans : List Plan) (ask : Ask) (held : List Plan) (from : IsHeldFrom machine plans ask held) where
  -- the copies whose held plans are over
  abbrev over : SheetId → Bool
  over = gone machine held ask.now from.can_put.plan_on

  -- the others are the live ones of the schedule
  left : less over held ≡ filter (is_live machine ask.now) plans
  left = less-live machine held ask.now from.can_put.plan_on ∙ from.live_part

  forgets : MayForget machine ask.now held over
  forgets = may-forget machine held ask.now from.can_put.plan_on

  beside : MayAskBeside machine held ask over
  beside = may-ask machine held ask from.can_put

  pub never-from : ((other : List Plan) → ¬ IsAlternative machine held ask other) → (other : List Plan) → ¬ IsAlternative machine plans ask other
  never-from none = never-whole machine plans ask from.can_ask (less over held) left (never-left machine held ask over forgets beside none)

  pub few-from : (nodes : ℕ) → FewListsOpen machine held ask nodes → FewListsOpen machine plans ask nodes
  few-from nodes few = few-whole machine plans ask from.can_ask (less over held) left nodes (few-left machine held ask over forgets beside nodes few)

  pub spent-from : (nodes bound : ℕ) → IsSpent machine held ask nodes bound → IsSpent machine plans ask nodes bound
  spent-from nodes bound spent = spent-whole machine plans ask from.can_ask (less over held) left nodes bound (spent-left machine held ask over forgets beside nodes bound spent)

  pub none_before-from : (bound : ℕ) → NoneBefore machine held ask bound → NoneBefore machine plans ask bound
  none_before-from bound none = none_before-whole machine plans ask from.can_ask (less over held) left bound (none_before-left machine held ask over forgets beside bound none)

  -- a complete list whose bound no alternative ends before tells the end of the earliest plans
  pub ends-earliest-from : (list : ChoiceList) (bound : ℕ) → IsMachine machine → IsKnownGoal machine ask.goal → IsComplete machine ask list → IsBound machine held ask list bound → NoneBefore machine held ask bound
      → EndsEarliest machine plans ask bound
  ends-earliest-from list bound is-machine known complete is none =
      let small = complete-left machine held ask over forgets beside list bound complete is in
      ends-earliest machine plans ask from.can_ask (less over held) left small.0 bound is-machine known small.1 small.2 (none_before-left machine held ask over forgets beside bound none)
