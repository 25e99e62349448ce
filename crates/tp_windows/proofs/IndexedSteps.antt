-- Steps by the actions that start where a copy is: no other action leads on from there.
use Rattle.std.proofs.Common.{inl, inr, ◌+◌, ◌≡◌, ◌&&◌, ◌==◌, ℕ, ◌<◌, ◌≤◌, Bool, true, false, List, Option, Some, None, refl, subst, arith}
use Rattle.std.specs.Prelude.{IsTrue, option_and_then, slice_get}
use Rattle.std.proofs.lemmas.Bool.Decides.{nat_tests}
use Rattle.std.proofs.lemmas.Option.{slice_get_cases}
use Rattle.tp_machine.specs.ModuleUse.{action_at}
use Rattle.tp_machine.specs.Steps.{step_of}
use Rattle.tp_machine.specs.declared.machine.Machine.{Machine}
use Rattle.tp_machine.specs.declared.parts.ActId.{ActId}
use Rattle.tp_machine.specs.declared.parts.Action.{Action}
use Rattle.tp_machine.specs.declared.parts.Sheet.{Sheet}
use Rattle.tp_machine.specs.declared.parts.State.{State}
use Rattle.tp_routes.specs.Index.{IsIndexOf, IsNextAt, NoneAt, number_at}
use Rattle.tp_routes.specs.declared.index.ActEnd.TheVariants.{From}
use Rattle.tp_schedule.proofs.RoomFacts.{Step-step_of}
use Rattle.tp_schedule.specs.Routes.{step_by}
use Rattle.tp_windows.specs.SoughtWays.{AreStepsReached}
use Rattle.tp_windows.specs.declared.front.Arrival.{Arrival}
use Rattle.tp_windows.specs.declared.front.Front.{Front}
use Rattle.tp_windows.specs.declared.sought.Sought.{Sought}

first-true : (a b : Bool) → IsTrue (a && b) → IsTrue a
first-true true b both = refl
first-true false b both = absurd cc

-- a step starts where its action does
starts-at : (a : Action) (sheet : Sheet) (s next : State) → step_of a sheet s ≡ Some next → a.from.0 ≡ s.loc.0
starts-at a sheet s next steps = number s.loc.0 a.from.0 (first-true (s.loc.0 == a.from.0) _ (Step-step_of a sheet s next steps).can) where
  number : (m n : ℕ) → (m == n) ≡ true → n ≡ m
  number m n k = grind (arith, nat_tests)

-- a step by an action's number
step-action : (machine : Machine) (sheet : Sheet) (act : ActId) (s next : State) → step_by machine sheet act s ≡ Some next → (a : Action) × (action_at machine act.0 ≡ Some a) × (step_of a sheet s ≡ Some next)
step-action machine sheet act s next e = go (action_at machine act.0) refl e where
  go : (o : Option Action) → action_at machine act.0 ≡ o → option_and_then (λ a. step_of a sheet s) o ≡ Some next → (a : Action) × (action_at machine act.0 ≡ Some a) × (step_of a sheet s ≡ Some next)
  go None u h = absurd cc
  go (Some a) u h = (a, u, h)

-- where no action from one number up to another starts where the arrival is, there is no step by them
pub none_there : (sought : Sought) (from : Arrival) (low high : ℕ) (front : Front)
    → (IsIndexOf From sought.machine.now sought.starts.now.firsts.items sought.starts.now.nexts.items → NoneAt From sought.machine.now.actions from.state.loc.0 low high)
    → (act : ℕ) → low ≤ act → act < high → AreStepsReached sought from act front
none_there sought from low high front none act le less plans w is next start end more by step same =
    let a = step-action sought.machine.now sought.ask.now.want step.act from.state next step.leads in
    let at : slice_get sought.machine.now.actions act ≡ Some a.0 = subst (λ k. slice_get sought.machine.now.actions k ≡ Some a.0) same a.1 in
    absurd (none is.starts act a.0 le less at (starts-at a.0 sought.ask.now.want from.state next a.2))

-- behind an action that starts at a location, the next one there
pub next_behind : (machine : Machine) (loc low at : ℕ) (firsts nexts : List (Option ℕ)) → IsIndexOf From machine firsts nexts → IsNextAt From machine.actions loc low (Some at)
    → IsNextAt From machine.actions loc (at + 1) (number_at nexts at)
next_behind machine loc low at firsts nexts is here = elim (slice_get_cases machine.actions at).1 [
  | inl there ↦ subst (λ l. IsNextAt From machine.actions l (at + 1) (number_at nexts at)) (here.2 there.0 there.2) (is.indexed.next at there.0 (omega arith) there.2)
  | inr past ↦ let beyond = past.0 in let less = here.1 in absurd (omega (arith, beyond, less))
]
