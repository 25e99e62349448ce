-- The actions of a plan in time are the machine's, and the last of them is the last of the list.
use Rattle.std.proofs.Common.{◌≡◌, ℕ, ◌+◌, ◌-◌, suc, List, [], ◌∷◌, length, slice_get, Option, Some, None, option_and_then, refl, arith, All, subst}
use Rattle.std.proofs.lemmas.List.Elements.{All-nil, All-cons}
use Rattle.std.proofs.lemmas.Option.{slice_get_within}
use Rattle.tp_machine.specs.Steps.{step_of}
use Rattle.tp_machine.specs.ModuleUse.{action_at}
use Rattle.tp_machine.specs.declared.parts.ActId.{ActId}
use Rattle.tp_machine.specs.declared.parts.Action.{Action}
use Rattle.tp_machine.specs.declared.parts.Sheet.{Sheet}
use Rattle.tp_machine.specs.declared.parts.State.{State}
use Rattle.tp_machine.specs.declared.machine.Machine.{Machine}
use Rattle.tp_schedule.proofs.Walks.{walk_first}
use Rattle.tp_schedule.specs.Routes.{walk, step_by}
use Rattle.tp_schedule.specs.Plans.{IsTimedPlan}
use Rattle.tp_schedule.specs.declared.parts.Plan.{Plan}
use Rattle.tp_event_records.specs.RecordNames.{IsKnown}
use Rattle.tp_event_rules.specs.Labels.{end_location, last_of}

step-known : (machine : Machine) (sheet : Sheet) (act : ActId) (s s' : State) → step_by machine sheet act s ≡ Some s' → IsKnown machine act
step-known machine sheet act s s' e = go (action_at machine act.0) refl e where
  go : (o : Option Action) → action_at machine act.0 ≡ o → option_and_then (λ a. step_of a sheet s) o ≡ Some s' → IsKnown machine act
  go None f e = absurd (cc)
  go (Some a) f e = slice_get_within machine.actions act.0 a f

walk-known : (machine : Machine) (sheet : Sheet) (acts : List ActId) (s goal : State) → walk machine sheet acts s ≡ Some goal → All (IsKnown machine) acts
walk-known machine sheet [] s goal e = All-nil (IsKnown machine)
walk-known machine sheet (act ∷ acts) s goal e =
    let first = walk_first machine sheet act acts s goal e in
    All-cons (IsKnown machine) act acts (step-known machine sheet act s first.0 first.1) (walk-known machine sheet acts first.0 goal first.2)

pub acts-known : (machine : Machine) (p : Plan) → IsTimedPlan machine p → All (IsKnown machine) p.acts
acts-known machine p timed = walk-known machine p.want p.acts timed.start timed.end timed.leads

pub last-is : (acts : List ActId) (n : ℕ) (last : ActId) → n + 1 ≡ length acts → slice_get acts n ≡ Some last → last_of acts ≡ last
last-is [] n last e at = absurd (cc)
last-is (a ∷ []) n last e at = let zero_is : n ≡ 0 = omega arith in let at' : slice_get (a ∷ []) 0 ≡ Some last = subst (λ m. slice_get (a ∷ []) m ≡ Some last) zero_is at in cc
last-is (a ∷ b ∷ acts) n last e at =
    let is : n ≡ suc (n - 1) = omega arith in
    last-is (b ∷ acts) (n - 1) last (omega arith) (subst (λ m. slice_get (a ∷ b ∷ acts) m ≡ Some last) is at)

pub end-is : (machine : Machine) (p : Plan) (last : ActId) (a : Action) → last_of p.acts ≡ last → action_at machine last.0 ≡ Some a → end_location machine p ≡ a.to
end-is machine p last a is at = rw (is, at) refl
