-- Tables of rests: steps of one action from all states, and goals.
use Rattle.std.proofs.Common.{zero, suc, [], ◌∷◌, inl, inr, ◌≡◌, ◌≢◌, ℕ, ◌+◌, ◌*◌, ◌/◌, ◌%◌, ◌<◌, ◌≤◌, Bool, true, false, eqb, List, length, Option, Some, None, refl, sym, subst, ◌∙◌, arith, Contains}
use Rattle.std.specs.Prelude.{IfSome, IsTrue, option_map, unwrap_or}
use Rattle.std.proofs.lemmas.Bool.{cases_Bool, eq-eqb, eqb-true, ne_eqb}
use Rattle.std.proofs.lemmas.Option.{same_Some, slice_get_within}
use Rattle.std.proofs.lemmas.List.Elements.{All-contains}
use Rattle.tp_machine.proofs.MachineFacts.{is_machine}
use Rattle.tp_machine.specs.Machines.{IsLocation}
use Rattle.tp_machine.specs.ModuleUse.{action_at, is_allowed}
use Rattle.tp_machine.specs.Steps.{step_of}
use Rattle.tp_machine.specs.declared.machine.Machine.{Machine}
use Rattle.tp_machine.specs.declared.parts.ActId.{ActId}
use Rattle.tp_machine.specs.declared.parts.Action.{Action}
use Rattle.tp_machine.specs.declared.parts.Outs.{Outs}
use Rattle.tp_machine.specs.declared.parts.Face.{Face}
use Rattle.tp_machine.specs.declared.parts.Face.TheVariants.{Front, Back}
use Rattle.tp_machine.specs.declared.parts.LocId.{LocId}
use Rattle.tp_machine.specs.declared.parts.Sheet.{Sheet}
use Rattle.tp_machine.specs.declared.parts.State.{State}
use Rattle.tp_routes.proofs.NumberFacts.{state_of_number}
use Rattle.tp_routes.proofs.RoomFacts.{leads_to}
use Rattle.tp_routes.proofs.SpreadFacts.{allowed-at}
use Rattle.tp_routes.specs.Numbers.{number_of, state_at}
use Rattle.tp_routes.specs.Tables.{sum_at}
use Rattle.tp_schedule.specs.PlannerAnswers.{IsKnownGoal}
use Rattle.tp_schedule.specs.Routes.{IsGoalState, is_act_allowed, least_of, step_by}
use Rattle.tp_schedule.specs.declared.parts.Ask.{Ask}
use Rattle.tp_schedule.specs.declared.parts.Goal.{Goal}
use Rattle.tp_schedule.specs.declared.parts.Goal.TheVariants.{Tray, Purge}
use Rattle.tp_windows.specs.RestTables.{AreGoalsIn, AreStepsIn, IsStepIn, rest_of}
use Rattle.tp_windows.specs.Ways.{IsRest}

pub next-known : (machine : Machine) (act : ℕ) (a : Action) (sheet : Sheet) (s next : State) → action_at machine act ≡ Some a → step_of a sheet s ≡ Some next → next.loc.0 < length machine.locations
next-known machine act a sheet s next at steps = subst (λ (l : LocId). l.0 < length machine.locations) (sym (leads_to a sheet s next steps)) ((is_machine machine).ways act a at).to_known

by-parts : (l : ℕ) (up : Face) (front back : Bool) → number_of (record { loc = record { 0 = l }; up = up; front_done = front; back_done = back }) < l * 8 + 8
by-parts l Front false false = omega arith
by-parts l Front false true = omega arith
by-parts l Front true false = omega arith
by-parts l Front true true = omega arith
by-parts l Back false false = omega arith
by-parts l Back false true = omega arith
by-parts l Back true false = omega arith
by-parts l Back true true = omega arith

pub number-within : (s : State) (locations : ℕ) → s.loc.0 < locations → number_of s < 8 * locations
number-within s locations less = let small = by-parts s.loc.0 s.up s.front_done s.back_done in omega (arith, small, less)

-- the action's step, where the machine has the action
step-at : (machine : Machine) (sheet : Sheet) (act : ℕ) (a : Action) (s next : State) → action_at machine act ≡ Some a → step_by machine sheet (record { 0 = act }) s ≡ Some next → step_of a sheet s ≡ Some next
step-at machine sheet act a s next at steps = rw at at steps

least-at : (machine : Machine) (act : ℕ) (a : Action) → action_at machine act ≡ Some a → least_of machine (record { 0 = act }) ≡ a.least
least-at machine act a at = rw at refl

module _ (machine : Machine) (ask : Ask) (rests : List (Option ℕ)) (act : ℕ) (a : Action) (at : action_at machine act ≡ Some a) where
  pub in-table : (number : ℕ) (there : State) (rest sum : ℕ) → step_of a ask.want (state_at number) ≡ Some there → rest_of rests there ≡ Some rest → sum ≤ a.least + rest
      → ((m : ℕ) × (sum_at rests number ≡ Some m) × (m ≤ sum)) → IsStepIn machine ask rests act number
  in-table number there rest sum steps stands few lower next n allowed leads rests' =
      let same : there ≡ next = same_Some there next (sym steps ∙ step-at machine ask.want act a (state_at number) next at leads) in
      let equal : rest ≡ n = same_Some rest n (sym (subst (λ (s : State). rest_of rests s ≡ Some rest) same stands) ∙ rests') in
      let long = least-at machine act a at in
      let le = lower.2 in
      (lower.0, lower.1, omega (arith, equal, long, le, few))

  pub no-step : (number : ℕ) → step_of a ask.want (state_at number) ≡ None → IsStepIn machine ask rests act number
  no-step number stuck next n allowed leads rests' = let both : None ≡ Some next = sym stuck ∙ step-at machine ask.want act a (state_at number) next at leads in absurd cc

  pub no-rest : (number : ℕ) (there : State) → step_of a ask.want (state_at number) ≡ Some there → rest_of rests there ≡ None → IsStepIn machine ask rests act number
  no-rest number there steps stands next n allowed leads rests' =
      let same : there ≡ next = same_Some there next (sym steps ∙ step-at machine ask.want act a (state_at number) next at leads) in
      let both : None ≡ Some n = sym (subst (λ (s : State). rest_of rests s ≡ None) same stands) ∙ rests' in
      absurd cc

  elsewhere : (number : ℕ) → a.from.0 ≢ number / 8 → IsStepIn machine ask rests act number
  elsewhere number differs = no-step number (let other : eqb (number / 8) a.from.0 ≡ false = ne_eqb (number / 8) a.from.0 (λ e. differs (sym e)) in rw other refl)

  pub all-steps : ((k : ℕ) → k < 8 → IsStepIn machine ask rests act (a.from.0 * 8 + k)) → AreStepsIn machine ask rests act
  all-steps each number = elim (cases_Bool (eqb (number / 8) a.from.0)) [
    | inl here ↦
        let e = eqb-true (number / 8) a.from.0 here in
        subst (λ n. IsStepIn machine ask rests act n) (omega (arith, e)) (each (number % 8) (omega arith))
    | inr other ↦ elsewhere number (λ e. absurd (let k : eqb (number / 8) a.from.0 ≡ true = eq-eqb (number / 8) a.from.0 (sym e) in cc))
  ]

pub barred : (machine : Machine) (ask : Ask) (rests : List (Option ℕ)) (act : ℕ) (a : Action) → action_at machine act ≡ Some a → IfSome (action_at machine act) (λ b. false ≡ is_allowed machine ask.outs b) → AreStepsIn machine ask rests act
barred machine ask rests act a at test number next n allowed leads rests' = let k = allowed-at machine ask.outs act a false at test in absurd cc

goal-known : (machine : Machine) (sheet : Ask) (s : State) (goal : Goal) → IsKnownGoal machine goal → IsGoalState machine sheet.want goal s → s.loc.0 < length machine.locations
goal-known machine sheet s (Tray tray) known is = subst (λ (g : State). g.loc.0 < length machine.locations) (sym is) (All-contains (IsLocation machine) machine.trays tray (is_machine machine).trays known)
goal-known machine sheet s Purge known is = (All-contains (λ p. IsLocation machine p × ¬ Contains machine.trays p) machine.purges s.loc (is_machine machine).purges is).0

pub act-within : (machine : Machine) (outs : Outs) (act : ActId) → IsTrue (is_act_allowed machine outs act) → act.0 < length machine.actions
act-within machine outs act allowed = go (action_at machine act.0) refl allowed
  where
    go : (o : Option Action) → action_at machine act.0 ≡ o → IsTrue (unwrap_or (option_map (is_allowed machine outs) o) false) → act.0 < length machine.actions
    go None at test = absurd cc
    go (Some a) at test = slice_get_within machine.actions act.0 a at

pub is-rest : (machine : Machine) (ask : Ask) (rests : List (Option ℕ)) → IsKnownGoal machine ask.goal → length rests ≡ 8 * length machine.locations → AreGoalsIn machine ask rests
    → ((act : ℕ) → act < length machine.actions → AreStepsIn machine ask rests act) → IsRest machine ask (rest_of rests)
is-rest machine ask rests known states goals steps = record {
  goals = λ s is.
      let less = number-within s (length machine.locations) (goal-known machine ask s ask.goal known is) in
      goals (number_of s) (omega (arith, less, states)) (subst (λ x. IsGoalState machine ask.want ask.goal x) (sym (state_of_number s)) is);
  steps = λ act s next n allowed leads stands.
      let e = state_of_number s in
      steps act.0 (act-within machine ask.outs act allowed) (number_of s) next n allowed (subst (λ x. step_by machine ask.want act x ≡ Some next) (sym e) leads) stands;
}

-- a state with a rest is in the table
pub known-rest : (rests : List (Option ℕ)) (number n : ℕ) → sum_at rests number ≡ Some n → number < length rests
known-rest [] number n is = absurd cc
known-rest (r ∷ rs) zero n is = omega arith
known-rest (r ∷ rs) (suc number) n is = let less = known-rest rs number n is in omega (arith, less)
