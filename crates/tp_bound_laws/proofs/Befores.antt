-- The state before an action is found among those where it starts.
use Rattle.std.proofs.Common.{◌≡◌, inl, inr, ℕ, Bool, true, false, cond, not, ◌&&◌, ◌||◌, ◌==◌, List, [], ◌∷◌, refl, sym, ◌∙◌, ap, subst, arith, Contains, Option, Some, None, find, option_and_then}
use Rattle.std.proofs.lemmas.Bool.{and_parts}
use Rattle.std.proofs.lemmas.Bool.Decides.{nat_tests}
use Rattle.tp_machine.specs.Steps.{can_step, step_of, after, prints, is_done, prints_kind, wanted}
use Rattle.tp_machine.specs.ModuleUse.{action_at}
use Rattle.tp_machine.specs.declared.parts.ActId.{ActId}
use Rattle.tp_machine.specs.declared.parts.Action.{Action}
use Rattle.tp_machine.specs.declared.parts.Face.{Face}
use Rattle.tp_machine.specs.declared.parts.Face.TheVariants.{Front, Back}
use Rattle.tp_machine.specs.declared.parts.LocId.{LocId}
use Rattle.tp_machine.specs.declared.parts.Sheet.{Sheet}
use Rattle.tp_machine.specs.declared.parts.State.{State}
use Rattle.tp_machine.specs.declared.machine.Machine.{Machine}
use Rattle.tp_schedule.specs.Routes.{step_by, walk}
use Rattle.tp_schedule.proofs.Membership.{Contains-cons_cases}
use Rattle.tp_constraints.proofs.FirstStates.{first-unique}
use Rattle.tp_bound_laws.specs.Places.{state_before, states_at}
use Rattle.tp_bound_laws.specs.Rows.{is_state}
use Rattle.tp_bound_laws.proofs.RowFacts.{state-is, state-refl}

pub some-is : {X : Type 0} (x y : X) → Some x ≡ Some y → x ≡ y
some-is x y e = cc

-- each state at a location is among its states
pub states-all : (loc : LocId) (up : Face) (front back : Bool) → Contains (states_at loc) (record { loc = loc; up = up; front_done = front; back_done = back })
states-all loc Front false false = (0, omega arith, refl)
states-all loc Front false true = (1, omega arith, refl)
states-all loc Front true false = (2, omega arith, refl)
states-all loc Front true true = (3, omega arith, refl)
states-all loc Back false false = (4, omega arith, refl)
states-all loc Back false true = (5, omega arith, refl)
states-all loc Back true false = (6, omega arith, refl)
states-all loc Back true true = (7, omega arith, refl)

pub states-at : (s : State) (loc : LocId) → s.loc.0 ≡ loc.0 → Contains (states_at loc) s
states-at s loc e =
    let same : s.loc ≡ loc = λ i. record { 0 = e i } in
    subst (λ l. Contains (states_at l) s) same (states-all s.loc s.up s.front_done s.back_done)

-- where only one passes, it is found
find-only : {X : Type 0} (test : X → Bool) (xs : List X) (x : X) → Contains xs x → test x ≡ true → ((y : X) → test y ≡ true → y ≡ x) → find test xs ≡ Some x
find-only test [] x in' passes only = absurd (omega (arith, in'.1))
find-only test (y ∷ xs) x in' passes only = go (test y) refl (λ later. find-only test xs x later passes only) where
  go : (b : Bool) → test y ≡ b → (Contains xs x → find test xs ≡ Some x) → cond b (Some y) (find test xs) ≡ Some x
  go true e rest = ap (λ k. Some k) (only y e)
  go false e rest = elim (Contains-cons_cases y xs x in') [
    | inl is ↦ let no : test x ≡ false = subst (λ k. test k ≡ false) is e in absurd cc
    | inr later ↦ rest later
  ]

-- a step starts where its action does
starts-at : (a : Action) (sheet : Sheet) (s g : State) → step_of a sheet s ≡ Some g → s.loc.0 ≡ a.from.0
starts-at a sheet s g e = go (can_step a sheet s) refl e where
  go : (b : Bool) → can_step a sheet s ≡ b → cond b (Some (after a s)) None ≡ Some g → s.loc.0 ≡ a.from.0
  go true t h =
      let loc = (and_parts (s.loc.0 == a.from.0) (not (prints a) || (not (is_done s s.up) && prints_kind a (wanted sheet s.up))) t).0 in
      number s.loc.0 a.from.0 loc where
        number : (m n : ℕ) → (m == n) ≡ true → m ≡ n
        number m n k = grind (arith, nat_tests)
  go false t h = absurd cc

-- a step by an action's number
pub step-action : (machine : Machine) (sheet : Sheet) (act : ActId) (s g : State) → step_by machine sheet act s ≡ Some g → (a : Action) × (action_at machine act.0 ≡ Some a) × (step_of a sheet s ≡ Some g)
step-action machine sheet act s g e = go (action_at machine act.0) refl e where
  go : (o : Option Action) → action_at machine act.0 ≡ o → option_and_then (λ a. step_of a sheet s) o ≡ Some g → (a : Action) × (action_at machine act.0 ≡ Some a) × (step_of a sheet s ≡ Some g)
  go None u h = absurd cc
  go (Some a) u h = (a, u, h)

pub before-is : (machine : Machine) (sheet : Sheet) (act : ActId) (s g : State) → step_by machine sheet act s ≡ Some g → state_before sheet g (action_at machine act.0) ≡ Some s
before-is machine sheet act s g e =
    let a = step-action machine sheet act s g e in
    subst (λ o. state_before sheet g o ≡ Some s) (sym a.1)
    (find-only (λ q. is_state g (step_of a.0 sheet q)) (states_at a.0.from) s (states-at s a.0.from (starts-at a.0 sheet s g a.2)) (state-refl g (step_of a.0 sheet s) a.2)
    (λ q passes.
    let leads = state-is g (step_of a.0 sheet q) passes in
    let by : step_by machine sheet act q ≡ Some g = ap (option_and_then (λ k. step_of k sheet q)) a.1 ∙ leads in
    first-unique machine sheet (act ∷ []) q s g (one act q by) (one act s e))) where
      one : (k : ActId) (q : State) → step_by machine sheet k q ≡ Some g → walk machine sheet (k ∷ []) q ≡ Some g
      one k q h = ap (option_and_then (walk machine sheet [])) h
